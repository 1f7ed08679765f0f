use Rattle.std.proofs.Common.{◌∙◌}
use Rattle.cx_shadow.proofs.Several.{held_on}
use Rattle.cx_calls.proofs.gatherer.mark.Goals as goal

pub mark_all-requires-2 : goal.mark_all-requires-2
mark_all-requires-2 c = held_on c.args.touched.now.stamps c.mark_all.new.self.stamps
    (λ a held. c.mark_all.ensures.holds a ∙ held) c.args.written.now c.requires.written
