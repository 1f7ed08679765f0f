use Rattle.cx_shadow.proofs.Several.{held_on}
use Rattle.cx_calls.proofs.Taking.{on_ok}
use Rattle.cx_calls.proofs.gatherer.hold_marks.Goals as goal

pub returns-clause-seen : goal.returns-clause-seen
returns-clause-seen c = on_ok c.hold_all-2.result (held_on c.hold_all.new.self.stamps c.hold_all-2.new.self.stamps
    c.hold_all-2.ensures.keeps c.args.seen.now c.in_ok-hold_all.ensures.held)
