use Rattle.std.proofs.Common.{◌∙◌}
use Rattle.cx_shadow.proofs.Several.{held_on}
use Rattle.cx_call_alone.proofs.Accessed.{owes_same, touched_both}
use Rattle.cx_call_alone.proofs.marking.access_both.Goals as goal

pub access-left-requires : goal.access-left-requires
access-left-requires c = held_on c.hold_all.new.self.stamps c.hold_all-2.new.self.stamps
    c.hold_all-2.ensures.keeps c.args.written.now c.in_ok-hold_all.ensures.held

pub access-requires : goal.access-requires
access-requires c = held_on c.hold_all-2.new.self.stamps c.access-left.new.touched.stamps
    (λ a held. c.access-left.ensures.holds a ∙ held) c.args.seen.now c.in_ok-hold_all-2.ensures.held

pub returns-clause-touched : goal.returns-clause-touched
returns-clause-touched c = touched_both c.args.touched.now c.hold_all.new.self c.hold_all-2.new.self
    c.access-left.new.touched c.access.new.touched c.args.written.now c.args.seen.now c.hold_all.ensures.marks
    c.hold_all-2.ensures.marks c.access-left.ensures.touched c.access.ensures.touched

pub returns-clause-owes : goal.returns-clause-owes
returns-clause-owes c = λ owed owes. c.access.ensures.owes _ (c.access-left.ensures.owes owed
    (owes_same c.args.head.now c.args.touched.now c.hold_all-2.new.self c.args.owes owed owes
    (λ a. c.hold_all-2.ensures.marks a ∙ c.hold_all.ensures.marks a)))
