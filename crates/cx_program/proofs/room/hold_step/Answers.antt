use Rattle.cx_observe.specs.Seeing.{bytes_shown}
use Rattle.cx_shadow.proofs.Several.{held_on}
use Rattle.cx_program.proofs.Pages.{has_room}
use Rattle.cx_program.proofs.room.hold_step.Goals as goal

pub returns-clause-room : goal.returns-clause-room
returns-clause-room c = has_room c.hold_access-2.new.shadow c.args.obs.now c.requires
    (λ a is. c.in_ok-hold_access-2.ensures.keeps a (c.in_ok-hold_access.ensures.keeps a
    (c.in_ok-hold.ensures.held a is)))
    (held_on c.hold_access.new.shadow c.hold_access-2.new.shadow c.in_ok-hold_access-2.ensures.keeps
    (bytes_shown c.args.obs.now.read) (c.in_ok-hold_access.ensures.held))
    (c.in_ok-hold_access-2.ensures.held)
