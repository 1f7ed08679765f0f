use Rattle.std.proofs.Common.{subst, sym}
use Rattle.cx_shadow.specs.Cells.{AreHeld}
use Rattle.cx_observe.specs.Seeing.{bytes_shown}
use Rattle.cx_program.proofs.Pages.{AreHeld-access}
use Rattle.cx_program.proofs.room.hold_access.Goals as goal

pub returns-in_ok-hold-2-clause-held : goal.returns-in_ok-hold-2-clause-held
returns-in_ok-hold-2-clause-held c = subst (λ x. AreHeld c.hold-in-Some.new.self (bytes_shown x)) (sym c.in-Some.is)
    (AreHeld-access c.hold-in-Some.new.self c.in-Some.access c.last_of.result c.last_of.ensures.last
    c.last_of.ensures.fits
    (λ a is. c.in_ok-hold-2.ensures.keeps a (c.in_ok-hold.ensures.held a is))
    (λ a is. c.in_ok-hold-2.ensures.held a is))
