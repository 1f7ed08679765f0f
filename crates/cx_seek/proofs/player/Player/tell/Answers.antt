use Rattle.std.proofs.Common.{◌≡◌, ◌∙◌, ap, sym, subst, Some}
use Rattle.cx_hart.specs.declared.record.StepRec.{StepRec}
use Rattle.cx_hart.specs.Whole.{machine_of}
use Rattle.cx_seek.specs.Seeking.{StandsIn}
use Rattle.cx_seek.specs.declared.player.Player.{Player}
use Rattle.cx_seek.proofs.Playing.{stands_on, takes_it}
use Rattle.cx_seek.proofs.Taking.{told_formed}
use Rattle.cx_seek.proofs.player.Player.tell.Goals as goal

pub returns-clause-stands : goal.returns-clause-stands
returns-clause-stands g c run follows stands =
    subst (λ (p : Player). StandsIn run c.args.course.now.notes p) (sym c.pass.ensures)
    (stands_on run c.args.course.now c.args.self.now c.due-handed.result.now c.take_told.new.machine
    (λ (rec : StepRec). c.take_told.new.rec ≡ rec) follows stands c.requires.from c.requires.below c.due-handed.ensures
    c.if-not-take_told.ensures.step)

pub returns-clause-takes : goal.returns-clause-takes
returns-clause-takes g c run follows stands =
    takes_it run c.args.course.now c.args.self.now c.due-handed.result.now c.take_told.new.machine c.take_told.new.rec
    follows stands c.requires.below c.due-handed.ensures c.if-not-take_told.ensures.step
    ∙ ap (λ (p : Player). Some (record { machine = machine_of p.machine; rec = c.take_told.new.rec }))
    (sym c.pass.ensures)

pub returns-clause-formed : goal.returns-clause-formed
returns-clause-formed g c =
    told_formed c.args.self.now.machine.split c.due-handed.result.now (machine_of c.args.self.now.machine)
    (machine_of c.take_told.new.machine) c.take_told.new.rec c.if-not-take_told.ensures.step
