-- The law of user steps, over the whole step of the hart.
use Rattle.std.proofs.Common.{◌≡◌, ℕ, Bool, Some, Ok, Err, sym, ap, ◌∙◌}
use Rattle.cx_csr.specs.declared.state.State.{State}
use Rattle.cx_hart.specs.Ends.{End}
use Rattle.cx_hart.specs.HartStep.{hart_step}
use Rattle.cx_hart.specs.Looks.{told}
use Rattle.cx_hart.specs.Step.{Stepped as Carried, blank, ended_in, machine_in, outcome_of, surroundings, turn_outcome}
use Rattle.cx_hart.specs.Surroundings.{Surroundings}
use Rattle.cx_hart.specs.Turn.{turn}
use Rattle.cx_hart.specs.declared.findings.Retired.{Retired}
use Rattle.cx_hart.specs.declared.findings.Stop.TheVariants.{Asks, Interrupt, Trap}
use Rattle.cx_hart.specs.declared.record.StepRec.{StepRec}
use Rattle.cx_hart.proofs.Ends.{lines_keep, unless_kept}
use Rattle.cx_hart.proofs.FormedRecords.{well_formed}
use Rattle.cx_hart.proofs.StepKeeps.{transfers_kept}
use Rattle.cx_hart.proofs.StepSizes.{carried}
use Rattle.cx_machine.specs.Due.{Due, IsDue}
use Rattle.cx_machine.specs.Machine.{IsMachine, MachineState}
use Rattle.cx_machine.specs.Step.{Stepped}
use Rattle.cx_machine.specs.Transfers.{after_transfers}
use Rattle.cx_observe.specs.Observation.{observation_of}
use Rattle.cx_observe.specs.declared.obs.Obs.{Obs}
use Rattle.cx_observe.proofs.UserSteps.{UserStep, observed_is, step_rec, user_turn}
use Rattle.cx_observe.proofs.UserTurns.{told_before}

before_by : (here : Surroundings) (rec : StepRec) (e : End Retired) (after : MachineState) (new : StepRec)
    → ended_in (machine_in here) rec e ≡ Carried after new → new.before ≡ rec.before
before_by here rec (Ok r) after new is = ap (λ (q : StepRec). q.before) (sym (step_rec _ after _ new is))
before_by here rec (Err (Asks what)) after new is = absurd cc
before_by here rec (Err (Interrupt number)) after new is =
    ap (λ (q : StepRec). q.before) (sym (step_rec _ after _ new is))
before_by here rec (Err (Trap cause tval)) after new is =
    ap (λ (q : StepRec). q.before) (sym (step_rec _ after _ new is))

before_is : (here : Surroundings) (after : MachineState) (rec : StepRec) → turn_outcome here ≡ Carried after rec
    → rec.before ≡ here.state
unfolding turn_outcome
before_is here after rec outcome = before_by here (told (turn here).looks (blank here.state)) (turn here).end after rec
    (unless_kept here.given (outcome_of (machine_in here) (turn here)) after rec outcome)
    ∙ told_before (turn here).looks (blank here.state)

pub user_step : (split : Bool) (m : MachineState) (due : Due) (then : Stepped StepRec) (pages root : ℕ) (o : Obs)
    → hart_step split m due ≡ Some then → IsMachine pages m → IsDue pages due → observation_of then.rec root ≡ Some o
    → UserStep then.machine then.rec o
user_step split m due then pages root o is machine fits shows =
    let before : IsMachine pages (after_transfers due.transfers m)
    = transfers_kept pages due.transfers m machine fits.transfers in
    let outcome : turn_outcome (surroundings split due (after_transfers due.transfers m))
    ≡ Carried then.machine then.rec = carried split m due then is in
    user_turn pages (surroundings split due (after_transfers due.transfers m))
    (lines_keep pages (after_transfers due.transfers m).state due.lines before.state fits.lines) before.memory.bytes
    fits.value
    (ap (λ (s : State). s.mode) (sym (before_is (surroundings split due (after_transfers due.transfers m))
    then.machine then.rec outcome)) ∙ (observed_is then.rec root o shows).user)
    then.machine then.rec root o outcome shows (well_formed split m due then is)
