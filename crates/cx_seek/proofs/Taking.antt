-- A step that is taken once devices have written.
use Rattle.std.proofs.Common.{◌≡◌, ◌≤◌, Bool, true, false, Option, ap, sym, subst, ◌∙◌, arith}
use Rattle.std.specs.Bool.{OnTrue}
use Rattle.cx_hart.specs.HartStep.{hart_step}
use Rattle.cx_hart.specs.Outcomes.{went_of}
use Rattle.cx_hart.specs.Step.{NeedsValue, Outcome, Stepped, ValueLeft, answer_with, machine_after, step, step_answer, ticks_of, without_transfers}
use Rattle.cx_hart.specs.WellFormed.{IsWellFormed}
use Rattle.cx_hart.specs.declared.answer.Due.{Due as DueToHart}
use Rattle.cx_hart.specs.declared.answer.Went.{Went}
use Rattle.cx_hart.specs.declared.record.StepRec.{StepRec}
use Rattle.cx_machine.specs.Due.{Due, behind_transfers}
use Rattle.cx_machine.specs.Machine.{MachineState}
use Rattle.cx_machine.specs.Step.{Stepped as Carried}
use Rattle.cx_machine.specs.Transfers.{after_transfers}
use Rattle.cx_replay.specs.Gathering.{IsCarriedOut, is_stepped}
use Rattle.cx_replay.specs.Replaying.{Unknown}
use Rattle.cx_hart.proofs.FormedRecords.{well_formed}
use Rattle.cx_replay.proofs.Steps.{step_behind}
use Rattle.cx_replay.proofs.Tellings.{carried_and_told, carried_untold}

pub one_tick : (o : Outcome) → ticks_of o ≤ 1
one_tick (NeedsValue what) = omega arith
one_tick ValueLeft = omega arith
one_tick (Stepped after rec) = omega arith

-- where it was carried out
where_stepped : (r carried : Bool) (split : Bool) (due : Due) (old mid new : MachineState)
    (Known : StepRec → Type 0) → r ≡ carried → mid ≡ after_transfers due.transfers old
    → IsCarriedOut (hart_step split mid (behind_transfers due)) Known new carried
    → OnTrue r (IsCarriedOut (hart_step split old due) Known new true)
where_stepped true true split due old mid new Known is behind carried =
    subst (λ (o : Option (Carried StepRec)). IsCarriedOut o Known new true) (sym (step_behind split due old mid behind))
    carried
where_stepped true false split due old mid new Known is behind carried = cc
where_stepped false carried split due old mid new Known is behind out = tt

same_step : (split flag : Bool) (due : Due) (rest : DueToHart) (mid : MachineState) → flag ≡ split
    → rest ≡ record { lines = due.lines; value = due.value }
    → step flag (without_transfers rest) mid ≡ step split (behind_transfers due) mid
same_step split flag due rest mid same is =
    ap (λ (f : Bool). step f (without_transfers rest) mid) same
    ∙ ap (λ (x : DueToHart). step split (without_transfers x) mid) is

pub taken_untold : (r : Bool) (w : Went) (split flag : Bool) (due : Due) (rest : DueToHart)
    (old mid new : MachineState) → r ≡ is_stepped w → flag ≡ split
    → rest ≡ record { lines = due.lines; value = due.value } → mid ≡ after_transfers due.transfers old
    → w ≡ went_of (step flag (without_transfers rest) mid)
    → new ≡ machine_after mid (step flag (without_transfers rest) mid)
    → OnTrue r (IsCarriedOut (hart_step split old due) Unknown new true)
taken_untold r w split flag due rest old mid new is same rest_is behind went after =
    let e = same_step split flag due rest mid same rest_is in
    where_stepped r (is_stepped w) split due old mid new Unknown is behind
    (carried_untold w split (behind_transfers due) mid new (went ∙ ap went_of e) (after ∙ ap (machine_after mid) e))

pub taken_told : (r : Bool) (w : Went) (told : StepRec) (split flag : Bool) (due : Due) (rest : DueToHart)
    (old mid new : MachineState) → r ≡ is_stepped w → flag ≡ split
    → rest ≡ record { lines = due.lines; value = due.value } → mid ≡ after_transfers due.transfers old
    → answer_with w told ≡ step_answer (step flag (without_transfers rest) mid)
    → new ≡ machine_after mid (step flag (without_transfers rest) mid)
    → OnTrue r (IsCarriedOut (hart_step split old due) (λ rec. told ≡ rec) new true)
taken_told r w told split flag due rest old mid new is same rest_is behind answer after =
    let e = same_step split flag due rest mid same rest_is in
    where_stepped r (is_stepped w) split due old mid new (λ rec. told ≡ rec) is behind
    (carried_and_told told w split (behind_transfers due) mid new (answer ∙ ap step_answer e)
    (after ∙ ap (machine_after mid) e))

-- the record of a step that was carried out
pub told_formed : (outcome_split : Bool) (due : Due) (old new : MachineState) (told : StepRec)
    → IsCarriedOut (hart_step outcome_split old due) (λ rec. told ≡ rec) new true → IsWellFormed told
told_formed outcome_split due old new told carried =
    subst IsWellFormed (sym carried.1.1)
    (well_formed outcome_split old due (record { machine = new; rec = carried.0 }) carried.1.0)
