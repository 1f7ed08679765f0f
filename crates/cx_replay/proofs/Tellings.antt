-- Whether a step was carried out, and what is known of its record.
use Rattle.std.proofs.Common.{◌≡◌, Some, Bool, refl, sym, ap}
use Rattle.cx_hart.specs.HartStep.{carried_out, hart_step}
use Rattle.cx_hart.specs.Outcomes.{went_of}
use Rattle.cx_hart.specs.Step.{NeedsValue, Outcome, Stepped, ValueLeft, answer_with, machine_after, step, step_answer}
use Rattle.cx_hart.specs.declared.answer.StepAnswer.{StepAnswer}
use Rattle.cx_hart.specs.declared.answer.StepAnswer.TheVariants as answer
use Rattle.cx_hart.specs.declared.answer.Went.{Went}
use Rattle.cx_hart.specs.declared.answer.Went.TheVariants as went
use Rattle.cx_hart.specs.declared.record.StepRec.{StepRec}
use Rattle.cx_machine.specs.Due.{Due}
use Rattle.cx_machine.specs.Machine.{MachineState}
use Rattle.cx_replay.specs.Gathering.{IsCarriedOut, is_stepped}

by_outcome : (told : StepRec) (w : Went) (old new : MachineState) (o : Outcome)
    → answer_with w told ≡ step_answer o → new ≡ machine_after old o
    → IsCarriedOut (carried_out o) (λ rec. told ≡ rec) new (is_stepped w)
by_outcome told went.Stepped old new (Stepped after rec) told_so behind =
    let same : told ≡ rec = cc in
    (rec, (ap (λ m. Some (record { machine = m; rec = rec })) (sym behind), same))
by_outcome told went.Stepped old new (NeedsValue what) told_so behind = cc
by_outcome told went.Stepped old new ValueLeft told_so behind = cc
by_outcome told (went.NeedsValue what) old new (Stepped after rec) told_so behind = cc
by_outcome told (went.NeedsValue what) old new (NeedsValue other) told_so behind = refl
by_outcome told (went.NeedsValue what) old new ValueLeft told_so behind = refl
by_outcome told went.ValueLeft old new (Stepped after rec) told_so behind = cc
by_outcome told went.ValueLeft old new (NeedsValue other) told_so behind = refl
by_outcome told went.ValueLeft old new ValueLeft told_so behind = refl

untold_outcome : (w : Went) (old new : MachineState) (o : Outcome) → w ≡ went_of o → new ≡ machine_after old o
    → IsCarriedOut (carried_out o) (λ rec. Unit {0}) new (is_stepped w)
untold_outcome w old new (Stepped after rec) went behind =
    rw went (rec, (ap (λ m. Some (record { machine = m; rec = rec })) (sym behind), tt))
untold_outcome w old new (NeedsValue what) went behind = rw went refl
untold_outcome w old new ValueLeft went behind = rw went refl

pub carried_and_told : (told : StepRec) (w : Went) (split : Bool) (due : Due) (old new : MachineState)
    → answer_with w told ≡ step_answer (step split due old) → new ≡ machine_after old (step split due old)
    → IsCarriedOut (hart_step split old due) (λ rec. told ≡ rec) new (is_stepped w)
unfolding hart_step
carried_and_told told w split due old new = by_outcome told w old new (step split due old)

pub carried_untold : (w : Went) (split : Bool) (due : Due) (old new : MachineState)
    → w ≡ went_of (step split due old) → new ≡ machine_after old (step split due old)
    → IsCarriedOut (hart_step split old due) (λ rec. Unit {0}) new (is_stepped w)
unfolding hart_step
carried_untold w split due old new = untold_outcome w old new (step split due old)
