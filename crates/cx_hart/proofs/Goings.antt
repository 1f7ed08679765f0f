-- What a step that goes so answers, and the machine behind it.
use Rattle.std.proofs.Common.{◌≡◌, ℕ, ◌+◌, Bool, List, Option, refl, sym, ap, subst, ◌∙◌, arith}
use Rattle.cx_csr.specs.declared.lines.Lines.{Lines}
use Rattle.cx_csr.specs.declared.state.State.{State}
use Rattle.cx_machine.specs.Due.{with_lines}
use Rattle.cx_machine.specs.Machine.{MachineState}
use Rattle.cx_hart.specs.Outcomes.{Goes, IsUnended, here_of, machine, outcome_from, went_of}
use Rattle.cx_hart.specs.Step.{Outcome, Stepped, answer_with, blank, machine_after, step_answer}
use Rattle.cx_hart.specs.Step.{ticks_of, turn_outcome}
use Rattle.cx_hart.specs.Turn.{turn}
use Rattle.cx_hart.specs.declared.answer.Went.{Went}
use Rattle.cx_hart.specs.declared.answer.Went.TheVariants as went
use Rattle.cx_hart.specs.declared.answer.StepAnswer.TheVariants as answer
use Rattle.cx_hart.specs.declared.record.StepRec.{StepRec}

pub told_answer : (told : StepRec) (w : Went) (old new : MachineState) (o : Outcome)
    → Goes (λ rec. told ≡ rec) w old new o → answer_with w told ≡ step_answer o
told_answer told went.Stepped old new o (rec, (e, same)) = ap answer.Stepped same ∙ sym (ap step_answer e)
told_answer told (went.NeedsValue what) old new o (same, e) = sym (ap step_answer e)
told_answer told went.ValueLeft old new o (same, e) = sym (ap step_answer e)

pub untold_answer : (Known : StepRec → Type 0) (w : Went) (old new : MachineState) (o : Outcome)
    → Goes Known w old new o → w ≡ went_of o
untold_answer Known went.Stepped old new o (rec, (e, known)) = sym (ap went_of e)
untold_answer Known (went.NeedsValue what) old new o (same, e) = sym (ap went_of e)
untold_answer Known went.ValueLeft old new o (same, e) = sym (ap went_of e)

pub machine_behind : (Known : StepRec → Type 0) (w : Went) (old new : MachineState) (o : Outcome)
    → Goes Known w old new o → new ≡ machine_after old o
machine_behind Known went.Stepped old new o (rec, (e, known)) = sym (ap (machine_after old) e)
machine_behind Known (went.NeedsValue what) old new o (same, e) = same ∙ sym (ap (machine_after old) e)
machine_behind Known went.ValueLeft old new o (same, e) = same ∙ sym (ap (machine_after old) e)

-- ---- from the beginning of a step

pub unended_blank : (s : State) → IsUnended (blank s)
unended_blank s = record { retired = refl; write = refl; write_more = refl; value = refl; result = refl }

-- the turn of a state whose lines are set is that of the step
pub step_goes : (Known : StepRec → Type 0) (split : Bool) (given : Option ℕ) (memory : List ℕ) (s set : State)
    (lines : Option Lines) (w : Went) (new : MachineState) → set ≡ with_lines lines s
    → Goes Known w (machine set memory) new
    (outcome_from (here_of split given memory set) (blank set) (turn (here_of split given memory set)))
    → Goes Known w (machine (with_lines lines s) memory) new
    (turn_outcome (here_of split given memory (with_lines lines s)))
unfolding turn_outcome
step_goes Known split given memory s set lines w new is goes =
    subst
    (λ (t : State). Goes Known w (machine t memory) new
    (outcome_from (here_of split given memory t) (blank t) (turn (here_of split given memory t)))) is goes

-- the lines put back
pub lines_back : (s : State) (memory : List ℕ) (lines : Option Lines) (new : MachineState)
    → new ≡ machine (with_lines lines s) memory → machine (record new.state { lines = s.lines }) new.memory
    ≡ machine s memory
lines_back s memory lines new is = ap (λ (m : MachineState). machine (record m.state { lines = s.lines }) m.memory) is

-- what a step counts
pub counts_one : (n m : ℕ) (o : Outcome) (after : MachineState) (rec : StepRec) → o ≡ Stepped after rec → m ≡ n + 1
    → m ≡ n + ticks_of o
counts_one n m o after rec is one = one ∙ ap (λ x. n + ticks_of x) (sym is)

pub counts_none : (n : ℕ) (o : Outcome) → ticks_of o ≡ 0 → n ≡ n + ticks_of o
counts_none n o none = omega arith
