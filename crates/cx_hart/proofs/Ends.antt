-- How a turn that has ended becomes the outcome of a step.
use Rattle.std.proofs.Common.{◌≡◌, ℕ, ◌+◌, ◌^◌, ◌<◌, true, false, List, length, Option, None, Some, Ok, Err, IfSome}
use Rattle.std.proofs.Common.{unwrap_or, refl, sym, subst, ap, arith}
use Rattle.cx_csr.specs.declared.lines.Lines.{Lines}
use Rattle.cx_csr.specs.declared.state.State.{State}
use Rattle.cx_csr.specs.Keeps.{Keeps}
use Rattle.cx_decode.specs.WellFormed.{WellFormed}
use Rattle.cx_decode.specs.declared.ins.Ins.{Ins}
use Rattle.cx_machine.specs.Due.{AreLines, with_lines}
use Rattle.cx_machine.specs.Machine.{MachineState, pages_of}
use Rattle.cx_map.specs.Bytes.{AreBytes}
use Rattle.cx_hart.specs.Conclude.{IsEnd, asked_of, is_left}
use Rattle.cx_hart.specs.Ends.{End}
use Rattle.cx_hart.specs.Outcomes.{Goes, machine, outcome_from}
use Rattle.cx_hart.specs.Looks.{Look, told}
use Rattle.cx_hart.specs.Step.{NeedsValue, Outcome, Stepped, ValueLeft, blank, ended_in, machine_in, taken_or_left}
use Rattle.cx_hart.specs.Step.{unless_left}
use Rattle.cx_hart.specs.Surroundings.{Surroundings}
use Rattle.cx_hart.specs.Turn.{executed, turn}
use Rattle.cx_hart.specs.declared.answer.Went.TheVariants as went
use Rattle.cx_hart.specs.declared.answer.Asked.{Asked}
use Rattle.cx_hart.specs.declared.findings.Retired.{Retired}
use Rattle.cx_hart.specs.declared.findings.Stop.TheVariants.{Asks, Interrupt, Trap}
use Rattle.cx_hart.specs.declared.record.StepRec.{StepRec}
use Rattle.cx_hart.proofs.Keepable.{FitsGiven, IsKeepable}
use Rattle.cx_hart.proofs.Keeping.{keeps_after, keeps_trap}
use Rattle.cx_hart.proofs.Stops.{Comes}
use Rattle.cx_hart.proofs.Telling.{told_value}
use Rattle.cx_hart.proofs.Turns.{executed_comes, turn_comes}

-- ---- a turn that is carried out, and one that leaves its value

module _ (memory : List ℕ) (s : State) (looks : List Look) (before : StepRec) where
  -- what a turn that ended so comes to
  abbrev by_end : End Retired → Outcome
  by_end p = ended_in (machine s memory) (told looks before) p

  pub asked_outcome : (given : Option ℕ) (p : End Retired) (what : Asked) → asked_of p ≡ Some what
      → unless_left given (by_end p) ≡ NeedsValue what
  asked_outcome given (Ok r) what e = absurd cc
  asked_outcome given (Err (Asks other)) what e = let same : other ≡ what = cc in ap NeedsValue same
  asked_outcome given (Err (Interrupt number)) what e = absurd cc
  asked_outcome given (Err (Trap cause tval)) what e = absurd cc

  pub left_outcome : (given : Option ℕ) (p : End Retired) → before.value ≡ None → asked_of p ≡ None
      → is_left given p ≡ true
      → unless_left given (by_end p) ≡ ValueLeft
  left_outcome None p none never left = absurd cc
  left_outcome (Some v) (Ok r) none never left = by r.value refl
    where
      by : (o : Option ℕ) → r.value ≡ o → unless_left (Some v) (by_end (Ok r)) ≡ ValueLeft
      by None e = rw e refl
      by (Some t) e = absurd (let wrong : false ≡ true = rw e at left in cc)
  left_outcome (Some v) (Err (Asks what)) none never left = absurd cc
  left_outcome (Some v) (Err (Interrupt number)) none never left = rw (told_value looks before, none) refl
  left_outcome (Some v) (Err (Trap cause tval)) none never left = rw (told_value looks before, none) refl

  pub carried_outcome : (given : Option ℕ) (p : End Retired) → asked_of p ≡ None → is_left given p ≡ false
      → unless_left given (by_end p) ≡ by_end p
  carried_outcome None (Ok r) never kept = refl
  carried_outcome None (Err (Asks what)) never kept = refl
  carried_outcome None (Err (Interrupt number)) never kept = refl
  carried_outcome None (Err (Trap cause tval)) never kept = refl
  carried_outcome (Some v) (Ok r) never kept = by r.value refl
    where
      by : (o : Option ℕ) → r.value ≡ o → unless_left (Some v) (by_end (Ok r)) ≡ by_end (Ok r)
      by None e = absurd (let wrong : true ≡ false = rw e at kept in cc)
      by (Some t) e = rw e refl
  carried_outcome (Some v) (Err (Asks what)) never kept = refl
  carried_outcome (Some v) (Err (Interrupt number)) never kept = absurd cc
  carried_outcome (Some v) (Err (Trap cause tval)) never kept = absurd cc

-- what was carried out left no value
pub unless_kept : (given : Option ℕ) (o : Outcome) (after : MachineState) (rec : StepRec)
    → unless_left given o ≡ Stepped after rec → o ≡ Stepped after rec
unless_kept given (NeedsValue what) after rec e = absurd cc
unless_kept given ValueLeft after rec e = absurd cc
unless_kept given (Stepped m r) after rec e = by given r.value e
  where
    by : (g taken : Option ℕ) → taken_or_left g taken (Stepped m r) ≡ Stepped after rec
        → ◌≡◌ {A = Outcome} (Stepped m r) (Stepped after rec)
    by None taken e = e
    by (Some v) None e = absurd cc
    by (Some v) (Some t) e = e

-- ---- it can be carried out

end_of : (pages : ℕ) (memory : List ℕ) (s : State) (p : End Retired) → Comes (IsKeepable pages (length memory) s) p
    → asked_of p ≡ None → IsEnd (length memory) s p
end_of pages memory s (Ok r) comes never = comes.ready
end_of pages memory s (Err (Asks what)) comes never = cc
end_of pages memory s (Err (Interrupt number)) comes never = comes
end_of pages memory s (Err (Trap cause tval)) comes never = comes.0

pub turn_end : (here : Surroundings) (p : End Retired) → Keeps (pages_of here.memory) here.state → AreBytes here.memory
    → FitsGiven here.given → p ≡ (turn here).end → asked_of p ≡ None → IsEnd (length here.memory) here.state p
turn_end here p k bytes fits e never =
    end_of (pages_of here.memory) here.memory here.state p
    (subst (Comes (IsKeepable (pages_of here.memory) (length here.memory) here.state)) (sym e)
    (turn_comes (pages_of here.memory) here k fits bytes refl)) never

pub executed_end : (here : Surroundings) (word : ℕ) (i : Ins) (p : End Retired)
    → Keeps (pages_of here.memory) here.state → AreBytes here.memory → FitsGiven here.given → word < 2 ^ 32
    → WellFormed i → p ≡ (executed here word i).end → asked_of p ≡ None → IsEnd (length here.memory) here.state p
executed_end here word i p k bytes fits small formed e never =
    end_of (pages_of here.memory) here.memory here.state p
    (subst (Comes (IsKeepable (pages_of here.memory) (length here.memory) here.state)) (sym e)
    (executed_comes (pages_of here.memory) here k fits bytes refl word i small formed)) never

-- ---- the state behind it keeps the rules

abbrev KeepsAfter : ℕ → Outcome → Type 0
KeepsAfter pages (NeedsValue what) = Unit {0}
KeepsAfter pages ValueLeft = Unit {0}
KeepsAfter pages (Stepped after rec) = Keeps pages after.state

outcome_keeps : (pages : ℕ) (m : MachineState) (rec : StepRec) (p : End Retired) → Keeps pages m.state
    → Comes (IsKeepable pages (length m.memory) m.state) p → KeepsAfter pages (ended_in m rec p)
outcome_keeps pages m rec (Ok r) k comes = keeps_after pages (length m.memory) r m.state comes k
outcome_keeps pages m rec (Err (Asks what)) k comes = tt
outcome_keeps pages m rec (Err (Interrupt number)) k comes = keeps_trap pages (number + 2 ^ 31) 0 m.state comes
    (omega arith) k
outcome_keeps pages m rec (Err (Trap cause tval)) k comes = keeps_trap pages cause tval m.state comes.0 comes.1 k

pub turn_keeps : (here : Surroundings) (after : MachineState) (old rec : StepRec)
    → Keeps (pages_of here.memory) here.state → AreBytes here.memory → FitsGiven here.given
    → Stepped after rec ≡ ended_in (machine_in here) old (turn here).end → Keeps (pages_of here.memory) after.state
turn_keeps here after old rec k bytes fits e =
    subst (KeepsAfter (pages_of here.memory)) (sym e)
    (outcome_keeps (pages_of here.memory) (machine_in here) old (turn here).end k
    (turn_comes (pages_of here.memory) here k fits bytes refl))

-- A step that was carried out keeps the rules of the state.
pub goes_keeps : (Known : StepRec → Type 0) (here : Surroundings) (after : MachineState)
    → Keeps (pages_of here.memory) here.state → AreBytes here.memory → FitsGiven here.given
    → Goes Known went.Stepped (machine_in here) after (outcome_from here (blank here.state) (turn here))
    → Keeps (pages_of here.memory) after.state
goes_keeps Known here after k bytes fits (rec, (e, known)) =
    turn_keeps here after (told (turn here).looks (blank here.state)) rec k bytes fits
    (sym (unless_kept here.given _ after rec e))

-- ---- lines

within_by : (lines : Option Lines) (standing : Lines) → AreLines standing → IfSome lines AreLines
    → AreLines (unwrap_or lines standing)
within_by None standing old new = old
within_by (Some lines) standing old new = new

pub lines_keep : (pages : ℕ) (s : State) (lines : Option Lines) → Keeps pages s → IfSome lines AreLines
    → Keeps pages (with_lines lines s)
lines_keep pages s lines k within = record {
  pc = k.pc;
  registers = k.registers;
  zero_register = k.zero_register;
  wide = k.wide;
  mode = k.mode;
  csr = k.csr;
  reservation = k.reservation;
  lines = within_by lines s.lines k.lines within;
}
