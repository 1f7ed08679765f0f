-- Whatever the state, a step that is carried out keeps the length of memory and leaves the lines that are due, or those
-- that stood.
use Rattle.std.proofs.Common.{◌≡◌, ℕ, Bool, true, false, cond, nat_le, List, [], ◌∷◌, length, take, Option, None, Some}
use Rattle.std.proofs.Common.{Ok, Err, IfOk, IfSome, unwrap_or, refl, sym, subst, ap, ◌∙◌, arith}
use borrow.Author.Tests.{leb-true}
use Rattle.std.proofs.lemmas.List.{length-take}
use Rattle.std.proofs.lemmas.List.Elements.{All-head, All-tail}
use Rattle.cx_csr.specs.declared.register.Register.{Register}
use Rattle.cx_csr.specs.declared.state.State.{State}
use Rattle.cx_csr.specs.Access.{written_at}
use Rattle.cx_csr.specs.Table.{register_at}
use Rattle.cx_machine.specs.Due.{Due}
use Rattle.cx_machine.specs.Machine.{MachineState}
use Rattle.cx_machine.specs.Step.{KeepsSize, SetsLines, Stepped}
use Rattle.cx_machine.specs.Transfers.{AreTransfers, IsTransfer, Transfer, after_transfer, after_transfers}
use Rattle.cx_map.specs.Map.{ram_index}
use Rattle.cx_map.specs.declared.TheConstants.{RAM_START}
use Rattle.cx_ram.specs.LittleEndian.{written}
use Rattle.cx_ram.proofs.LoadsAndWrites.{length-written}
use Rattle.cx_trap.specs.Enter.{entered, into_machine, into_supervisor, is_delegated}
use Rattle.cx_trap.specs.Return.{after_mret, after_sret}
use Rattle.cx_hart.specs.After.{after_control, after_retired, after_trap, interrupt_cause, memory_after}
use Rattle.cx_hart.specs.After.{memory_after_touch}
use Rattle.cx_hart.specs.Ends.{End}
use Rattle.cx_hart.specs.HartStep.{carried_out, hart_step}
use Rattle.cx_hart.specs.Step.{NeedsValue, Outcome, Stepped as Carried, ValueLeft, ended_in, machine_in, outcome_of}
use Rattle.cx_hart.specs.Step.{step, surroundings, turn_outcome}
use Rattle.cx_hart.specs.Stretches.{IsWritable}
use Rattle.cx_hart.specs.Surroundings.{Surroundings}
use Rattle.cx_hart.specs.Turn.{turn}
use Rattle.cx_hart.specs.declared.findings.Control.{Control}
use Rattle.cx_hart.specs.declared.findings.Control.TheVariants.{Untouched, Write, Mret, Sret}
use Rattle.cx_hart.specs.declared.findings.Retired.{Retired}
use Rattle.cx_hart.specs.declared.findings.Stop.TheVariants.{Asks, Interrupt, Trap}
use Rattle.cx_hart.specs.declared.record.StepRec.{StepRec}
use Rattle.cx_hart.specs.declared.record.Touch.{Touch}
use Rattle.cx_hart.proofs.Ends.{unless_kept}
use Rattle.cx_hart.proofs.Writes.{WritesInside, turn_writes}

-- ---- lines

entered_lines : (cause tval : ℕ) (s : State) → (entered cause tval s).lines ≡ s.lines
unfolding entered
entered_lines cause tval s = by (is_delegated s cause)
  where
    by : (b : Bool) → (cond b (into_supervisor cause tval s) (into_machine cause tval s)).lines ≡ s.lines
    by true = refl
    by false = refl

trap_lines : (cause tval : ℕ) (s : State) → (after_trap cause tval s).lines ≡ s.lines
unfolding after_trap
trap_lines cause tval s = entered_lines cause tval s

written_lines : (r : Option Register) (value : ℕ) (s : State) → (written_at r value s).lines ≡ s.lines
written_lines None value s = refl
written_lines (Some r) value s = refl

control_lines : (c : Control) (s : State) → (after_control c s).lines ≡ s.lines
unfolding after_mret after_sret
control_lines Untouched s = refl
control_lines (Write number value) s = written_lines (register_at number) value s
control_lines Mret s = refl
control_lines Sret s = refl

retired_lines : (r : Retired) (s : State) → (after_retired r s).lines ≡ s.lines
unfolding after_retired
retired_lines r s = control_lines r.control s

-- ---- what an instruction writes

touch_sizes_by : (memory : List ℕ) (t : Touch) (b : Bool) → nat_le RAM_START t.pa ≡ b → IsWritable (length memory) t
    → length (cond b (written memory (ram_index t.pa) (take t.len t.bytes)) memory) ≡ length memory
touch_sizes_by memory t false e writable = refl
touch_sizes_by memory t true e writable =
    let stretch = writable.ram (leb-true _ _ e) in
    length-written memory (ram_index t.pa) (take t.len t.bytes)
    (omega (arith, length-take t.len t.bytes, stretch.inside.high, stretch.inside.low))

touch_sizes : (memory : List ℕ) (o : Option Touch) → IfSome o (IsWritable (length memory))
    → length (memory_after_touch o memory) ≡ length memory
unfolding memory_after_touch
touch_sizes memory None writable = refl
touch_sizes memory (Some t) writable = touch_sizes_by memory t (nat_le RAM_START t.pa) refl writable

retired_sizes : (memory : List ℕ) (r : Retired) → WritesInside (length memory) r
    → length (memory_after r memory) ≡ length memory
retired_sizes memory r inside =
    let one = touch_sizes memory r.write inside.first in
    touch_sizes (memory_after_touch r.write memory) r.write_more (subst (λ n. IfSome r.write_more (IsWritable n))
    (sym one) inside.second) ∙ one

-- ---- the outcome of a turn

record Stays (m after : MachineState) : Type 0 where
  pub size : length after.memory ≡ length m.memory
  pub lines : after.state.lines ≡ m.state.lines

abbrev StaysIn : MachineState → Outcome → Type 0
StaysIn m (NeedsValue what) = Unit {0}
StaysIn m ValueLeft = Unit {0}
StaysIn m (Carried after rec) = Stays m after

outcome_stays : (m : MachineState) (rec : StepRec) (p : End Retired) → IfOk p (WritesInside (length m.memory))
    → StaysIn m (ended_in m rec p)
outcome_stays m rec (Ok r) inside = record { size = retired_sizes m.memory r inside; lines = retired_lines r m.state }
outcome_stays m rec (Err (Asks what)) inside = tt
outcome_stays m rec (Err (Interrupt number)) inside =
    record { size = refl; lines = trap_lines (interrupt_cause number) 0 m.state }
outcome_stays m rec (Err (Trap cause tval)) inside = record { size = refl; lines = trap_lines cause tval m.state }

turn_stays : (here : Surroundings) (after : MachineState) (rec : StepRec) → turn_outcome here ≡ Carried after rec
    → Stays (machine_in here) after
unfolding turn_outcome
turn_stays here after rec e =
    let ends : outcome_of (machine_in here) (turn here) ≡ Carried after rec =
    unless_kept here.given (outcome_of (machine_in here) (turn here)) after rec e in
    subst (StaysIn (machine_in here)) ends (outcome_stays (machine_in here) _ (turn here).end (turn_writes here))

-- ---- transfers

transfers_size : (size : ℕ) (transfers : List Transfer) (m : MachineState) → length m.memory ≡ size
    → AreTransfers size transfers → length (after_transfers transfers m).memory ≡ size
transfers_size size [] m is all = is
transfers_size size (t ∷ transfers) m is all =
    let first : IsTransfer size t = All-head (IsTransfer size) t transfers all in
    let one = length-written m.memory (ram_index t.place) t.bytes (omega (arith, first.ram.low, first.ram.high, is)) in
    transfers_size size transfers (after_transfer t m) (one ∙ is) (All-tail (IsTransfer size) t transfers all)

transfers_lines : (transfers : List Transfer) (m : MachineState) → (after_transfers transfers m).state.lines
    ≡ m.state.lines
transfers_lines [] m = refl
transfers_lines (t ∷ transfers) m = transfers_lines transfers (after_transfer t m)

-- ---- the step

-- what is carried out was a step
was_step : (o : Outcome) (then : Stepped StepRec) → carried_out o ≡ Some then → o ≡ Carried then.machine then.rec
was_step (NeedsValue what) then e = absurd cc
was_step ValueLeft then e = absurd cc
was_step (Carried after rec) then e =
    let is : record { machine = after; rec = rec } ≡ then = cc in ap (λ (t : Stepped StepRec). Carried t.machine t.rec)
    is

pub carried : (split : Bool) (m : MachineState) (due : Due) (then : Stepped StepRec) → hart_step split m due ≡ Some then
    → step split due m ≡ Carried then.machine then.rec
unfolding hart_step
carried split m due then e = was_step (step split due m) then e

pub keeps_size : (split : Bool) → KeepsSize (hart_step split)
keeps_size split m due then e fits =
    let start : MachineState = after_transfers due.transfers m in
    let stays = turn_stays (surroundings split due start) then.machine then.rec (carried split m due then e) in
    stays.size ∙ transfers_size (length m.memory) due.transfers m refl fits

pub sets_lines : (split : Bool) → SetsLines (hart_step split)
sets_lines split m due then e =
    let start : MachineState = after_transfers due.transfers m in
    let stays = turn_stays (surroundings split due start) then.machine then.rec (carried split m due then e) in
    stays.lines ∙ ap (unwrap_or due.lines) (transfers_lines due.transfers m)
