-- A step that is carried out keeps the rules of the machine.
use Rattle.std.proofs.Common.{◌≡◌, ℕ, zero, suc, ◌+◌, ◌^◌, ◌<◌, ◌≤◌, Bool, true, false, nat_le, cond, List, [], ◌∷◌}
use Rattle.std.proofs.Common.{length, take, Option, None, Some, Ok, Err, IfSome, refl, sym, subst, ◌∙◌, arith}
use borrow.Author.Tests.{leb-true}
use Rattle.std.proofs.lemmas.List.{length-take}
use Rattle.std.proofs.lemmas.List.Elements.{All-head, All-tail}
use Rattle.cx_csr.specs.Keeps.{Keeps}
use Rattle.cx_machine.specs.Machine.{IsMachine, MachineState, pages_of}
use Rattle.cx_machine.specs.Step.{KeepsMachine}
use Rattle.cx_machine.specs.Transfers.{AreTransfers, IsTransfer, Transfer, after_transfer, after_transfers}
use Rattle.cx_map.specs.Bytes.{AreBytes}
use Rattle.cx_map.specs.Map.{ram_index, size_of_pages}
use Rattle.cx_map.specs.declared.TheConstants.{RAM_START}
use Rattle.cx_ram.specs.LittleEndian.{written}
use Rattle.cx_ram.proofs.LoadsAndWrites.{length-written}
use Rattle.cx_ram.proofs.SameWrites.{written_byte}
use Rattle.cx_hart.specs.After.{memory_after, memory_after_touch}
use Rattle.cx_hart.specs.Ends.{End}
use Rattle.cx_hart.specs.HartStep.{hart_step}
use Rattle.cx_hart.specs.Step.{NeedsValue, Outcome, Stepped as Carried, ValueLeft, ended_in, machine_in, outcome_of}
use Rattle.cx_hart.specs.Step.{surroundings, turn_outcome}
use Rattle.cx_hart.specs.Stretches.{IsWritable}
use Rattle.cx_hart.specs.Surroundings.{Surroundings}
use Rattle.cx_hart.specs.Turn.{turn}
use Rattle.cx_hart.specs.declared.findings.Retired.{Retired}
use Rattle.cx_hart.specs.declared.findings.Stop.TheVariants.{Asks, Interrupt, Trap}
use Rattle.cx_hart.specs.declared.record.StepRec.{StepRec}
use Rattle.cx_hart.specs.declared.record.Touch.{Touch}
use Rattle.cx_hart.proofs.Ends.{lines_keep, unless_kept}
use Rattle.cx_hart.proofs.Keepable.{FitsGiven, IsKeepable}
use Rattle.cx_hart.proofs.Keeping.{keeps_after, keeps_trap}
use Rattle.cx_hart.proofs.StepSizes.{carried}
use Rattle.cx_hart.proofs.Stops.{Comes}
use Rattle.cx_hart.proofs.Transfers.{transfer_keeps}
use Rattle.cx_hart.proofs.Turns.{turn_comes}

-- ---- memory

-- the same length, and bytes
record KeepsMemory (memory after : List ℕ) : Type 0 where
  pub size : length after ≡ length memory
  pub bytes : AreBytes after

written_keeps : (memory : List ℕ) (i : ℕ) (bytes : List ℕ) → i + length bytes ≤ length memory → AreBytes memory
    → AreBytes bytes → KeepsMemory memory (written memory i bytes)
written_keeps memory i bytes within old new = record {
  size = length-written memory i bytes within;
  bytes =
      written_byte memory i bytes (λ b. b < 256) old new;
}

take_bytes : (n : ℕ) (xs : List ℕ) → AreBytes xs → AreBytes (take n xs)
take_bytes zero xs fit k = omega arith
take_bytes (suc n) [] fit k = omega arith
take_bytes (suc n) (x ∷ xs) fit zero = fit 0
take_bytes (suc n) (x ∷ xs) fit (suc k) = take_bytes n xs (λ j. fit (suc j)) k

touch_keeps_by : (memory : List ℕ) (t : Touch) (b : Bool) → nat_le RAM_START t.pa ≡ b → IsWritable (length memory) t
    → AreBytes t.bytes → AreBytes memory
    → KeepsMemory memory (cond b (written memory (ram_index t.pa) (take t.len t.bytes)) memory)
touch_keeps_by memory t false e writable new old = record { size = refl; bytes = old }
touch_keeps_by memory t true e writable new old =
    let stretch = writable.ram (leb-true _ _ e) in
    written_keeps memory (ram_index t.pa) (take t.len t.bytes)
    (omega (arith, length-take t.len t.bytes, stretch.inside.high, stretch.inside.low)) old
    (take_bytes t.len t.bytes new)

touch_keeps : (memory : List ℕ) (o : Option Touch) → IfSome o (IsWritable (length memory))
    → IfSome o (λ t. AreBytes t.bytes) → AreBytes memory → KeepsMemory memory (memory_after_touch o memory)
unfolding memory_after_touch
touch_keeps memory None writable new old = record { size = refl; bytes = old }
touch_keeps memory (Some t) writable new old = touch_keeps_by memory t (nat_le RAM_START t.pa) refl writable new old

-- ---- the outcome of a turn

record KeptBy (pages : ℕ) (m after : MachineState) : Type 0 where
  pub state : Keeps pages after.state
  pub memory : KeepsMemory m.memory after.memory

abbrev KeptIn : ℕ → MachineState → Outcome → Type 0
KeptIn pages m (NeedsValue what) = Unit {0}
KeptIn pages m ValueLeft = Unit {0}
KeptIn pages m (Carried after rec) = KeptBy pages m after

retired_memory : (pages : ℕ) (m : MachineState) (r : Retired) → IsKeepable pages (length m.memory) m.state r
    → AreBytes m.memory → KeepsMemory m.memory (memory_after r m.memory)
retired_memory pages m r is old =
    let one = touch_keeps m.memory r.write is.ready.write is.bytes old in
    let two = touch_keeps (memory_after_touch r.write m.memory) r.write_more
    (subst (λ n. IfSome r.write_more (IsWritable n)) (sym one.size) is.ready.write_more) is.more_bytes one.bytes in
    record { size = two.size ∙ one.size; bytes = two.bytes }

outcome_kept : (pages : ℕ) (m : MachineState) (rec : StepRec) (p : End Retired) → Keeps pages m.state
    → AreBytes m.memory → Comes (IsKeepable pages (length m.memory) m.state) p → KeptIn pages m (ended_in m rec p)
outcome_kept pages m rec (Ok r) k old comes = record {
  state = keeps_after pages (length m.memory) r m.state comes k;
  memory = retired_memory pages m r comes old;
}
outcome_kept pages m rec (Err (Asks what)) k old comes = tt
outcome_kept pages m rec (Err (Interrupt number)) k old comes =
    record {
      state = keeps_trap pages (number + 2 ^ 31) 0 m.state comes (omega arith) k;
      memory =
          record { size = refl; bytes = old };
    }
outcome_kept pages m rec (Err (Trap cause tval)) k old comes =
    record {
      state = keeps_trap pages cause tval m.state comes.0 comes.1 k;
      memory =
          record { size = refl; bytes = old };
    }

turn_kept : (pages : ℕ) (here : Surroundings) (after : MachineState) (rec : StepRec) → Keeps pages here.state
    → pages_of here.memory ≡ pages → AreBytes here.memory → FitsGiven here.given
    → turn_outcome here ≡ Carried after rec → KeptBy pages (machine_in here) after
unfolding turn_outcome
turn_kept pages here after rec k same old fits e =
    let ends : outcome_of (machine_in here) (turn here) ≡ Carried after rec =
    unless_kept here.given (outcome_of (machine_in here) (turn here)) after rec e in
    subst (KeptIn pages (machine_in here)) ends (outcome_kept pages (machine_in here) _ (turn here).end k old
    (turn_comes pages here k fits old same))

-- ---- transfers

transfer_kept : (pages : ℕ) (t : Transfer) (m : MachineState) → IsMachine pages m → IsTransfer (size_of_pages pages) t
    → IsMachine pages (after_transfer t m)
transfer_kept pages t m is fits =
    let kept = written_keeps m.memory (ram_index t.place) t.bytes
    (omega (arith, fits.ram.low, fits.ram.high, is.memory.size)) is.memory.bytes fits.bytes in
    record {
      state = transfer_keeps pages t m.state is.state;
      memory =
          record { size = kept.size ∙ is.memory.size; bytes = kept.bytes };
    }

pub transfers_kept : (pages : ℕ) (transfers : List Transfer) (m : MachineState) → IsMachine pages m
    → AreTransfers (size_of_pages pages) transfers → IsMachine pages (after_transfers transfers m)
transfers_kept pages [] m is all = is
transfers_kept pages (t ∷ transfers) m is all =
    transfers_kept pages transfers (after_transfer t m)
    (transfer_kept pages t m is (All-head (IsTransfer (size_of_pages pages)) t transfers all))
    (All-tail (IsTransfer (size_of_pages pages)) t transfers all)

-- ---- the step

pub keeps_machine : (split : Bool) → KeepsMachine (hart_step split)
keeps_machine split pages m due then e is fits =
    let start : MachineState = after_transfers due.transfers m in
    let before = transfers_kept pages due.transfers m is fits.transfers in
    let same : pages_of start.memory ≡ pages = omega (arith, before.memory.size) in
    let kept =
    turn_kept pages (surroundings split due start) then.machine then.rec (lines_keep pages start.state due.lines
    before.state fits.lines) same before.memory.bytes fits.value
    (carried split m due then e) in
    record {
      state = kept.state;
      memory = record {
        size = kept.memory.size ∙ before.memory.size;
        bytes =
            kept.memory.bytes;
      };
    }
