-- One turn: what is due to its step fits, and what it leaves keeps the rules.
use Rattle.std.proofs.Common.{◌≡◌, ◌≢◌, ℕ, suc, ◌+◌, ◌*◌, ◌/◌, ◌^◌, ◌<◌, ◌≤◌, Bool, true, false, if◌then◌else◌, ◌==◌, ◌&&◌, not}
use Rattle.std.proofs.Common.{is_some, Option, None, Some, IfSome, IsSome, List, [], ◌∷◌, length, refl, sym, ap, subst, ◌∙◌}
use Rattle.std.proofs.Common.{arith}
use Rattle.std.proofs.lemmas.Bool.{eq-eqb}
use Rattle.cx_io.specs.declared.outside.Outside.{Outside}
use Rattle.cx_block.specs.Block.{BlockDevice, is_own_at, word_load_at as block_load_at}
use Rattle.cx_csr.specs.declared.lines.Lines.{Lines}
use Rattle.cx_devices.specs.Devices.{IsSound, high, low, lines_of, word_load_at}
use Rattle.cx_devices.specs.declared.devices.Devices.{Devices}
use Rattle.cx_hart.specs.HartStep.{carried_out, hart_step}
use Rattle.cx_hart.specs.Step.{NeedsValue, Outcome, Stepped as Carried, ValueLeft, step}
use Rattle.cx_hart.specs.Taking.{Took}
use Rattle.cx_hart.specs.declared.answer.Asked.{Asked}
use Rattle.cx_hart.specs.declared.answer.Asked.TheVariants as asked
use Rattle.cx_hart.specs.declared.record.StepRec.{StepRec}
use Rattle.cx_hart.proofs.StepKeeps.{keeps_machine}
use Rattle.cx_hart.proofs.StepTakes.{leaves_none, takes_any, writes_bytes}
use Rattle.cx_machine.specs.Due.{AreLines, Due, IsDue}
use Rattle.cx_machine.specs.Machine.{IsMachine, MachineState, pages_of}
use Rattle.cx_machine.specs.Step.{Stepped}
use Rattle.cx_machine.specs.Transfers.{Transfer}
use Rattle.cx_map.specs.Bytes.{AreBytes}
use Rattle.cx_walk.specs.Devices.{device_at}
use Rattle.cx_live.specs.Live.{Live, after_completion, after_console, after_pass, before_block, changed_lines, first_arrives}
use Rattle.cx_live.specs.Live.{lines_due, lines_up, met, transfers_due}
use Rattle.cx_live.specs.Rules.{KeepsBlock, KeepsLive}
use Rattle.cx_live.specs.Turn.{Turned, after_asked, after_write, asked_at, asked_in, block_after_write, due_to, given_to}
use Rattle.cx_live.specs.Turn.{live_turn, turned, value_of}
use Rattle.cx_live.proofs.BlockRules.{block_load_small_at, block_write_keeps, completion_keeps, few_transfers, transfers_fit}
use Rattle.cx_live.proofs.DeviceRules.{asked_keeps, lines_within, load_small_at, slot_keeps, ticks_keep, write_keeps}

-- ---- what the step meets

-- The clock and the console change nothing else.
record Before (l k : Live) : Type 0 where
  pub machine : k.machine ≡ l.machine
  pub block : k.block ≡ l.block
  pub devices : IsSound k.devices
  pub console : AreBytes k.console

arrives_before : (l k : Live) (bytes : List ℕ) → Before l k → AreBytes bytes → Before l (first_arrives bytes k)
arrives_before l k [] before are = before
arrives_before l k (byte ∷ rest) before are = record {
  machine = before.machine;
  block = before.block;
  devices = slot_keeps byte k.devices (are 0) before.devices;
  console = λ i. are (suc i);
}

console_before : (l k : Live) (t : Bool) → Before l k → Before l (if t then first_arrives k.console k else k)
console_before l k true before = arrives_before l k k.console before before.console
console_before l k false before = before

before : (pages : ℕ) (o : Outside) (l : Live) → KeepsLive pages l → Before l (before_block o l)
before pages o l keeps =
    let k : Live = after_pass o.ticks l in
    let passed : Before l k = record {
      machine = refl;
      block = refl;
      devices = ticks_keep o.ticks l.devices keeps.devices;
      console = keeps.console;
    } in
    console_before l k (o.console && not (is_some k.devices.slot)) passed

record Meets (pages : ℕ) (l k : Live) : Type 0 where
  pub machine : k.machine ≡ l.machine
  pub devices : IsSound k.devices
  pub block : KeepsBlock pages k.block
  pub console : AreBytes k.console

meets : (pages : ℕ) (o : Outside) (l : Live) → KeepsLive pages l → Meets pages l (met o l)
meets pages o l keeps =
    let k : Live = before_block o l in
    let b = before pages o l keeps in
    record {
      machine = b.machine;
      devices = b.devices;
      block =
          subst (λ (m : MachineState). KeepsBlock pages (after_completion o.block m.memory k.block)) (sym b.machine)
          (subst (λ (d : BlockDevice). KeepsBlock pages (after_completion o.block l.machine.memory d)) (sym b.block)
          (completion_keeps pages o.block l.machine.memory l.block keeps.machine.memory.size keeps.machine.memory.bytes
          keeps.block));
      console = b.console;
    }

-- ---- what is due

value_small : (pages : ℕ) (what : Asked) (d : Devices) (b : BlockDevice) → IsSound d → KeepsBlock pages b
    → value_of what d b < 2 ^ 32
value_small pages (asked.Device place) d b sound keeps = by_test (is_own_at (device_at place))
  where
    by_test : (t : Bool)
        → (if t then block_load_at (device_at place) b else word_load_at (device_at place) d b.state) < 2 ^ 32
    by_test true = block_load_small_at pages (device_at place) b keeps
    by_test false = load_small_at (device_at place) d b.state sound
value_small pages asked.TimeLow d b sound keeps = omega arith
value_small pages asked.TimeHigh d b sound keeps = omega (arith, sound.clock)

given_small : (pages : ℕ) (o : Option Asked) (d : Devices) (b : BlockDevice) → IsSound d → KeepsBlock pages b
    → IfSome (given_to o d b) (λ value. value < 2 ^ 32)
given_small pages None d b sound keeps = tt
given_small pages (Some what) d b sound keeps = value_small pages what d b sound keeps

due_lines : (standing up : Lines) → AreLines up → IfSome (changed_lines standing up) AreLines
due_lines standing up are = by_test (up.0 == standing.0)
  where
    by_test : (t : Bool) → IfSome (if t then None else Some up) AreLines
    by_test true = tt
    by_test false = are

lines_change : (standing up : Lines) → IfSome (changed_lines standing up) (λ (to : Lines). to ≢ standing)
lines_change standing up = by_test (up.0 == standing.0) refl
  where
    other : (up.0 == standing.0) ≡ false → up ≢ standing
    other apart same =
        let equal : (up.0 == standing.0) ≡ true = eq-eqb up.0 standing.0 (ap (λ (l : Lines). l.0) same) in
        absurd cc

    by_test : (t : Bool) → (up.0 == standing.0) ≡ t
        → IfSome (if t then None else Some up) (λ (to : Lines). to ≢ standing)
    by_test true is = tt
    by_test false is = other is

due_is : (pages : ℕ) (split : Bool) (o : Outside) (l : Live) → KeepsLive pages l → IsDue pages (due_to split o l)
due_is pages split o l keeps =
    let k = meets pages o l keeps in
    record {
      transfers = transfers_fit pages o.block l.block keeps.block;
      lines = due_lines (met o l).machine.state.lines (lines_up (met o l))
          (lines_within (met o l).devices (met o l).block.state);
      value = given_small pages (asked_at split o l) (met o l).devices (met o l).block k.devices k.block;
    }

-- ---- the turn

pub record IsTurn (pages : ℕ) (split : Bool) (l : Live) (t : Turned) : Type 0 where
  pub due : IsDue pages t.due
  pub few : length t.due.transfers ≤ 1
  pub change : IfSome t.due.lines (λ (to : Lines). to ≢ l.machine.state.lines)
  pub step : hart_step split l.machine t.due ≡ Some (record { machine = t.live.machine; rec = t.rec })
  pub keeps : KeepsLive pages t.live

module _ (pages : ℕ) (split : Bool) (o : Outside) (l : Live) (keeps : KeepsLive pages l) where
  abbrev left_by : Stepped StepRec → Live
  left_by stepped = after_write stepped.rec.write (record (met o l) {
    devices = after_asked (asked_at split o l) (met o l).devices;
    machine = stepped.machine;
  })

  turn_keeps : (stepped : Stepped StepRec) → hart_step split (met o l).machine (due_to split o l) ≡ Some stepped
      → KeepsLive pages (left_by stepped)
  turn_keeps stepped goes =
      let k = meets pages o l keeps in
      let machine : IsMachine pages stepped.machine =
      keeps_machine split pages (met o l).machine (due_to split o l) stepped goes
      (subst (IsMachine pages) (sym k.machine) keeps.machine) (due_is pages split o l keeps) in
      let bytes = writes_bytes split (met o l).machine (due_to split o l) stepped goes in
      let count : pages_of stepped.machine.memory ≡ pages = omega (arith, machine.memory.size) in
      record {
        machine = machine;
        devices = write_keeps stepped.rec.write (after_asked (asked_at split o l) (met o l).devices) bytes
            (asked_keeps (asked_at split o l) (met o l).devices k.devices);
        block =
            subst (λ (n : ℕ). KeepsBlock pages (block_after_write stepped.rec.write n (met o l).block)) (sym count)
            (block_write_keeps pages stepped.rec.write (met o l).block bytes k.block);
        console = k.console;
      }

  stepped_is : (stepped : Stepped StepRec) → hart_step split (met o l).machine (due_to split o l) ≡ Some stepped
      → IsTurn pages split l (record { due = due_to split o l; rec = stepped.rec; live = left_by stepped })
  stepped_is stepped goes =
      let k = meets pages o l keeps in
      record {
        due = due_is pages split o l keeps;
        few = few_transfers o.block l.block;
        change =
            subst (λ (m : MachineState). IfSome (lines_due (met o l)) (λ (to : Lines). to ≢ m.state.lines)) k.machine
            (lines_change (met o l).machine.state.lines (lines_up (met o l)));
        step = subst (λ (m : MachineState). hart_step split m (due_to split o l) ≡ Some stepped) k.machine goes;
        keeps = turn_keeps stepped goes;
      }

  turned_is : (t : Turned) (outcome : Option (Stepped StepRec))
      → hart_step split (met o l).machine (due_to split o l) ≡ outcome → turned split o l outcome ≡ Some t
      → IsTurn pages split l t
  turned_is t None goes is = absurd cc
  turned_is t (Some stepped) goes is =
      let same : ◌≡◌ {A = Turned} (record { due = due_to split o l; rec = stepped.rec; live = left_by stepped }) t =
      cc in
      subst (IsTurn pages split l) same (stepped_is stepped goes)

  pub turn_is : (t : Turned) → live_turn split o l ≡ Some t → IsTurn pages split l t
  unfolding live_turn
  turn_is t is = turned_is t (hart_step split (met o l).machine (due_to split o l)) refl is

-- ---- it is always there

took_some : (v : ℕ) (o : Outcome) → Took v o → IsSome (carried_out o)
took_some v (NeedsValue what) took = absurd took
took_some v ValueLeft took = absurd took
took_some v (Carried after rec) took = refl

there_by : (split : Bool) (ts : List Transfer) (lines : Option Lines) (m : MachineState) (d : Devices) (b : BlockDevice)
    (o : Outcome) → step split (record { transfers = ts; lines = lines; value = None }) m ≡ o
    → IsSome (carried_out (step split (record { transfers = ts; lines = lines; value = given_to (asked_in o) d b }) m))
there_by split ts lines m d b (NeedsValue what) is =
    took_some (value_of what d b)
    (step split (record { transfers = ts; lines = lines; value = Some (value_of what d b) }) m)
    (takes_any split (record { transfers = ts; lines = lines; value = None }) m what (value_of what d b) is)
there_by split ts lines m d b ValueLeft is =
    absurd (leaves_none split (record { transfers = ts; lines = lines; value = None }) m is)
there_by split ts lines m d b (Carried after rec) is = subst (λ (o : Outcome). IsSome (carried_out o)) (sym is) refl

turned_there : (split : Bool) (o : Outside) (l : Live) (outcome : Option (Stepped StepRec)) → IsSome outcome
    → IsSome (turned split o l outcome)
turned_there split o l None some = some
turned_there split o l (Some stepped) some = refl

pub turn_is_there : (split : Bool) (o : Outside) (l : Live) → IsSome (live_turn split o l)
unfolding live_turn hart_step
turn_is_there split o l =
    turned_there split o l _
    (there_by split (transfers_due o.block l.block) (lines_due (met o l)) (met o l).machine (met o l).devices
    (met o l).block (step split (record {
      transfers = transfers_due o.block l.block;
      lines = lines_due (met o l);
      value = None;
    }) (met o l).machine) refl)
