-- A turn of the live machine, from what its parts say.
use Rattle.std.proofs.Common.{◌≡◌, ℕ, Bool, List, [], ◌∷◌, Option, None, Some, refl, sym, ap, ◌∙◌}
use Rattle.cx_io.specs.declared.outside.Outside.{Outside}
use Rattle.cx_block.specs.Block.{BlockDevice}
use Rattle.cx_csr.specs.declared.lines.Lines.{Lines}
use Rattle.cx_devices.specs.Devices.{after_ticks, lines_of}
use Rattle.cx_devices.specs.declared.devices.Devices.{Devices}
use Rattle.cx_hart.specs.HartStep.{carried_out, hart_step}
use Rattle.cx_hart.specs.Step.{step}
use Rattle.cx_hart.specs.declared.record.StepRec.{StepRec}
use Rattle.cx_machine.specs.Due.{Due}
use Rattle.cx_machine.specs.Machine.{MachineState, pages_of}
use Rattle.cx_machine.specs.Step.{Stepped}
use Rattle.cx_machine.specs.Transfers.{Transfer, after_transfers}
use Rattle.cx_live.specs.Live.{Live, after_completion, after_console, after_pass, before_block, changed_lines, lines_due}
use Rattle.cx_live.specs.Live.{met, transfers_due}
use Rattle.cx_live.specs.Stepping.{StepIsTaken}
use Rattle.cx_live.specs.Turn.{Turned, after_asked, after_write, first_asked, block_after_write, devices_after_write}
use Rattle.cx_live.specs.Turn.{given_to, live_turn, turned}

-- ---- the turn, of what the step meets

abbrev due_over : Bool → List Transfer → Live → Due
due_over split ts k = record {
  transfers = ts;
  lines = lines_due k;
  value = given_to (first_asked split ts (lines_due k) k.machine) k.devices k.block;
}

abbrev turned_over : Bool → List Transfer → Live → Option (Stepped StepRec) → Option Turned
turned_over split ts k None = None
turned_over split ts k (Some stepped) = Some (record {
  due = due_over split ts k;
  rec = stepped.rec;
  live =
      after_write stepped.rec.write (record k {
        devices = after_asked (first_asked split ts (lines_due k) k.machine) k.devices;
        machine = stepped.machine;
      });
})

abbrev turn_over : Bool → List Transfer → Live → Option Turned
turn_over split ts k = turned_over split ts k (hart_step split k.machine (due_over split ts k))

turned_is : (split : Bool) (o : Outside) (l : Live) (stepped : Option (Stepped StepRec))
    → turned split o l stepped ≡ turned_over split (transfers_due o.block l.block) (met o l) stepped
turned_is split o l None = refl
turned_is split o l (Some stepped) = refl

turn_is : (split : Bool) (o : Outside) (l : Live)
    → live_turn split o l ≡ turn_over split (transfers_due o.block l.block) (met o l)
unfolding live_turn
turn_is split o l = turned_is split o l _

-- ---- the step

-- Transfers come before it.
asked_behind : (split : Bool) (ts : List Transfer) (lines : Option Lines) (m : MachineState)
    → first_asked split ts lines m ≡ first_asked split [] lines (after_transfers ts m)
asked_behind split ts lines m = refl

step_behind : (split : Bool) (ts : List Transfer) (lines : Option Lines) (value : Option ℕ) (m : MachineState)
    → hart_step split m (record { transfers = ts; lines = lines; value = value })
    ≡ carried_out (step split (record { transfers = []; lines = lines; value = value }) (after_transfers ts m))
unfolding hart_step
step_behind split ts lines value m = refl

-- ---- what the turn comes to

-- what the step meets, what it was given, and what it left
pub record Parts (split : Bool) (ts : List Transfer) (m : MachineState) (d : Devices) (b : BlockDevice)
    (console : List ℕ) (lines : Option Lines) (value : Option ℕ) (after : MachineState) (rec : StepRec)
    (answered : Devices) : Type 0 where
  pub lines_are : lines ≡ changed_lines m.state.lines (lines_of d b.state)
  pub step_is : StepIsTaken split lines (after_transfers ts m) d b after rec answered value

turn_of_parts : {split : Bool} {ts : List Transfer} {m : MachineState} {d : Devices} {b : BlockDevice}
    {console : List ℕ} {lines : Option Lines} {value : Option ℕ} {after : MachineState} {rec : StepRec}
    {answered : Devices}
    → Parts split ts m d b console lines value after rec answered
    → turn_over split ts (record { machine = m; devices = d; block = b; console = console })
    ≡ Some (record {
      due = record { transfers = ts; lines = lines; value = value };
      rec = rec;
      live =
          record {
            machine = after;
            devices = devices_after_write rec.write answered;
            block = block_after_write rec.write (pages_of after.memory) b;
            console = console;
          };
    })
turn_of_parts {split} {ts} {m} {d} {b} {console} {lines} {value} {after} {rec} {answered} parts =
    let k : Live = record { machine = m; devices = d; block = b; console = console } in
    let taken = parts.step_is in
    let due : due_over split ts k ≡ record { transfers = ts; lines = lines; value = value } =
    rw (← parts.lines_are, taken.given) refl in
    let stepped : hart_step split m (due_over split ts k) ≡ Some (record { machine = after; rec = rec }) =
    rw (due, step_behind split ts lines value m, taken.taken) refl in
    rw (stepped, due, ← parts.lines_are, taken.answered) refl

lines_stay : (ts : List Transfer) (m : MachineState) → (after_transfers ts m).state.lines ≡ m.state.lines
lines_stay [] m = refl
lines_stay (t ∷ ts) m = lines_stay ts _

met_is : (o : Outside) (l : Live) (passed d : Devices) (b : BlockDevice) (console : List ℕ)
    → passed ≡ after_ticks o.ticks l.devices
    → ((k : Live) → k.devices ≡ passed → k.console ≡ l.console
    → after_console o.console k ≡ record k { devices = d; console = console })
    → b ≡ after_completion o.block l.machine.memory l.block
    → met o l ≡ record { machine = l.machine; devices = d; block = b; console = console }
met_is o l passed d b console ticks arrives completes =
    let before : before_block o l ≡ record l { devices = d; console = console } =
    arrives (after_pass o.ticks l) (sym ticks) refl in
    rw (before, completes) refl

pub turn_closes : (split : Bool) (o : Outside) (l : Live) (passed d answered devices : Devices) (b block : BlockDevice)
    (console : List ℕ) (m after : MachineState) (ts : List Transfer) (lines : Option Lines) (value : Option ℕ)
    (rec : StepRec) (pages : ℕ)
    → passed ≡ after_ticks o.ticks l.devices
    → ((k : Live) → k.devices ≡ passed → k.console ≡ l.console
    → after_console o.console k ≡ record k { devices = d; console = console })
    → b ≡ after_completion o.block l.machine.memory l.block
    → m ≡ after_transfers (transfers_due o.block l.block) l.machine
    → ts ≡ transfers_due o.block l.block
    → lines ≡ changed_lines m.state.lines (lines_of d b.state)
    → StepIsTaken split lines m d b after rec answered value
    → devices ≡ devices_after_write rec.write answered
    → pages ≡ pages_of after.memory
    → block ≡ block_after_write rec.write pages b
    → live_turn split o l ≡ Some (record {
      due = record { transfers = ts; lines = lines; value = value };
      rec = rec;
      live = record { machine = after; devices = devices; block = block; console = console };
    })
turn_closes split o l passed d answered devices b block console m after ts lines value rec pages ticks arrives
    completes moves dma lines_are taken stores whole stored =
    let parts : Parts split (transfers_due o.block l.block) l.machine d b console lines value after rec answered =
    record {
      lines_are = lines_are ∙ rw (moves, lines_stay (transfers_due o.block l.block) l.machine) refl;
      step_is = rw moves at taken;
    } in
    rw (dma, stores, stored, whole) (turn_is split o l
    ∙ ap (turn_over split (transfers_due o.block l.block)) (met_is o l passed d b console ticks arrives completes)
    ∙ turn_of_parts parts)
