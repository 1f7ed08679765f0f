-- A step function, what a step may depend on, and what it may change.
use Rattle.std.specs.Prelude.{◌≡◌, ℕ, List, length, Option, Some, unwrap_or}
use Rattle.cx_ram.specs.Agreement.{AgreeOn, SameWrites}
use Rattle.cx_machine.specs.Due.{Due, IsDue}
use Rattle.cx_machine.specs.Machine.{IsMachine, MachineState}
use Rattle.cx_machine.specs.Transfers.{AreTransfers}

-- the machine behind a step, and the step's record
pub record Stepped (Rec : Type 0) : Type 0 where
  pub machine : MachineState
  pub rec : Rec

-- A step of a machine to which this is due, or nothing where it can't be carried out so.
abbrev pub Step : Type 0 → Type 0
Step Rec = MachineState → Due → Option (Stepped Rec)

-- On another memory the step gave the same record and the same next state, and wrote the same bytes.
pub record IsSameStep {Rec : Type 0} (p : MachineState) (then : Stepped Rec) (q : MachineState)
    (outcome : Option (Stepped Rec)) : Type 0 where
  pub memory : List ℕ
  pub given : outcome ≡ Some (record {
    machine = record { state = then.machine.state; memory = memory };
    rec =
        then.rec;
  })
  pub size : length memory ≡ length then.machine.memory
  pub writes : SameWrites p.memory then.machine.memory q.memory memory

-- A step reads nothing but what its record names: reads gives the indices of these bytes of RAM. On another memory of
-- the same size that agrees there it is the same step.
abbrev pub ReadsItsRecord : {Rec : Type 0} → Step Rec → (Rec → List ℕ) → Type 0
ReadsItsRecord {Rec} step reads =
    (p q : MachineState) (due : Due) (then : Stepped Rec) → step p due ≡ Some then
    → q.state ≡ p.state → length q.memory ≡ length p.memory → AgreeOn (reads then.rec) p.memory q.memory
    → IsSameStep p then q (step q due)

-- A step to which nothing is due but what fits leaves a machine that keeps the rules, where it began with one.
abbrev pub KeepsMachine : {Rec : Type 0} → Step Rec → Type 0
KeepsMachine {Rec} step =
    (pages : ℕ) (m : MachineState) (due : Due) (then : Stepped Rec) → step m due ≡ Some then
    → IsMachine pages m → IsDue pages due → IsMachine pages then.machine

-- A step keeps the size of memory, whatever the state, where transfers go to RAM.
abbrev pub KeepsSize : {Rec : Type 0} → Step Rec → Type 0
KeepsSize {Rec} step =
    (m : MachineState) (due : Due) (then : Stepped Rec) → step m due ≡ Some then
    → AreTransfers (length m.memory) due.transfers → length then.machine.memory ≡ length m.memory

-- The frame property: a step reads nothing but what its record names, and keeps the size of memory.
pub record IsFramed {Rec : Type 0} (step : Step Rec) (reads : Rec → List ℕ) : Type 0 where
  pub reads_record : ReadsItsRecord step reads
  pub keeps_size : KeepsSize step

-- A step leaves the interrupt lines that are due to it, else those that stood.
abbrev pub SetsLines : {Rec : Type 0} → Step Rec → Type 0
SetsLines {Rec} step =
    (m : MachineState) (due : Due) (then : Stepped Rec) → step m due ≡ Some then
    → then.machine.state.lines ≡ unwrap_or due.lines m.state.lines
