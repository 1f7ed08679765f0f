-- What a replay stands for: the steps so far of the run of all records of an input.
use Rattle.std.specs.Prelude.{◌≡◌, ◌⊎◌, ℕ, suc, ◌+◌, ◌<◌, ◌≤◌, nat_le, nat_lt, ◌==◌, ◌&&◌, ◌||◌, filter, Bool, true}
use Rattle.std.specs.Prelude.{false, List, [], ◌∷◌, ◌++◌, length, Option, None, Some, IfSome, IsTrue, Result, Ok, Err}
use Rattle.std.specs.Prelude.{if◌then◌else◌}
use Rattle.cx_hart.specs.HartStep.{hart_step}
use Rattle.cx_hart.specs.Whole.{Whole, machine_of}
use Rattle.cx_hart.specs.declared.record.StepRec.{StepRec}
use Rattle.cx_log.specs.declared.item.Item.{Item}
use Rattle.cx_log.specs.declared.item.What.{What}
use Rattle.cx_log.specs.declared.item.What.TheVariants as what
use Rattle.cx_log.specs.Item.{entry_of, is_end}
use Rattle.cx_log.specs.Reading.{Opened}
use Rattle.cx_log.specs.Recording.{Recorded}
use Rattle.cx_log.specs.Records.{Entry, Put, Ends}
use Rattle.cx_log.specs.Scan.{Scan, decoded}
use Rattle.cx_machine.specs.Due.{Due}
use Rattle.cx_run.specs.Due.{due_at}
use Rattle.cx_run.specs.Events.{AllBelow}
use Rattle.cx_run.specs.FirstBad.{Broken, Format, Refusal, bad_behind}
use Rattle.cx_run.specs.Run.{run_of}
use Rattle.cx_replay.specs.Handing.{last_mark}
use Rattle.cx_replay.specs.Records.{Fits, RisesFrom, Seen, in_front}
use Rattle.cx_replay.specs.declared.fault.ReplayFault.{ReplayFault}
use Rattle.cx_replay.specs.declared.fault.ReplayFault.TheVariants as fault
pub use Rattle.cx_replay.specs.declared.progress.Progress.{Progress}

-- before the first record
abbrev pub begun_at_base : ℕ → Progress
begun_at_base base = record { at = base; upto = base; ended = false; waiting = None; marked = None }

-- ---- what was read

-- the records that an item is: one, or none where it is End
abbrev pub records_of : Entry → List Recorded
records_of (Put r) = r ∷ []
records_of (Ends end) = []

abbrev pub waiting_of : List ℕ → Option Item → List Recorded
waiting_of bytes None = []
waiting_of bytes (Some item) = records_of (entry_of bytes item)

-- each record comes before this step
abbrev pub AllAt : ℕ → List Recorded → Type 0
AllAt step [] = Unit {0}
AllAt step (r ∷ events) = (r.step ≡ step) × AllAt step events

-- What is ahead once the steps below this one are settled: records of that step on; behind End, none.
abbrev pub IsAhead : Bool → ℕ → Scan → Type 0
IsAhead true upto rest = (rest.events ≡ []) × (rest.upto ≡ upto)
IsAhead false upto rest = RisesFrom upto rest

-- The records of an input are those of steps below n, which were taken in, the one that waits, and those ahead. Where
-- none waits, the next step isn't settled, or End was read.
pub record IsRead (whole : Scan) (n : ℕ) (p : Progress) (bytes : List ℕ) (Has : Scan → Type 0) : Type 0 where
  pub rest : Scan
  pub here : Has rest
  pub past : List Recorded
  pub parts : whole ≡ in_front (past ++ waiting_of bytes p.waiting) rest
  pub below : AllBelow n past
  pub waits : AllAt p.upto (waiting_of bytes p.waiting)
  pub ahead : IsAhead p.ended p.upto rest
  pub asks : p.ended ≡ false → waiting_of bytes p.waiting ≡ [] → p.at ≡ p.upto
  pub marked : p.marked ≡ last_mark past

-- Of an input with this header and memory, whose records scan as whole, these records of steps were given, and the next
-- step is taken by this machine. Before the first step nothing was read, and from then on it is one record ahead, or
-- behind End.
pub record Stands (o : Opened) (whole : Scan) (given : List StepRec) (m : Whole) (p : Progress) (bytes : List ℕ)
    (Has : Scan → Type 0) : Type 0 where
  pub read : IsRead whole p.at p bytes Has
  pub within : p.at ≤ p.upto
  pub count : p.at ≡ o.header.base + length given
  pub fresh : given ≡ [] → p ≡ begun_at_base o.header.base
  pub one : p.ended ≡ false → waiting_of bytes p.waiting ≡ [] → given ≡ []
  pub split : m.split ≡ o.header.split
  pub run : run_of (hart_step m.split) (decoded o whole) (length given)
      ≡ Some (record { machine = machine_of m; records = given })

-- The machine before the first step is that of the header and the memory.
pub record Starts (o : Opened) (base : ℕ) (m : Whole) : Type 0 where
  pub base_is : o.header.base ≡ base
  pub start : o.header.start ≡ m.state
  pub memory : o.memory ≡ m.memory
  pub split : o.header.split ≡ m.split

-- The next step is settled, and this is due to it.
pub record Settled (whole : Scan) (due : Due) (p : Progress) (bytes : List ℕ) (Has : Scan → Type 0) : Type 0 where
  pub read : IsRead whole (suc p.at) p bytes Has
  pub within : p.at < p.upto
  pub due_is : due ≡ due_at whole.events p.at

-- The records of the next step are taken in as far as they were read.
pub record Gathers (whole : Scan) (at : ℕ) (due : Due) (marked : Option ℕ) (Has : Scan → Type 0) : Type 0 where
  pub rest : Scan
  pub here : Has rest
  pub taken : List Recorded
  pub parts : whole ≡ in_front taken rest
  pub below : AllBelow (suc at) taken
  pub due_is : due ≡ due_at taken at
  pub marked_is : marked ≡ last_mark taken
  pub rises : RisesFrom at rest

-- ---- how a record that was read goes on

-- It settles the next step: it is End, or of a later step.
abbrev pub settles : ℕ → Item → Bool
settles at item = is_end item.what || nat_lt at item.step

-- the record waits where it settles the step, and End doesn't
abbrev pub settled_by : Item → Progress → Progress
settled_by item p = record p {
  upto = item.step;
  ended = is_end item.what;
  waiting =
      if is_end item.what then None else Some item;
}

-- ---- the answers

-- nothing is bad in an input that ends at this offset, but that it may end too soon
abbrev pub IsGoodUpTo : ℕ → Option Refusal → Type 0
IsGoodUpTo end bad = (bad ≡ None) ⊎ (bad ≡ Some (Format end))

-- all settled steps were given
abbrev pub GaveAll : Opened → Scan → List StepRec → Type 0
GaveAll o whole given = whole.upto ≡ o.header.base + length given

-- What a call says of an input that begins with what the source gave, ends at an offset, and scans as whole: may says
-- that it may be the whole input, as far as the source told its end, and cut that it is what was given and no more.
abbrev pub Answers : Opened → Scan → List StepRec → Whole → Progress → List ℕ → (Has : Scan → Type 0) → Due → ℕ
    → (may cut : Type 0)
    → Result (Option StepRec) ReplayFault → Type 0
Answers o whole given m p bytes Has due end may cut (Ok (Some rec)) =
    Stands o whole (given ++ rec ∷ []) m p bytes Has × (due ≡ due_at whole.events (o.header.base + length given))
Answers o whole given m p bytes Has due end may cut (Ok None) =
    GaveAll o whole given × (may → (bad_behind hart_step o whole ≡ None) × Stands o whole given m p bytes Has)
Answers o whole given m p bytes Has due end may cut (Err (fault.Format f)) =
    may → (bad_behind hart_step o whole ≡ Some (Format f)) × GaveAll o whole given
Answers o whole given m p bytes Has due end may cut (Err (fault.Broken n)) =
    (bad_behind hart_step o whole ≡ Some (Broken n)) × (n ≡ o.header.base + length given)
Answers o whole given m p bytes Has due end may cut (Err fault.ReadFault) =
    cut → IsGoodUpTo end (bad_behind hart_step o whole) × GaveAll o whole given
Answers o whole given m p bytes Has due end may cut (Err fault.NoMemory) = Unit {0}

-- a step that is told in a record of the caller's
abbrev pub told_in : StepRec → Result Bool ReplayFault → Result (Option StepRec) ReplayFault
told_in rec (Ok true) = Ok (Some rec)
told_in rec (Ok false) = Ok None
told_in rec (Err e) = Err e

-- The same where the record of the step, of which this is known, isn't handed out.
abbrev pub Arrives : (Known : StepRec → Type 0) → Opened → Scan → List StepRec → Whole → Progress → List ℕ
    → (Has : Scan → Type 0) → Due → ℕ → (may cut : Type 0) → Result Bool ReplayFault → Type 0
Arrives Known o whole given m p bytes Has due end may cut (Ok true) =
    (rec : StepRec) × (Known rec × Answers o whole given m p bytes Has due end may cut (Ok (Some rec)))
Arrives Known o whole given m p bytes Has due end may cut (Ok false) =
    Answers o whole given m p bytes Has due end may cut (Ok None)
Arrives Known o whole given m p bytes Has due end may cut (Err e) =
    Answers o whole given m p bytes Has due end may cut (Err e)

-- nothing is
abbrev pub Unknown : StepRec → Type 0
Unknown rec = Unit {0}

-- the step that comes next, once one was given or none
abbrev pub StepsOn : ℕ → ℕ → Result Bool ReplayFault → Type 0
StepsOn before now (Ok true) = now ≡ before + 1
StepsOn before now (Ok false) = now ≡ before
StepsOn before now (Err e) = Unit {0}

-- ---- the last mark

-- the records up to the first of step n or a later one, which settles the steps below n
abbrev pub settling : ℕ → List Recorded → List Recorded
settling n [] = []
settling n (r ∷ events) = r ∷ (if nat_lt r.step n then settling n events else [])

-- the step of the last mark among them, of those at most at step n
abbrev pub mark_before : ℕ → List Recorded → Option ℕ
mark_before n events = last_mark (filter (λ r. nat_le r.step n) (settling n events))

abbrev pub is_mark_item : What → Bool
is_mark_item what.Mark = true
is_mark_item _ = false

-- what a replay keeps of it: the mark that waits, if the next step is its own, or the last that was taken in
abbrev pub mark_of_item : ℕ → Option ℕ → Item → Option ℕ
mark_of_item at marked item = if is_mark_item item.what && item.step == at then Some item.step else marked

abbrev pub mark_of : Progress → Option ℕ
mark_of p = elim p.waiting [ None ↦ p.marked | Some item ↦ mark_of_item p.at p.marked item ]

-- a mark stands at the step below the next one
abbrev pub passed_mark : Progress → Bool
passed_mark p = elim p.marked [ None ↦ false | Some step ↦ step + 1 == p.at ]

-- ---- what a replay keeps

-- What holds of it whether the source tells or not.
pub record IsSound (p : Progress) (r : Seen) : Type 0 where
  pub within : p.at ≤ p.upto
  pub last : p.ended ≡ false → r.last ≡ p.upto
  pub ended : r.ended ≡ p.ended
  pub fits : IfSome p.waiting (λ item. Fits r.pages r.bytes item.what)
  pub live : IsTrue r.live

pub record Replaying (R : Type 0) : Type 0 where
  pub machine : Whole
  pub records : R
  pub progress : Progress
  pub due : Due
  pub live : Bool
