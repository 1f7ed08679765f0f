-- What a reader of records keeps, and what it says of the records ahead of it.
use Rattle.std.specs.Prelude.{◌≡◌, ℕ, ◌<◌, ◌≤◌, ◌^◌, Bool, true, false, List, [], ◌++◌, Option, None, Some, IsSome}
use Rattle.std.specs.Prelude.{unwrap_or, Result, Ok, Err}
use Rattle.cx_codec.specs.Reads.{Begins}
use Rattle.cx_log.specs.declared.fault.LogFault.{LogFault}
use Rattle.cx_log.specs.declared.fault.LogFault.TheVariants.{Format, ReadFault, NoMemory}
use Rattle.cx_log.specs.declared.item.Item.{Item}
use Rattle.cx_log.specs.declared.item.What.{What}
use Rattle.cx_log.specs.declared.item.What.TheVariants as what
use Rattle.cx_log.specs.Item.{entry_of, is_end}
use Rattle.cx_log.specs.Recording.{Recorded}
use Rattle.cx_log.specs.Records.{Entry, Put, Ends}
use Rattle.cx_log.specs.Scan.{Scan, bad_field, with_record}
use Rattle.cx_machine.specs.Due.{AreLines}
use Rattle.cx_machine.specs.Transfers.{IsTransfer}
use Rattle.cx_map.specs.Map.{size_of_pages}
use Rattle.cx_run.specs.Events.{NoneBelow}

-- A reader between two calls: the step of the record that was read last, or the first step; the bytes of the last Dma;
-- how many pages the RAM has that the records go to; how many records there may be at most; whether End was read; and
-- whether it goes on.
pub record Seen : Type 0 where
  pub last : ℕ
  pub bytes : List ℕ
  pub pages : ℕ
  pub most : ℕ
  pub ended : Bool
  pub live : Bool

-- The source gave more of one input.
pub record GaveMore (left : Option (List ℕ)) (given : List ℕ) (left_now : Option (List ℕ)) (given_now : List ℕ) : Type 0
  where
    pub told : IsSome left_now
    pub same : given_now ++ unwrap_or left_now [] ≡ given ++ unwrap_or left []
    pub grows : Begins given given_now

-- Anything may follow what was given, but nothing where the source has nothing left.
abbrev pub MayBeWhole : Option (List ℕ) → List ℕ → List ℕ → Type 0
MayBeWhole left given input = unwrap_or left [] ≡ [] → input ≡ given

-- ---- what is ahead

-- records in front of those that a scan goes on with
abbrev pub in_front : List Recorded → Scan → Scan
in_front front rest = record { events = front ++ rest.events; upto = rest.upto; stop = rest.stop }

-- no record follows, the steps below this one are settled, and this field is bad
abbrev pub stopped : ℕ → ℕ → Scan
stopped upto offset = record { events = []; upto = upto; stop = Err offset }

-- No record comes before a step below this one, and all steps below it are settled.
pub record RisesFrom (step : ℕ) (s : Scan) : Type 0 where
  pub events : NoneBelow step s.events
  pub upto : step ≤ s.upto

-- A record was read. Has says which records a reader has ahead; rest were those before the call.
pub record GavePut (Has : Scan → Type 0) (rest : Scan) (r : Recorded) : Type 0 where
  pub behind : Scan
  pub here : Has behind
  pub parts : rest ≡ with_record r behind
  pub rises : RisesFrom r.step behind

-- End was read, behind which no record is.
pub record GaveEnd (Has : Scan → Type 0) (rest : Scan) (end : ℕ) : Type 0 where
  pub here : Has rest
  pub none : rest.events ≡ []
  pub upto : rest.upto ≡ end

abbrev pub GaveEntry : (Scan → Type 0) → Scan → Entry → Type 0
GaveEntry Has rest (Put r) = GavePut Has rest r
GaveEntry Has rest (Ends end) = GaveEnd Has rest end

-- What a call that reads a record says of an input that ends at an offset, behind a record of step last. A bad field is
-- bad in every input that may be. Where the source failed, what it gave ends inside a record.
abbrev pub ReadsRecord : ℕ → List ℕ → (Has : Scan → Type 0) → Scan → ℕ → (may cut : Type 0) → Result Item LogFault
    → Type 0
ReadsRecord last bytes Has rest end may cut (Ok item) = GaveEntry Has rest (entry_of bytes item)
ReadsRecord last bytes Has rest end may cut (Err (Format o)) = may → rest ≡ stopped last o
ReadsRecord last bytes Has rest end may cut (Err ReadFault) = cut → rest ≡ stopped last end
ReadsRecord last bytes Has rest end may cut (Err NoMemory) = Unit {0}

-- nothing is bad behind End, and the reader is there still
pub record IsClosed (Has : Scan → Type 0) (rest : Scan) : Type 0 where
  pub good : bad_field rest.stop ≡ None
  pub here : Has rest

-- What a call that sees to the input's end says, behind End. Where the source failed, all that it gave was read.
abbrev pub SeesEnd : (Has : Scan → Type 0) → Scan → (may cut : Type 0) → Result (Unit {0}) LogFault → Type 0
SeesEnd Has rest may cut (Ok u) = may → IsClosed Has rest
SeesEnd Has rest may cut (Err (Format o)) = may → bad_field rest.stop ≡ Some o
SeesEnd Has rest may cut (Err ReadFault) = cut → bad_field rest.stop ≡ None
SeesEnd Has rest may cut (Err NoMemory) = Unit {0}

-- ---- what holds of each record that is read, whatever the source tells

-- It may be handed to a machine with so many pages, where a Dma has these bytes.
abbrev pub Fits : ℕ → List ℕ → What → Type 0
Fits pages bytes (what.Dma place) = IsTransfer (size_of_pages pages) (record { place = place; bytes = bytes })
Fits pages bytes (what.Lines lines) = AreLines lines
Fits pages bytes (what.Value v) = v < 2 ^ 32
Fits pages bytes what.Mark = Unit {0}
Fits pages bytes what.End = Unit {0}

-- A record stands at the step of the last one or above, and End above; and it is the last one then.
abbrev pub IsNext : ℕ → ℕ → ℕ → Bool → Type 0
IsNext last now step true = last < step
IsNext last now step false = (last ≤ step) × (now ≡ step)

pub record GaveItem (old new : Seen) (item : Item) : Type 0 where
  pub next : IsNext old.last new.last item.step (is_end item.what)
  pub fits : Fits new.pages new.bytes item.what
  pub ended : new.ended ≡ is_end item.what
  pub fewer : new.most < old.most
