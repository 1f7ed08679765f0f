-- Events that were kept as a reader of records.
use Rattle.std.specs.Prelude.{◌≡◌, ℕ, ◌+◌, Bool, true, false, List, [], ◌∷◌, length, Ok, if◌then◌else◌}
use Rattle.cx_codec.specs.Place.{Place}
use Rattle.cx_log.specs.Order.{InOrder}
use Rattle.cx_log.specs.declared.order.Behind.{Behind}
use Rattle.cx_log.specs.Recording.{Recorded}
use Rattle.cx_log.specs.Records.{Entry, Put, Ends}
use Rattle.cx_log.specs.Scan.{Scan}
use Rattle.cx_replay.specs.Records.{RisesFrom, Seen}

-- The pages of RAM, the step of the record that was read last, or the first step, the bytes of that record, the events
-- that follow it, the step of End, and whether End was read.
pub record Rereading : Type 0 where
  pub pages : ℕ
  pub last : ℕ
  pub bytes : List ℕ
  pub ahead : List Recorded
  pub end : ℕ
  pub ended : Bool

-- before the first event
abbrev pub kept_from : ℕ → ℕ → List Recorded → ℕ → Rereading
kept_from pages first events end = record {
  pages = pages;
  last = first;
  bytes = [];
  ahead = events;
  end = end;
  ended = false;
}

-- End is a record too. It never stops.
abbrev pub seen_again : Rereading → Seen
seen_again r = record {
  last = r.last;
  bytes = r.bytes;
  pages = r.pages;
  most = length r.ahead + (if r.ended then 0 else 1);
  ended = r.ended;
  live = true;
}

-- the end of an input
abbrev pub input_end : Place
input_end = record { at = 0; limit = 0; ahead = [] }

-- Of a recording these events are scanned, up to its end.
abbrev pub scan_of : List Recorded → ℕ → Scan
scan_of events end = record { events = events; upto = end; stop = Ok input_end }

-- what is ahead doesn't depend on a source
pub record HasKept (r : Rereading) (given input : List ℕ) (offset : ℕ) (rest : Scan) : Type 0 where
  pub is : rest ≡ scan_of r.ahead r.end

-- Records stand in order behind one of a step, up to their end.
pub record IsOrderFrom (pages last : ℕ) (events : List Recorded) (end : ℕ) : Type 0 where
  pub behind : Behind
  pub step : behind.step ≡ last
  pub order : InOrder pages behind events end

-- What is ahead is in order; behind End it is nothing.
abbrev pub IsOrdered : Bool → ℕ → ℕ → List Recorded → ℕ → Type 0
IsOrdered false pages last ahead end = IsOrderFrom pages last ahead end
IsOrdered true pages last ahead end = ahead ≡ []

-- An event was read, or End behind the last one.
abbrev pub GivesKept : Rereading → Rereading → Entry → Type 0
GivesKept old new (Put r) = (old.ahead ≡ r ∷ new.ahead) × RisesFrom r.step (scan_of new.ahead new.end)
GivesKept old new (Ends end) = (old.ahead ≡ []) × ((new.ahead ≡ []) × (end ≡ old.end))
