-- A reader of a recording's text as a reader of records.
use Rattle.std.specs.Prelude.{◌≡◌, ℕ, ◌-◌, ◌==◌, ◌&&◌, Bool, true, false, IsTrue, List, [], None, Ok}
use Rattle.cx_codec.specs.Place.{Place, end_of}
use Rattle.cx_codec.specs.Reads.{over, place_in}
use Rattle.cx_log.specs.Engine.{Reading}
use Rattle.cx_log.specs.Order.{at_start}
use Rattle.cx_log.specs.Scan.{Scan, scan}
use Rattle.cx_map.specs.Bytes.{AreBytes}
use Rattle.cx_replay.specs.Records.{Seen}

-- Each record takes a byte at least. It goes on once its pages were read.
abbrev pub seen_of : Reading → Seen
seen_of r = record {
  last = r.behind.step;
  bytes = r.bytes;
  pages = r.header.pages;
  most = r.input.limit - r.input.at;
  ended = r.ended;
  live = r.input.live && r.left == 0;
}

-- where it stands in an input that begins with the bytes given so far
abbrev pub place_of : Reading → List ℕ → List ℕ → Place
place_of r given input = place_in (over r.input None given) input

-- the records from its place on; behind End there are none, and the records stop there
abbrev pub IsRest : Bool → Reading → Place → Scan → Type 0
IsRest false r p rest = rest ≡ scan r.header.pages r.behind p
IsRest true r p rest = (rest.events ≡ []) × (rest.stop ≡ Ok p)

pub record HasAhead (r : Reading) (given input : List ℕ) (end : ℕ) (rest : Scan) : Type 0 where
  pub bytes : AreBytes (place_of r given input).ahead
  pub ends : end ≡ end_of (place_of r given input)
  pub is : IsRest r.ended r (place_of r given input) rest

-- a reader that stands before the first record
pub record IsBegun (r : Reading) : Type 0 where
  pub left : r.left ≡ 0
  pub behind : r.behind ≡ at_start r.header.base r.header.start
  pub ended : r.ended ≡ false
  pub live : IsTrue r.input.live
