-- A run that is watched, as far as its observations tell.
use Rattle.std.specs.Prelude.{◌≡◌, ℕ, Bool, true, List, [], length, Option, Some, is_some}
use Rattle.std.specs.List.{list_all}
use Rattle.cx_slices.specs.Bytes.{Byte, Map, BytesRise, Shows, byte_found, lacks}

-- What an observation tells: the words before the step, the bytes that it saw, in rising order, the addresses that it
-- took as not there, and what it was given from outside. A G is something given. And what it leaves: the words behind
-- the step, and the bytes, of several at one address the first. A step alone makes an observation of words, bytes and
-- what is given, or none where they don't fit.
pub record Watch (O G : Type 0) : Type 0 where
  pub count : ℕ
  pub words : O → List ℕ
  pub seen : O → List Byte
  pub absent : O → List (List ℕ)
  pub given : O → Option G
  pub next : O → List ℕ
  pub left : O → List Byte
  pub step : List ℕ → Map → Option G → Option O

-- What the observation took as not there isn't: each of these stretches has an address without a byte.
abbrev pub misses : {O G : Type 0} → Watch O G → Map → O → Bool
misses m map o = list_all (lacks map) (m.absent o)

-- An observation that the step makes of what the observation itself tells.
pub record IsPossible {O G : Type 0} (m : Watch O G) (o : O) : Type 0 where
  pub count : length (m.words o) ≡ m.count
  pub goes : m.step (m.words o) (byte_found (m.seen o)) (m.given o) ≡ Some o

-- A step takes the words, the bytes and what is given that its observation tells, finds no byte where its observation
-- tells of none, and takes nothing else.
pub record IsFaithful {O G : Type 0} (m : Watch O G) : Type 0 where
  pub words : (words : List ℕ) (map : Map) (given : Option G) (o : O) → length words ≡ m.count
      → m.step words map given ≡ Some o → words ≡ m.words o
  pub given : (words : List ℕ) (map : Map) (given : Option G) (o : O) → m.step words map given ≡ Some o
      → given ≡ m.given o
  pub seen : (words : List ℕ) (map : Map) (given : Option G) (o : O) → m.step words map given ≡ Some o
      → Shows map (m.seen o)
  pub absent : (words : List ℕ) (map : Map) (given : Option G) (o : O) → m.step words map given ≡ Some o
      → misses m map o ≡ true
  pub local : (words : List ℕ) (map other : Map) (given : Option G) (o : O) → length words ≡ m.count
      → m.step words map given ≡ Some o → Shows other (m.seen o) → misses m other o ≡ true
      → m.step words other given ≡ Some o
  pub next : (o : O) → IsPossible m o → length (m.next o) ≡ m.count
  pub rises : (o : O) → BytesRise 0 (m.seen o)
  pub leaves : (o : O) (a : ℕ) → is_some (byte_found (m.seen o) a) ≡ true → is_some (byte_found (m.left o) a) ≡ true

-- No observation takes anything as not there.
pub record IsTotal {O G : Type 0} (m : Watch O G) : Type 0 where
  pub none : (o : O) → m.absent o ≡ []
