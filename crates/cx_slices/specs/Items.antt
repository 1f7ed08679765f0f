-- What has to be handed to a run before a step, so that it goes on alone.
use Rattle.std.specs.Prelude.{◌≡◌, ℕ, ◌<◌, ◌^◌, ◌&&◌, Bool, true, false, List, [], ◌∷◌, length, replicate, Option}
use Rattle.std.specs.Prelude.{None, IfSome, is_none}
use Rattle.std.specs.List.{list_all, AllByRecursion}
use Rattle.cx_slices.specs.Bytes.{Byte, BytesRise, Map, missing, nothing, with_bytes}
use Rattle.cx_slices.specs.Observed.{Watch}
use Rattle.cx_slices.specs.Words.{changes}

-- new words, bytes in rising order, and what comes from outside
pub record Items (G : Type 0) : Type 0 where
  pub words : List (Option ℕ)
  pub bytes : List Byte
  pub given : Option G

-- what stands before a step, as far as the observations so far tell
pub record Known : Type 0 where
  pub words : List ℕ
  pub map : Map

abbrev pub start : {O G : Type 0} → Watch O G → Known
start m = record { words = replicate m.count 0; map = nothing }

-- what is known behind an observation
abbrev pub after : {O G : Type 0} → Watch O G → Known → O → Known
after m w o = record { words = m.next o; map = with_bytes (m.left o) w.map }

-- what is known behind a run
abbrev pub known_at : {O G : Type 0} → Watch O G → Known → List O → Known
known_at m w [] = w
known_at m w (o ∷ os) = known_at m (after m w o) os

-- The items before a step: each word that isn't the one that stands, each byte seen that doesn't stand, and what is
-- given.
abbrev pub items_at : {O G : Type 0} → Watch O G → Known → O → Items G
items_at m w o =
    record { words = changes w.words (m.words o); bytes = missing w.map (m.seen o); given = m.given o }

-- the items before each step of a run
abbrev pub items_of : {O G : Type 0} → Watch O G → Known → List O → List (Items G)
items_of m w [] = []
items_of m w (o ∷ os) = items_at m w o ∷ items_of m (after m w o) os

-- ---- items that a slice can hold

pub record AreItems {G : Type 0} (count : ℕ) (i : Items G) : Type 0 where
  pub words : length i.words ≡ count
  pub bytes : BytesRise 0 i.bytes

abbrev pub no_items : {G : Type 0} → ℕ → Items G
no_items count = record { words = replicate count None; bytes = []; given = None }

abbrev pub is_nil : List Byte → Bool
is_nil [] = true
is_nil (e ∷ es) = false

abbrev pub are_none : {G : Type 0} → Items G → Bool
are_none i = list_all is_none i.words && (is_nil i.bytes && is_none i.given)

-- ---- items of 32-bit words and of bytes

abbrev pub IsWordOrNone : Option ℕ → Type 0
IsWordOrNone o = IfSome o (λ word. word < 2 ^ 32)

abbrev pub IsByteAt : Byte → Type 0
IsByteAt e = (e.0 < 2 ^ 32) × (e.1 < 256)

-- The test says which of what can be given fits.
pub record ItemsFit {G : Type 0} (fits : G → Bool) (i : Items G) : Type 0 where
  pub words : AllByRecursion IsWordOrNone i.words
  pub bytes : AllByRecursion IsByteAt i.bytes
  pub given : IfSome i.given (λ given. fits given ≡ true)

-- an observation of 32-bit words and of bytes
pub record ObservationFits {O G : Type 0} (m : Watch O G) (fits : G → Bool) (o : O) : Type 0 where
  pub words : AllByRecursion (λ word. word < 2 ^ 32) (m.words o)
  pub bytes : AllByRecursion IsByteAt (m.seen o)
  pub given : IfSome (m.given o) (λ given. fits given ≡ true)
