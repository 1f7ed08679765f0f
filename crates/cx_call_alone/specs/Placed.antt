-- The steps of a call slice by their records.
use Rattle.std.specs.Prelude.{◌≡◌, ℕ, zero, suc, ◌≤◌, ◌<◌, ◌==◌, List, [], ◌∷◌, length, None, Some}
use Rattle.std.specs.Prelude.{if◌then◌else◌}
use Rattle.std.specs.List.{AllByRecursion}
use Rattle.cx_placing.specs.Placing.{Placed}
use Rattle.cx_placing.specs.Records.{Async, Calls, Record, Value, What}
use Rattle.cx_slices.specs.Items.{no_items}

abbrev pub nothing_placed : ℕ → Placed ℕ
nothing_placed count = record { items = no_items count; call = None }

-- a step with what a record tells of it
abbrev pub told : Placed ℕ → What → Placed ℕ
told p (Async head) =
    record { items = record { words = head.words; bytes = head.bytes; given = p.items.given }; call = p.call }
told p (Value word) =
    record { items = record { words = p.items.words; bytes = p.items.bytes; given = Some word }; call = p.call }
told p (Calls number head) = record { items = p.items; call = Some (record { number = number; head = head }) }

-- a step of an index with what these records tell of it
abbrev pub placed_with : ℕ → Placed ℕ → List Record → Placed ℕ
placed_with k p [] = p
placed_with k p (r ∷ rs) = placed_with k (if r.index == k then told p r.what else p) rs

-- the step of an index, whose items are so many words or none, and bytes
abbrev pub placed_of : ℕ → ℕ → List Record → Placed ℕ
placed_of count k rs = placed_with k (nothing_placed count) rs

-- so many steps from an index on
abbrev pub placed_between : ℕ → ℕ → ℕ → List Record → List (Placed ℕ)
placed_between count k zero rs = []
placed_between count k (suc n) rs = placed_of count k rs ∷ placed_between count (suc k) n rs

-- None of these records stands below an index, or none from it on.
abbrev pub RecordsFrom : ℕ → List Record → Type 0
RecordsFrom least [] = Unit {0}
RecordsFrom least (r ∷ rs) = (least ≤ r.index) × RecordsFrom least rs

abbrev pub RecordsBelow : ℕ → List Record → Type 0
RecordsBelow bound [] = Unit {0}
RecordsBelow bound (r ∷ rs) = (r.index < bound) × RecordsBelow bound rs

-- Each step has so many words or none.
abbrev pub AreWide : ℕ → List (Placed ℕ) → Type 0
AreWide count ps = AllByRecursion (λ p. length p.items.words ≡ count) ps
