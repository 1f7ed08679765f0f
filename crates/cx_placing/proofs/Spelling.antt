-- The slice of a run by its calls can be handed to it.
use Rattle.std.proofs.Common.{◌≡◌, ℕ, Bool, true, false, List, [], ◌∷◌, length, Option, None, Some, IfSome}
use Rattle.std.proofs.Common.{is_some, sym, ◌∙◌}
use Rattle.std.proofs.lemmas.List.{length-replicate}
use Rattle.std.specs.List.{AllByRecursion}
use Rattle.std.specs.Option.{option_map}
use Rattle.cx_slices.specs.Bytes.{missing}
use Rattle.cx_slices.specs.Items.{AreItems, Known, after, start}
use Rattle.cx_slices.specs.Observed.{IsFaithful, IsPossible, Watch}
use Rattle.cx_slices.specs.Words.{changes}
use Rattle.cx_slices.proofs.Missing.{BytesRise-filter, BytesRise-missing}
use Rattle.cx_slices.proofs.Words.{length-changes}
use Rattle.cx_placing.specs.CallsAlone.{ArePlaced, IsCallSlice, IsHanded}
use Rattle.cx_placing.specs.Placing.{
  call_with,
  calls_of,
  head_of,
  placed_at,
  placed_from,
  touched_behind,
  words_placed,
}
use Rattle.cx_placing.specs.Touched.{Touched, untouched}
use Rattle.cx_placing.proofs.Heads.{head_rises}

head_words : {O G : Type 0} (m : Watch O G) (called : O → Option ℕ) (w : Known) (os : List O)
    → length w.words ≡ m.count → AllByRecursion (IsPossible m) os → length (head_of m called w os).words ≡ m.count
head_words m called w [] size possible = length-replicate m.count None
head_words m called w (o ∷ os) size possible =
    length-changes w.words (m.words o) (size ∙ sym possible.0.count) ∙ possible.0.count

head_is_handed : {O G : Type 0} (m : Watch O G) (called : O → Option ℕ) (w : Known) (os : List O)
    → length w.words ≡ m.count → AllByRecursion (IsPossible m) os → IsHanded m.count (head_of m called w os)
head_is_handed m called w os size possible =
    record { words = head_words m called w os size possible; bytes = head_rises m called w os }

placed_size : (count : ℕ) (first : Bool) (words : List (Option ℕ)) → length words ≡ count
    → length (words_placed count first words) ≡ count
placed_size count true words size = length-replicate count None
placed_size count false words size = size

placed_items : {O G : Type 0} (m : Watch O G) (w : Known) (touched : Touched) (first : Bool) (o : O) → IsFaithful m
    → length w.words ≡ m.count → IsPossible m o → AreItems m.count (placed_at m w touched first o)
placed_items m w touched first o faithful size possible = record {
  words = placed_size m.count first (changes w.words (m.words o))
      (length-changes w.words (m.words o) (size ∙ sym possible.count) ∙ possible.count);
  bytes = BytesRise-filter (λ e. touched e.0) 0 (missing w.map (m.seen o))
      (BytesRise-missing w.map (m.seen o) (faithful.rises o));
}

call_is_handed : {O G : Type 0} (m : Watch O G) (called : O → Option ℕ) (w : Known) (os : List O) (number : Option ℕ)
    → length w.words ≡ m.count → AllByRecursion (IsPossible m) os
    → IfSome (option_map (call_with (head_of m called w os)) number) (λ call. IsHanded m.count call.head)
call_is_handed m called w os None size possible = tt
call_is_handed m called w os (Some number) size possible = head_is_handed m called w os size possible

are_placed : {O G : Type 0} (m : Watch O G) (called : O → Option ℕ) (w : Known) (touched : Touched) (first : Bool)
    (os : List O) → IsFaithful m → length w.words ≡ m.count → AllByRecursion (IsPossible m) os
    → ArePlaced m.count (placed_from m called w touched first os)
are_placed m called w touched first [] faithful size possible = tt
are_placed m called w touched first (o ∷ os) faithful size possible = (
  placed_items m w touched first o faithful size possible.0,
  call_is_handed m called (after m w o) os (called o) (faithful.next o possible.0) possible.1,
  are_placed m called (after m w o) (touched_behind m (called o) o touched) (is_some (called o)) os faithful
      (faithful.next o possible.0) possible.1,
)

pub IsCallSlice-calls_of : {O G : Type 0} (m : Watch O G) (called : O → Option ℕ) (os : List O) → IsFaithful m
    → AllByRecursion (IsPossible m) os → IsCallSlice m.count (calls_of m called os)
IsCallSlice-calls_of m called os faithful possible = record {
  head = head_is_handed m called (start m) os (length-replicate m.count 0) possible;
  steps = are_placed m called (start m) untouched true os faithful (length-replicate m.count 0) possible;
}
