-- Runs from their slices by calls: how each goes alone, and that its items leave what those of a process slice leave.
use Rattle.std.proofs.Common.{◌≡◌, ℕ, suc, Bool, true, false, List, [], ◌∷◌, length, replicate, Option, None}
use Rattle.std.proofs.Common.{Some, is_some, Ok, Err, if◌then◌else◌, refl, sym, ap, ap₂, ◌∙◌}
use Rattle.std.proofs.lemmas.List.{length-replicate}
use Rattle.std.specs.List.{AllByRecursion}
use Rattle.std.specs.Option.{option_map}
use Rattle.cx_slices.specs.Bytes.{byte_found, missing, with_bytes}
use Rattle.cx_slices.specs.Items.{Known, after, items_at, start}
use Rattle.cx_slices.specs.Observed.{IsFaithful, IsPossible, IsTotal, Watch}
use Rattle.cx_slices.specs.Words.{changed}
use Rattle.cx_slices.proofs.Bytes.{Shows-at}
use Rattle.cx_slices.proofs.Missing.{Shows-missing}
use Rattle.cx_placing.specs.Alike.{GoAlike}
use Rattle.cx_placing.specs.Called.{CallStanding, handed, standing_behind, words_with}
use Rattle.cx_placing.specs.CallsAlone.{calls_alone, go_on_called, is_settled, no_words_owed, run_called, with_first}
use Rattle.cx_placing.specs.Placing.{call_with, calls_of, head_of, placed_at, placed_from, touched_behind}
use Rattle.cx_placing.specs.Touched.{Touched, untouched}
use Rattle.cx_placing.proofs.Cells.{no_bytes}
use Rattle.cx_placing.proofs.Going.{
  GoesWith,
  GoesWith-behind,
  GoesWith-handed,
  none_are_new,
  own_words,
  sights_stand,
  step_called-placed,
  words_are_items,
}

own_at_end : (count : ℕ) (first : Bool) → no_words_owed (own_words first (replicate count None)) ≡ true
own_at_end count true = none_are_new count
own_at_end count false = refl

settled : {O G : Type 0} (m : Watch O G) (called : O → Option ℕ) (w : Known) (touched : Touched) (first : Bool)
    (s : CallStanding) → GoesWith m called w touched first s [] → is_settled s ≡ true
settled m called w touched first s goes = rw (no_bytes 0 s.owed goes.rises goes.owed_are, goes.own_are)
    (own_at_end m.count first)

pub run_called-placed : {O G : Type 0} (m : Watch O G) (called : O → Option ℕ) (k : ℕ) (w : Known) (touched : Touched)
    (first : Bool) (s : CallStanding) (os : List O) → IsFaithful m → IsTotal m → length w.words ≡ m.count
    → AllByRecursion (IsPossible m) os → GoesWith m called w touched first s os
    → run_called m called k s (placed_from m called w touched first os) ≡ Ok os
run_called-placed m called k w touched first s [] faithful total size possible goes =
    ap (λ t. if t then Ok [] else Err k) (settled m called w touched first s goes)
run_called-placed m called k w touched first s (o ∷ os) faithful total size possible goes =
    ap (go_on_called k (λ p. run_called m called (suc k)
    (standing_behind m s p (option_map (call_with (head_of m called (after m w o) os)) (called o)))
    (placed_from m called (after m w o) (touched_behind m (called o) o touched) (is_some (called o)) os)))
    (step_called-placed m called w touched first s o os faithful total size possible.0 goes)
    ∙ ap (with_first o) (run_called-placed m called (suc k) (after m w o) (touched_behind m (called o) o touched)
    (is_some (called o))
    (standing_behind m s o (option_map (call_with (head_of m called (after m w o) os)) (called o))) os faithful total
    (faithful.next o possible.0) possible.1
    (GoesWith-behind m called w touched first s o os (called o) faithful refl goes))

pub calls_alone-calls_of : {O G : Type 0} (m : Watch O G) (called : O → Option ℕ) (os : List O) → IsFaithful m
    → IsTotal m → AllByRecursion (IsPossible m) os → calls_alone m called (calls_of m called os) ≡ Ok os
unfolding calls_alone
calls_alone-calls_of m called os faithful total possible = run_called-placed m called 0 (start m) untouched true
    (handed (head_of m called (start m) os) (start m)) os faithful total (length-replicate m.count 0) possible
    (GoesWith-handed m called (start m) (start m) os faithful refl (λ a. refl))

-- ---- alike

words_alike : {O G : Type 0} (m : Watch O G) (called : O → Option ℕ) (w : Known) (touched : Touched) (first : Bool)
    (s : CallStanding) (o : O) (os : List O) → GoesWith m called w touched first s (o ∷ os)
    → changed s.known.words (words_with s.words (placed_at m w touched first o).words)
    ≡ changed w.words (items_at m w o).words
words_alike m called w touched first s o os goes =
    ap₂ changed goes.words_are (words_are_items m called w touched first s o os goes)

bytes_alike : {O G : Type 0} (m : Watch O G) (called : O → Option ℕ) (w : Known) (touched : Touched) (first : Bool)
    (s : CallStanding) (o : O) (os : List O) (a : ℕ) → IsFaithful m → GoesWith m called w touched first s (o ∷ os)
    → is_some (byte_found (m.seen o) a) ≡ true
    → with_bytes (placed_at m w touched first o).bytes s.known.map a ≡ with_bytes (items_at m w o).bytes w.map a
bytes_alike m called w touched first s o os a faithful goes there = by_found (byte_found (m.seen o) a) refl there
  where
    by_found : (found : Option ℕ) → byte_found (m.seen o) a ≡ found → is_some found ≡ true
        → with_bytes (placed_at m w touched first o).bytes s.known.map a ≡ with_bytes (items_at m w o).bytes w.map a
    by_found None is some = cc
    by_found (Some b) is some = sights_stand m called w touched first s o os a b faithful goes is
        ∙ sym (Shows-at (with_bytes (missing w.map (m.seen o)) w.map) (m.seen o) a b
        (Shows-missing w.map (m.seen o) (faithful.rises o)) is)

pub placed_alike : {O G : Type 0} (m : Watch O G) (called : O → Option ℕ) (w : Known) (touched : Touched)
    (first : Bool) (s : CallStanding) (os : List O) → IsFaithful m → GoesWith m called w touched first s os
    → GoAlike m s w (placed_from m called w touched first os) os
placed_alike m called w touched first s [] faithful goes = tt
placed_alike m called w touched first s (o ∷ os) faithful goes = (
  record {
    words = words_alike m called w touched first s o os goes;
    bytes = λ a there. bytes_alike m called w touched first s o os a faithful goes there;
    given = refl;
  },
  placed_alike m called (after m w o) (touched_behind m (called o) o touched) (is_some (called o))
      (standing_behind m s o (option_map (call_with (head_of m called (after m w o) os)) (called o))) os faithful
      (GoesWith-behind m called w touched first s o os (called o) faithful refl goes),
)
