-- What can be sliced can be spelled by its calls: its numbers are words and bytes, and its text isn't past the widest
-- input.
use Rattle.std.proofs.Common.{◌≡◌, ℕ, zero, suc, ◌+◌, ◌*◌, ◌^◌, ◌<◌, ◌≤◌, ◌==◌, Bool, true, false, not}
use Rattle.std.proofs.Common.{List, [], ◌∷◌, ◌++◌, length, replicate, slice_index, is_some}
use Rattle.std.proofs.Common.{Option, None, Some, IfSome, option_map, arith}
use Rattle.std.proofs.Common.{length-append}
use Rattle.std.proofs.lemmas.Bool.{and_parts, cond_both, ltb-true}
use Rattle.std.specs.List.{AllByRecursion}
use Rattle.cx_callfmt.specs.Steps.{CallFits, PlacedFits, SliceFits, text_of_calls}
use Rattle.cx_callfmt.proofs.Sizes.{bytes_placed, calls_few}
use Rattle.cx_callfmt.proofs.Spelled.{head_spelled}
use Rattle.cx_calls.specs.Calling.{called}
use Rattle.cx_calls.proofs.Growing.{steps_from}
use Rattle.cx_observe.specs.Possible.{Possible, are_words, is_word}
use Rattle.cx_observe.specs.Seeing.{seen_by}
use Rattle.cx_observe.specs.User.{user}
use Rattle.cx_observe.specs.declared.obs.Obs.{Obs}
use Rattle.cx_observe.proofs.Faithful.{user_is_faithful}
use Rattle.cx_observe.proofs.Fitting.{both_fit, each_fits, few_items, length-filter, length-sorted, sorted_fit}
use Rattle.cx_observe.proofs.Programs.{all_by_themselves}
use Rattle.cx_placing.specs.CallsAlone.{ArePlaced, IsCallSlice, IsHanded}
use Rattle.cx_placing.specs.Placing.{CallSlice, call_with, calls_of, first_missing, head_of, placed_at, placed_from}
use Rattle.cx_placing.specs.Placing.{touched_behind, up_to_call, words_placed}
use Rattle.cx_placing.specs.Touched.{Touched, first_touched, touched_again, touching, untouched}
use Rattle.cx_placing.proofs.Spelling.{IsCallSlice-calls_of}
use Rattle.cx_slicefmt.specs.Rules.{Head, head_in}
use Rattle.cx_slicefmt.proofs.Entries.{given_fits}
use Rattle.cx_slices.specs.Bytes.{Byte, missing, stands}
use Rattle.cx_slices.specs.Items.{IsByteAt, IsWordOrNone, Known, ObservationFits, after, start}
use Rattle.cx_slices.specs.Words.{changes}
use Rattle.cx_slices.proofs.Missing.{filter_fit}
use Rattle.cx_slices.proofs.Words.{changes_fit}
use Rattle.cx_commands.specs.Observed.{has_observation}
use Rattle.cx_commands.specs.Slicing.{CanBeSliced}

abbrev Fit : List Obs → Type 0
Fit os = AllByRecursion (ObservationFits user is_word) os

-- ---- what is handed over

missing_fit : (w : Known) (o : Obs) → ObservationFits user is_word o → AllByRecursion IsByteAt (missing w.map (seen_by o))
missing_fit w o fits = filter_fit (λ e. not (stands w.map e)) (seen_by o) fits.bytes

up_to_fit : (call : Option ℕ) (rest : List Byte) → AllByRecursion IsByteAt rest
    → AllByRecursion IsByteAt (up_to_call call rest)
up_to_fit None rest fit = fit
up_to_fit (Some number) rest fit = tt

first_fit : (w : Known) (touched : Touched) (os : List Obs) → Fit os
    → AllByRecursion IsByteAt (first_missing user called w touched os)
first_fit w touched [] fit = tt
first_fit w touched (o ∷ os) fit =
    let rest : List Byte = first_missing user called (after user w o) (touching user o touched) os in
    both_fit (first_touched touched (missing w.map (seen_by o))) (up_to_call (called o) rest)
    (filter_fit (λ e. not (touched e.0)) (missing w.map (seen_by o)) (missing_fit w o fit.0))
    (up_to_fit (called o) rest (first_fit (after user w o) (touching user o touched) os fit.1))

no_words_fit : (count : ℕ) → AllByRecursion IsWordOrNone (replicate count None)
no_words_fit zero = tt
no_words_fit (suc count) = (tt, no_words_fit count)

words_fit : (w : Known) (os : List Obs) → Fit os → AllByRecursion IsWordOrNone (head_of user called w os).words
words_fit w [] fit = no_words_fit 32
words_fit w (o ∷ os) fit = changes_fit w.words (user.words o) fit.0.words

bytes_fit : (w : Known) (os : List Obs) → Fit os → AllByRecursion IsByteAt (head_of user called w os).bytes
bytes_fit w [] fit = tt
bytes_fit w (o ∷ os) fit = sorted_fit (first_missing user called w untouched (o ∷ os)) (first_fit w untouched (o ∷ os) fit)

-- ---- what stays at its step

placed_words_fit : (first : Bool) (words : List (Option ℕ)) → AllByRecursion IsWordOrNone words
    → AllByRecursion IsWordOrNone (words_placed 32 first words)
placed_words_fit true words fit = no_words_fit 32
placed_words_fit false words fit = fit

word_at : (ws : List ℕ) (n : ℕ) → are_words ws ≡ true → slice_index ws n < 2 ^ 32
word_at [] n are = omega arith
word_at (w ∷ ws) zero are = ltb-true w (2 ^ 32) (and_parts (is_word w) (are_words ws) are).0
word_at (w ∷ ws) (suc n) are = word_at ws n (and_parts (is_word w) (are_words ws) are).1

number_fits : (o : Obs) → Possible o → IfSome (called o) (λ number. number < 2 ^ 32)
number_fits o possible = cond_both (o.word == 0x73) (Some (slice_index o.x 17)) None
    (λ call. IfSome call (λ number. number < 2 ^ 32)) (λ is. word_at o.x 17 possible.words) (λ other. tt)

call_fits : (head : Head) (call : Option ℕ) → IfSome call (λ number. number < 2 ^ 32)
    → AllByRecursion IsWordOrNone head.words → AllByRecursion IsByteAt head.bytes
    → IfSome (option_map (call_with head) call) (λ call. IsHanded 32 call.head)
    → IfSome (option_map (call_with head) call) CallFits
call_fits head None number words bytes is = tt
call_fits head (Some n) number words bytes is =
    record { number = number; head = head_spelled head is.words words is.bytes bytes }

steps_fit : (w : Known) (touched : Touched) (first : Bool) (os : List Obs) → AllByRecursion Possible os → Fit os
    → ArePlaced 32 (placed_from user called w touched first os)
    → AllByRecursion PlacedFits (placed_from user called w touched first os)
steps_fit w touched first [] possible fit placed = tt
steps_fit w touched first (o ∷ os) possible fit placed = (
  record {
    head = head_spelled (head_in (placed_at user w touched first o)) placed.0.words
        (placed_words_fit first (changes w.words (user.words o)) (changes_fit w.words (user.words o) fit.0.words))
        placed.0.bytes (filter_fit (λ e. touched e.0) (missing w.map (seen_by o)) (missing_fit w o fit.0));
    given = given_fits o.value fit.0.given;
    call = call_fits (head_of user called (after user w o) os) (called o) (number_fits o possible.0)
        (words_fit (after user w o) os fit.1) (bytes_fit (after user w o) os fit.1) placed.1;
  },
  steps_fit (after user w o) (touched_behind user (called o) o touched) (is_some (called o)) os possible.1 fit.1
      placed.2,
)

-- ---- how many bytes

first_few : (w : Known) (touched : Touched) (o : Obs) → Possible o
    → length (first_touched touched (missing w.map (seen_by o))) ≤ 8
first_few w touched o possible = omega (
  arith,
  few_items w o possible,
  length-filter (λ e. not (touched e.0)) (missing w.map (seen_by o)),
)

again_few : (w : Known) (touched : Touched) (o : Obs) → Possible o
    → length (touched_again touched (missing w.map (seen_by o))) ≤ 8
again_few w touched o possible = omega (
  arith,
  few_items w o possible,
  length-filter (λ e. touched e.0) (missing w.map (seen_by o)),
)

head_few : (w : Known) (os : List Obs)
    → length (head_of user called w os).bytes ≤ length (first_missing user called w untouched os)
head_few w [] = omega arith
head_few w (o ∷ os) = length-sorted (first_missing user called w untouched (o ∷ os))

-- the bytes up to the next call, those at their steps, and those of all calls
bytes_few : (w : Known) (touched : Touched) (first : Bool) (os : List Obs) → AllByRecursion Possible os
    → length (first_missing user called w touched os) + bytes_placed (placed_from user called w touched first os)
    ≤ 16 * length os
bytes_few w touched first [] possible = omega arith
bytes_few w touched first (o ∷ os) possible = by_call (called o)
    (λ t f. bytes_few (after user w o) t f os possible.1)
  where
    now : List Byte
    now = first_touched touched (missing w.map (seen_by o))

    next : Known
    next = after user w o

    by_call : (call : Option ℕ)
        → ((t : Touched) (f : Bool)
        → length (first_missing user called next t os) + bytes_placed (placed_from user called next t f os)
        ≤ 16 * length os)
        → length (now ++ up_to_call call (first_missing user called next (touching user o touched) os))
        + bytes_placed (record {
          items = placed_at user w touched first o;
          call = option_map (call_with (head_of user called next os)) call;
        } ∷ placed_from user called next (touched_behind user call o touched) (is_some call) os) ≤ 16 * suc (length os)
    by_call None rest = omega (
      arith,
      length-append now (first_missing user called next (touching user o touched) os),
      first_few w touched o possible.0,
      again_few w touched o possible.0,
      rest (touching user o touched) false,
    )
    by_call (Some number) rest = omega (
      arith,
      length-append now [],
      first_few w touched o possible.0,
      again_few w touched o possible.0,
      head_few next os,
      rest untouched true,
    )

-- ---- the slice

pub length-steps : (os : List Obs) → length (calls_of user called os).steps ≡ length os
length-steps os = steps_from (start user) untouched true os

some_steps : (os : List Obs) → has_observation os ≡ true → 1 ≤ length os
some_steps [] some = cc
some_steps (o ∷ os) some = omega arith

-- It fits, has as many steps as there are observations, and can be read back.
pub record CallsFit (os : List Obs) : Type 0 where
  pub is : IsCallSlice 32 (calls_of user called os)
  pub fits : SliceFits (calls_of user called os)
  pub count : length (calls_of user called os).steps ≡ length os
  pub some : 1 ≤ length (calls_of user called os).steps
  pub most : length (calls_of user called os).steps ≤ 2 ^ 48
  pub few : length (text_of_calls (calls_of user called os)) ≤ 2 ^ 60

pub calls_fit : (os : List Obs) → CanBeSliced os → CallsFit os
calls_fit os can =
    let slice : CallSlice ℕ = calls_of user called os in
    let is : IsCallSlice 32 slice =
    IsCallSlice-calls_of user called os user_is_faithful (all_by_themselves os can.possible) in
    let fit = each_fits os can.possible in
    let count : length slice.steps ≡ length os = length-steps os in
    record {
      is = is;
      fits = record {
        head = head_spelled slice.head is.head.words (words_fit (start user) os fit) is.head.bytes
            (bytes_fit (start user) os fit);
        steps = steps_fit (start user) untouched true os can.possible fit is.steps;
      };
      count = count;
      some = omega (arith, count, some_steps os can.some);
      most = omega (arith, count, can.few);
      few = omega (
        arith,
        calls_few slice is,
        bytes_few (start user) untouched true os can.possible,
        head_few (start user) os,
        count,
        can.few,
      );
    }
