-- A slice by calls that goes alone is that of the run that it goes through.
use Rattle.std.proofs.Common.{◌≡◌, ℕ, suc, ◌||◌, Bool, true, false, not, List, [], ◌∷◌, length, replicate, Option, None}
use Rattle.std.proofs.Common.{Some, IfSome, is_some, Result, Ok, Err, if◌then◌else◌, refl, sym, ap, ap₂, ◌∙◌}
use Rattle.std.proofs.lemmas.Bool.{and_parts}
use Rattle.std.proofs.lemmas.List.{length-replicate}
use Rattle.std.specs.List.{AllByRecursion}
use Rattle.std.specs.Option.{option_map, option_or}
use Rattle.cx_slicefmt.specs.Rules.{Head}
use Rattle.cx_slices.specs.Bytes.{Byte, byte_found, is_byte, sorted}
use Rattle.cx_slices.specs.Items.{AreItems, Known, after, is_nil, start}
use Rattle.cx_slices.specs.Observed.{IsFaithful, IsPossible, IsTotal, Watch}
use Rattle.cx_slices.proofs.Bytes.{BytesRise-sorted, byte_found-sorted, rising_lists_are_one}
use Rattle.cx_slices.proofs.Missing.{BytesRise-filter, passes_at}
use Rattle.cx_slices.proofs.Small.{not_Ok}
use Rattle.cx_placing.specs.Called.{CallStanding, handed, standing_behind, step_called, still_owed}
use Rattle.cx_placing.specs.CallsAlone.{
  ArePlaced,
  IsCallSlice,
  IsHanded,
  calls_alone,
  is_settled,
  no_words_owed,
  run_called,
}
use Rattle.cx_placing.specs.Placing.{Call, CallSlice, Placed, call_with, calls_of, first_missing, head_of, placed_at, placed_from, touched_behind}
use Rattle.cx_placing.specs.Touched.{Touched, accesses, untouched}
use Rattle.cx_placing.proofs.Cells.{byte_found-kept, byte_if, kept_byte_is}
use Rattle.cx_placing.proofs.Heads.{after_keeps, found_missing, head_bytes, missing_behind}
use Rattle.cx_placing.proofs.OnlyStep.{IsStanding, items_only, none_words, owed_only, possible_only, words_are}
use Rattle.cx_placing.proofs.Went.{IsItsCall, Went, first_of_run, its_call, some_of_run, step_called-went}

-- ---- behind a head

pub IsStanding-handed : {O G : Type 0} (m : Watch O G) (w u : Known) (head : Head) → u.words ≡ w.words
    → ((a : ℕ) → u.map a ≡ w.map a) → IsHanded m.count head → IsStanding m w untouched (handed head u)
IsStanding-handed m w u head words same is = record {
  words_are = words;
  bytes_are = λ a. ap (option_or (byte_found head.bytes a)) (same a);
  size = is.words;
  new = λ new a b found. ap (λ there. not (is_byte there b)) (sym (same a))
      ∙ passes_at (λ e. not (is_byte (u.map e.0) e.1)) head.bytes a b new found;
  rises = is.bytes;
  fresh = λ a b found. refl;
  touched_are = λ a. refl;
}

-- ---- behind a step

kept_over : (left owed there : Option ℕ) (accessed : Bool) → is_some left ≡ accessed
    → option_or left (option_or owed there) ≡ option_or (byte_if (not accessed) owed) (option_or left there)
kept_over (Some b) owed there true is = refl
kept_over None owed there false is = refl
kept_over (Some b) owed there false is = cc
kept_over None owed there true is = cc

bytes_behind : {O G : Type 0} (m : Watch O G) (w : Known) (touched : Touched) (s : CallStanding) (o : O) (a : ℕ)
    → IsStanding m w touched s
    → (after m s.known o).map a ≡ option_or (byte_found (still_owed m o s.owed) a) ((after m w o).map a)
bytes_behind m w touched s o a standing = ap (option_or (byte_found (m.left o) a)) (standing.bytes_are a)
    ∙ (kept_over (byte_found (m.left o) a) (byte_found s.owed a) (w.map a) (accesses m o a) refl
    ∙ ap (λ owed. option_or owed ((after m w o).map a)) (sym (byte_found-kept (λ a. not (accesses m o a)) s.owed a)))

-- a byte that is still owed: it wasn't accessed
still_is : {O G : Type 0} (m : Watch O G) (s : CallStanding) (o : O) (a b : ℕ)
    → byte_found (still_owed m o s.owed) a ≡ Some b → (accesses m o a ≡ false) × (byte_found s.owed a ≡ Some b)
still_is m s o a b found =
    let kept : (not (accesses m o a) ≡ true) × (byte_found s.owed a ≡ Some b)
    = kept_byte_is (not (accesses m o a)) (byte_found s.owed a) b
    (sym (byte_found-kept (λ a. not (accesses m o a)) s.owed a) ∙ found) in
    (not_true (accesses m o a) kept.0, kept.1)
  where
    not_true : (t : Bool) → not t ≡ true → t ≡ false
    not_true true is = cc
    not_true false is = refl

both_false : (s t : Bool) → s ≡ false → t ≡ false → (s || t) ≡ false
both_false s t first second = rw (first, second) refl

IsStanding-behind : {O G : Type 0} (m : Watch O G) (w : Known) (touched : Touched) (s : CallStanding) (o : O)
    (called : Option ℕ) (call : Option Call) → IsStanding m w touched s → s.are_new ≡ true
    → IfSome call (λ call. IsHanded m.count call.head) → IsItsCall called call (still_owed m o s.owed)
    → IsStanding m (after m w o) (touched_behind m called o touched) (standing_behind m s o call)
IsStanding-behind m w touched s o None None standing new head its = record {
  words_are = refl;
  bytes_are = λ a. bytes_behind m w touched s o a standing;
  size = tt;
  new = λ still a b found.
      let is : (accesses m o a ≡ false) × (byte_found s.owed a ≡ Some b) = still_is m s o a b found in
      ap (λ there. not (is_byte there b)) (after_keeps m w o a is.0) ∙ standing.new new a b is.1;
  rises = BytesRise-filter (λ e. not (accesses m o e.0)) 0 s.owed standing.rises;
  fresh = λ a b found.
      let is : (accesses m o a ≡ false) × (byte_found s.owed a ≡ Some b) = still_is m s o a b found in
      both_false (touched a) (accesses m o a) (standing.fresh a b is.1) is.0;
  touched_are = λ a. ap (λ t. t || accesses m o a) (standing.touched_are a);
}
IsStanding-behind m w touched s o None (Some call) standing new head its = absurd its
IsStanding-behind m w touched s o (Some number) None standing new head its = absurd its
IsStanding-behind m w touched s o (Some number) (Some call) standing new head its =
    IsStanding-handed m (after m w o) (after m s.known o) call.head refl
    (λ a. bytes_behind m w touched s o a standing
    ∙ ap (λ es. option_or (byte_found es a) ((after m w o).map a)) its.1) head

-- ---- the run

-- Observations that are possible, with what is placed there by their calls.
pub record IsOnlyCalls {O G : Type 0} (m : Watch O G) (called : O → Option ℕ) (w : Known) (touched : Touched)
    (s : CallStanding) (ps : List (Placed G)) (os : List O) : Type 0 where
  pub possible : AllByRecursion (IsPossible m) os
  pub placed : ps ≡ placed_from m called w touched (is_some s.words) os
  pub owed : (a : ℕ) → byte_found s.owed a ≡ byte_found (first_missing m called w touched os) a
  pub own : IfSome s.words (λ words. words ≡ (head_of m called w os).words)

all_gone : {O : Type 0} (k : ℕ) (t : Bool) → ◌≡◌ {A = Result (List O) ℕ} (if t then Ok [] else Err k) (Ok [])
    → t ≡ true
all_gone k true is = refl
all_gone k false is = not_Ok k [] is

none_gone : {P O : Type 0} (k : ℕ) (t : Bool) (o : O) (os : List O)
    → ◌≡◌ {A = Result (List O) ℕ} (if t then Ok [] else Err k) (Ok (o ∷ os)) → P
none_gone k true o os is = cc
none_gone k false o os is = not_Ok k (o ∷ os) is

nothing_owed : (es : List Byte) (a : ℕ) → is_nil es ≡ true → byte_found es a ≡ None
nothing_owed [] a is = refl
nothing_owed (e ∷ es) a is = cc

own_none : (count : ℕ) (own : Option (List (Option ℕ))) → IfSome own (λ words. length words ≡ count)
    → no_words_owed own ≡ true → IfSome own (λ words. words ≡ replicate count None)
own_none count None size none = tt
own_none count (Some words) size none = none_words count words size none

at_end : {O G : Type 0} (m : Watch O G) (called : O → Option ℕ) (w : Known) (touched : Touched) (s : CallStanding)
    → IsStanding m w touched s → is_settled s ≡ true → IsOnlyCalls m called w touched s [] []
at_end m called w touched s standing settled =
    let parts : (is_nil s.owed ≡ true) × (no_words_owed s.words ≡ true)
    = and_parts (is_nil s.owed) (no_words_owed s.words) settled in
    record {
      possible = tt;
      placed = refl;
      owed = λ a. nothing_owed s.owed a parts.0;
      own = own_none m.count s.words standing.size parts.1;
    }

same_head : (g h : Head) → g.words ≡ h.words → g.bytes ≡ h.bytes → g ≡ h
same_head g h words bytes = rw (words, bytes) refl

-- a head that has the words and the bytes of these steps is theirs
its_head : {O G : Type 0} (m : Watch O G) (called : O → Option ℕ) (w : Known) (head : Head) (os : List O)
    → IsHanded m.count head → head.words ≡ (head_of m called w os).words
    → ((a : ℕ) → byte_found head.bytes a ≡ byte_found (first_missing m called w untouched os) a)
    → head ≡ head_of m called w os
its_head m called w head os is words bytes = same_head head (head_of m called w os) words
    (rising_lists_are_one 0 0 head.bytes (sorted (first_missing m called w untouched os)) is.bytes
    (BytesRise-sorted (first_missing m called w untouched os))
    (λ a. bytes a ∙ sym (byte_found-sorted (first_missing m called w untouched os) a))
    ∙ sym (head_bytes m called w os))

same_placed : {G : Type 0} (p q : Placed G) → p.items ≡ q.items → p.call ≡ q.call → p ≡ q
same_placed p q items call = rw (items, call) refl

call_only : {O G : Type 0} (m : Watch O G) (called : O → Option ℕ) (w : Known) (touched : Touched) (s : CallStanding)
    (o : O) (ps : List (Placed G)) (os : List O) (number : Option ℕ) (call : Option Call)
    → IfSome call (λ call. IsHanded m.count call.head) → IsItsCall number call (still_owed m o s.owed)
    → IsOnlyCalls m called (after m w o) (touched_behind m number o touched) (standing_behind m s o call) ps os
    → call ≡ option_map (call_with (head_of m called (after m w o) os)) number
call_only m called w touched s o ps os None None head its rest = refl
call_only m called w touched s o ps os None (Some call) head its rest = absurd its
call_only m called w touched s o ps os (Some number) None head its rest = absurd its
call_only m called w touched s o ps os (Some number) (Some call) head its rest =
    ap {B = Option Call} Some (same_call call number (sym its.0)
    (its_head m called (after m w o) call.head os head rest.own rest.owed))
  where
    same_call : (c : Call) (n : ℕ) → c.number ≡ n → c.head ≡ head_of m called (after m w o) os
        → c ≡ call_with (head_of m called (after m w o) os) n
    same_call c n number head = rw (← number, ← head) refl

-- what is missing first behind a step is what is still owed there
later_only : {O G : Type 0} (m : Watch O G) (called : O → Option ℕ) (w : Known) (touched : Touched) (s : CallStanding)
    (o : O) (ps : List (Placed G)) (os : List O) (number : Option ℕ) (call : Option Call) (a : ℕ)
    → IsItsCall number call (still_owed m o s.owed)
    → IsOnlyCalls m called (after m w o) (touched_behind m number o touched) (standing_behind m s o call) ps os
    → missing_behind m called w touched o os number a ≡ byte_found (still_owed m o s.owed) a
later_only m called w touched s o ps os None None a its rest = sym (rest.owed a)
later_only m called w touched s o ps os None (Some call) a its rest = absurd its
later_only m called w touched s o ps os (Some number) None a its rest = absurd its
later_only m called w touched s o ps os (Some number) (Some call) a its rest =
    ap (λ es. byte_found es a) (sym its.1)

-- behind its first step words stand as they would without a call
words_behind : {O G : Type 0} (m : Watch O G) (s : CallStanding) (o : O) (number : Option ℕ) (call : Option Call)
    (owed : List Byte) → IsItsCall number call owed → is_some (standing_behind m s o call).words ≡ is_some number
words_behind m s o None None owed its = refl
words_behind m s o None (Some call) owed its = absurd its
words_behind m s o (Some number) None owed its = absurd its
words_behind m s o (Some number) (Some call) owed its = refl

one_more : {O G : Type 0} (m : Watch O G) (called : O → Option ℕ) (w : Known) (touched : Touched) (s : CallStanding)
    (p : Placed G) (ps : List (Placed G)) (o : O) (os : List O) → IsFaithful m → IsTotal m → length w.words ≡ m.count
    → IsStanding m w touched s → AreItems m.count p.items → IfSome p.call (λ call. IsHanded m.count call.head)
    → Went m called s p o → s.are_new ≡ true
    → IsOnlyCalls m called (after m w o) (touched_behind m (called o) o touched) (standing_behind m s o p.call) ps os
    → IsOnlyCalls m called w touched s (p ∷ ps) (o ∷ os)
one_more m called w touched s p ps o os faithful total size standing are head went new rest =
    let its : IsItsCall (called o) p.call (still_owed m o s.owed)
    = its_call (called o) p.call (still_owed m o s.owed) went.call in
    record {
      possible = (possible_only m called w touched s p o faithful total size standing are went, rest.possible);
      placed = ap₂ (λ x xs. x ∷ xs)
          (same_placed p (record {
            items = placed_at m w touched (is_some s.words) o;
            call = option_map (call_with (head_of m called (after m w o) os)) (called o);
          }) (items_only m called w touched s p o faithful size standing are went)
          (call_only m called w touched s o ps os (called o) p.call head its rest))
          (rest.placed ∙ ap (λ first. placed_from m called (after m w o) (touched_behind m (called o) o touched) first os)
          (words_behind m s o (called o) p.call (still_owed m o s.owed) its));
      owed = λ a. owed_only m called w touched s p o a (missing_behind m called w touched o os (called o) a) faithful
          standing went new (later_only m called w touched s o ps os (called o) p.call a its rest)
          ∙ sym (found_missing m called w touched o os (called o) a faithful refl);
      own = (words_are m called w touched s p o faithful size standing are went).own;
    }

pub run_called-only : {O G : Type 0} (m : Watch O G) (called : O → Option ℕ) (k : ℕ) (w : Known) (touched : Touched)
    (s : CallStanding) (ps : List (Placed G)) (os : List O) → IsFaithful m → IsTotal m → length w.words ≡ m.count
    → IsStanding m w touched s → ArePlaced m.count ps → run_called m called k s ps ≡ Ok os
    → IsOnlyCalls m called w touched s ps os
run_called-only m called k w touched s [] [] faithful total size standing are went =
    at_end m called w touched s standing (all_gone k (is_settled s) went)
run_called-only m called k w touched s [] (o ∷ os) faithful total size standing are went =
    none_gone k (is_settled s) o os went
run_called-only m called k w touched s (p ∷ ps) [] faithful total size standing are went =
    some_of_run k (λ o. run_called m called (suc k) (standing_behind m s o p.call) ps) (step_called m called s p) went
run_called-only m called k w touched s (p ∷ ps) (o ∷ os) faithful total size standing are gone =
    let first : (step_called m called s p ≡ Some o)
    × (run_called m called (suc k) (standing_behind m s o p.call) ps ≡ Ok os)
    = first_of_run k (λ o. run_called m called (suc k) (standing_behind m s o p.call) ps) (step_called m called s p) o os
    gone in
    let went : Went m called s p o = step_called-went m called s p o first.0 in
    let new : s.are_new ≡ true = (words_are m called w touched s p o faithful size standing are.0 went).new in
    one_more m called w touched s p ps o os faithful total size standing are.0 are.1 went new
    (run_called-only m called (suc k) (after m w o) (touched_behind m (called o) o touched)
    (standing_behind m s o p.call) ps os faithful total
    (faithful.next o (possible_only m called w touched s p o faithful total size standing are.0 went))
    (IsStanding-behind m w touched s o (called o) p.call standing new are.1
    (its_call (called o) p.call (still_owed m o s.owed) went.call)) are.2 first.1)

-- ---- the slice

-- The observations are possible, and the slice is theirs.
pub record IsOnlySlice {O G : Type 0} (m : Watch O G) (called : O → Option ℕ) (slice : CallSlice G) (os : List O)
    : Type 0 where
  pub possible : AllByRecursion (IsPossible m) os
  pub slice_is : slice ≡ calls_of m called os

same_slice : {G : Type 0} (s t : CallSlice G) → s.head ≡ t.head → s.steps ≡ t.steps → s ≡ t
same_slice s t head steps = rw (head, steps) refl

pub calls_alone-only : {O G : Type 0} (m : Watch O G) (called : O → Option ℕ) (slice : CallSlice G) (os : List O)
    → IsFaithful m → IsTotal m → IsCallSlice m.count slice → calls_alone m called slice ≡ Ok os
    → IsOnlySlice m called slice os
unfolding calls_alone
calls_alone-only m called slice os faithful total is went =
    let only : IsOnlyCalls m called (start m) untouched (handed slice.head (start m)) slice.steps os
    = run_called-only m called 0 (start m) untouched (handed slice.head (start m)) slice.steps os faithful total
    (length-replicate m.count 0) (IsStanding-handed m (start m) (start m) slice.head refl (λ a. refl) is.head) is.steps
    went in
    record {
      possible = only.possible;
      slice_is = same_slice slice (calls_of m called os)
          (its_head m called (start m) slice.head os is.head only.own only.owed) only.placed;
    }
