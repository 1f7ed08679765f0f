-- What is owed and touched once a step accesses bytes one by one.
use Rattle.std.proofs.Common.{◌≡◌, ℕ, ◌+◌, ◌-◌, ◌<◌, ◌==◌, ◌&&◌, ◌||◌, Bool, true, false, not, ◌⊎◌, inl, inr}
use Rattle.std.proofs.Common.{List, [], ◌∷◌, ◌++◌, take, length, Some, None, is_some, if◌then◌else◌}
use Rattle.std.proofs.Common.{eq-eqb, ne_eqb, refl, sym, ap, subst, ◌∙◌}
use Rattle.std.specs.Prelude.{slice_index_or}
use Rattle.std.proofs.lemmas.Bool.{cases_eq}
use Rattle.std.proofs.lemmas.List.{take_more}
use Rattle.cx_marks.specs.Marked.{is_marked}
use Rattle.cx_marks.specs.declared.marks.Marks.{Marks}
use Rattle.cx_slices.specs.Bytes.{Byte, byte_found}
use Rattle.cx_call_alone.specs.Owed.{Owes, marked_met, owed_behind, without}
use Rattle.cx_observe.specs.Seeing.{bytes_shown, left_by, seen_by}
use Rattle.cx_observe.specs.User.{user}
use Rattle.cx_observe.specs.declared.obs.Obs.{Obs}
use Rattle.cx_placing.specs.Called.{all_met}
use Rattle.cx_call_alone.specs.Standing.{owed_marks}
use Rattle.cx_call_alone.proofs.Owed.{found_push, met_is, none_left, not_owed, owed_behind-push, taken_off}

pub none_accessed : (t : Marks) (a : ℕ) → is_marked t a ≡ (is_marked t a || is_some (byte_found [] a))
none_accessed t a = by_test (is_marked t a)
  where
    by_test : (b : Bool) → b ≡ (b || false)
    by_test true = refl
    by_test false = refl

pub all_accessed : (head t : Marks) (count : ℕ) (owed : List Byte) → Owes (owed_marks head t) count owed
    → Owes (owed_marks head t) count (owed_behind [] owed)
all_accessed head t count owed owes = subst (λ es. Owes (owed_marks head t) count es) (sym (none_left owed)) owes

either_again : (x y z : Bool) → ((x || y) || z) ≡ (x || (y || z))
either_again true y z = refl
either_again false y z = refl

found_one : (f : Byte) (a : ℕ) → is_some (byte_found (f ∷ []) a) ≡ (f.0 == a)
found_one f a = by_test (f.0 == a)
  where
    by_test : (t : Bool) → is_some (if t then Some f.1 else None) ≡ t
    by_test true = refl
    by_test false = refl

pub marked_more : (t0 t t2 : Marks) (bytes : List Byte) (i a : ℕ) → i < length bytes
    → ((a : ℕ) → is_marked t a ≡ (is_marked t0 a || is_some (byte_found (take i bytes) a)))
    → ((a : ℕ) → is_marked t2 a
    ≡ (is_marked t a || is_some (byte_found (slice_index_or bytes i (0, 0) ∷ []) a)))
    → is_marked t2 a ≡ (is_marked t0 a || is_some (byte_found (take (i + 1) bytes) a))
marked_more t0 t t2 bytes i a within was now =
    let f : Byte = slice_index_or bytes i (0, 0) in
    now a
    ∙ (ap (λ (x : Bool). x || is_some (byte_found (f ∷ []) a)) (was a)
    ∙ (ap (λ (x : Bool). (is_marked t0 a || is_some (byte_found (take i bytes) a)) || x) (found_one f a)
    ∙ (either_again (is_marked t0 a) (is_some (byte_found (take i bytes) a)) (f.0 == a)
    ∙ (ap (λ (x : Bool). is_marked t0 a || x) (sym (found_push (take i bytes) f a))
    ∙ ap (λ es. is_marked t0 a || is_some (byte_found es a)) (sym (take_more bytes i (0, 0) within))))))

-- ---- what is owed

same_owed : (marks marks2 : ℕ → Bool) (count count2 : ℕ) (owed : List Byte) → Owes marks count owed
    → ((a : ℕ) → marks2 a ≡ marks a) → count2 ≡ count → Owes marks2 count2 owed
same_owed marks marks2 count count2 owed owes same is = record {
  rises = owes.rises;
  marked = λ a. same a ∙ owes.marked a;
  size = is ∙ owes.size;
}

one_accessed : (h t t2 : ℕ → Bool) (f : Byte) (count count2 : ℕ) (owed : List Byte) (here : Bool)
    → Owes (λ a. h a && not (t a)) count owed → (h f.0 && not (t f.0)) ≡ here
    → count2 ≡ (if here then count - 1 else count) → ((a : ℕ) → t2 a ≡ (t a || (f.0 == a)))
    → Owes (λ a. h a && not (t2 a)) count2 (without f.0 owed)
one_accessed h t t2 f count count2 owed here owes is size now = by_test here is size
  where
    gone : (h f.0 && not (t2 f.0)) ≡ false
    gone = ap (λ (x : Bool). h f.0 && not x) (now f.0 ∙ ap (λ (x : Bool). t f.0 || x) (eq-eqb f.0 f.0 refl))
        ∙ by_two (h f.0) (t f.0)
      where
        by_two : (x y : Bool) → (x && not (y || true)) ≡ false
        by_two true true = refl
        by_two true false = refl
        by_two false y = refl

    others : (c : ℕ) → (c ≡ f.0 → ⊥) → (h c && not (t2 c)) ≡ (h c && not (t c))
    others c other = ap (λ (x : Bool). h c && not x)
        (now c ∙ (ap (λ (x : Bool). t c || x) (ne_eqb f.0 c (λ same. other (sym same))) ∙ or_false (t c)))
      where
        or_false : (x : Bool) → (x || false) ≡ x
        or_false true = refl
        or_false false = refl

    same : (h f.0 && not (t f.0)) ≡ false → (a : ℕ) → (f.0 ≡ a) ⊎ (f.0 ≡ a → ⊥)
        → (h a && not (t2 a)) ≡ (h a && not (t a))
    same free a (inl at) =
        subst (λ (n : ℕ). (h n && not (t2 n)) ≡ (h n && not (t n))) at (gone ∙ sym free)
    same free a (inr other) = others a (λ at. other (sym at))

    by_test : (b : Bool) → (h f.0 && not (t f.0)) ≡ b → count2 ≡ (if b then count - 1 else count)
        → Owes (λ a. h a && not (t2 a)) count2 (without f.0 owed)
    by_test true marked less = taken_off f.0 count count2 (λ a. h a && not (t a)) (λ a. h a && not (t2 a)) owed owes
        marked gone others less
    by_test false free less = subst (λ es. Owes (λ a. h a && not (t2 a)) count2 es)
        (sym (not_owed f.0 count (λ a. h a && not (t a)) owed owes free))
        (same_owed (λ a. h a && not (t a)) (λ a. h a && not (t2 a)) count count2 owed owes
        (λ a. same free a (cases_eq f.0 a)) less)

pub accessed_more : (head t t2 : Marks) (bytes : List Byte) (i left left2 : ℕ) (owed : List Byte) (here : Bool)
    → i < length bytes → Owes (owed_marks head t) left (owed_behind (take i bytes) owed)
    → here ≡ owed_marks head t (slice_index_or bytes i (0, 0)).0 → left2 ≡ (if here then left - 1 else left)
    → ((a : ℕ) → is_marked t2 a
    ≡ (is_marked t a || is_some (byte_found (slice_index_or bytes i (0, 0) ∷ []) a)))
    → Owes (owed_marks head t2) left2 (owed_behind (take (i + 1) bytes) owed)
accessed_more head t t2 bytes i left left2 owed here within owes is size now =
    let f : Byte = slice_index_or bytes i (0, 0) in
    subst (λ es. Owes (owed_marks head t2) left2 es)
    (sym (ap (λ es. owed_behind es owed) (take_more bytes i (0, 0) within) ∙ owed_behind-push (take i bytes) owed f))
    (one_accessed (is_marked head) (is_marked t) (is_marked t2) f left left2 (owed_behind (take i bytes) owed) here owes
    (sym is) size (λ a. now a ∙ ap (λ (x : Bool). is_marked t a || x) (found_one f a)))

pub owes_same : (head t t2 : Marks) (count : ℕ) (owed : List Byte) → Owes (owed_marks head t) count owed
    → ((a : ℕ) → is_marked t2 a ≡ is_marked t a) → Owes (owed_marks head t2) count owed
owes_same head t t2 count owed owes same = same_owed (owed_marks head t) (owed_marks head t2) count count owed owes
    (λ a. ap (λ (x : Bool). is_marked head a && not x) (same a)) refl

pub touched_both : (t t1 t2 t3 t4 : Marks) (written seen : List Byte) → ((a : ℕ) → is_marked t1 a ≡ is_marked t a)
    → ((a : ℕ) → is_marked t2 a ≡ is_marked t1 a)
    → ((a : ℕ) → is_marked t3 a ≡ (is_marked t2 a || is_some (byte_found written a)))
    → ((a : ℕ) → is_marked t4 a ≡ (is_marked t3 a || is_some (byte_found seen a))) → (a : ℕ)
    → is_marked t4 a ≡ ((is_marked t a || is_some (byte_found written a)) || is_some (byte_found seen a))
touched_both t t1 t2 t3 t4 written seen first second third fourth a = fourth a
    ∙ (ap (λ (x : Bool). x || is_some (byte_found seen a)) (third a)
    ∙ ap (λ (x : Bool). (x || is_some (byte_found written a)) || is_some (byte_found seen a)) (second a ∙ first a))

-- ---- what a step leaves

either_found : (written seen : List Byte) (a : ℕ) → is_some (byte_found (written ++ seen) a)
    ≡ (is_some (byte_found written a) || is_some (byte_found seen a))
either_found [] seen a = refl
either_found (e ∷ written) seen a = by_test (e.0 == a) (either_found written seen a)
  where
    by_test : (t : Bool) → is_some (byte_found (written ++ seen) a)
        ≡ (is_some (byte_found written a) || is_some (byte_found seen a))
        → is_some (if t then Some e.1 else byte_found (written ++ seen) a)
        ≡ (is_some (if t then Some e.1 else byte_found written a) || is_some (byte_found seen a))
    by_test true rest = refl
    by_test false rest = rest

owed_both : (written seen owed : List Byte) → owed_behind (written ++ seen) owed
    ≡ owed_behind seen (owed_behind written owed)
owed_both written seen [] = refl
owed_both written seen (e ∷ owed) = by_tests (is_some (byte_found written e.0)) (is_some (byte_found seen e.0))
    (is_some (byte_found (written ++ seen) e.0)) refl (either_found written seen e.0) (owed_both written seen owed)
  where
    by_tests : (w s u : Bool) → is_some (byte_found seen e.0) ≡ s → u ≡ (w || s)
        → owed_behind (written ++ seen) owed ≡ owed_behind seen (owed_behind written owed)
        → (if not u then e ∷ owed_behind (written ++ seen) owed else owed_behind (written ++ seen) owed)
        ≡ owed_behind seen (if not w then e ∷ owed_behind written owed else owed_behind written owed)
    by_tests true s u is or rest = rw or rest
    by_tests false true u is or rest = rw (or, is) rest
    by_tests false false u is or rest = rw (or, is) (ap (λ l. e ∷ l) rest)

pub met_all : (o : Obs) (seen written : List Byte) (marks : ℕ → Bool) (count : ℕ) (owed : List Byte) (t : Bool)
    → t ≡ marked_met seen marks written → seen ≡ seen_by o → written ≡ bytes_shown o.write → Owes marks count owed
    → t ≡ all_met user o owed
met_all o seen written marks count owed t is saw wrote owes =
    is ∙ (ap (λ es. marked_met es marks written) saw ∙ (ap (marked_met (seen_by o) marks) wrote
    ∙ met_is count marks owed (seen_by o) (bytes_shown o.write) owes))

pub touched_all : (o : Obs) (x : Bool) (seen written : List Byte) (a : ℕ) → seen ≡ seen_by o
    → written ≡ bytes_shown o.write → ((x || is_some (byte_found written a)) || is_some (byte_found seen a))
    ≡ (x || is_some (byte_found (left_by o) a))
touched_all o x seen written a saw wrote =
    either_again x (is_some (byte_found written a)) (is_some (byte_found seen a))
    ∙ ap (λ (y : Bool). x || y) (sym (either_found written seen a)
    ∙ (ap (λ es. is_some (byte_found (written ++ es) a)) saw
    ∙ ap (λ es. is_some (byte_found (es ++ seen_by o) a)) wrote))

pub owes_all : (o : Obs) (marks : ℕ → Bool) (count : ℕ) (seen written owed : List Byte) → seen ≡ seen_by o
    → written ≡ bytes_shown o.write → Owes marks count (owed_behind seen (owed_behind written owed))
    → Owes marks count (owed_behind (left_by o) owed)
owes_all o marks count seen written owed saw wrote owes = subst (λ es. Owes marks count es)
    (sym (owed_both written seen owed) ∙ (ap (λ es. owed_behind (written ++ es) owed) saw
    ∙ ap (λ es. owed_behind (es ++ seen_by o) owed) wrote)) owes
