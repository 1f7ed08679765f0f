-- The runs that bytes stand in, one by one.
use Rattle.std.proofs.Common.{◌≡◌, ℕ, zero, suc, ◌+◌, ◌≤◌, ◌<◌, ◌==◌, Bool, true, false, not, List, [], ◌∷◌, length}
use Rattle.std.proofs.Common.{take, drop, map, get_or, ◌++◌, if◌then◌else◌, refl, sym, ap, subst, ◌∙◌, arith}
use Rattle.std.proofs.Common.{◌-◌, length-drop, append_assoc}
use mir.Val.{bool_byte}
use Rattle.std.proofs.lemmas.List.{map-append, take_more, take_all, take-append-drop, drop-drop, drop_all, append-nil}
use Rattle.cx_slices.specs.Bytes.{Byte}
use Rattle.cx_slices.specs.Stretches.{Stretch, put_before, single, stretches_of}
use Rattle.cx_slicefmt.specs.Text.{run_text, runs_text}
use Rattle.cx_slicefmt.specs.Writing.{IsFirstRun, ends_run, run_of}

-- the first run begins at the first byte
record Headed (e : Byte) (ss : List Stretch) : Type 0 where
  bytes : List ℕ
  rest : List Stretch
  is : ss ≡ record { va = e.0; bytes = e.1 ∷ bytes } ∷ rest

headed : (e : Byte) (ss : List Stretch) → Headed e (put_before e ss)
headed e [] = record { bytes = []; rest = []; is = refl }
headed e (s ∷ ss) = by_test (e.0 + 1 == s.va)
  where
    by_test : (t : Bool) → Headed e (if t then record { va = e.0; bytes = e.1 ∷ s.bytes } ∷ ss else single e ∷ s ∷ ss)
    by_test true = record { bytes = s.bytes; rest = ss; is = refl }
    by_test false = record { bytes = []; rest = s ∷ ss; is = refl }

apart : (e f : Byte) (ss : List Stretch) → Headed f ss → (e.0 + 1 == f.0) ≡ false → put_before e ss ≡ single e ∷ ss
apart e f ss h is = ap (put_before e) h.is ∙ (rw is refl ∙ ap (λ t. single e ∷ t) (sym h.is))

joined : (e : Byte) (va : ℕ) (bytes : List ℕ) (rest : List Stretch) → (e.0 + 1 == va) ≡ true
    → put_before e (record { va = va; bytes = bytes } ∷ rest) ≡ record { va = e.0; bytes = e.1 ∷ bytes } ∷ rest
joined e va bytes rest is = rw is refl

is_true : (t : Bool) → not t ≡ false → t ≡ true
is_true true is = refl
is_true false is = cc

is_false : (t : Bool) → not t ≡ true → t ≡ false
is_false true is = cc
is_false false is = refl

-- how many there are
count_more : (e f : Byte) (ss : List Stretch) → Headed f ss
    → length (put_before e ss) ≡ length ss + (if not (e.0 + 1 == f.0) then 1 else 0)
count_more e f ss h = by_test (e.0 + 1 == f.0) refl
  where
    by_test : (t : Bool) → (e.0 + 1 == f.0) ≡ t → length (put_before e ss) ≡ length ss + (if not t then 1 else 0)
    by_test true is =
        let made = ap (put_before e) h.is ∙ joined e f.0 (f.1 ∷ h.bytes) h.rest is in
        omega (arith, ap length made, ap length h.is)
    by_test false is = omega (arith, ap length (apart e f ss h is))

pub count_at : (bytes : List Byte) (i : ℕ) → i < length bytes → length (stretches_of (drop i bytes))
    ≡ length (stretches_of (drop (suc i) bytes)) + (if ends_run (drop i bytes) then 1 else 0)
count_at [] i inside = absurd (omega (arith, inside))
count_at (e ∷ []) zero inside = refl
count_at (e ∷ f ∷ es) zero inside = count_more e f (stretches_of (f ∷ es)) (headed f (stretches_of es))
count_at (e ∷ es) (suc i) inside = count_at es i (omega (arith, inside))

-- the bytes from a place on, as a slice gives them
all_from : (bytes : List Byte) (i : ℕ) → take (length bytes - i) (drop i bytes) ≡ drop i bytes
all_from bytes i = take_all (length bytes - i) (drop i bytes) (omega (arith, length-drop i bytes))

as_number : (t : Bool) → bool_byte t ≡ (if t then 1 else 0)
as_number true = refl
as_number false = refl

pub count_on : (bytes : List Byte) (i left count one : ℕ) → left ≡ suc i → left ≤ length bytes
    → count ≡ length (stretches_of (drop left bytes))
    → one ≡ bool_byte (ends_run (take (length bytes - i) (drop i bytes)))
    → count + one ≡ length (stretches_of (drop i bytes))
count_on bytes i left count one next within is one_is =
    let number : one ≡ (if ends_run (drop i bytes) then 1 else 0)
    = one_is ∙ (ap (λ bs. bool_byte (ends_run bs)) (all_from bytes i) ∙ as_number (ends_run (drop i bytes))) in
    let before : count ≡ length (stretches_of (drop (suc i) bytes))
    = is ∙ ap (λ n. length (stretches_of (drop n bytes))) next in
    omega (arith, count_at bytes i (omega (arith, next, within)), number, before)

pub one_small : (t : Bool) → bool_byte t ≤ 1
one_small true = omega arith
one_small false = omega arith

-- the first
pub first_stretch : (es : List Byte) (n : ℕ) → n < length es → ((k : ℕ) → k < n → ends_run (drop k es) ≡ false)
    → ends_run (drop n es) ≡ true → stretches_of es ≡ run_of (take (suc n) es) ∷ stretches_of (drop (suc n) es)
first_stretch [] n inside below ends = absurd (omega (arith, inside))
first_stretch (e ∷ []) zero inside below ends = refl
first_stretch (e ∷ f ∷ es) zero inside below ends =
    apart e f (stretches_of (f ∷ es)) (headed f (stretches_of es)) (is_false (e.0 + 1 == f.0) ends)
first_stretch (e ∷ []) (suc n) inside below ends = absurd (omega (arith, inside))
first_stretch (e ∷ f ∷ es) (suc n) inside below ends =
    ap (put_before e) (first_stretch (f ∷ es) n (omega (arith, inside)) (λ k less. below (suc k) (omega (arith, less)))
    ends)
    ∙ joined e f.0 (map (λ e. e.1) (take (suc n) (f ∷ es))) (stretches_of (drop (suc n) (f ∷ es)))
    (is_true (e.0 + 1 == f.0) (below 0 (omega arith)))

-- ---- bytes without their addresses

pub contents_more : (bytes : List Byte) (i : ℕ) → i < length bytes
    → map (λ e. e.1) (take i bytes) ++ (get_or bytes i (0, 0)).1 ∷ [] ≡ map (λ e. e.1) (take (i + 1) bytes)
contents_more bytes i inside = sym (ap (map (λ (e : Byte). e.1)) (take_more bytes i (0, 0) inside)
    ∙ map-append (λ (e : Byte). e.1) (take i bytes) (get_or bytes i (0, 0) ∷ []))

pub contents_split : (bytes : List Byte) (i : ℕ) → i < length bytes
    → (map (λ e. e.1) (take i bytes) ++ (get_or bytes i (0, 0)).1 ∷ []) ++ map (λ e. e.1) (drop (i + 1) bytes)
    ≡ map (λ e. e.1) bytes
contents_split bytes i inside = ap (λ (xs : List ℕ). xs ++ map (λ (e : Byte). e.1) (drop (i + 1) bytes))
    (contents_more bytes i inside)
    ∙ sym (ap (map (λ (e : Byte). e.1)) (sym (take-append-drop (i + 1) bytes))
    ∙ map-append (λ (e : Byte). e.1) (take (i + 1) bytes) (drop (i + 1) bytes))

pub contents_all : (bytes : List Byte) (i : ℕ) → length bytes ≡ i
    → map (λ e. e.1) (take i bytes) ≡ map (λ e. e.1) bytes
contents_all bytes i all = ap (map (λ (e : Byte). e.1)) (take_all i bytes (omega (arith, all)))

-- ---- runs that are put one after another

pub runs_on : (bytes : List Byte) (at count size : ℕ) (put : List ℕ) → size ≡ count
    → IsFirstRun (take (length bytes - at) (drop at bytes)) count
    → put ++ runs_text (stretches_of (drop at bytes)) ≡ runs_text (stretches_of bytes)
    → (put ++ run_text (run_of (take size (drop at bytes)))) ++ runs_text (stretches_of (drop (at + count) bytes))
    ≡ runs_text (stretches_of bytes)
runs_on bytes at count size put same first whole =
    let run = run_of (take size (drop at bytes)) in
    let is : stretches_of (drop at bytes)
    ≡ run_of (take count (drop at bytes)) ∷ stretches_of (drop count (drop at bytes))
    = subst (λ (bs : List Byte). stretches_of bs ≡ run_of (take count bs) ∷ stretches_of (drop count bs))
    (all_from bytes at) first.first in
    let parts : run ∷ stretches_of (drop count (drop at bytes)) ≡ stretches_of (drop at bytes) = rw same (sym is) in
    ap (λ (bs : List Byte). (put ++ run_text run) ++ runs_text (stretches_of bs)) (sym (drop-drop count at bytes))
    ∙ (append_assoc put (run_text run) (runs_text (stretches_of (drop count (drop at bytes))))
    ∙ (ap (λ (ss : List Stretch). put ++ runs_text ss) parts ∙ whole))

pub runs_all : (bytes : List Byte) (at : ℕ) (put : List ℕ) → length bytes ≤ at
    → put ++ runs_text (stretches_of (drop at bytes)) ≡ runs_text (stretches_of bytes)
    → put ≡ runs_text (stretches_of bytes)
runs_all bytes at put all whole = sym (append-nil put)
    ∙ (ap (λ (bs : List Byte). put ++ runs_text (stretches_of bs)) (sym (drop_all at bytes all)) ∙ whole)
