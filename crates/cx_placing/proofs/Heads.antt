-- What a head holds: bytes that aren't touched yet and don't stand.
use Rattle.std.proofs.Common.{◌≡◌, ℕ, Bool, true, false, not, List, [], ◌∷◌, Option, None, Some, is_some, refl, sym}
use Rattle.std.proofs.Common.{◌⊎◌, inl, inr, ap, ap₂, ◌∙◌}
use Rattle.std.proofs.lemmas.Bool.{cases_Bool, or_left, or_right}
use Rattle.std.specs.Option.{option_or}
use Rattle.cx_slices.specs.Bytes.{BytesRise, byte_found, is_byte, missing, sorted}
use Rattle.cx_slices.specs.Items.{Known, after}
use Rattle.cx_slices.specs.Observed.{IsFaithful, Watch}
use Rattle.cx_slices.proofs.Bytes.{BytesRise-sorted, byte_found-sorted}
use Rattle.cx_slices.proofs.Missing.{byte_found-missing, missing_byte}
use Rattle.cx_slices.proofs.Small.{none_is_some}
use Rattle.cx_placing.specs.Placing.{first_missing, head_of, up_to_call}
use Rattle.cx_placing.specs.Touched.{Touched, accesses, first_touched, touched_again, touching, untouched}
use Rattle.cx_placing.proofs.Cells.{byte_found-append, byte_found-kept, byte_if, kept_byte_is, missing_is_new}

-- ---- what a step sees and accesses

pub not_seen : {O G : Type 0} (m : Watch O G) (o : O) (a : ℕ) → IsFaithful m → accesses m o a ≡ false
    → byte_found (m.seen o) a ≡ None
not_seen m o a faithful out = by_found (byte_found (m.seen o) a) refl
  where
    by_found : (found : Option ℕ) → byte_found (m.seen o) a ≡ found → found ≡ None
    by_found None is = refl
    by_found (Some b) is = let in_it : accesses m o a ≡ true = faithful.leaves o a (ap is_some is) in cc

pub not_left : (left below : Option ℕ) → is_some left ≡ false → option_or left below ≡ below
not_left None below out = refl
not_left (Some b) below out = cc

pub after_keeps : {O G : Type 0} (m : Watch O G) (w : Known) (o : O) (a : ℕ) → accesses m o a ≡ false
    → (after m w o).map a ≡ w.map a
after_keeps m w o a out = not_left (byte_found (m.left o) a) (w.map a) out

-- ---- what is missing first

pub found_first : {O G : Type 0} (m : Watch O G) (w : Known) (touched : Touched) (o : O) (a : ℕ) → IsFaithful m
    → byte_found (first_touched touched (missing w.map (m.seen o))) a
    ≡ byte_if (not (touched a)) (missing_byte (byte_found (m.seen o) a) (w.map a))
found_first m w touched o a faithful = byte_found-kept (λ a. not (touched a)) (missing w.map (m.seen o)) a
    ∙ ap (byte_if (not (touched a))) (byte_found-missing w.map (m.seen o) a (faithful.rises o))

pub found_again : {O G : Type 0} (m : Watch O G) (w : Known) (touched : Touched) (o : O) (a : ℕ) → IsFaithful m
    → byte_found (touched_again touched (missing w.map (m.seen o))) a
    ≡ byte_if (touched a) (missing_byte (byte_found (m.seen o) a) (w.map a))
found_again m w touched o a faithful = byte_found-kept touched (missing w.map (m.seen o)) a
    ∙ ap (byte_if (touched a)) (byte_found-missing w.map (m.seen o) a (faithful.rises o))

-- the bytes that are missing first behind a step, up to the next call
abbrev pub missing_behind : {O G : Type 0} → Watch O G → (O → Option ℕ) → Known → Touched → O → List O → Option ℕ
    → ℕ → Option ℕ
missing_behind m called w touched o os call a =
    byte_found (up_to_call call (first_missing m called (after m w o) (touching m o touched) os)) a

pub found_missing : {O G : Type 0} (m : Watch O G) (called : O → Option ℕ) (w : Known) (touched : Touched) (o : O)
    (os : List O) (call : Option ℕ) (a : ℕ) → IsFaithful m → called o ≡ call
    → byte_found (first_missing m called w touched (o ∷ os)) a
    ≡ option_or (byte_if (not (touched a)) (missing_byte (byte_found (m.seen o) a) (w.map a)))
    (missing_behind m called w touched o os call a)
found_missing m called w touched o os call a faithful is =
    byte_found-append (first_touched touched (missing w.map (m.seen o)))
    (up_to_call (called o) (first_missing m called (after m w o) (touching m o touched) os)) a
    ∙ ap₂ option_or (found_first m w touched o a faithful)
    (ap (λ c. missing_behind m called w touched o os c a) is)

up_to_none : (call : Option ℕ) (es : List (ℕ × ℕ)) (a : ℕ) → byte_found es a ≡ None
    → byte_found (up_to_call call es) a ≡ None
up_to_none None es a none = none
up_to_none (Some number) es a none = refl

hidden : (touched : Bool) (first second : Option ℕ) → touched ≡ true → second ≡ None
    → option_or (byte_if (not touched) first) second ≡ None
hidden true first second is none = none
hidden false first second is none = cc

-- What is touched isn't among them.
pub none_touched : {O G : Type 0} (m : Watch O G) (called : O → Option ℕ) (w : Known) (touched : Touched) (os : List O)
    (a : ℕ) → IsFaithful m → touched a ≡ true → byte_found (first_missing m called w touched os) a ≡ None
none_touched m called w touched [] a faithful is = refl
none_touched m called w touched (o ∷ os) a faithful is =
    found_missing m called w touched o os (called o) a faithful refl
    ∙ hidden (touched a) (missing_byte (byte_found (m.seen o) a) (w.map a))
    (missing_behind m called w touched o os (called o) a) is
    (up_to_none (called o) (first_missing m called (after m w o) (touching m o touched) os) a
    (none_touched m called (after m w o) (touching m o touched) os a faithful
    (or_left (touched a) (accesses m o a) is)))

-- Behind a step none is at an address that it accessed.
pub none_accessed : {O G : Type 0} (m : Watch O G) (called : O → Option ℕ) (w : Known) (touched : Touched) (o : O)
    (os : List O) (call : Option ℕ) (a : ℕ) → IsFaithful m → accesses m o a ≡ true
    → missing_behind m called w touched o os call a ≡ None
none_accessed m called w touched o os call a faithful in_it =
    up_to_none call (first_missing m called (after m w o) (touching m o touched) os) a
    (none_touched m called (after m w o) (touching m o touched) os a faithful
    (or_right (touched a) (accesses m o a) in_it))

-- ---- none of them stands

or_split : {P : Type 0} (first second : Option ℕ) (b : ℕ) → option_or first second ≡ Some b → (first ≡ Some b → P)
    → (second ≡ Some b → P) → P
or_split None second b is one two = two is
or_split (Some c) second b is one two = one is

up_to_some : (call : Option ℕ) (es : List (ℕ × ℕ)) (a b : ℕ) → byte_found (up_to_call call es) a ≡ Some b
    → byte_found es a ≡ Some b
up_to_some None es a b is = is
up_to_some (Some number) es a b is = none_is_some b is

pub first_is_new : {O G : Type 0} (m : Watch O G) (called : O → Option ℕ) (w : Known) (touched : Touched) (os : List O)
    (a b : ℕ) → IsFaithful m → byte_found (first_missing m called w touched os) a ≡ Some b
    → not (is_byte (w.map a) b) ≡ true
first_is_new m called w touched [] a b faithful is = none_is_some b is
first_is_new m called w touched (o ∷ os) a b faithful is =
    or_split (byte_if (not (touched a)) (missing_byte (byte_found (m.seen o) a) (w.map a)))
    (missing_behind m called w touched o os (called o) a) b
    (sym (found_missing m called w touched o os (called o) a faithful refl) ∙ is)
    (λ here. missing_is_new (byte_found (m.seen o) a) (w.map a) b
    (kept_byte_is (not (touched a)) (missing_byte (byte_found (m.seen o) a) (w.map a)) b here).1)
    (λ later. by_access (cases_Bool (accesses m o a)) later
    (first_is_new m called (after m w o) (touching m o touched) os a b faithful))
  where
    by_access : (accesses m o a ≡ true) ⊎ (accesses m o a ≡ false)
        → missing_behind m called w touched o os (called o) a ≡ Some b
        → (byte_found (first_missing m called (after m w o) (touching m o touched) os) a ≡ Some b
        → not (is_byte ((after m w o).map a) b) ≡ true) → not (is_byte (w.map a) b) ≡ true
    by_access (inl in_it) later rest =
        none_is_some b (sym (none_accessed m called w touched o os (called o) a faithful in_it) ∙ later)
    by_access (inr out) later rest = ap (λ there. not (is_byte there b)) (sym (after_keeps m w o a out))
        ∙ rest (up_to_some (called o) (first_missing m called (after m w o) (touching m o touched) os) a b later)

-- ---- a head's bytes

pub head_bytes : {O G : Type 0} (m : Watch O G) (called : O → Option ℕ) (w : Known) (os : List O)
    → (head_of m called w os).bytes ≡ sorted (first_missing m called w untouched os)
head_bytes m called w [] = refl
head_bytes m called w (o ∷ os) = refl

pub head_rises : {O G : Type 0} (m : Watch O G) (called : O → Option ℕ) (w : Known) (os : List O)
    → BytesRise 0 (head_of m called w os).bytes
head_rises m called w [] = tt
head_rises m called w (o ∷ os) = BytesRise-sorted (first_missing m called w untouched (o ∷ os))

pub found_in_head : {O G : Type 0} (m : Watch O G) (called : O → Option ℕ) (w : Known) (os : List O) (a : ℕ)
    → byte_found (head_of m called w os).bytes a ≡ byte_found (first_missing m called w untouched os) a
found_in_head m called w os a = ap (λ es. byte_found es a) (head_bytes m called w os)
    ∙ byte_found-sorted (first_missing m called w untouched os) a
