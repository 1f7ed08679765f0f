-- What lists of bytes have at one address.
use Rattle.std.proofs.Common.{◌≡◌, ℕ, ◌==◌, Bool, true, false, not, ◌⊎◌, inl, inr, List, [], ◌∷◌, ◌++◌, filter, Option}
use Rattle.std.proofs.Common.{None, Some, is_some, if◌then◌else◌, cond, refl, sym, ap, subst, ◌∙◌}
use Rattle.std.proofs.lemmas.Bool.{cases_eq}
use Rattle.std.specs.Option.{option_or}
use Rattle.cx_slices.specs.Bytes.{Byte, BytesRise, byte_found, is_byte}
use Rattle.cx_slices.proofs.Bytes.{byte_found-here, byte_found-other, is_byte-at, is_byte-true, rising_lists_are_one}
use Rattle.cx_slices.proofs.Missing.{missing_byte}
use Rattle.cx_slices.proofs.Small.{none_is_some, some_is_same}

-- ---- two lists in a row

or_inside : (t : Bool) (b : ℕ) (first second : Option ℕ)
    → cond t (Some b) (option_or first second) ≡ option_or (cond t (Some b) first) second
or_inside true b first second = refl
or_inside false b first second = refl

pub byte_found-append : (es fs : List Byte) (a : ℕ)
    → byte_found (es ++ fs) a ≡ option_or (byte_found es a) (byte_found fs a)
byte_found-append [] fs a = refl
byte_found-append (e ∷ es) fs a = ap (cond (e.0 == a) (Some e.1)) (byte_found-append es fs a)
    ∙ or_inside (e.0 == a) e.1 (byte_found es a) (byte_found fs a)

pub or_none : (first : Option ℕ) → option_or first None ≡ first
or_none None = refl
or_none (Some b) = refl

-- ---- the bytes at some addresses

abbrev pub byte_if : Bool → Option ℕ → Option ℕ
byte_if kept found = if kept then found else None

none_kept : (kept : Bool) → None ≡ byte_if kept None
none_kept true = refl
none_kept false = refl

at_front : (kept : Bool) (e : Byte) (es : List Byte) (found : Option ℕ) → byte_found es e.0 ≡ byte_if kept found
    → byte_found (if kept then e ∷ es else es) e.0 ≡ byte_if kept (Some e.1)
at_front true e es found rest = byte_found-here e.0 e.1 es
at_front false e es found rest = rest

past_front : (kept : Bool) (e : Byte) (es : List Byte) (a : ℕ) → (e.0 ≡ a → ⊥)
    → byte_found (if kept then e ∷ es else es) a ≡ byte_found es a
past_front true e es a other = byte_found-other e es a other
past_front false e es a other = refl

pub byte_found-kept : (keep : ℕ → Bool) (es : List Byte) (a : ℕ)
    → byte_found (filter (λ e. keep e.0) es) a ≡ byte_if (keep a) (byte_found es a)
byte_found-kept keep [] a = none_kept (keep a)
byte_found-kept keep (e ∷ es) a = by_address (cases_eq e.0 a) (byte_found-kept keep es)
  where
    by_address : (e.0 ≡ a) ⊎ (e.0 ≡ a → ⊥)
        → ((a : ℕ) → byte_found (filter (λ e. keep e.0) es) a ≡ byte_if (keep a) (byte_found es a))
        → byte_found (filter (λ e. keep e.0) (e ∷ es)) a ≡ byte_if (keep a) (byte_found (e ∷ es) a)
    by_address (inl is) rest =
        subst (λ (n : ℕ). byte_found (filter (λ e. keep e.0) (e ∷ es)) n ≡ byte_if (keep n) (byte_found (e ∷ es) n)) is
        (at_front (keep e.0) e (filter (λ e. keep e.0) es) (byte_found es e.0) (rest e.0)
        ∙ ap (byte_if (keep e.0)) (sym (byte_found-here e.0 e.1 es)))
    by_address (inr other) rest = past_front (keep e.0) e (filter (λ e. keep e.0) es) a other
        ∙ (rest a ∙ ap (byte_if (keep a)) (sym (byte_found-other e es a other)))

pub kept_byte_is : (kept : Bool) (found : Option ℕ) (b : ℕ) → byte_if kept found ≡ Some b
    → (kept ≡ true) × (found ≡ Some b)
kept_byte_is true found b is = (refl, is)
kept_byte_is false found b is = none_is_some b is

pub no_bytes : (least : ℕ) (es : List Byte) → BytesRise least es → ((a : ℕ) → byte_found es a ≡ None) → es ≡ []
no_bytes least es rises none = rising_lists_are_one least 0 es [] rises tt none

-- ---- what is missing at an address

kept_one : (t : Bool) (b c : ℕ) → (if not t then Some b else None) ≡ Some c → (b ≡ c) × (not t ≡ true)
kept_one true b c is = none_is_some c is
kept_one false b c is = (some_is_same b c is, refl)

pub missing_is_new : (seen there : Option ℕ) (b : ℕ) → missing_byte seen there ≡ Some b → not (is_byte there b) ≡ true
missing_is_new None there b is = none_is_some b is
missing_is_new (Some c) there b is =
    let kept : (c ≡ b) × (not (is_byte there c) ≡ true) = kept_one (is_byte there c) c b is in
    ap (λ (n : ℕ). not (is_byte there n)) (sym kept.0) ∙ kept.1

pub missing_is_seen : (seen there : Option ℕ) (b : ℕ) → missing_byte seen there ≡ Some b → is_some seen ≡ true
missing_is_seen None there b is = none_is_some b is
missing_is_seen (Some c) there b is = refl

standing : (there : Option ℕ) (b : ℕ) (t : Bool) → is_byte there b ≡ t
    → option_or (if not t then Some b else None) there ≡ Some b
standing there b true is = is_byte-true there b is
standing there b false is = refl

pub missing_then_stands : (seen there : Option ℕ) (b : ℕ) → seen ≡ Some b
    → option_or (missing_byte seen there) there ≡ Some b
missing_then_stands None there b is = none_is_some b is
missing_then_stands (Some c) there b is = standing there c (is_byte there c) refl ∙ is

-- An item that is new and seen, and with which what is seen stands, is what is missing.
pub item_is_missing : (item seen there : Option ℕ) → ((b : ℕ) → item ≡ Some b → not (is_byte there b) ≡ true)
    → ((b : ℕ) → item ≡ Some b → is_some seen ≡ true) → ((b : ℕ) → seen ≡ Some b → option_or item there ≡ Some b)
    → item ≡ missing_byte seen there
item_is_missing None None there new seen shown = refl
item_is_missing None (Some s) there new seen shown = rw (is_byte-at there s (shown s refl)) refl
item_is_missing (Some b) None there new seen shown = let none : is_some {T = ℕ} None ≡ true = seen b refl in cc
item_is_missing (Some b) (Some s) there new seen shown =
    let same : b ≡ s = some_is_same b s (shown s refl) in
    rw (← same, new b refl) refl
