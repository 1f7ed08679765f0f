-- The bytes that have to be handed over: those seen that don't stand, and no others.
use Rattle.std.proofs.Common.{◌≡◌, ℕ, ◌+◌, Bool, true, false, not, ◌⊎◌, inl, inr, List, [], ◌∷◌, filter}
use Rattle.std.proofs.Common.{Option, None, Some, is_some, if◌then◌else◌, refl, sym, ap, subst, ◌∙◌, arith}
use Rattle.std.proofs.lemmas.Bool.{and_from, and_parts, cases_eq, cond_both}
use Rattle.std.specs.List.{list_all, AllByRecursion}
use Rattle.std.specs.Option.{option_or}
use Rattle.cx_slices.specs.Bytes.{
  Byte,
  BytesRise,
  Map,
  Shows,
  all_there,
  byte_found,
  is_byte,
  lacks,
  missing,
  none_stands,
  stands,
  with_bytes,
}
use Rattle.cx_slices.specs.Items.{IsByteAt}
use Rattle.cx_slices.proofs.Bytes.{BytesRise-less, Shows-from, Shows-at, byte_found-below, byte_found-here}
use Rattle.cx_slices.proofs.Bytes.{byte_found-other, is_byte-true, is_byte-at, rising_lists_are_one}
use Rattle.cx_slices.proofs.Small.{none_is_some, some_is_same}

-- ---- some of the bytes of a list that rises

pub BytesRise-filter : (keep : Byte → Bool) (least : ℕ) (es : List Byte) → BytesRise least es
    → BytesRise least (filter keep es)
BytesRise-filter keep least [] rises = tt
BytesRise-filter keep least (e ∷ es) rises =
    let rest : BytesRise (e.0 + 1) (filter keep es) = BytesRise-filter keep (e.0 + 1) es rises.1 in
    cond_both (keep e) (e ∷ filter keep es) (filter keep es) (BytesRise least)
    (λ kept. (rises.0, rest))
    (λ dropped. BytesRise-less least (e.0 + 1) (filter keep es) (omega arith) rest)

abbrev pub kept_byte : (Byte → Bool) → ℕ → Option ℕ → Option ℕ
kept_byte keep a None = None
kept_byte keep a (Some b) = if keep (a, b) then Some b else None

at_front : (kept : Bool) (e : Byte) (es : List Byte) → byte_found es e.0 ≡ None
    → byte_found (if kept then e ∷ es else es) e.0 ≡ (if kept then Some e.1 else None)
at_front true e es none = byte_found-here e.0 e.1 es
at_front false e es none = none

past_front : (kept : Bool) (e : Byte) (es : List Byte) (a : ℕ) → (e.0 ≡ a → ⊥)
    → byte_found (if kept then e ∷ es else es) a ≡ byte_found es a
past_front true e es a other = byte_found-other e es a other
past_front false e es a other = refl

pub byte_found-filter : (keep : Byte → Bool) (least : ℕ) (es : List Byte) (a : ℕ) → BytesRise least es
    → byte_found (filter keep es) a ≡ kept_byte keep a (byte_found es a)
byte_found-filter keep least [] a rises = refl
byte_found-filter keep least (e ∷ es) a rises = by_address (cases_eq e.0 a)
    (byte_found-filter keep (e.0 + 1) es a rises.1)
  where
    none_behind : byte_found (filter keep es) e.0 ≡ None
    none_behind = byte_found-below (e.0 + 1) e.0 (filter keep es) (BytesRise-filter keep (e.0 + 1) es rises.1)
        (omega arith)

    here : byte_found (filter keep (e ∷ es)) e.0 ≡ kept_byte keep e.0 (byte_found (e ∷ es) e.0)
    here = at_front (keep e) e (filter keep es) none_behind
        ∙ ap (kept_byte keep e.0) (sym (byte_found-here e.0 e.1 es))

    by_address : (e.0 ≡ a) ⊎ (e.0 ≡ a → ⊥) → byte_found (filter keep es) a ≡ kept_byte keep a (byte_found es a)
        → byte_found (filter keep (e ∷ es)) a ≡ kept_byte keep a (byte_found (e ∷ es) a)
    by_address (inl is) rest =
        subst (λ (n : ℕ). byte_found (filter keep (e ∷ es)) n ≡ kept_byte keep n (byte_found (e ∷ es) n)) is here
    by_address (inr other) rest = past_front (keep e) e (filter keep es) a other
        ∙ (rest ∙ ap (kept_byte keep a) (sym (byte_found-other e es a other)))

behind : (a b : ℕ) (e : Byte) (es : List Byte) → BytesRise (e.0 + 1) es → byte_found es a ≡ Some b → e.0 ≡ a → ⊥
behind a b e es rises found is =
    let gone : byte_found es a ≡ None = byte_found-below (e.0 + 1) a es rises (omega arith) in
    none_is_some b (sym gone ∙ found)

pub list_all-from : (test : Byte → Bool) (least : ℕ) (es : List Byte) → BytesRise least es
    → ((a b : ℕ) → byte_found es a ≡ Some b → test (a, b) ≡ true) → list_all test es ≡ true
list_all-from test least [] rises each = refl
list_all-from test least (e ∷ es) rises each = and_from (test e) (list_all test es)
    (each e.0 e.1 (byte_found-here e.0 e.1 es))
    (list_all-from test (e.0 + 1) es rises.1
    (λ a b found. each a b (byte_found-other e es a (behind a b e es rises.1 found) ∙ found)))

pub passes_at : (test : Byte → Bool) (es : List Byte) (a b : ℕ) → list_all test es ≡ true → byte_found es a ≡ Some b
    → test (a, b) ≡ true
passes_at test [] a b all found = none_is_some b found
passes_at test (e ∷ es) a b all found =
    let parts : (test e ≡ true) × (list_all test es ≡ true) = and_parts (test e) (list_all test es) all in
    by_address parts.0 (cases_eq e.0 a) (passes_at test es a b parts.1)
  where
    by_address : test e ≡ true → (e.0 ≡ a) ⊎ (e.0 ≡ a → ⊥) → (byte_found es a ≡ Some b → test (a, b) ≡ true)
        → test (a, b) ≡ true
    by_address passes (inl is) rest =
        let same : e.1 ≡ b = some_is_same e.1 b (sym (byte_found-here e.0 e.1 es)
        ∙ (ap (byte_found (e ∷ es)) is ∙ found)) in
        rw (← is, ← same) passes
    by_address passes (inr other) rest = rest (sym (byte_found-other e es a other) ∙ found)

-- ---- what is missing

abbrev pub missing_byte : Option ℕ → Option ℕ → Option ℕ
missing_byte None there = None
missing_byte (Some b) there = if not (is_byte there b) then Some b else None

kept_is_missing : (map : Map) (a : ℕ) (seen : Option ℕ)
    → kept_byte (λ e. not (stands map e)) a seen ≡ missing_byte seen (map a)
kept_is_missing map a None = refl
kept_is_missing map a (Some b) = refl

pub byte_found-missing : (map : Map) (es : List Byte) (a : ℕ) → BytesRise 0 es
    → byte_found (missing map es) a ≡ missing_byte (byte_found es a) (map a)
byte_found-missing map es a rises = byte_found-filter (λ e. not (stands map e)) 0 es a rises
    ∙ kept_is_missing map a (byte_found es a)

pub BytesRise-missing : (map : Map) (es : List Byte) → BytesRise 0 es → BytesRise 0 (missing map es)
BytesRise-missing map es rises = BytesRise-filter (λ e. not (stands map e)) 0 es rises

standing : (there : Option ℕ) (b : ℕ) (t : Bool) → is_byte there b ≡ t
    → option_or (if not t then Some b else None) there ≡ Some b
standing there b true is = is_byte-true there b is
standing there b false is = refl

stands_then : (seen there : Option ℕ) (b : ℕ) → seen ≡ Some b → option_or (missing_byte seen there) there ≡ Some b
stands_then None there b is = none_is_some b is
stands_then (Some c) there b is = standing there c (is_byte there c) refl ∙ is

pub Shows-missing : (map : Map) (es : List Byte) → BytesRise 0 es → Shows (with_bytes (missing map es) map) es
Shows-missing map es rises = Shows-from (with_bytes (missing map es) map) 0 es rises
    (λ a b found. ap (λ x. option_or x (map a)) (byte_found-missing map es a rises)
    ∙ stands_then (byte_found es a) (map a) b found)

kept_one : (t : Bool) (b c : ℕ) → (if not t then Some b else None) ≡ Some c → (b ≡ c) × (not t ≡ true)
kept_one true b c is = none_is_some c is
kept_one false b c is = (some_is_same b c is, refl)

missing_is_new : (seen there : Option ℕ) (b : ℕ) → missing_byte seen there ≡ Some b → not (is_byte there b) ≡ true
missing_is_new None there b is = none_is_some b is
missing_is_new (Some c) there b is =
    let kept : (c ≡ b) × (not (is_byte there c) ≡ true) = kept_one (is_byte there c) c b is in
    ap (λ (n : ℕ). not (is_byte there n)) (sym kept.0) ∙ kept.1

missing_is_seen : (seen there : Option ℕ) (b : ℕ) → missing_byte seen there ≡ Some b → is_some seen ≡ true
missing_is_seen None there b is = none_is_some b is
missing_is_seen (Some c) there b is = refl

pub none_stands-missing : (map : Map) (es : List Byte) → BytesRise 0 es → none_stands map (missing map es) ≡ true
none_stands-missing map es rises = list_all-from (λ e. not (stands map e)) 0 (missing map es)
    (BytesRise-missing map es rises)
    (λ a b found. missing_is_new (byte_found es a) (map a) b (sym (byte_found-missing map es a rises) ∙ found))

pub all_there-missing : (map : Map) (es : List Byte) → BytesRise 0 es → all_there es (missing map es) ≡ true
all_there-missing map es rises = list_all-from (λ i. is_some (byte_found es i.0)) 0 (missing map es)
    (BytesRise-missing map es rises)
    (λ a b found. missing_is_seen (byte_found es a) (map a) b (sym (byte_found-missing map es a rises) ∙ found))

one_address : (item seen there : Option ℕ) → ((b : ℕ) → item ≡ Some b → not (is_byte there b) ≡ true)
    → ((b : ℕ) → item ≡ Some b → is_some seen ≡ true) → ((b : ℕ) → seen ≡ Some b → option_or item there ≡ Some b)
    → item ≡ missing_byte seen there
one_address None None there new seen shown = refl
one_address None (Some s) there new seen shown = rw (is_byte-at there s (shown s refl)) refl
one_address (Some b) None there new seen shown = let none : is_some {T = ℕ} None ≡ true = seen b refl in cc
one_address (Some b) (Some s) there new seen shown =
    let same : b ≡ s = some_is_same b s (shown s refl) in
    rw (← same, new b refl) refl

pub missing-only : (map : Map) (items seen : List Byte) → BytesRise 0 items → BytesRise 0 seen
    → none_stands map items ≡ true → all_there seen items ≡ true → Shows (with_bytes items map) seen
    → items ≡ missing map seen
missing-only map items seen ri rs new there shows = rising_lists_are_one 0 0 items (missing map seen) ri
    (BytesRise-missing map seen rs)
    (λ a. one_address (byte_found items a) (byte_found seen a) (map a)
    (λ b found. passes_at (λ e. not (stands map e)) items a b new found)
    (λ b found. passes_at (λ i. is_some (byte_found seen i.0)) items a b there found)
    (λ b found. Shows-at (with_bytes items map) seen a b shows found)
    ∙ sym (byte_found-missing map seen a rs))

-- ---- addresses without a byte

some_standing : (t : Bool) (b : ℕ) (there : Option ℕ) → is_byte there b ≡ t
    → is_some (option_or (if not t then Some b else None) there) ≡ true
some_standing true b there is = ap is_some (is_byte-true there b is)
some_standing false b there is = refl

there_alike : (seen there : Option ℕ) → is_some (option_or (missing_byte seen there) there)
    ≡ is_some (option_or seen there)
there_alike None there = refl
there_alike (Some b) there = some_standing (is_byte there b) b there refl

-- With the missing bytes a map has bytes where it has them with all that were seen.
pub missing_alike : (map : Map) (es : List Byte) → BytesRise 0 es → (a : ℕ)
    → is_some (with_bytes (missing map es) map a) ≡ is_some (with_bytes es map a)
missing_alike map es rises a = ap (λ x. is_some (option_or x (map a))) (byte_found-missing map es a rises)
    ∙ there_alike (byte_found es a) (map a)

all_there_still : (map other : Map) (addresses : List ℕ)
    → ((a : ℕ) → is_some (other a) ≡ true → is_some (map a) ≡ true)
    → list_all (λ a. is_some (other a)) addresses ≡ true → list_all (λ a. is_some (map a)) addresses ≡ true
all_there_still map other [] more all = refl
all_there_still map other (a ∷ addresses) more all =
    let parts : (is_some (other a) ≡ true) × (list_all (λ a. is_some (other a)) addresses ≡ true)
    = and_parts (is_some (other a)) (list_all (λ a. is_some (other a)) addresses) all in
    and_from (is_some (map a)) (list_all (λ a. is_some (map a)) addresses) (more a parts.0)
    (all_there_still map other addresses more parts.1)

not_more : (s t : Bool) → (t ≡ true → s ≡ true) → not s ≡ true → not t ≡ true
not_more true t more is = cc
not_more false true more is = let both : false ≡ true = more refl in cc
not_more false false more is = refl

lacks_fewer : (map other : Map) (addresses : List ℕ) → ((a : ℕ) → is_some (other a) ≡ true → is_some (map a) ≡ true)
    → lacks map addresses ≡ true → lacks other addresses ≡ true
lacks_fewer map other addresses more is = not_more (list_all (λ a. is_some (map a)) addresses)
    (list_all (λ a. is_some (other a)) addresses) (all_there_still map other addresses more) is

-- What a map lacks, one with fewer bytes lacks too.
pub all_lack_fewer : (map other : Map) (absent : List (List ℕ))
    → ((a : ℕ) → is_some (other a) ≡ true → is_some (map a) ≡ true) → list_all (lacks map) absent ≡ true
    → list_all (lacks other) absent ≡ true
all_lack_fewer map other [] more all = refl
all_lack_fewer map other (addresses ∷ absent) more all =
    let parts : (lacks map addresses ≡ true) × (list_all (lacks map) absent ≡ true)
    = and_parts (lacks map addresses) (list_all (lacks map) absent) all in
    and_from (lacks other addresses) (list_all (lacks other) absent) (lacks_fewer map other addresses more parts.0)
    (all_lack_fewer map other absent more parts.1)

-- ---- bytes that fit

pub filter_fit : (keep : Byte → Bool) (es : List Byte) → AllByRecursion IsByteAt es
    → AllByRecursion IsByteAt (filter keep es)
filter_fit keep [] fit = tt
filter_fit keep (e ∷ es) fit =
    let rest : AllByRecursion IsByteAt (filter keep es) = filter_fit keep es fit.1 in
    cond_both (keep e) (e ∷ filter keep es) (filter keep es) (AllByRecursion IsByteAt) (λ kept. (fit.0, rest))
    (λ dropped. rest)
