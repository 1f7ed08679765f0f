-- Whether a fetch and a read show one byte where they share an address.
use Rattle.std.proofs.Common.{◌≡◌, ℕ, zero, suc, ◌+◌, ◌^◌, ◌<◌, ◌≤◌, ◌==◌, ◌&&◌, Bool, true, false, List, [], ◌∷◌}
use Rattle.std.proofs.Common.{◌++◌, length, take, slice_get, if◌then◌else◌, Option, None, Some, refl, sym, ap, ◌∙◌, arith, eq-eqb, eqb-true}
use Rattle.std.proofs.lemmas.Bool.{and_from, and_parts}
use Rattle.std.specs.List.{list_all}
use Rattle.std.specs.Option.{option_or}
use Rattle.cx_exec.specs.Arithmetic.{wrapped}
use Rattle.cx_hart.proofs.TouchBytes.{four_bytes}
use Rattle.cx_hart.specs.Touches.{padded}
use Rattle.cx_ram.specs.LittleEndian.{low_bytes}
use Rattle.cx_slices.specs.Bytes.{Byte, Map, Shows, byte_found}
use Rattle.cx_slices.proofs.Bytes.{byte_found-here, byte_found-other}
use Rattle.cx_observe.specs.Seeing.{bytes_on}
use Rattle.cx_observe.specs.Tests.{agrees_at, agrees_on, agrees_with, fetched_at}
use Rattle.cx_observe.specs.declared.obs.Seen.{Seen}
use Rattle.cx_observe.proofs.Faithful.{byte_found-append}
use Rattle.cx_observe.proofs.Sights.{Shows-append}

-- ---- the bytes at up to four addresses are all shown

skip_on : (e : Byte) (es : List Byte) (w : ℕ) (bs : List ℕ) → ((j : ℕ) → j < length bs → e.0 ≡ wrapped (w + j) → ⊥)
    → Shows (byte_found es) (bytes_on w bs) → Shows (byte_found (e ∷ es)) (bytes_on w bs)
skip_on e es w [] apart shows = tt
skip_on e es w (b ∷ bs) apart shows = (
  byte_found-other e es (wrapped w) (λ is. apart 0 (omega arith) (is ∙ ap wrapped (from_zero w))) ∙ shows.0,
  skip_on e es (w + 1) bs (λ j inside is. apart (suc j) (omega arith) (is ∙ ap wrapped (one_more w j))) shows.1,
)
  where
    from_zero : (a : ℕ) → a ≡ a + 0
    from_zero a = omega arith

    one_more : (a j : ℕ) → a + 1 + j ≡ a + suc j
    one_more a j = omega arith

not_here : (va j : ℕ) → j < 3 → wrapped va ≡ wrapped (va + 1 + j) → ⊥
not_here va j few is = omega arith

self_on : (va : ℕ) (bs : List ℕ) → length bs ≤ 4 → Shows (byte_found (bytes_on va bs)) (bytes_on va bs)
self_on va [] few = tt
self_on va (b ∷ bs) few = (
  byte_found-here (wrapped va) b (bytes_on (va + 1) bs),
  skip_on (wrapped va, b) (bytes_on (va + 1) bs) (va + 1) bs (λ j inside is. not_here va j (omega arith) is)
      (self_on (va + 1) bs (omega arith)),
)

-- ---- two lists of bytes that agree

abbrev pub agree_each : List Byte → List Byte → Bool
agree_each front es = list_all (λ e. agrees_with (byte_found front e.0) e.1) es

one_agrees : (first second : Option ℕ) (b : ℕ) → option_or first second ≡ Some b → agrees_with first b ≡ true
one_agrees None second b is = refl
one_agrees (Some c) second b is = let same : c ≡ b = cc in eq-eqb c b same

each_agrees : (front back es : List Byte) → Shows (byte_found (front ++ back)) es → agree_each front es ≡ true
each_agrees front back [] shows = refl
each_agrees front back (e ∷ es) shows = and_from (agrees_with (byte_found front e.0) e.1) (agree_each front es)
    (one_agrees (byte_found front e.0) (byte_found back e.0) e.1
    (sym (byte_found-append front back e.0) ∙ shows.0))
    (each_agrees front back es shows.1)

front_shown : (front back es : List Byte) → Shows (byte_found front) es → Shows (byte_found (front ++ back)) es
front_shown front back [] shows = tt
front_shown front back (e ∷ es) shows = (
  byte_found-append front back e.0 ∙ ap (λ (o : Option ℕ). option_or o (byte_found back e.0)) shows.0,
  front_shown front back es shows.1,
)

one_shown : (first second : Option ℕ) (b : ℕ) → second ≡ Some b → agrees_with first b ≡ true
    → option_or first second ≡ Some b
one_shown None second b is agrees = is
one_shown (Some c) second b is agrees = ap {B = Option ℕ} Some (eqb-true c b agrees)

back_shown : (front back es : List Byte) → Shows (byte_found back) es → agree_each front es ≡ true
    → Shows (byte_found (front ++ back)) es
back_shown front back [] shows agree = tt
back_shown front back (e ∷ es) shows agree =
    let parts : (agrees_with (byte_found front e.0) e.1 ≡ true) × (agree_each front es ≡ true)
    = and_parts (agrees_with (byte_found front e.0) e.1) (agree_each front es) agree in (
      byte_found-append front back e.0
          ∙ one_shown (byte_found front e.0) (byte_found back e.0) e.1 shows.0 parts.0,
      back_shown front back es shows.1 parts.1,
    )

back_of : (map : Map) (es fs : List Byte) → Shows map (es ++ fs) → Shows map fs
back_of map [] fs shows = shows
back_of map (e ∷ es) fs shows = back_of map es fs shows.1

-- Two short stretches agree exactly where each byte of the second agrees with the first.
pub agree_so : (pc va : ℕ) (ws bs : List ℕ) → length ws ≤ 4 → length bs ≤ 4
    → agree_each (bytes_on pc ws) (bytes_on va bs) ≡ true
    → Shows (byte_found (bytes_on pc ws ++ bytes_on va bs)) (bytes_on pc ws ++ bytes_on va bs)
agree_so pc va ws bs few short agree = Shows-append (byte_found (bytes_on pc ws ++ bytes_on va bs)) (bytes_on pc ws)
    (bytes_on va bs)
    (front_shown (bytes_on pc ws) (bytes_on va bs) (bytes_on pc ws) (self_on pc ws few))
    (back_shown (bytes_on pc ws) (bytes_on va bs) (bytes_on va bs) (self_on va bs short) agree)

pub so_agree : (pc va : ℕ) (ws bs : List ℕ)
    → Shows (byte_found (bytes_on pc ws ++ bytes_on va bs)) (bytes_on pc ws ++ bytes_on va bs)
    → agree_each (bytes_on pc ws) (bytes_on va bs) ≡ true
so_agree pc va ws bs shows = each_agrees (bytes_on pc ws) (bytes_on va bs) (bytes_on va bs)
    (back_of (byte_found (bytes_on pc ws ++ bytes_on va bs)) (bytes_on pc ws) (bytes_on va bs) shows)

-- ---- the same as the code tests it

two_on : (a : ℕ) → a + 1 + 1 ≡ a + 2
two_on a = omega arith

three_on : (a : ℕ) → a + 1 + 1 + 1 ≡ a + 3
three_on a = omega arith

whole : (a : ℕ) → a < 2 ^ 32 → wrapped a ≡ a
whole a fits = omega arith

abbrev fetched_by : List ℕ → ℕ → ℕ → Option ℕ
fetched_by bs pc va =
    if pc == va then slice_get bs 0
    else if wrapped (pc + 1) == va then slice_get bs 1
    else if wrapped (pc + 2) == va then slice_get bs 2
    else if wrapped (pc + 3) == va then slice_get bs 3
    else None

fetched_low : (pc word a : ℕ) → pc < 2 ^ 32
    → byte_found (bytes_on pc (low_bytes 4 word)) a ≡ fetched_by (padded 4 (low_bytes 4 word)) pc a
unfolding low_bytes
fetched_low pc word a fits = rw (three_on pc, two_on pc, whole pc fits) refl

fetched_is : (pc word a : ℕ) → pc < 2 ^ 32 → byte_found (bytes_on pc (low_bytes 4 word)) a ≡ fetched_at pc word a
fetched_is pc word a fits = fetched_low pc word a fits ∙ ap (λ bs. fetched_by bs pc a) (sym (four_bytes word))

agree_same : (pc word : ℕ) (es : List Byte) → pc < 2 ^ 32 → agree_each (bytes_on pc (low_bytes 4 word)) es
    ≡ list_all (λ e. agrees_with (fetched_at pc word e.0) e.1) es
agree_same pc word [] fits = refl
agree_same pc word (e ∷ es) fits =
    ap (λ o. agrees_with o e.1 && agree_each (bytes_on pc (low_bytes 4 word)) es) (fetched_is pc word e.0 fits)
    ∙ ap (λ t. agrees_with (fetched_at pc word e.0) e.1 && t) (agree_same pc word es fits)

abbrev tested : ℕ → ℕ → List Byte → Bool
tested pc word es = list_all (λ e. agrees_with (fetched_at pc word e.0) e.1) es

last : (x y z t : Bool) → (x && (y && (z && t))) ≡ (x && (y && (z && (t && true))))
last true true true true = refl
last true true true false = refl
last true true false t = refl
last true false z t = refl
last false y z t = refl

by_length : (pc word va a b c d len : ℕ) → va < 2 ^ 32 → 1 ≤ len → len ≤ 4
    → agrees_on pc word (record { va = va; len = len; bytes = a ∷ b ∷ c ∷ d ∷ [] })
    ≡ tested pc word (bytes_on va (take len (a ∷ b ∷ c ∷ d ∷ [])))
unfolding agrees_on agrees_at
by_length pc word va a b c d zero fits some most = absurd (omega arith)
by_length pc word va a b c d (suc zero) fits some most = rw (whole va fits) refl
by_length pc word va a b c d (suc (suc zero)) fits some most = rw (whole va fits) refl
by_length pc word va a b c d (suc (suc (suc zero))) fits some most = rw (two_on va, whole va fits) refl
by_length pc word va a b c d (suc (suc (suc (suc zero)))) fits some most =
    rw (three_on va, two_on va, whole va fits)
    (last (agrees_with (fetched_at pc word va) a) (agrees_with (fetched_at pc word (wrapped (va + 1))) b)
    (agrees_with (fetched_at pc word (wrapped (va + 2))) c)
    (agrees_with (fetched_at pc word (wrapped (va + 3))) d))
by_length pc word va a b c d (suc (suc (suc (suc (suc len))))) fits some most = absurd (omega arith)

agrees_list : (pc word va len : ℕ) (bytes : List ℕ) → va < 2 ^ 32 → length bytes ≡ 4 → 1 ≤ len → len ≤ 4
    → agrees_on pc word (record { va = va; len = len; bytes = bytes })
    ≡ tested pc word (bytes_on va (take len bytes))
agrees_list pc word va len [] fits size some most = absurd (omega arith)
agrees_list pc word va len (a ∷ []) fits size some most = absurd (omega arith)
agrees_list pc word va len (a ∷ b ∷ []) fits size some most = absurd (omega arith)
agrees_list pc word va len (a ∷ b ∷ c ∷ []) fits size some most = absurd (omega arith)
agrees_list pc word va len (a ∷ b ∷ c ∷ d ∷ []) fits size some most = by_length pc word va a b c d len fits some most
agrees_list pc word va len (a ∷ b ∷ c ∷ d ∷ e ∷ es) fits size some most = absurd (omega arith)

pub agrees_is : (pc word : ℕ) (s : Seen) → pc < 2 ^ 32 → s.va < 2 ^ 32 → length s.bytes ≡ 4 → 1 ≤ s.len → s.len ≤ 4
    → agrees_on pc word s ≡ agree_each (bytes_on pc (low_bytes 4 word)) (bytes_on s.va (take s.len s.bytes))
agrees_is pc word s pc_fits va_fits size some most = agrees_list pc word s.va s.len s.bytes va_fits size some most
    ∙ sym (agree_same pc word (bytes_on s.va (take s.len s.bytes)) pc_fits)
