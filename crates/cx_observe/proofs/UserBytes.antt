-- Bytes of numbers, in parts, and what shows them.
use Rattle.std.proofs.Common.{◌≡◌, ℕ, zero, suc, ◌+◌, ◌-◌, ◌*◌, ◌/◌, ◌%◌, ◌^◌, ◌<◌, ◌≤◌, List, [], ◌∷◌, ◌++◌}
use Rattle.std.proofs.Common.{length, take, replicate, slice_index, Option, None, Some, refl, sym, ap, ap₂, subst, ◌∙◌, arith}
use Rattle.std.proofs.Common.{pow-add, take_at, length-append, mul-le-mul_left}
use Rattle.std.proofs.Math.Nat.{div-div-eq-div-mul}
use Rattle.cx_exec.specs.Arithmetic.{wrapped}
use Rattle.cx_hart.specs.Touches.{padded, part_value, touch}
use Rattle.cx_hart.specs.declared.findings.Part.{Part}
use Rattle.cx_map.specs.Bytes.{AreBytes}
use Rattle.cx_ram.specs.LittleEndian.{loaded, low_bytes}
use Rattle.cx_ram.proofs.LoadsAndWrites.{loaded-fits}
use Rattle.cx_slices.specs.Bytes.{BytesRise, Map, Shows}
use Rattle.cx_observe.specs.Observation.{access_seen}
use Rattle.cx_observe.specs.Seeing.{bytes_on, seen_with}
use Rattle.cx_observe.specs.declared.obs.Seen.{Seen}
use Rattle.cx_observe.proofs.Given.{length-low_bytes}
use Rattle.cx_observe.proofs.UserPlaces.{at_place, place_in_page, ram_there, user_place, user_ram}

-- ---- bytes of numbers

power_suc : (n : ℕ) → 2 ^ (8 * suc n) ≡ 256 * 2 ^ (8 * n)
power_suc n =
    let more : 8 * suc n ≡ 8 + 8 * n = omega arith in
    ap (λ (k : ℕ). 2 ^ k) more ∙ pow-add 2 8 (8 * n)

first_digit : (low p high : ℕ) → (low + 256 * p * high) % 256 ≡ low % 256
first_digit low p high = omega arith

other_digits : (low p high : ℕ) → (low + 256 * p * high) / 256 ≡ low / 256 + p * high
other_digits low p high = omega arith

low_fits : (low m : ℕ) → low < 2 ^ (8 * suc m) → low / 256 < 2 ^ (8 * m)
low_fits low m fits =
    let more : 2 ^ (8 * suc m) ≡ 256 * 2 ^ (8 * m) = power_suc m in
    omega arith

pub low_bytes-joined : (m n low high : ℕ) → low < 2 ^ (8 * m)
    → low_bytes m low ++ low_bytes n high ≡ low_bytes (m + n) (low + 2 ^ (8 * m) * high)
unfolding low_bytes
low_bytes-joined zero n low high fits =
    let one : 2 ^ (8 * 0) ≡ 1 = refl in
    let none : low ≡ 0 = omega arith in
    let size : n ≡ 0 + n = omega arith in
    let value : high ≡ low + 2 ^ (8 * 0) * high = omega arith in
    ap₂ low_bytes size value
low_bytes-joined (suc m) n low high fits =
    let size : suc (m + n) ≡ suc m + n = omega arith in
    let value : low + 256 * 2 ^ (8 * m) * high ≡ low + 2 ^ (8 * suc m) * high
    = ap (λ (p : ℕ). low + p * high) (sym (power_suc m)) in
    ap₂ (λ (b : ℕ) bs. b ∷ bs) (sym (first_digit low (2 ^ (8 * m)) high))
    (low_bytes-joined m n (low / 256) high (low_fits low m fits)
    ∙ ap (low_bytes (m + n)) (sym (other_digits low (2 ^ (8 * m)) high)))
    ∙ ap₂ low_bytes size value

pub joined_fits : (m n low high : ℕ) → low < 2 ^ (8 * m) → high < 2 ^ (8 * n)
    → low + 2 ^ (8 * m) * high < 2 ^ (8 * (m + n))
joined_fits m n low high fits high_fits =
    let whole : 2 ^ (8 * (m + n)) ≡ 2 ^ (8 * m) * 2 ^ (8 * n)
    = ap (λ (k : ℕ). 2 ^ k) (parts m n) ∙ pow-add 2 (8 * m) (8 * n) in
    let room : 2 ^ (8 * m) * suc high ≤ 2 ^ (8 * m) * 2 ^ (8 * n) = mul-le-mul_left (2 ^ (8 * m)) high_fits in
    omega arith
  where
    parts : (a b : ℕ) → 8 * (a + b) ≡ 8 * a + 8 * b
    parts a b = omega arith

pub low_bytes-divided : (m n v : ℕ) → low_bytes m v ++ low_bytes n (v / 2 ^ (8 * m)) ≡ low_bytes (m + n) v
unfolding low_bytes
low_bytes-divided zero n v =
    let size : n ≡ 0 + n = omega arith in
    let value : v / 1 ≡ v = omega arith in
    ap₂ low_bytes size value
low_bytes-divided (suc m) n v =
    let size : suc (m + n) ≡ suc m + n = omega arith in
    let value : v / 2 ^ (8 * suc m) ≡ v / 256 / 2 ^ (8 * m)
    = ap (λ (p : ℕ). v / p) (power_suc m) ∙ sym (div-div-eq-div-mul v 256 (2 ^ (8 * m))) in
    ap (λ bs. v % 256 ∷ bs) (ap (λ (h : ℕ). low_bytes m (v / 256) ++ low_bytes n h) value
    ∙ low_bytes-divided m n (v / 256))
    ∙ ap (λ (k : ℕ). low_bytes k v) size

loaded-behind : (b : ℕ) (bs : List ℕ) (i n : ℕ) → loaded (b ∷ bs) (suc i) n ≡ loaded bs i n
unfolding loaded
loaded-behind b bs i zero = refl
loaded-behind b bs i (suc n) =
    let next : suc i + 1 ≡ suc (i + 1) = omega arith in
    ap (λ (x : ℕ). slice_index bs i + 256 * x)
    (ap (λ (k : ℕ). loaded (b ∷ bs) k n) next ∙ loaded-behind b bs (i + 1) n)

back_again : (v : ℕ) → v % 256 + 256 * (v / 256) ≡ v
back_again v = omega arith

pub loaded-low_bytes_of : (n v : ℕ) (zs : List ℕ) → v < 2 ^ (8 * n) → loaded (low_bytes n v ++ zs) 0 n ≡ v
unfolding loaded low_bytes
loaded-low_bytes_of zero v zs fits =
    let one : 2 ^ (8 * 0) ≡ 1 = refl in
    omega arith
loaded-low_bytes_of (suc n) v zs fits =
    ap (λ (x : ℕ). v % 256 + 256 * x) (loaded-behind (v % 256) (low_bytes n (v / 256) ++ zs) 0 n
    ∙ loaded-low_bytes_of n (v / 256) zs (low_fits v n fits))
    ∙ back_again v

-- ---- bytes of memory

abbrev pub bytes_at : List ℕ → ℕ → ℕ → List ℕ
bytes_at memory i zero = []
bytes_at memory i (suc n) = slice_index memory i ∷ bytes_at memory (i + 1) n

digit_first : (b rest : ℕ) → b < 256 → (b + 256 * rest) % 256 ≡ b
digit_first b rest fits = omega arith

digit_rest : (b rest : ℕ) → b < 256 → (b + 256 * rest) / 256 ≡ rest
digit_rest b rest fits = omega arith

pub low_bytes-loaded : (memory : List ℕ) (i n : ℕ) → AreBytes memory
    → low_bytes n (loaded memory i n) ≡ bytes_at memory i n
unfolding loaded low_bytes
low_bytes-loaded memory i zero fit = refl
low_bytes-loaded memory i (suc n) fit = ap₂ (λ (b : ℕ) bs. b ∷ bs)
    (digit_first (slice_index memory i) (loaded memory (i + 1) n) (fit i))
    (ap (low_bytes n) (digit_rest (slice_index memory i) (loaded memory (i + 1) n) (fit i))
    ∙ low_bytes-loaded memory (i + 1) n fit)

pub value_fits : (memory : List ℕ) (part : Part) → AreBytes memory → part_value memory part < 2 ^ (8 * part.len)
value_fits memory part fit = loaded-fits memory (part.pa - 2 ^ 31) part.len (λ k inside. fit (part.pa - 2 ^ 31 + k))

Shows-bytes_at : (map : Map) (memory : List ℕ) (va i n : ℕ)
    → ((j : ℕ) → j < n → map (wrapped (va + j)) ≡ Some (slice_index memory (i + j)))
    → Shows map (bytes_on va (bytes_at memory i n))
Shows-bytes_at map memory va i zero has = tt
Shows-bytes_at map memory va i (suc n) has = (
  ap (λ (a : ℕ). map (wrapped a)) (from_zero va) ∙ (has 0 (omega arith)
      ∙ ap (λ (k : ℕ). Some (slice_index memory k)) (sym (from_zero i))),
  Shows-bytes_at map memory (va + 1) (i + 1) n
      (λ j inside. ap (λ (a : ℕ). map (wrapped a)) (one_more va j) ∙ (has (suc j) (omega arith)
      ∙ ap (λ (k : ℕ). Some (slice_index memory k)) (sym (one_more i j)))),
)
  where
    from_zero : (a : ℕ) → a ≡ a + 0
    from_zero a = omega arith

    one_more : (a j : ℕ) → a + 1 + j ≡ a + suc j
    one_more a j = omega arith

-- The bytes of a part lie in one page, and stand where user mode finds its address.
pub record IsUserPart (memory : List ℕ) (satp : ℕ) (part : Part) : Type 0 where
  pub place : user_place memory satp part.va ≡ Some part.pa
  pub small : part.va < 2 ^ 32
  pub page : part.va % 4096 + part.len ≤ 4096
  pub low : 2 ^ 31 ≤ part.pa
  pub high : part.pa + part.len ≤ 2 ^ 31 + length memory

byte_there : (memory : List ℕ) (satp : ℕ) (part : Part) (j : ℕ) → IsUserPart memory satp part → j < part.len
    → user_ram memory satp (wrapped (part.va + j)) ≡ Some (slice_index memory (part.pa - 2 ^ 31 + j))
byte_there memory satp part j is inside =
    let on : user_place memory satp (wrapped (part.va + j)) ≡ Some (part.pa + j)
    = place_in_page memory satp part.va part.pa j is.small (omega (arith, is.page)) is.place in
    let index : part.pa + j - 2 ^ 31 ≡ part.pa - 2 ^ 31 + j = omega (arith, is.low) in
    ap (λ p. at_place memory p) on
    ∙ (ram_there memory (part.pa + j) (omega (arith, is.low)) (omega (arith, is.high))
    ∙ ap (λ (k : ℕ). Some (slice_index memory k)) index)

pub part_shows : (memory : List ℕ) (satp : ℕ) (map : Map) (part : Part) → AreBytes memory
    → ((a b : ℕ) → user_ram memory satp a ≡ Some b → map a ≡ Some b) → IsUserPart memory satp part
    → Shows map (bytes_on part.va (low_bytes part.len (part_value memory part)))
part_shows memory satp map part fit through is = subst (λ bs. Shows map (bytes_on part.va bs))
    (sym (low_bytes-loaded memory (part.pa - 2 ^ 31) part.len fit))
    (Shows-bytes_at map memory part.va (part.pa - 2 ^ 31) part.len
    (λ j inside. through (wrapped (part.va + j)) (slice_index memory (part.pa - 2 ^ 31 + j))
    (byte_there memory satp part j is inside)))

-- ---- bytes at addresses

pub bytes_on-append : (va : ℕ) (bs cs : List ℕ) → bytes_on va (bs ++ cs) ≡ bytes_on va bs ++ bytes_on (va + length bs) cs
bytes_on-append va [] cs = ap (λ (a : ℕ). bytes_on a cs) (from_zero va)
  where
    from_zero : (a : ℕ) → a ≡ a + 0
    from_zero a = omega arith
bytes_on-append va (b ∷ bs) cs = ap (λ es. (wrapped va, b) ∷ es) (bytes_on-append (va + 1) bs cs
    ∙ ap (λ (a : ℕ). bytes_on (va + 1) bs ++ bytes_on a cs) (one_more va (length bs)))
  where
    one_more : (a j : ℕ) → a + 1 + j ≡ a + suc j
    one_more a j = omega arith

next_wrapped : (va wa : ℕ) → wrapped va ≡ wrapped wa → wrapped (va + 1) ≡ wrapped (wa + 1)
next_wrapped va wa is = omega arith

pub bytes_on-wrapped : (va wa : ℕ) (bs : List ℕ) → wrapped va ≡ wrapped wa → bytes_on va bs ≡ bytes_on wa bs
bytes_on-wrapped va wa [] is = refl
bytes_on-wrapped va wa (b ∷ bs) is = ap₂ (λ (a : ℕ) es. (a, b) ∷ es) is
    (bytes_on-wrapped (va + 1) (wa + 1) bs (next_wrapped va wa is))

pub BytesRise-bytes_on : (va : ℕ) (bs : List ℕ) → va + length bs ≤ 2 ^ 32 → BytesRise va (bytes_on va bs)
BytesRise-bytes_on va [] fits = tt
BytesRise-bytes_on va (b ∷ bs) fits =
    let here : wrapped va ≡ va = omega arith in (
      omega arith,
      subst (λ (a : ℕ). BytesRise (a + 1) (bytes_on (va + 1) bs)) (sym here)
          (BytesRise-bytes_on (va + 1) bs (omega arith)),
    )

-- ---- an access by its parts

same_seen : (s t : Seen) → s.va ≡ t.va → s.len ≡ t.len → s.bytes ≡ t.bytes → s ≡ t
same_seen s t va len bytes = rw (va, len, bytes) refl

take_low : (n v : ℕ) → take n (padded 4 (low_bytes n v)) ≡ low_bytes n v
take_low n v = take_at (low_bytes n v) (replicate (4 - length (low_bytes n v)) 0) n (length-low_bytes n v)

pub one_seen : (part : Part) (v : ℕ) → access_seen (Some (touch part v)) None
    ≡ Some (seen_with part.va (low_bytes part.len v))
unfolding touch
one_seen part v = ap {B = Option Seen} Some (same_seen _ (seen_with part.va (low_bytes part.len v)) refl
    (sym (length-low_bytes part.len v)) (ap (padded 4) (take_low part.len v)))

pub two_seen : (first more : Part) (v w : ℕ) → access_seen (Some (touch first v)) (Some (touch more w))
    ≡ Some (seen_with first.va (low_bytes first.len v ++ low_bytes more.len w))
unfolding touch
two_seen first more v w = ap {B = Option Seen} Some
    (same_seen _ (seen_with first.va (low_bytes first.len v ++ low_bytes more.len w)) refl
    (sym (length-append (low_bytes first.len v) (low_bytes more.len w)
    ∙ ap₂ (λ (a b : ℕ). a + b) (length-low_bytes first.len v) (length-low_bytes more.len w)))
    (ap (padded 4) (ap₂ (λ xs ys. xs ++ ys) (take_low first.len v) (take_low more.len w))))
