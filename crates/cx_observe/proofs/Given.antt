-- Bytes that a map gives, and the numbers that they are.
use Rattle.std.proofs.Common.{◌≡◌, ℕ, zero, suc, ◌+◌, ◌*◌, ◌/◌, ◌%◌, ◌^◌, ◌<◌, nat_lt, Bool, true, false, List, [], ◌∷◌}
use Rattle.std.proofs.Common.{length, Option, None, Some, if◌then◌else◌, refl, sym, ap, subst, ◌∙◌, arith, lt-ltb}
use Rattle.std.proofs.lemmas.Bool.{and_from, and_parts, ltb-true}
use Rattle.cx_exec.specs.Arithmetic.{wrapped}
use Rattle.cx_ram.specs.LittleEndian.{loaded, low_bytes}
use Rattle.cx_slices.specs.Bytes.{Map, Shows}
use Rattle.cx_slices.proofs.Small.{none_is_some, some_is_same}
use Rattle.cx_observe.specs.Possible.{are_bytes}
use Rattle.cx_observe.specs.Seeing.{bytes_on}
use Rattle.cx_observe.specs.Stepping.{bytes_given, only_byte, ◌>>=◌}

-- What stood there, and what came of it.
pub record Bound {Y Z : Type 0} (o : Option Y) (next : Y → Option Z) (z : Z) : Type 0 where
  pub value : Y
  pub is : o ≡ Some value
  pub goes : next value ≡ Some z

pub bind_some : {Y Z : Type 0} (o : Option Y) (next : Y → Option Z) (z : Z) → (o >>= next) ≡ Some z → Bound o next z
bind_some None next z is = none_is_some z is
bind_some (Some y) next z is = record { value = y; is = refl; goes = is }

-- These bytes, all of them there.
pub record AreGiven (map : Map) (va n : ℕ) (bs : List ℕ) : Type 0 where
  pub size : length bs ≡ n
  pub are : are_bytes bs ≡ true
  pub shows : Shows map (bytes_on va bs)

-- a byte that is there
pub record IsGiven (there : Option ℕ) (b : ℕ) : Type 0 where
  pub is : there ≡ Some b
  pub fits : nat_lt b 256 ≡ true

byte_by : (c b : ℕ) (t : Bool) → nat_lt c 256 ≡ t → (if t then Some c else None) ≡ Some b → IsGiven (Some c) b
byte_by c b true fits is =
    let same : c ≡ b = some_is_same c b is in
    record { is = ap {B = Option ℕ} Some same; fits = ap (λ (n : ℕ). nat_lt n 256) (sym same) ∙ fits }
byte_by c b false fits is = none_is_some b is

only_byte-is : (there : Option ℕ) (b : ℕ) → only_byte there ≡ Some b → IsGiven there b
only_byte-is None b is = none_is_some b is
only_byte-is (Some c) b is = byte_by c b (nat_lt c 256) refl is

only_byte-at : (there : Option ℕ) (b : ℕ) → there ≡ Some b → nat_lt b 256 ≡ true → only_byte there ≡ Some b
only_byte-at there b is fits = ap only_byte is ∙ ap (λ t. if t then Some b else None) fits

more_given : (map : Map) (va n b : ℕ) (bs : List ℕ) → IsGiven (map (wrapped va)) b → AreGiven map (va + 1) n bs
    → AreGiven map va (suc n) (b ∷ bs)
more_given map va n b bs first rest = record {
  size = ap suc rest.size;
  are = and_from (nat_lt b 256) (are_bytes bs) first.fits rest.are;
  shows = (first.is, rest.shows);
}

pub bytes_given-are : (map : Map) (va n : ℕ) (bs : List ℕ) → bytes_given map va n ≡ Some bs → AreGiven map va n bs
bytes_given-are map va zero bs is = subst (AreGiven map va 0) (some_is_same [] bs is)
    (record { size = refl; are = refl; shows = tt })
bytes_given-are map va (suc n) bs is =
    let first : Bound (only_byte (map (wrapped va))) (λ b. bytes_given map (va + 1) n >>= (λ cs. Some (b ∷ cs))) bs
    = bind_some (only_byte (map (wrapped va))) (λ b. bytes_given map (va + 1) n >>= (λ cs. Some (b ∷ cs))) bs is in
    let second : Bound (bytes_given map (va + 1) n) (λ cs. Some (first.value ∷ cs)) bs
    = bind_some (bytes_given map (va + 1) n) (λ cs. Some (first.value ∷ cs)) bs first.goes in
    subst (AreGiven map va (suc n)) (some_is_same (first.value ∷ second.value) bs second.goes)
    (more_given map va n first.value second.value (only_byte-is (map (wrapped va)) first.value first.is)
    (bytes_given-are map (va + 1) n second.value second.is))

pub bytes_given-from : (map : Map) (va : ℕ) (bs : List ℕ) → Shows map (bytes_on va bs) → are_bytes bs ≡ true
    → bytes_given map va (length bs) ≡ Some bs
bytes_given-from map va [] shows are = refl
bytes_given-from map va (b ∷ bs) shows are =
    let parts : (nat_lt b 256 ≡ true) × (are_bytes bs ≡ true) = and_parts (nat_lt b 256) (are_bytes bs) are in
    ap (λ o. o >>= (λ c. bytes_given map (va + 1) (length bs) >>= (λ cs. Some (c ∷ cs))))
    (only_byte-at (map (wrapped va)) b shows.0 parts.0)
    ∙ ap (λ o. o >>= (λ cs. Some (b ∷ cs))) (bytes_given-from map (va + 1) bs shows.1 parts.1)

-- ---- numbers and their bytes

pub loaded-low_bytes : (w : ℕ) → w < 2 ^ 32 → loaded (low_bytes 4 w) 0 4 ≡ w
unfolding loaded low_bytes
loaded-low_bytes w fits = omega arith

four_low : (a b c d : ℕ) → a < 256 → b < 256 → c < 256 → d < 256
    → low_bytes 4 (a + 256 * (b + 256 * (c + 256 * (d + 256 * 0)))) ≡ a ∷ b ∷ c ∷ d ∷ []
unfolding low_bytes
four_low a b c d fa fb fc fd =
    let r0 : (a + 256 * (b + 256 * (c + 256 * (d + 256 * 0)))) % 256 ≡ a = omega arith in
    let q0 : (a + 256 * (b + 256 * (c + 256 * (d + 256 * 0)))) / 256 ≡ b + 256 * (c + 256 * (d + 256 * 0))
    = omega arith in
    let r1 : (b + 256 * (c + 256 * (d + 256 * 0))) % 256 ≡ b = omega arith in
    let q1 : (b + 256 * (c + 256 * (d + 256 * 0))) / 256 ≡ c + 256 * (d + 256 * 0) = omega arith in
    let r2 : (c + 256 * (d + 256 * 0)) % 256 ≡ c = omega arith in
    let q2 : (c + 256 * (d + 256 * 0)) / 256 ≡ d + 256 * 0 = omega arith in
    let r3 : (d + 256 * 0) % 256 ≡ d = omega arith in
    rw (q0, q1, q2, r0, r1, r2, r3) refl

-- Four bytes are those of a word.
pub record IsSpelled (bs : List ℕ) : Type 0 where
  pub back : low_bytes 4 (loaded bs 0 4) ≡ bs
  pub fits : loaded bs 0 4 < 2 ^ 32

byte_fits : (b : ℕ) → nat_lt b 256 ≡ true → b < 256
byte_fits b is = ltb-true b 256 is

four_spell_by : (a b c d : ℕ) → a < 256 → b < 256 → c < 256 → d < 256 → IsSpelled (a ∷ b ∷ c ∷ d ∷ [])
unfolding loaded
four_spell_by a b c d fa fb fc fd = record { back = four_low a b c d fa fb fc fd; fits = omega arith }

pub four_spell : (bs : List ℕ) → length bs ≡ 4 → are_bytes bs ≡ true → IsSpelled bs
four_spell [] size are = absurd (cc)
four_spell (a ∷ []) size are = absurd (omega arith)
four_spell (a ∷ b ∷ []) size are = absurd (omega arith)
four_spell (a ∷ b ∷ c ∷ []) size are = absurd (omega arith)
four_spell (a ∷ b ∷ c ∷ d ∷ []) size are =
    let first : (nat_lt a 256 ≡ true) × (are_bytes (b ∷ c ∷ d ∷ []) ≡ true)
    = and_parts (nat_lt a 256) (are_bytes (b ∷ c ∷ d ∷ [])) are in
    let second : (nat_lt b 256 ≡ true) × (are_bytes (c ∷ d ∷ []) ≡ true)
    = and_parts (nat_lt b 256) (are_bytes (c ∷ d ∷ [])) first.1 in
    let third : (nat_lt c 256 ≡ true) × (are_bytes (d ∷ []) ≡ true)
    = and_parts (nat_lt c 256) (are_bytes (d ∷ [])) second.1 in
    let fourth : (nat_lt d 256 ≡ true) × (are_bytes [] ≡ true)
    = and_parts (nat_lt d 256) (are_bytes []) third.1 in
    four_spell_by a b c d (byte_fits a first.0) (byte_fits b second.0) (byte_fits c third.0) (byte_fits d fourth.0)
four_spell (a ∷ b ∷ c ∷ d ∷ e ∷ bs) size are = absurd (omega arith)

low_digit : (w : ℕ) → nat_lt (w % 256) 256 ≡ true
low_digit w = lt-ltb (w % 256) 256 (omega arith)

pub are_bytes-low_bytes : (n w : ℕ) → are_bytes (low_bytes n w) ≡ true
unfolding low_bytes
are_bytes-low_bytes zero w = refl
are_bytes-low_bytes (suc n) w = and_from (nat_lt (w % 256) 256) (are_bytes (low_bytes n (w / 256)))
    (low_digit w) (are_bytes-low_bytes n (w / 256))

pub length-low_bytes : (n w : ℕ) → length (low_bytes n w) ≡ n
unfolding low_bytes
length-low_bytes zero w = refl
length-low_bytes (suc n) w = ap suc (length-low_bytes n (w / 256))
