-- The arithmetic of 32-bit registers. A register is a number below 2^32, and as a signed number its two's complement.
use Rattle.std.specs.Prelude.{ℕ, ℤ, ◌+◌, ◌-◌, ◌*◌, ◌/◌, ◌%◌, ◌^◌, Bool, if◌then◌else◌, ◌==◌, int_lt}
use Rattle.std.specs.Int.{w32, w64, cast_signed, cast_unsigned, int_shr}
use Rattle.std.specs.Int.RustNames.{int_div, int_rem}

abbrev pub wrapped : ℕ → ℕ
wrapped n = n % 2 ^ 32

abbrev pub signed : ℕ → ℤ
signed n = cast_signed w32 n

-- a − b modulo 2^32
abbrev pub difference : ℕ → ℕ → ℕ
difference a b = wrapped (a + (2 ^ 32 - b))

-- 1 for a test that holds, else 0
abbrev pub truth : Bool → ℕ
truth test = if test then 1 else 0

abbrev pub less_signed : ℕ → ℕ → Bool
less_signed a b = int_lt (signed a) (signed b)

abbrev pub lesser_signed : ℕ → ℕ → ℕ
lesser_signed a b = if less_signed a b then a else b

abbrev pub greater_signed : ℕ → ℕ → ℕ
greater_signed a b = if less_signed a b then b else a

-- ---- shifts, by a distance of 0 to 31

abbrev pub shifted_left : ℕ → ℕ → ℕ
shifted_left a distance = wrapped (a * 2 ^ distance)

abbrev pub shifted_right : ℕ → ℕ → ℕ
shifted_right a distance = a / 2 ^ distance

-- with the sign moved in
abbrev pub shifted_right_signed : ℕ → ℕ → ℕ
shifted_right_signed a distance = cast_unsigned w32 (int_shr (signed a) distance)

-- ---- products and quotients

-- The upper half of a product as a 64-bit pattern.
abbrev pub upper_half : ℤ → ℕ
upper_half z = cast_unsigned w64 z / 2 ^ 32

-- Rounded towards zero; all ones for a divisor of 0. The quotient 2^31 of −2^31 by −1 has the pattern of −2^31.
abbrev pub quotient_signed : ℕ → ℕ → ℕ
quotient_signed a b = if b == 0 then 2 ^ 32 - 1 else cast_unsigned w32 (int_div (signed a) (signed b))

abbrev pub quotient : ℕ → ℕ → ℕ
quotient a b = if b == 0 then 2 ^ 32 - 1 else a / b

-- With the sign of the dividend; the dividend for a divisor of 0.
abbrev pub remainder_signed : ℕ → ℕ → ℕ
remainder_signed a b = if b == 0 then a else cast_unsigned w32 (int_rem (signed a) (signed b))

abbrev pub remainder : ℕ → ℕ → ℕ
remainder a b = if b == 0 then a else a % b
