-- Numbers of seven bits a byte, the low ones first, with bit 7 set on every byte but the last.
use Rattle.std.specs.Prelude.{
  ℕ,
  zero,
  suc,
  ◌+◌,
  ◌-◌,
  ◌*◌,
  ◌/◌,
  ◌%◌,
  ◌^◌,
  nat_lt,
  ◌==◌,
  slice_index,
  ◌&&◌,
  ◌||◌,
  List,
  [],
  ◌∷◌,
  length,
  Bool,
  if◌then◌else◌,
}

-- How many bytes the varint at the front takes, of at most `most`: those up to and with the first below 128. Where the
-- bytes end before it, one more than there are.
abbrev pub varint_length : ℕ → List ℕ → ℕ
varint_length zero bytes = 0
varint_length (suc most) [] = 1
varint_length (suc most) (b ∷ bytes) = if nat_lt b 128 then 1 else 1 + varint_length most bytes

-- what the bytes stand for, whatever their bits 7 say
abbrev pub varint_value : List ℕ → ℕ
varint_value [] = 0
varint_value (b ∷ bytes) = b % 128 + 128 * varint_value bytes

-- the last byte is below 128, and 0 only where it is the single one
abbrev pub ends_well : List ℕ → Bool
ends_well bytes =
    let last = slice_index bytes (length bytes - 1) in
    nat_lt last 128 && (length bytes == 1 || nat_lt 0 last)

-- the bytes of one whole varint keep the rule: they end well, and stand for a number below 2^64
abbrev pub is_varint : List ℕ → Bool
is_varint bytes = ends_well bytes && nat_lt (varint_value bytes) (2 ^ 64)

-- the spelling of a number in at most `most` bytes
abbrev pub varint_within : ℕ → ℕ → List ℕ
varint_within zero n = []
varint_within (suc most) n = if nat_lt n 128 then n ∷ [] else (128 + n % 128) ∷ varint_within most (n / 128)

-- the one spelling of a number below 2^64
unfoldable pub varint : ℕ → List ℕ
varint n = varint_within 10 n
