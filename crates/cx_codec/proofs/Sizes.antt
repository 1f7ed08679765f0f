-- How long a varint is at most.
use Rattle.std.proofs.Common.{ℕ, zero, suc, ◌+◌, ◌/◌, ◌%◌, ◌≤◌, [], ◌∷◌, length, ltb, cond, arith, Bool, true, false}
use Rattle.cx_codec.specs.Varint.{varint, varint_within}

digits_few : (most n : ℕ) (t : Bool) → length (varint_within most (n / 128)) ≤ most
    → length (cond t (n ∷ []) ((128 + n % 128) ∷ varint_within most (n / 128))) ≤ suc most
digits_few most n true few = omega arith
digits_few most n false few = omega (arith, few)

within_few : (most n : ℕ) → length (varint_within most n) ≤ most
within_few zero n = omega arith
within_few (suc most) n = digits_few most n (ltb n 128) (within_few most (n / 128))

pub varint_few : (n : ℕ) → length (varint n) ≤ 10
unfolding varint
varint_few n = within_few 10 n
