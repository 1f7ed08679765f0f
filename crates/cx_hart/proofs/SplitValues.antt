-- The value of a part fits beside that of the other.
use Rattle.std.proofs.Common.{ℕ, zero, ◌+◌, ◌-◌, ◌*◌, ◌^◌, ◌<◌, ◌≤◌, arith}
use Rattle.std.proofs.Math.Nat.{pow-le-pow_right}

pub small_value : (value len front : ℕ) → value < 2 ^ (8 * len) → front + len ≤ 4 → value < 2 ^ (8 * (4 - front))
small_value value len front fits whole =
    let some : zero < 2 = omega arith in
    let longer : 8 * len ≤ 8 * (4 - front) = omega arith in
    let wider : 2 ^ (8 * len) ≤ 2 ^ (8 * (4 - front)) = pow-le-pow_right some longer in
    omega arith
