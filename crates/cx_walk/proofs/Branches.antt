-- What holds of both branches of a test, and of a test of two parts.
use Rattle.std.proofs.Common.{◌≡◌, Bool, true, false, ◌&&◌, cond, refl}

-- what holds of each branch where it is taken
pub either : {A : Type 0} (P : A → Type 0) (b : Bool) (x y : A) → (b ≡ true → P x) → (b ≡ false → P y) → P (cond b x y)
either P true x y taken passed = taken refl
either P false x y taken passed = passed refl

pub both_true : (a b : Bool) → (a && b) ≡ true → (a ≡ true) × (b ≡ true)
both_true true b e = (refl, e)
both_true false b e = cc
