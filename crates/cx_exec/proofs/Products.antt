-- The product of two signed 32-bit numbers as the code computes it, in 64 bits.
use Rattle.std.proofs.Common.{◌≡◌, ℕ, ℤ, pos, negsuc, ◌*ℤ◌, ◌≤◌, ◌^◌, w32, w64, FitsSigned, to_z, of_z, refl, ◌∙◌}
use Rattle.std.proofs.Common.{arith, rules, lit<}
use Rattle.std.specs.Prelude.{unsigned_abs}
use Rattle.std.proofs.lemmas.Int.{to_z-of_z, fits_signed_mul}

abs_small : (x : ℤ) → FitsSigned w32 x → unsigned_abs x ≤ 2 ^ 31
abs_small (pos n) fits = omega arith
abs_small (negsuc n) fits = omega arith

widened : (x : ℤ) → FitsSigned w32 x → FitsSigned w64 x
widened (pos n) fits = search rules
widened (negsuc n) fits = search rules

pub product_in_64_bits : (x y p q : ℤ) (n : ℕ) → FitsSigned w32 p → FitsSigned w32 q → x ≡ to_z w32 (of_z w32 p)
    → y ≡ to_z w32 (of_z w32 q) → n ≡ of_z w64 (to_z w64 (of_z w64 (to_z w64 (of_z w64 x) *ℤ to_z w64 (of_z w64 y))))
    → n ≡ of_z w64 (p *ℤ q)
product_in_64_bits x y p q n one two ex ey e =
    let ep : x ≡ p = ex ∙ to_z-of_z w32 p one in
    let eq : y ≡ q = ey ∙ to_z-of_z w32 q two in
    let fits : FitsSigned w64 (p *ℤ q) = fits_signed_mul w64 p q (2 ^ 31) (2 ^ 31) (abs_small p one) (abs_small q two)
    (lit< tt) in
    e ∙ rw (ep, eq, to_z-of_z w64 p (widened p one), to_z-of_z w64 q (widened q two), to_z-of_z w64 (p *ℤ q) fits) refl
