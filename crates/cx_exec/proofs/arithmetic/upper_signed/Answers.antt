use Rattle.std.proofs.Common.{rules, ◌≡◌, ◌*ℤ◌, w32, w64, of_z, FitsSigned, refl}
use Rattle.cx_exec.proofs.Products.{product_in_64_bits}
use Rattle.cx_exec.proofs.arithmetic.upper_signed.Goals as goal

pub returns : goal.returns
returns c =
    let one : FitsSigned w32 c.cast_signed.result = search rules in
    let two : FitsSigned w32 c.cast_signed-2.result = search rules in
    let exact : c.cast_unsigned.result ≡ of_z w64 (c.cast_signed.result *ℤ c.cast_signed-2.result) =
    product_in_64_bits _ _ _ _ _ one two c.from.ensures c.from-2.ensures c.cast_unsigned.ensures in
    rw (exact, c.cast_signed.ensures, c.cast_signed-2.ensures) refl
