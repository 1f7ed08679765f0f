-- The value that a plain load gives to its register (Unprivileged ISA, 2.6).
use Rattle.std.specs.Prelude.{ℕ, ◌%◌, ◌^◌}
use Rattle.cx_decode.specs.Operands.{sign_extended}
use Rattle.cx_decode.specs.declared.op.Op.{Op}
use Rattle.cx_decode.specs.declared.op.Op.TheVariants.{Lb, Lh, Lbu, Lhu}

abbrev pub loaded_value : Op → ℕ → ℕ
loaded_value Lb got = sign_extended 8 (got % 2 ^ 8)
loaded_value Lh got = sign_extended 16 (got % 2 ^ 16)
loaded_value Lbu got = got % 2 ^ 8
loaded_value Lhu got = got % 2 ^ 16
loaded_value op got = got
