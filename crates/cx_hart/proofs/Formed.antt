-- What the table gives of a word is well formed.
use Rattle.std.proofs.Common.{◌≡◌, ℕ, ◌+◌, ◌*◌, ◌%◌, ◌^◌, ◌<◌, Option, None, Some, IfSome, refl, arith}
use Rattle.std.specs.List.{find}
use Rattle.std.specs.Option.{option_map}
use Rattle.std.proofs.lemmas.Bool.Decides.{nat_tests}
use Rattle.cx_decode.specs.Decoding.{all_ops, decoded, is_word_of_row}
use Rattle.cx_decode.specs.Operands.{field, ins_of, operands, sign_extended}
use Rattle.cx_decode.specs.Table.{row_of}
use Rattle.cx_decode.specs.WellFormed.{IsEvenSigned, IsSigned, Spells, WellFormed}
use Rattle.cx_decode.specs.declared.format.Format.{Format}
use Rattle.cx_decode.specs.declared.format.Format.TheVariants.{Register, Immediate, Shift, Store, Branch, Upper, Jump}
use Rattle.cx_decode.specs.declared.format.Format.TheVariants.{Fence, Control, ControlImmediate, Plain, Translation}
use Rattle.cx_decode.specs.declared.format.Format.TheVariants.{Reserve, Atomic}
use Rattle.cx_decode.specs.declared.op.Op.{Op}

signed_12 : (n : ℕ) → n < 2 ^ 12 → IsSigned 12 (sign_extended 12 n)
signed_12 n small = grind (arith, nat_tests)

signed_13 : (n : ℕ) → n < 2 ^ 13 → n % 2 ≡ 0 → IsEvenSigned 13 (sign_extended 13 n)
signed_13 n small even = (grind (arith, nat_tests), grind (arith, nat_tests))

signed_21 : (n : ℕ) → n < 2 ^ 21 → n % 2 ≡ 0 → IsEvenSigned 21 (sign_extended 21 n)
signed_21 n small even = (grind (arith, nat_tests), grind (arith, nat_tests))

module _ (op : Op) (word : ℕ) (fits : word < 2 ^ 32) where
  spells : (f : Format) → Spells f (operands f op word).rd (operands f op word).rs1 (operands f op word).rs2
      (operands f op word).imm
  spells Register = (omega arith, omega arith, omega arith, refl)
  spells Immediate = (omega arith, omega arith, refl, signed_12 (field 31 20 word) (omega arith))
  spells Shift = (omega arith, omega arith, refl, omega arith)
  spells Store = (refl, omega arith, omega arith, signed_12 (field 31 25 word * 2 ^ 5 + field 11 7 word) (omega arith))
  spells Branch = (
    refl,
    omega arith,
    omega arith,
    signed_13 (field 31 31 word * 2 ^ 12 + field 7 7 word * 2 ^ 11
        + field 30 25 word * 2 ^ 5 + field 11 8 word * 2) (omega arith) (omega arith),
  )
  spells Upper = (omega arith, refl, refl, (omega arith, omega arith))
  spells Jump = (
    omega arith,
    refl,
    refl,
    signed_21 (field 31 31 word * 2 ^ 20 + field 19 12 word * 2 ^ 12 + field 20 20
        word * 2 ^ 11 + field 30 21 word * 2) (omega arith) (omega arith),
  )
  spells Fence = (omega arith, omega arith, refl, omega arith)
  spells Control = (omega arith, omega arith, refl, omega arith)
  spells ControlImmediate = (omega arith, omega arith, refl, omega arith)
  spells Plain = (refl, refl, refl, refl)
  spells Translation = (refl, omega arith, omega arith, refl)
  spells Reserve = (omega arith, omega arith, refl, omega arith)
  spells Atomic = (omega arith, omega arith, omega arith, omega arith)

operands_op : (f : Format) (op : Op) (word : ℕ) → (operands f op word).op ≡ op
operands_op Register op word = refl
operands_op Immediate op word = refl
operands_op Shift op word = refl
operands_op Store op word = refl
operands_op Branch op word = refl
operands_op Upper op word = refl
operands_op Jump op word = refl
operands_op Fence op word = refl
operands_op Control op word = refl
operands_op ControlImmediate op word = refl
operands_op Plain op word = refl
operands_op Translation op word = refl
operands_op Reserve op word = refl
operands_op Atomic op word = refl

formed_of_row : (op : Op) (word : ℕ) → word < 2 ^ 32 → WellFormed (ins_of op word)
formed_of_row op word fits = rw (operands_op (row_of op).format op word) (spells op word fits (row_of op).format)

formed_by : (word : ℕ) (row : Option Op) → word < 2 ^ 32 → IfSome (option_map (λ op. ins_of op word) row) WellFormed
formed_by word None fits = tt
formed_by word (Some op) fits = formed_of_row op word fits

pub decoded_formed : (word : ℕ) → word < 2 ^ 32 → IfSome (decoded word) WellFormed
unfolding decoded
decoded_formed word fits = formed_by word (find (is_word_of_row word) all_ops) fits
