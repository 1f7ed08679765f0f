-- The word that `encode` puts together has the row's bits and the instruction's operands, and is the only one.
use Rattle.std.proofs.Common.{◌≡◌, ℕ, ◌+◌, ◌^◌, ◌<◌, bit_and, refl, sym, arith}
use Rattle.std.proofs.lemmas.Bool.Decides.{nat_tests}
use Rattle.cx_decode.proofs.Masks.{and_7f, and_707f, and_fe00707f, and_f800707f, and_f9f0707f, and_fe007fff}
use Rattle.cx_decode.proofs.Masks.{and_ffffffff}
use Rattle.cx_decode.specs.Encoding.{placed_registers, placed_immediate}
use Rattle.cx_decode.specs.Operands.{IsWordOf, operands}
use Rattle.cx_decode.specs.Table.{row_of}
use Rattle.cx_decode.specs.WellFormed.{Spells, WellFormed}
use Rattle.cx_decode.specs.declared.format.Format.{Format}
use Rattle.cx_decode.specs.declared.format.Format.TheVariants.{Register, Immediate, Shift, Store, Branch, Upper, Jump}
use Rattle.cx_decode.specs.declared.format.Format.TheVariants.{Fence, Control, ControlImmediate, Plain, Translation}
use Rattle.cx_decode.specs.declared.format.Format.TheVariants.{Reserve, Atomic}
use Rattle.cx_decode.specs.declared.ins.Ins.{Ins}
use Rattle.cx_decode.specs.declared.op.Op.{Op}
use Rattle.cx_decode.specs.declared.op.Op.TheVariants.{Lui}

-- ---- the mask of a row is that of its format

mask_by_format : Format → ℕ
mask_by_format Register = 0xfe00707f
mask_by_format Immediate = 0x707f
mask_by_format Shift = 0xfe00707f
mask_by_format Store = 0x707f
mask_by_format Branch = 0x707f
mask_by_format Upper = 0x7f
mask_by_format Jump = 0x7f
mask_by_format Fence = 0x707f
mask_by_format Control = 0x707f
mask_by_format ControlImmediate = 0x707f
mask_by_format Plain = 0xffffffff
mask_by_format Translation = 0xfe007fff
mask_by_format Reserve = 0xf9f0707f
mask_by_format Atomic = 0xf800707f

mask_of_row : (op : Op) → (row_of op).mask ≡ mask_by_format (row_of op).format
unfolding mask_by_format
mask_of_row Lui = refl
mask_of_row op = refl

bits_in_mask : (op : Op) → bit_and (row_of op).bits (row_of op).mask ≡ (row_of op).bits
bits_in_mask Lui = refl
bits_in_mask op = refl

-- ---- a word by its format

abbrev pub spelled : Format → ℕ → Ins → ℕ
spelled format bits i = bits + placed_registers i + placed_immediate format i.imm

spelled_under : (format : Format) (bits : ℕ) (i : Ins) → bit_and bits (mask_by_format format) ≡ bits
    → Spells format i.rd i.rs1 i.rs2 i.imm → bit_and (spelled format bits i) (mask_by_format format) ≡ bits
unfolding mask_by_format
spelled_under Register bits i kept spells = grind (arith, and_fe00707f)
spelled_under Immediate bits i kept spells = grind (arith, and_707f)
spelled_under Shift bits i kept spells = grind (arith, and_fe00707f)
spelled_under Store bits i kept spells = grind (arith, and_707f)
spelled_under Branch bits i kept spells = grind (arith, and_707f)
spelled_under Upper bits i kept spells = grind (arith, and_7f)
spelled_under Jump bits i kept spells = grind (arith, and_7f)
spelled_under Fence bits i kept spells = grind (arith, and_707f)
spelled_under Control bits i kept spells = grind (arith, and_707f)
spelled_under ControlImmediate bits i kept spells = grind (arith, and_707f)
spelled_under Plain bits i kept spells = grind (arith, and_ffffffff)
spelled_under Translation bits i kept spells = grind (arith, and_fe007fff)
spelled_under Reserve bits i kept spells = grind (arith, and_f9f0707f)
spelled_under Atomic bits i kept spells = grind (arith, and_f800707f)

spelled_operands : (format : Format) (bits : ℕ) (i : Ins) → bit_and bits (mask_by_format format) ≡ bits
    → Spells format i.rd i.rs1 i.rs2 i.imm → operands format i.op (spelled format bits i) ≡ i
unfolding mask_by_format
spelled_operands Register bits i kept spells = grind (arith, nat_tests, and_fe00707f)
spelled_operands Immediate bits i kept spells = grind (arith, nat_tests, and_707f)
spelled_operands Shift bits i kept spells = grind (arith, nat_tests, and_fe00707f)
spelled_operands Store bits i kept spells = grind (arith, nat_tests, and_707f)
spelled_operands Branch bits i kept spells = grind (arith, nat_tests, and_707f)
spelled_operands Upper bits i kept spells = grind (arith, nat_tests, and_7f)
spelled_operands Jump bits i kept spells = grind (arith, nat_tests, and_7f)
spelled_operands Fence bits i kept spells = grind (arith, nat_tests, and_707f)
spelled_operands Control bits i kept spells = grind (arith, nat_tests, and_707f)
spelled_operands ControlImmediate bits i kept spells = grind (arith, nat_tests, and_707f)
spelled_operands Plain bits i kept spells = grind (arith, nat_tests, and_ffffffff)
spelled_operands Translation bits i kept spells = grind (arith, nat_tests, and_fe007fff)
spelled_operands Reserve bits i kept spells = grind (arith, nat_tests, and_f9f0707f)
spelled_operands Atomic bits i kept spells = grind (arith, nat_tests, and_f800707f)

spelled_only : (format : Format) (bits : ℕ) (i : Ins) (word : ℕ) → word < 2 ^ 32 → bit_and word (mask_by_format format)
    ≡ bits → operands format i.op word ≡ i → word ≡ spelled format bits i
unfolding mask_by_format
spelled_only Register bits i word small kept spells = grind (arith, nat_tests, and_fe00707f)
spelled_only Immediate bits i word small kept spells = grind (arith, nat_tests, and_707f)
spelled_only Shift bits i word small kept spells = grind (arith, nat_tests, and_fe00707f)
spelled_only Store bits i word small kept spells = grind (arith, nat_tests, and_707f)
spelled_only Branch bits i word small kept spells = grind (arith, nat_tests, and_707f)
spelled_only Upper bits i word small kept spells = grind (arith, nat_tests, and_7f)
spelled_only Jump bits i word small kept spells = grind (arith, nat_tests, and_7f)
spelled_only Fence bits i word small kept spells = grind (arith, nat_tests, and_707f)
spelled_only Control bits i word small kept spells = grind (arith, nat_tests, and_707f)
spelled_only ControlImmediate bits i word small kept spells = grind (arith, nat_tests, and_707f)
spelled_only Plain bits i word small kept spells = grind (arith, nat_tests, and_ffffffff)
spelled_only Translation bits i word small kept spells = grind (arith, nat_tests, and_fe007fff)
spelled_only Reserve bits i word small kept spells = grind (arith, nat_tests, and_f9f0707f)
spelled_only Atomic bits i word small kept spells = grind (arith, nat_tests, and_f800707f)

-- ---- the same of an instruction, whose format is its row's

abbrev pub word_of : Ins → ℕ
word_of i = spelled (row_of i.op).format (row_of i.op).bits i

kept_by_format : (op : Op) → bit_and (row_of op).bits (mask_by_format (row_of op).format) ≡ (row_of op).bits
kept_by_format op = rw (sym (mask_of_row op)) (bits_in_mask op)

-- A word of that value is a word of the instruction, and there is no other.
pub IsWordOf-word_of : (i : Ins) (word : ℕ) → word ≡ word_of i → WellFormed i → IsWordOf word i
IsWordOf-word_of i word e formed = (
  rw (e, mask_of_row i.op) (spelled_under (row_of i.op).format (row_of i.op).bits i (kept_by_format i.op) formed),
  rw e (sym (spelled_operands (row_of i.op).format (row_of i.op).bits i (kept_by_format i.op) formed)),
)

pub word_of_only : (i : Ins) (word : ℕ) → word < 2 ^ 32 → IsWordOf word i → word ≡ word_of i
word_of_only i word small spells =
    spelled_only (row_of i.op).format (row_of i.op).bits i word small (rw (mask_of_row i.op) at spells.0) (sym spells.1)
