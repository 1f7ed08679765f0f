-- Which instructions can retire in user mode (Privileged Architecture, 1.2, 2.1, 3.3 and 4.2). All others trap there
-- whatever the state: they call, break, return from a trap, order translations, or reach a control register that user
-- mode may not reach in that way.
use Rattle.std.specs.Prelude.{ℕ, Bool, true, false, ◌&&◌, ◌||◌, ◌==◌, IsTrue}
use Rattle.cx_decode.specs.Operands.{ins_of}
use Rattle.cx_decode.specs.Table.{Matches}
use Rattle.cx_decode.specs.declared.ins.Ins.{Ins}
use Rattle.cx_decode.specs.declared.op.Op.{Op}
use Rattle.cx_decode.specs.declared.op.Op.TheVariants.{Ecall, Ebreak, Mret, Sret, SfenceVma, Csrrw, Csrrs, Csrrc}
use Rattle.cx_decode.specs.declared.op.Op.TheVariants.{Csrrwi, Csrrsi, Csrrci}
use Rattle.cx_csr.specs.declared.numbers.TheConstants.{CSR_CYCLE, CSR_TIME, CSR_INSTRET, CSR_CYCLEH, CSR_TIMEH}
use Rattle.cx_csr.specs.declared.numbers.TheConstants.{CSR_INSTRETH}

-- The counters that every hart has, and their high halves (Unprivileged ISA, 10.1).
abbrev pub is_base_counter : ℕ → Bool
is_base_counter number =
    number == CSR_CYCLE || number == CSR_TIME || number == CSR_INSTRET
    || number == CSR_CYCLEH || number == CSR_TIMEH || number == CSR_INSTRETH

-- A control register is read and not written, and is a counter.
abbrev pub reads_counter : ℕ → ℕ → Bool
reads_counter rs1 number = (rs1 == 0) && is_base_counter number

abbrev pub row_user_retires : Op → ℕ → ℕ → Bool
row_user_retires Ecall rs1 imm = false
row_user_retires Ebreak rs1 imm = false
row_user_retires Mret rs1 imm = false
row_user_retires Sret rs1 imm = false
row_user_retires SfenceVma rs1 imm = false
row_user_retires Csrrw rs1 imm = false
row_user_retires Csrrwi rs1 imm = false
row_user_retires Csrrs rs1 imm = reads_counter rs1 imm
row_user_retires Csrrc rs1 imm = reads_counter rs1 imm
row_user_retires Csrrsi rs1 imm = reads_counter rs1 imm
row_user_retires Csrrci rs1 imm = reads_counter rs1 imm
row_user_retires op rs1 imm = true

abbrev pub user_retires : Ins → Bool
user_retires i = row_user_retires i.op i.rs1 i.imm

-- The word is one that user mode can retire.
abbrev pub IsUserWord : ℕ → Type 0
IsUserWord word = (op : Op) × (Matches word op × IsTrue (user_retires (ins_of op word)))
