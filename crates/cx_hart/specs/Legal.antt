-- Which words are instructions, and which of them a mode may not carry out. All others are illegal: the step ends in
-- the exception of illegal instructions (Privileged 1.12, 3.1.15). That it tells the word, where the standard leaves
-- the choice to tell 0 (3.1.16), is this hart's own choice.
use Rattle.std.specs.Prelude.{ℕ, Bool, false, ◌==◌, ◌&&◌, ◌||◌, nat_lt, Option, None, Some}
use Rattle.cx_csr.specs.declared.state.State.{State}
use Rattle.cx_csr.specs.Bits.{is_set}
use Rattle.cx_csr.specs.declared.causes.TheConstants.{ILLEGAL_INSTRUCTION}
use Rattle.cx_csr.specs.declared.modes.TheConstants.{USER, SUPERVISOR, MACHINE}
use Rattle.cx_csr.specs.declared.status.TheConstants.{TVM, TW}
use Rattle.cx_decode.specs.Decoding.{decoded}
use Rattle.cx_decode.specs.declared.ins.Ins.{Ins}
use Rattle.cx_decode.specs.declared.op.Op.{Op}
use Rattle.cx_decode.specs.declared.op.Op.TheVariants.{Wfi, SfenceVma}
use Rattle.cx_hart.specs.Ends.{End, trap, found}

abbrev pub illegal : {Y : Type 0} → ℕ → End Y
illegal word = trap ILLEGAL_INSTRUCTION word

abbrev pub ins_or_illegal : ℕ → Option Ins → End Ins
ins_or_illegal word None = illegal word
ins_or_illegal word (Some i) = found i

-- the instruction that the word spells
abbrev pub instruction : ℕ → End Ins
instruction word = ins_or_illegal word (decoded word)

abbrev pub is_barred : State → Op → Bool
-- WFI is for machine mode alone where TW is set (3.1.6.5, 3.3.3).
is_barred s Wfi = nat_lt s.mode MACHINE && is_set s.csr.mstatus TW
-- SFENCE.VMA isn't for user mode, and for supervisor mode only where TVM is clear (3.1.6.5, 4.2.1).
is_barred s SfenceVma = s.mode == USER || (s.mode == SUPERVISOR && is_set s.csr.mstatus TVM)
-- No other instruction is barred by the mode alone.
is_barred s op = false
