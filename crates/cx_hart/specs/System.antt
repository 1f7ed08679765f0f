-- Instructions that call, break and return from traps (Unprivileged ISA, 2.8; Privileged 1.12, 3.3.1 and 3.3.2), and
-- those that ask for nothing.
use Rattle.std.specs.Prelude.{ℕ, ◌+◌, if◌then◌else◌, None}
use Rattle.cx_csr.specs.declared.causes.TheConstants.{BREAKPOINT, CALL_FROM_USER}
use Rattle.cx_csr.specs.declared.state.State.{State}
use Rattle.cx_decode.specs.declared.ins.Ins.{Ins}
use Rattle.cx_decode.specs.declared.op.Op.{Op}
use Rattle.cx_decode.specs.declared.op.Op.TheVariants.{Ecall, Ebreak, Mret, Sret}
use Rattle.cx_exec.specs.declared.effect.Effect.{Effect}
use Rattle.cx_exec.specs.declared.got.Got.TheVariants.{Nothing}
use Rattle.cx_trap.specs.Return.{can_mret, can_sret}
use Rattle.cx_hart.specs.Effects.{instruction_effect, retired_with}
use Rattle.cx_hart.specs.Ends.{End, found, trap, ◌>>=◌}
use Rattle.cx_hart.specs.Legal.{illegal, is_barred}
use Rattle.cx_hart.specs.declared.findings.Control.{Control}
use Rattle.cx_hart.specs.declared.findings.Control.TheVariants as control
use Rattle.cx_hart.specs.declared.findings.Retired.{Retired}

-- no register, and pc there
abbrev pub goes_to : ℕ → Effect
goes_to pc = record { rd = 0; value = 0; pc = pc; write = None }

-- A return from a trap goes on where the trap was taken. All else that it does is its change of control registers.
abbrev pub returned : State → Control → ℕ → Retired
returned s control pc = record (retired_with s (goes_to pc)) { control = control }

unfoldable pub system : ℕ → State → Op → End Retired
-- Each mode has a cause for its environment calls, in the order of the modes (3.3.1, 3.1.15).
system word s Ecall = trap (CALL_FROM_USER + s.mode) 0
-- A breakpoint tells its own address (3.3.1, 3.1.16).
system word s Ebreak = trap BREAKPOINT s.pc
-- Where a return is illegal is said of returns (3.3.2).
system word s Mret = if can_mret s then found (returned s control.Mret s.csr.mepc) else illegal word
system word s Sret = if can_sret s then found (returned s control.Sret s.csr.sepc) else illegal word
-- No other instruction is one of these.
system word s op = illegal word

unfoldable pub computed : ℕ → State → Ins → End Retired
computed word s i = if is_barred s i.op then illegal word else do
  effect ← instruction_effect s i Nothing
  found (retired_with s effect)
