-- What an instruction does to registers and pc, and what it retires with.
use Rattle.std.specs.Prelude.{None, Result, Ok, Err}
use Rattle.cx_csr.specs.declared.causes.TheConstants.{INSTRUCTION_ADDRESS_MISALIGNED}
use Rattle.cx_csr.specs.declared.state.State.{State}
use Rattle.cx_decode.specs.declared.ins.Ins.{Ins}
use Rattle.cx_exec.specs.Effect.{effect_of}
use Rattle.cx_exec.specs.declared.effect.Effect.{Effect}
use Rattle.cx_exec.specs.declared.effect.Misaligned.{Misaligned}
use Rattle.cx_exec.specs.declared.got.Got.{Got}
use Rattle.cx_hart.specs.Ends.{End, found, trap}
use Rattle.cx_hart.specs.declared.findings.Control.TheVariants.{Untouched}
use Rattle.cx_hart.specs.declared.findings.Retired.{Retired}

-- A jump or a branch to a target that isn't a multiple of 4 is an exception, which tells the target (Unprivileged ISA,
-- 2.5; Privileged 1.12, 3.1.15 and 3.1.16).
abbrev pub effect_or_trap : Result Effect Misaligned → End Effect
effect_or_trap (Ok effect) = found effect
effect_or_trap (Err misaligned) = trap INSTRUCTION_ADDRESS_MISALIGNED misaligned.target

-- The effect of an instruction once it got what it asks for. It isn't asked of ECALL, EBREAK, MRET and SRET, whose
-- meaning stands in System.
abbrev pub instruction_effect : State → Ins → Got → End Effect
instruction_effect s i got = effect_or_trap (effect_of i s.pc s.x got)

-- An instruction that has this effect, and neither writes memory, nor touches control registers or the reservation, nor
-- takes a value of the outside.
abbrev pub retired_with : State → Effect → Retired
retired_with s effect = record {
  effect = effect;
  control = Untouched;
  reservation = s.reservation;
  write = None;
  write_more = None;
  value = None;
  result = None;
}
