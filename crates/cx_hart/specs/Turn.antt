-- One turn of the hart up to where it ends: an interrupt is taken, or one instruction is fetched and carried out.
use Rattle.std.specs.Prelude.{ℕ, Option, None, Some, Err}
use Rattle.cx_decode.specs.declared.ins.Ins.{Ins}
use Rattle.cx_exec.specs.Asking.{ask_of, need_of}
use Rattle.cx_exec.specs.declared.asks.Ask.{Ask}
use Rattle.cx_exec.specs.declared.asks.Ask.TheVariants.{Csr, System}
use Rattle.cx_exec.specs.declared.asks.Need.{Need}
use Rattle.cx_trap.specs.Pending.{pending_of}
use Rattle.cx_hart.specs.Accesses.{accessed}
use Rattle.cx_hart.specs.Control.{controlled}
use Rattle.cx_hart.specs.Ends.{End}
use Rattle.cx_hart.specs.Fetch.{fetched}
use Rattle.cx_hart.specs.Legal.{instruction}
use Rattle.cx_hart.specs.Phases.{Phase, unseen, ◌>>=◌}
use Rattle.cx_hart.specs.Surroundings.{Surroundings}
use Rattle.cx_hart.specs.System.{computed, system}
use Rattle.cx_hart.specs.declared.findings.Retired.{Retired}
use Rattle.cx_hart.specs.declared.findings.Stop.TheVariants.{Interrupt}

-- An interrupt that is to be taken comes before the instruction (Privileged 1.12, 3.1.9).
abbrev pub unless_interrupted : {Y : Type 0} → Option ℕ → Phase Y → Phase Y
unless_interrupted None rest = rest
unless_interrupted (Some number) rest = unseen (Err (Interrupt number))

-- what an instruction that asks for no access to memory does
abbrev pub done_without_access : Surroundings → ℕ → Ins → Ask → End Retired
done_without_access here word i Csr = controlled here word i
done_without_access here word i System = system word here.state i.op
done_without_access here word i ask = computed word here.state i

abbrev pub done_by_need : Surroundings → ℕ → Ins → Option Need → Phase Retired
done_by_need here word i (Some need) = accessed here i need
done_by_need here word i None = unseen (done_without_access here word i (ask_of i here.state.pc here.state.x))

-- the instruction carried out
unfoldable pub executed : Surroundings → ℕ → Ins → Phase Retired
executed here word i = done_by_need here word i (need_of (ask_of i here.state.pc here.state.x))

abbrev pub fetched_and_executed : Surroundings → Phase Retired
fetched_and_executed here = do
  word ← fetched here
  i ← unseen (instruction word)
  executed here word i

unfoldable pub turn : Surroundings → Phase Retired
turn here = unless_interrupted (pending_of here.state) (fetched_and_executed here)
