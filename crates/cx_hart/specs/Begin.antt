-- A turn up to where its instruction is known.
use Rattle.std.specs.Prelude.{ℕ}
use Rattle.cx_decode.specs.Groups.{group_of}
use Rattle.cx_decode.specs.declared.ins.Ins.{Ins}
use Rattle.cx_trap.specs.Pending.{pending_of}
use Rattle.cx_hart.specs.Fetch.{fetched}
use Rattle.cx_hart.specs.Legal.{instruction}
use Rattle.cx_hart.specs.Ends.{End, found, ◌>>=◌}
use Rattle.cx_hart.specs.Phases.{Phase, unseen, ◌>>=◌ as phase_then}
use Rattle.cx_hart.specs.Surroundings.{Surroundings}
use Rattle.cx_hart.specs.Turn.{unless_interrupted}
use Rattle.cx_hart.specs.declared.findings.Going.{Going}

abbrev pub going : ℕ → Ins → Going
going word i = record { word = word; ins = i; group = group_of i.op }

abbrev pub going_of : ℕ → End Going
going_of word = instruction word >>= λ i. found (going word i)

abbrev pub fetched_and_decoded : Surroundings → Phase Going
fetched_and_decoded here = phase_then (fetched here) (λ word. unseen (going_of word))

-- the instruction that the turn carries out, unless it ends before
unfoldable pub begun : Surroundings → Phase Going
begun here = unless_interrupted (pending_of here.state) (fetched_and_decoded here)
