-- What the record of a step shows of a program. Of the step's number, of places and of the root nothing is in it.
use Rattle.std.specs.Prelude.{ℕ, ◌+◌, ◌==◌, ◌&&◌, Bool, true, false, ◌++◌, take, Option, None, Some, option_map}
use Rattle.std.specs.Prelude.{if◌then◌else◌}
use Rattle.cx_csr.specs.declared.causes.TheConstants.{CALL_FROM_USER}
use Rattle.cx_csr.specs.declared.modes.TheConstants.{USER}
use Rattle.cx_hart.specs.Touches.{padded}
use Rattle.cx_hart.specs.declared.record.Ended.{Ended}
use Rattle.cx_hart.specs.declared.record.Ended.TheVariants.{Interrupt, Retired, Trap}
use Rattle.cx_hart.specs.declared.record.StepRec.{StepRec}
use Rattle.cx_hart.specs.declared.record.Touch.{Touch}
use Rattle.cx_ram.specs.LittleEndian.{loaded}
use Rattle.cx_observe.specs.declared.obs.Obs.{Obs}
use Rattle.cx_observe.specs.declared.obs.Seen.{Seen}

-- two parts as one, from the address of the first on
abbrev pub parts_joined : Touch → Option Touch → Seen
parts_joined first None = record { va = first.va; len = first.len; bytes = padded 4 (take first.len first.bytes) }
parts_joined first (Some more) = record {
  va = first.va;
  len = first.len + more.len;
  bytes = padded 4 (take first.len first.bytes ++ take more.len more.bytes);
}

-- an access by its parts
abbrev pub access_seen : Option Touch → Option Touch → Option Seen
access_seen None more = None
access_seen (Some first) more = Some (parts_joined first more)

-- It retired, or called the environment from user mode (Privileged 1.12, 3.1.15).
abbrev pub is_shown : Ended → Bool
is_shown Retired = true
is_shown (Trap cause) = cause == CALL_FROM_USER
is_shown (Interrupt number) = false

-- A step in user mode over the page table of this root, which the program goes on by.
abbrev pub is_chosen : StepRec → ℕ → Bool
is_chosen r root = (r.before.mode == USER) && ((r.before.csr.satp == root) && is_shown r.ended)

abbrev pub observed_with : StepRec → Touch → Obs
observed_with r fetch = record {
  pc = r.before.pc;
  x = r.before.x;
  word = loaded fetch.bytes 0 4;
  read = access_seen r.read r.read_more;
  value = r.result;
  write = access_seen r.write r.write_more;
}

-- the observation of a step that is chosen for the root
unfoldable pub observation_of : StepRec → ℕ → Option Obs
observation_of r root = if is_chosen r root then option_map (observed_with r) r.fetch else None
