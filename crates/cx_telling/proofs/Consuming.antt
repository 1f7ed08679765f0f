-- What reading does to its source.
use Rattle.std.proofs.Common.{◌≡◌, ℕ, true, false, List, [], Option, IsSome, unwrap_or}
use Rattle.cx_codec.specs.Reads.{Follows, Standing}
use Rattle.cx_log.specs.declared.fault.LogFault.{LogFault}
use Rattle.cx_log.specs.declared.fault.LogFault.TheVariants.{Format as bad_field, ReadFault as read_fault}
use Rattle.cx_log.specs.declared.fault.LogFault.TheVariants.{NoMemory as no_memory}
use Rattle.cx_replay.specs.Records.{GaveMore}
use Rattle.cx_replay.specs.declared.fault.ReplayFault.{ReplayFault}
use Rattle.cx_replay.specs.declared.fault.ReplayFault.TheVariants as replay
use Rattle.cx_replay.proofs.Giving.{gave_none, gave_on}
use Rattle.cx_commands.specs.Doing.{Consumes, Judges}
use Rattle.cx_commands.specs.Faults.{status_of_log, status_of_replay}

pub consumes_none : {left : Option (List ℕ)} {given : List ℕ} {judged : Type 0} → IsSome left → (judged → ⊥)
    → Consumes left given left given judged
consumes_none {left} {given} told never = record { gave = gave_none left given told; all = λ j. absurd (never j) }

-- a source that gave more, and may have more left
pub consumes_some : {left now : Option (List ℕ)} {given given_now : List ℕ} {judged : Type 0}
    → GaveMore left given now given_now → (judged → ⊥) → Consumes left given now given_now judged
consumes_some gave never = record { gave = gave; all = λ j. absurd (never j) }

-- a source that has nothing left
pub consumes_all : {left now : Option (List ℕ)} {given given_now : List ℕ} {judged : Type 0}
    → GaveMore left given now given_now → unwrap_or now [] ≡ [] → Consumes left given now given_now judged
consumes_all gave spent = record { gave = gave; all = λ j. spent }

pub consumes_on : {left mid now : Option (List ℕ)} {given given_mid given_now : List ℕ} {judged : Type 0}
    → GaveMore left given mid given_mid → Consumes mid given_mid now given_now judged
    → Consumes left given now given_now judged
consumes_on before behind = record { gave = gave_on before behind.gave; all = behind.all }

pub gave_of_follows : {old new : Standing} → Follows old new → GaveMore old.left old.given new.left new.given
gave_of_follows follows = record { told = follows.told; same = follows.same; grows = follows.grows }

-- a fault of the reader, or of a replay, comes before the whole is judged
pub log_fault_is_early : (e : LogFault) → Judges false (status_of_log e) → ⊥
log_fault_is_early (bad_field o) j = j
log_fault_is_early read_fault j = j
log_fault_is_early no_memory j = j

pub log_is_early : (e : LogFault) → Judges true (status_of_log e) → ⊥
log_is_early (bad_field o) j = j
log_is_early read_fault j = j
log_is_early no_memory j = j

pub replay_fault_is_early : (e : ReplayFault) → Judges false (status_of_replay e) → ⊥
replay_fault_is_early (replay.Format o) j = j
replay_fault_is_early (replay.Broken n) j = j
replay_fault_is_early replay.ReadFault j = j
replay_fault_is_early replay.NoMemory j = j
