-- What a slicer keeps, and what it stands for.
use Rattle.std.specs.Prelude.{◌≡◌, List, Result, Err}
use Rattle.cx_codec.specs.Blocks.{Waiting}
use Rattle.cx_codec.specs.declared.fault.OutFault.{OutFault}
use Rattle.cx_codec.specs.declared.fault.OutFault.TheVariants.{NoMemory}
use Rattle.cx_observe.specs.declared.obs.Obs.{Obs}
use Rattle.cx_program.specs.Knowing.{known_by}
use Rattle.cx_process.specs.Slicing.{IsSlicing}
use Rattle.cx_process.specs.declared.slicer.Slicer.{Slicer}

-- what is kept of its output
abbrev pub output_of : Slicer → Waiting
output_of s = s.groups.output

-- It was fed these observations.
abbrev pub HasTaken : List Obs → Slicer → Type 0
HasTaken os s = IsSlicing os (known_by s.standing) s.count s.groups.least

-- Room was refused, and nothing has changed.
pub record IsRoomRefused {S : Type 0} (result : Result (Unit {0}) OutFault) (old new : Slicer) (sink sink_now : S)
    : Type 0 where
  pub answer : result ≡ Err NoMemory
  pub known : known_by new.standing ≡ known_by old.standing
  pub count : new.count ≡ old.count
  pub groups : new.groups ≡ old.groups
  pub sink_same : sink_now ≡ sink
