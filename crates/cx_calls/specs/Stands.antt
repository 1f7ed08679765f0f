-- What a slicer by calls keeps, and what it stands for.
use Rattle.std.specs.Prelude.{◌≡◌, ℕ, List, Result, Err}
use Rattle.cx_calls.specs.Slicing.{IsCalling}
use Rattle.cx_calls.specs.declared.caller.Caller.{Caller}
use Rattle.cx_codec.specs.Blocks.{Waiting}
use Rattle.cx_codec.specs.declared.fault.OutFault.{OutFault}
use Rattle.cx_codec.specs.declared.fault.OutFault.TheVariants.{NoMemory}
use Rattle.cx_observe.specs.declared.obs.Obs.{Obs}

-- what is kept of its output
abbrev pub output_of : Caller → Waiting
output_of c = c.writer.output

-- how many observations it was fed
abbrev pub count_of : Caller → ℕ
count_of c = c.gatherer.count

-- It was fed these observations.
abbrev pub HasTaken : List Obs → Caller → Type 0
HasTaken os c = IsCalling os c.gatherer c.writer

-- Room was refused, and it stands for what it did.
pub record IsRoomRefused {S : Type 0} (result : Result (Unit {0}) OutFault) (old new : Caller) (sink sink_now : S)
    : Type 0 where
  pub answer : result ≡ Err NoMemory
  pub taken : (os : List Obs) → HasTaken os old → HasTaken os new
  pub count : count_of new ≡ count_of old
  pub output : output_of new ≡ output_of old
  pub sink_same : sink_now ≡ sink
