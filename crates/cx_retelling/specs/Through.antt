-- What a slice goes through alone, what its replay says of that, and what is done of it where that is told.
use Rattle.std.specs.Prelude.{◌≡◌, ℕ, Bool, true, false, List, [], ◌∷◌, ◌++◌, Option, None, Some, Result, Ok, Err}
use Rattle.std.specs.Io.KnownBytes.{Appends}
use Rattle.cx_callfmt.specs.Rules.{calls}
use Rattle.cx_callfmt.specs.Scan.{CallScan, scan_behind_head}
use Rattle.cx_codec.specs.Blocks.{HasFront, whole as whole_blocks}
use Rattle.cx_codec.specs.Place.{Place}
use Rattle.cx_observe.specs.declared.obs.Obs.{Obs}
use Rattle.cx_replay.specs.declared.fault.ReplayFault.{ReplayFault}
use Rattle.cx_replay.specs.declared.fault.ReplayFault.TheVariants.{Format, Broken, ReadFault, NoMemory}
use Rattle.cx_slicefmt.specs.Reading.{head_at}
use Rattle.cx_slicefmt.specs.Rules.{process}
use Rattle.cx_slicefmt.specs.Scan.{scan_groups}
use Rattle.cx_slices.specs.Settled.{SliceScan}
use Rattle.cx_commands.specs.Doing.{Doing, IsGoodSoFar}
use Rattle.cx_commands.specs.Replay.{called_through, calls_refusal, gone_through, slice_refusal}
use Rattle.cx_commands.specs.Replay.{without_call_end, without_end}
use Rattle.cx_commands.specs.declared.status.Status.{Status}
use Rattle.cx_commands.specs.declared.status.Status.TheVariants as status

-- The observations of the steps that an input settles, up to the first that breaks a rule, and the answer where it is
-- refused; and both of what a source gave before it failed.
pub record Through : Type 0 where
  pub observations : List Obs
  pub refusal : Option Status
  pub observations_so_far : List Obs
  pub refusal_so_far : Option Status

abbrev pub through_process : SliceScan ℕ → Through
through_process s = record {
  observations = gone_through s;
  refusal = slice_refusal s;
  observations_so_far = gone_through (without_end s);
  refusal_so_far = slice_refusal (without_end s);
}

abbrev pub through_calls : CallScan → Through
through_calls s = record {
  observations = called_through s;
  refusal = calls_refusal s;
  observations_so_far = called_through (without_call_end s);
  refusal_so_far = calls_refusal (without_call_end s);
}

-- the same by the place behind the magic
abbrev pub process_at : Place → Through
process_at p = through_process (scan_groups process 0 p)

abbrev pub calls_at : Place → Through
calls_at p = through_calls (scan_behind_head (head_at calls false p))

-- ---- a replay

-- What a refusal says of an input that ends at an offset, once these observations were given: cut says that the input
-- is what the source gave and no more.
abbrev pub Refuses : Through → ℕ → List Obs → (cut : Type 0) → ReplayFault → Type 0
Refuses t end os cut (Format o) = (t.refusal ≡ Some (status.Format o)) × (t.observations ≡ os)
Refuses t end os cut (Broken n) = (t.refusal ≡ Some (status.Broken n)) × (t.observations ≡ os)
Refuses t end os cut ReadFault = cut → IsGoodSoFar end t.refusal_so_far × (t.observations_so_far ≡ os)
Refuses t end os cut NoMemory = Unit {0}

-- One observation more, or all was given and nothing is bad, or a refusal.
abbrev pub Gives : Through → ℕ → (Stands : List Obs → Type 0) → List Obs → (cut : Type 0)
    → Result (Option Obs) ReplayFault → Type 0
Gives t end Stands os cut (Ok (Some o)) = Stands (os ++ o ∷ [])
Gives t end Stands os cut (Ok None) = (t.refusal ≡ None) × (t.observations ≡ os)
Gives t end Stands os cut (Err fault) = Refuses t end os cut fault

abbrev pub Opens : {R : Type 0} → Through → ℕ → (Stands : R → Type 0) → (cut : Type 0) → Result R ReplayFault → Type 0
Opens t end Stands cut (Ok r) = Stands r
Opens t end Stands cut (Err fault) = Refuses t end [] cut fault

-- ---- what is done of it

-- A slice told as its steps are settled, by the text of observations where more may follow, and by that of all.
abbrev pub retelling : (text full : List Obs → List ℕ) → Through → Doing
retelling text full t = record {
  reads = true;
  streams = true;
  refusal = λ bytes. t.refusal;
  full = λ bytes. full t.observations;
  settled = λ bytes. text t.observations;
  cut_off = λ bytes. [];
  refusal_so_far = λ bytes. t.refusal_so_far;
  settled_so_far = λ bytes. text t.observations_so_far;
  lasts = λ bytes. false;
}

-- The observations that were given are those that were told.
pub record HasTold (Stands Told : List Obs → Type 0) : Type 0 where
  pub observations : List Obs
  pub stands : Stands observations
  pub told : Told observations

-- what a refusal says of an input that ends at an offset, and leaves of the text of its observations
abbrev pub StopsRetelling : (text : List Obs → List ℕ) → Through → ℕ → (cut : Type 0) → (base held : Option (List ℕ))
    → Status → Type 0
StopsRetelling text t end cut base held (status.Format o) =
    (t.refusal ≡ Some (status.Format o)) × Appends base held (whole_blocks (text t.observations))
StopsRetelling text t end cut base held (status.Broken n) =
    (t.refusal ≡ Some (status.Broken n)) × Appends base held (whole_blocks (text t.observations))
StopsRetelling text t end cut base held status.ReadFault = cut → IsGoodSoFar end t.refusal_so_far
    × Appends base held (whole_blocks (text t.observations_so_far))
StopsRetelling text t end cut base held status.WriteFault = HasFront base (text t.observations) held
StopsRetelling text t end cut base held status.NoMemory = HasFront base (text t.observations) held
StopsRetelling text t end cut base held _ = ⊥

-- one observation told more, or all were and nothing is bad
abbrev pub RetellsOn : (text : List Obs → List ℕ) → Through → ℕ → (Stands Told : List Obs → Type 0) → (cut : Type 0)
    → (base held : Option (List ℕ)) → Result Bool Status → Type 0
RetellsOn text t end Stands Told cut base held (Ok true) = HasTold Stands Told
RetellsOn text t end Stands Told cut base held (Ok false) = (t.refusal ≡ None) × Told t.observations
RetellsOn text t end Stands Told cut base held (Err answer) = StopsRetelling text t end cut base held answer
