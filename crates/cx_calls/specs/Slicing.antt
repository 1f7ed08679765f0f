-- What a slicer by calls has put and keeps.
use Rattle.std.specs.Prelude.{◌≡◌, ℕ, true, List, [], replicate, Option, None, Some, Result, Err}
use Rattle.cx_callfmt.specs.Rules.{Behind, behind_start, may_come}
use Rattle.cx_callfmt.specs.Writing.{CallWriting, behind_records}
use Rattle.cx_calls.specs.Calling.{called}
use Rattle.cx_calls.specs.Gathers.{IsGathered, IsSame, behind_last}
use Rattle.cx_calls.specs.declared.gatherer.Gatherer.{Gatherer}
use Rattle.cx_codec.specs.declared.fault.OutFault.{OutFault}
use Rattle.cx_codec.specs.declared.fault.OutFault.TheVariants.{NoMemory}
use Rattle.cx_marks.specs.Marked.{is_marked}
use Rattle.cx_observe.specs.User.{user}
use Rattle.cx_observe.specs.declared.obs.Obs.{Obs}
use Rattle.cx_placing.specs.Gathering.{gathered_of}
use Rattle.cx_placing.specs.Touched.{untouched}
use Rattle.cx_program.specs.Knowing.{known_by}

-- It has gathered these observations, and the next record may stand behind those that were put.
pub record IsCalling (os : List Obs) (g : Gatherer) (w : CallWriting) : Type 0 where
  pub gathered : IsGathered (gathered_of user called os) g
  pub behind : w.behind ≡ behind_records behind_start (gathered_of user called os).put.records

-- the same for some observations
abbrev pub IsForSome : Gatherer → CallWriting → Type 0
IsForSome g w = ∥ ((os : List Obs) × IsCalling os g w) ∥₁

-- The last call may stand there; where there is none, the start does.
abbrev pub MayPut : Option (ℕ × ℕ) → Behind → Type 0
MayPut None behind = behind ≡ behind_start
MayPut (Some call) behind = may_come behind 2 call.0 ≡ true

-- Nothing is gathered behind the call at this index.
pub record IsAnew (index number : ℕ) (old new : Gatherer) : Type 0 where
  pub last : new.last ≡ Some (index, number)
  pub first : new.first ≡ true
  pub words : new.words ≡ replicate 32 None
  pub missed : new.missed.items ≡ []
  pub behind : new.behind ≡ record { text = []; behind = behind_last (Some (index, number)) }
  pub count : new.count ≡ old.count
  pub known : known_by new.standing ≡ known_by old.standing
  pub touched : is_marked new.touched ≡ untouched

-- Room was refused, and nothing was put.
pub record IsHeldBack {S : Type 0} (result : Result (Unit {0}) OutFault) (old new : Gatherer) (before now : CallWriting)
    (sink sink_now : S) : Type 0 where
  pub answer : result ≡ Err NoMemory
  pub same : IsSame old new
  pub writer : now ≡ before
  pub sink_same : sink_now ≡ sink
