-- What a step that was taken shows.
use Rattle.std.proofs.Common.{◌≡◌, ℕ, Some}
use Rattle.cx_hart.specs.WellFormed.{IsWellFormed}
use Rattle.cx_hart.specs.declared.record.StepRec.{StepRec}
use Rattle.cx_observe.specs.Observation.{observation_of}
use Rattle.cx_observe.specs.Possible.{Possible}
use Rattle.cx_observe.specs.declared.obs.Obs.{Obs}
use Rattle.cx_observe.proofs.UserLaw.{user_step}
use Rattle.cx_replay.specs.Taken.{IsTaken}
use Rattle.cx_replay.proofs.Taking.{taken_formed}

pub formed : (rec : StepRec) → IsTaken rec → IsWellFormed rec
formed rec taken = taken_formed rec taken

pub shows_possible : (rec : StepRec) (root : ℕ) (o : Obs) → IsTaken rec → observation_of rec root ≡ Some o → Possible o
shows_possible rec root o taken shows =
    (user_step taken.split taken.machine taken.due (record { machine = taken.next; rec = rec }) taken.pages root o
    taken.goes taken.keeps taken.fits shows).possible
