use Rattle.std.proofs.Common.{List, length}
use Rattle.std.proofs.lemmas.Result.{err_from_is_err_and}
use Rattle.cx_observe.specs.User.{user}
use Rattle.cx_observe.specs.declared.obs.Obs.{Obs}
use Rattle.cx_process.specs.Stands.{HasTaken}
use Rattle.cx_slicefmt.specs.Text.{least_behind, slice_end_text}
use Rattle.cx_slicefmt.proofs.Texts.{body_end}
use Rattle.cx_slices.specs.Groups.{groups_of}
use Rattle.cx_commands.specs.Process.{slice_begun, slice_of}
use Rattle.cx_tellers.proofs.FedTold.{end_cause, ends_on, unfed}
use Rattle.cx_tellers.proofs.slicing.SlicerObservationTeller.finish.Goals as goal

pub returns-in_err-may_end-clause-finishes : goal.returns-in_err-may_end-clause-finishes
returns-in_err-may_end-clause-finishes g c os base told =
    let p = err_from_is_err_and c.from_residual.result c.from_residual.ensures.1 in
    rw p.1 (unfed (slice_begun os) (slice_of os) base _ _
    (slice_end_text (least_behind 0 (groups_of user os)) (length os)) (body_end (groups_of user os) (length os))
    told.stands)

pub returns-clause-finishes : goal.returns-clause-finishes
returns-clause-finishes g c os base told =
    ends_on (slice_begun os) (slice_of os) (slice_end_text (least_behind 0 (groups_of user os)) (length os)) base _ _ _ _
    (body_end (groups_of user os) (length os)) told.stands (c.end.ensures os told.keeps)

pub returns-clause-cause : goal.returns-clause-cause
returns-clause-cause g c =
    end_cause (λ os. HasTaken os c.args.self) c.args.self.slicing
    (λ (os : List Obs). slice_end_text (least_behind 0 (groups_of user os)) (length os)) _ _ _ _ c.end.ensures
