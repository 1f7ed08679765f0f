use Rattle.std.proofs.lemmas.Result.{err_from_is_err_and}
use Rattle.cx_observe.specs.declared.obs.Obs.{Obs}
use Rattle.cx_calls.specs.Stands.{HasTaken}
use Rattle.cx_calls.proofs.Growing.{ends}
use Rattle.cx_calls.specs.Begun.{calls_begun, calls_ending, calls_text}
use Rattle.cx_tellers.proofs.FedTold.{end_cause, ends_on, unfed}
use Rattle.cx_tellers.proofs.calling.CallerObservationTeller.finish.Goals as goal

pub returns-in_err-may_end-clause-finishes : goal.returns-in_err-may_end-clause-finishes
returns-in_err-may_end-clause-finishes g c os base told =
    let p = err_from_is_err_and c.from_residual.result c.from_residual.ensures.1 in
    rw p.1 (unfed (calls_begun os) (calls_text os) base _ _
    (calls_ending os) (ends os)
    told.stands)

pub returns-clause-finishes : goal.returns-clause-finishes
returns-clause-finishes g c os base told =
    ends_on (calls_begun os) (calls_text os) (calls_ending os) base _ _ _ _ (ends os) told.stands (c.end.ensures os told.keeps)

pub returns-clause-cause : goal.returns-clause-cause
returns-clause-cause g c =
    end_cause (λ os. HasTaken os c.args.self) (c.args.self.calling c.requires.ready)
    calls_ending _ _ _ _ c.end.ensures
