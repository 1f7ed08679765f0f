use Rattle.cx_log.proofs.Recordings.{same_recording}
use Rattle.cx_run.proofs.GoodInputs.{good_input, text_is_good, text_is_settled}
use Rattle.cx_run.proofs.laws.inputs_without_bad_place.Goals as goal

pub returns-clause-none : goal.returns-clause-none
returns-clause-none g c = text_is_good

pub returns-clause-accepted : goal.returns-clause-accepted
returns-clause-accepted g c = λ steps bytes are good.
    (let found = good_input steps bytes are good in (found.0, found.1.accepted, found.1.text))

pub returns-clause-one : goal.returns-clause-one
returns-clause-one g c = λ steps R S accepted other. same_recording R S accepted.rules other.rules

pub returns-clause-settled : goal.returns-clause-settled
returns-clause-settled g c = text_is_settled
