use Rattle.cx_placing.proofs.Only.{calls_alone-only}
use Rattle.cx_placing.proofs.laws.a_call_slice_is_of_one_run.Goals as goal

pub returns-clause-possible : goal.returns-clause-possible
returns-clause-possible g c = λ m called slice os faithful total is went.
    (calls_alone-only m called slice os faithful total is went).possible

pub returns-clause-slice : goal.returns-clause-slice
returns-clause-slice g c = λ m called slice os faithful total is went.
    (calls_alone-only m called slice os faithful total is went).slice_is
