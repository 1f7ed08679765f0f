use Rattle.cx_placing.proofs.Runs.{calls_alone-calls_of}
use Rattle.cx_placing.proofs.Spelling.{IsCallSlice-calls_of}
use Rattle.cx_placing.proofs.laws.a_call_slice_goes_alone.Goals as goal

pub returns-clause-goes : goal.returns-clause-goes
returns-clause-goes g c = calls_alone-calls_of

pub returns-clause-slice : goal.returns-clause-slice
returns-clause-slice g c = IsCallSlice-calls_of
