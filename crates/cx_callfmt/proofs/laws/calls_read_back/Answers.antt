use Rattle.std.proofs.Common.{length}
use Rattle.cx_placing.specs.Records.{records_from}
use Rattle.cx_callfmt.proofs.Steps.{steps_spelled}
use Rattle.cx_callfmt.proofs.Whole.{call_slice_again}
use Rattle.cx_callfmt.proofs.laws.calls_read_back.Goals as goal

pub returns : goal.returns
returns c = λ slice bytes fits some most few same.
    call_slice_again slice.head (records_from 0 slice.steps) (length slice.steps) bytes fits.head
    (steps_spelled slice.steps some most fits.steps) few same
