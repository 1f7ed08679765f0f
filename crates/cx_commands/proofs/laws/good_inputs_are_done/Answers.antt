use Rattle.cx_commands.proofs.Completeness.{good_is_done}
use Rattle.cx_commands.proofs.laws.good_inputs_are_done.Goals as goal

pub returns : goal.returns
returns c = λ d left given input bytes answer. good_is_done d bytes _ _ answer
