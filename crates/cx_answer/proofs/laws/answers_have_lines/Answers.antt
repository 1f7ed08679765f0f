use Rattle.cx_answer.proofs.Listed.{listed}
use Rattle.cx_answer.proofs.laws.answers_have_lines.Goals as goal

pub returns : goal.returns
returns c = listed
