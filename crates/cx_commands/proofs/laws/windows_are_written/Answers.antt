use Rattle.cx_commands.proofs.Answering.{good_is_written}
use Rattle.cx_commands.proofs.laws.windows_are_written.Goals as goal

pub returns : goal.returns
returns c = good_is_written
