use Rattle.cx_commands.proofs.LinesParts.{traced_part}
use Rattle.cx_commands.proofs.laws.traced_windows_are_parts.Goals as goal

pub returns : goal.returns
returns c = traced_part
