use Rattle.cx_commands.proofs.Upgraded.{good_is_upgraded}
use Rattle.cx_commands.proofs.laws.upgrades_run_alike.Goals as goal

pub returns : goal.returns
returns c = good_is_upgraded
