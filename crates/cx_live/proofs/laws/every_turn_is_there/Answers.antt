use Rattle.cx_live.proofs.LiveRuns.{live_run_is_there}
use Rattle.cx_live.proofs.TurnRules.{turn_is_there}
use Rattle.cx_live.proofs.laws.every_turn_is_there.Goals as goal

pub returns-clause-turn : goal.returns-clause-turn
returns-clause-turn c = turn_is_there

pub returns-clause-run : goal.returns-clause-run
returns-clause-run c = live_run_is_there
