use Rattle.cx_live.proofs.LiveRuns.{live_run_is_recorded}
use Rattle.cx_live.proofs.laws.a_live_run_is_recorded.Goals as goal

pub returns : goal.returns
returns c = live_run_is_recorded
