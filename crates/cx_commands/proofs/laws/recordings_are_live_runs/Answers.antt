use Rattle.cx_commands.proofs.Recordings.{is_live_recording}
use Rattle.cx_commands.proofs.laws.recordings_are_live_runs.Goals as goal

pub returns : goal.returns
returns c = is_live_recording
