use Rattle.cx_log.proofs.Recordings.{recording_again}
use Rattle.cx_log.proofs.laws.recordings_read_back.Goals as goal

pub returns : goal.returns
returns c = recording_again
