use Rattle.cx_log.proofs.Recordings.{recording_once, same_recording, same_input}
use Rattle.cx_log.proofs.RecordingSizes.{recording_size}
use Rattle.cx_log.proofs.laws.recordings_have_one_text.Goals as goal

pub returns-clause-rules : goal.returns-clause-rules
returns-clause-rules c = λ R p after are read. (recording_once R p after are read).rules

pub returns-clause-text : goal.returns-clause-text
returns-clause-text c = λ R p after are read. (recording_once R p after are read).text

pub returns-clause-one : goal.returns-clause-one
returns-clause-one c = same_recording

pub returns-clause-once : goal.returns-clause-once
returns-clause-once c = same_input

pub returns-clause-size : goal.returns-clause-size
returns-clause-size c = recording_size
