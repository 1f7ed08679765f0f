use Rattle.cx_placing.proofs.Streams.{ran_called-length, ran_called-push, ran_called-stopped, standing_at-push}
use Rattle.cx_placing.proofs.laws.a_called_run_goes_step_by_step.Goals as goal

pub returns-clause-more : goal.returns-clause-more
returns-clause-more g c = ran_called-push

pub returns-clause-stopped : goal.returns-clause-stopped
returns-clause-stopped g c = ran_called-stopped

pub returns-clause-most : goal.returns-clause-most
returns-clause-most g c = ran_called-length

pub returns-clause-stands : goal.returns-clause-stands
returns-clause-stands g c = standing_at-push
