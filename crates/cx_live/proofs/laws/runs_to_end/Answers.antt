use Rattle.cx_live.proofs.LiveLoop.{done_is_recorded, goes_on_first, goes_on_more, runs_to_end}
use Rattle.cx_live.proofs.laws.runs_to_end.Goals as goal

pub returns-clause-first : goal.returns-clause-first
returns-clause-first c = goes_on_first

pub returns-clause-more : goal.returns-clause-more
returns-clause-more c = goes_on_more

pub returns-clause-end : goal.returns-clause-end
returns-clause-end c = runs_to_end

pub returns-clause-recorded : goal.returns-clause-recorded
returns-clause-recorded c = done_is_recorded
