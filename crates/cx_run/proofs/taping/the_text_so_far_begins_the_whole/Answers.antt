use Rattle.cx_run.proofs.TextSoFar.{events_more, so_far_begins, so_far_more, so_far_whole}
use Rattle.cx_run.proofs.taping.the_text_so_far_begins_the_whole.Goals as goal

pub returns-clause-begins : goal.returns-clause-begins
returns-clause-begins c = so_far_begins

pub returns-clause-more : goal.returns-clause-more
returns-clause-more c = so_far_more

pub returns-clause-whole : goal.returns-clause-whole
returns-clause-whole c = so_far_whole

pub returns-clause-events : goal.returns-clause-events
returns-clause-events c = events_more
