use Rattle.std.proofs.Common.{refl}
use Rattle.cx_run.specs.FirstBad.{first_bad, settled}
use Rattle.cx_replay.proofs.laws.inputs_are_judged_behind_their_pages.Goals as goal

pub returns-clause-bad : goal.returns-clause-bad
unfolding first_bad
returns-clause-bad c bytes o p opened = rw opened refl

pub returns-clause-settled : goal.returns-clause-settled
unfolding settled
returns-clause-settled c bytes o p opened = rw opened refl
