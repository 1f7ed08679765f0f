use Rattle.cx_answer.proofs.Latest.{is_latest, joined, latest_is, latest_none, none_latest}
use Rattle.cx_answer.proofs.laws.intervals_are_searched_backwards.Goals as goal

pub returns-clause-joined : goal.returns-clause-joined
returns-clause-joined g c = joined

pub returns-clause-last : goal.returns-clause-last
returns-clause-last g c = latest_is

pub returns-clause-is_found : goal.returns-clause-is_found
returns-clause-is_found g c = is_latest

pub returns-clause-none : goal.returns-clause-none
returns-clause-none g c = none_latest

pub returns-clause-none_is_found : goal.returns-clause-none_is_found
returns-clause-none_is_found g c = latest_none
