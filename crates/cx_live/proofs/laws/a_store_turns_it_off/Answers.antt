use Rattle.cx_live.proofs.LiveLoop.{turned_off_by_store, turns_stay_off}
use Rattle.cx_live.proofs.laws.a_store_turns_it_off.Goals as goal

pub returns-clause-store : goal.returns-clause-store
returns-clause-store c = turned_off_by_store

pub returns-clause-stays : goal.returns-clause-stays
returns-clause-stays c = turns_stay_off
