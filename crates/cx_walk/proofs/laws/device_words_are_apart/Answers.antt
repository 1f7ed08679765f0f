use Rattle.cx_walk.proofs.DeviceTable.{found_at_place}
use Rattle.cx_walk.proofs.laws.device_words_are_apart.Goals as goal

pub returns-clause-found : goal.returns-clause-found
returns-clause-found c = found_at_place
