use Rattle.cx_ram.proofs.LoadsAndWrites.{loaded-stored, loaded-stored_outside}
use Rattle.cx_ram.proofs.laws.load_after_store.Goals as goal

pub returns-clause-same : goal.returns-clause-same
returns-clause-same c = loaded-stored

pub returns-clause-beside : goal.returns-clause-beside
returns-clause-beside c = loaded-stored_outside
