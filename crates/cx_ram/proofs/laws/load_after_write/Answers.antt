use Rattle.cx_ram.proofs.LoadsAndWrites.{loaded-written_outside}
use Rattle.cx_ram.proofs.laws.load_after_write.Goals as goal

pub returns : goal.returns
returns c = loaded-written_outside
