use Rattle.cx_ram.proofs.LoadsAndWrites.{loaded-fits}
use Rattle.cx_ram.proofs.laws.load_fits.Goals as goal

pub returns : goal.returns
returns c = loaded-fits
