use Rattle.cx_ram.proofs.LoadsAndWrites.{loaded-agree}
use Rattle.cx_ram.proofs.laws.load_reads_its_bytes.Goals as goal

pub returns : goal.returns
returns c = loaded-agree
