use Rattle.cx_gen.proofs.ReadBack.{read_back}
use Rattle.cx_gen.proofs.laws.made_images_read_back.Goals as goal

pub returns : goal.returns
returns c = read_back
