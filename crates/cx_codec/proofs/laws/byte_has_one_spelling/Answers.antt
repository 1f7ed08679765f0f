use Rattle.cx_codec.proofs.ReadOnce.{byte_once}
use Rattle.cx_codec.proofs.laws.byte_has_one_spelling.Goals as goal

pub returns : goal.returns
returns c = byte_once
