use Rattle.cx_codec.proofs.ReadOnce.{bytes_once}
use Rattle.cx_codec.proofs.laws.bytes_have_one_spelling.Goals as goal

pub returns : goal.returns
returns c = record {
  count = λ n p after bytes read. (bytes_once n p after bytes read).count;
  stand = λ n p after bytes read. (bytes_once n p after bytes read).stand;
}
