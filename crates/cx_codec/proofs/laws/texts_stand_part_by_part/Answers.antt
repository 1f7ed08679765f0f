use Rattle.cx_codec.proofs.Texts.{takes_first, takes_second, takes_both, takes_nothing, bytes_behind}
use Rattle.cx_codec.proofs.laws.texts_stand_part_by_part.Goals as goal

pub returns : goal.returns
returns c = record {
  first = takes_first;
  second = takes_second;
  both = takes_both;
  nothing = takes_nothing;
  bytes =
      bytes_behind;
}
