use Rattle.cx_slices.proofs.Bytes.{rising_lists_are_one}
use Rattle.cx_slices.proofs.laws.bytes_are_one_list.Goals as goal

pub returns : goal.returns
returns c = rising_lists_are_one
