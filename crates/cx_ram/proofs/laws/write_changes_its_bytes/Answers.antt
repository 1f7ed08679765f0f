use Rattle.cx_ram.proofs.LoadsAndWrites.{slice_index-written, slice_index-written_outside, length-written}
use Rattle.cx_ram.proofs.laws.write_changes_its_bytes.Goals as goal

pub returns-clause-inside : goal.returns-clause-inside
returns-clause-inside c = slice_index-written

pub returns-clause-outside : goal.returns-clause-outside
returns-clause-outside c = slice_index-written_outside

pub returns-clause-size : goal.returns-clause-size
returns-clause-size c = length-written
