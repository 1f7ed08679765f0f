use Rattle.cx_ram.proofs.LoadsAndWrites.{slice_index-stored, slice_index-stored_outside, length-stored}
use Rattle.cx_ram.proofs.laws.store_changes_its_bytes.Goals as goal

pub returns-clause-inside : goal.returns-clause-inside
returns-clause-inside c = slice_index-stored

pub returns-clause-outside : goal.returns-clause-outside
returns-clause-outside c = slice_index-stored_outside

pub returns-clause-size : goal.returns-clause-size
returns-clause-size c = length-stored
