use Rattle.cx_slicefmt.proofs.Entries.{once_entry}
use Rattle.cx_slicefmt.proofs.laws.groups_have_one_text.Goals as goal

pub returns : goal.returns
returns c = once_entry
