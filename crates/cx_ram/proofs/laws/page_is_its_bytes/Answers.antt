use Rattle.cx_ram.proofs.Pages.{slice_index-page_of}
use Rattle.cx_ram.proofs.laws.page_is_its_bytes.Goals as goal

pub returns : goal.returns
returns c = slice_index-page_of
