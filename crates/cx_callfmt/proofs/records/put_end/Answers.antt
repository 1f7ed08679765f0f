use Rattle.cx_callfmt.specs.Text.{call_end_text}
use Rattle.cx_callfmt.proofs.records.put_end.Goals as goal

pub returns : goal.returns
unfolding call_end_text
returns g c = c.put_entry.ensures
