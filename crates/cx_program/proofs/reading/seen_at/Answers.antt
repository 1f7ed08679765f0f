use Rattle.std.proofs.Common.{sym, ◌∙◌}
use Rattle.cx_shadow.specs.Cells.{byte_of}
use Rattle.cx_program.proofs.Fetched.{seen_sized}
use Rattle.cx_program.proofs.reading.seen_at.Goals as goal

pub returns : goal.returns
returns c = seen_sized (byte_of c.args.shadow.now) c.args.va c.args.len c.in_ok-bytes.bytes
    (sym c.in_ok-bytes.was ∙ c.bytes_at.ensures)
