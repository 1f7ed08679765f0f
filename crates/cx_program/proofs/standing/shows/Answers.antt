use Rattle.std.proofs.Common.{sym, ◌∙◌}
use Rattle.cx_shadow.specs.Cells.{byte_of}
use Rattle.cx_program.proofs.Shown.{shown_on_page}
use Rattle.cx_program.proofs.standing.shows.Goals as goal

pub returns-then-va-bytes-le-PAGE_SIZE : goal.returns-then-va-bytes-le-PAGE_SIZE
returns-then-va-bytes-le-PAGE_SIZE c = λ is. shown_on_page (byte_of c.args.shadow.now) c.args.va c.args.bytes.now
    c.ranges.va.fits c.if-va-bytes-le-PAGE_SIZE.true (sym c.has.ensures ∙ is)
