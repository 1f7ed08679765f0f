use Rattle.std.proofs.Common.{sym, ap, ◌∙◌}
use Rattle.std.specs.Option.{option_copied}
use Rattle.cx_shadow.specs.Cells.{byte_of}
use Rattle.cx_shadow.proofs.Runs.{none_at, on_page}
use Rattle.cx_shadow.proofs.Tables.{no_page}
use Rattle.cx_shadow.proofs.shadow.Shadow.has.Goals as goal

pub returns-in-None : goal.returns-in-None
returns-in-None c = c.is_empty.ensures ∙ none_at (byte_of c.args.self.now) c.args.va c.args.bytes.now
    (no_page c.args.self.now c.args.va _ c.deref.ensures.value (sym c.found.ensures ∙ ap option_copied c.in-None.is))

pub returns-in-Some : goal.returns-in-Some
returns-in-Some c = c.has.ensures ∙ on_page c.args.self.now c.args.va _ c.in-Some.page.now c.args.bytes.now
    c.deref.ensures.value (sym c.in-Some.ensures) c.requires
