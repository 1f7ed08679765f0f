use Rattle.std.proofs.Common.{sym, ◌∙◌}
use Rattle.cx_shadow.proofs.Tables.{in_page, no_page}
use Rattle.cx_shadow.proofs.shadow.Shadow.get.Goals as goal

pub returns-in_err-found : goal.returns-in_err-found
returns-in_err-found c =
    c.from_residual.ensures
    ∙ sym (no_page c.args.self.now c.args.va _ c.deref.ensures.value (sym c.in_err-found.ensures))

pub returns : goal.returns
returns c =
    c.get.ensures ∙ sym (in_page c.args.self.now c.args.va _ _ c.deref.ensures.value (sym c.in_ok-found.ensures))
