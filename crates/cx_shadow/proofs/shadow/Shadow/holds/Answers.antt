use Rattle.std.proofs.Common.{sym, ap, is_some, ◌∙◌}
use Rattle.cx_shadow.proofs.Tables.{held_by, some_copied}
use Rattle.cx_shadow.proofs.shadow.Shadow.holds.Goals as goal

pub returns : goal.returns
returns c =
    c.is_some.ensures ∙ sym (some_copied c.found.result) ∙ ap is_some c.found.ensures
    ∙ sym (held_by c.args.self.now c.args.va _ c.deref.ensures.value)
