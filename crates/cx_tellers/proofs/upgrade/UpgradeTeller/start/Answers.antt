use Rattle.std.proofs.Common.{sym, ◌∙◌}
use Rattle.std.proofs.lemmas.Result.{err_from_is_err_and}
use Rattle.cx_tellers.proofs.Upgrading.{upgrade_refused, upgrade_started}
use Rattle.cx_tellers.proofs.upgrade.UpgradeTeller.start.Goals as goal

pub returns-in_err-writer-clause-starts : goal.returns-in_err-writer-clause-starts
returns-in_err-writer-clause-starts g c o whole header memory =
    let p = err_from_is_err_and c.from_residual.result c.from_residual.ensures.1 in
    rw p.1 (upgrade_refused o whole c.args.header.now _ header (memory ∙ sym c.ram.ensures.memory)
    c.in_err-writer.ensures.starts.refused)

pub returns-clause-starts : goal.returns-clause-starts
returns-clause-starts g c o whole header memory =
    upgrade_started o whole c.args.header.now _ header (memory ∙ sym c.ram.ensures.memory)
    c.in_ok-writer.ensures.starts.stands c.in_ok-writer.ensures.pages c.in_ok-writer.ensures.behind
