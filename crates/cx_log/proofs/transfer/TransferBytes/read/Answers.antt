use Rattle.std.proofs.Common.{rules, refl, ap, take}
use Rattle.std.proofs.lemmas.List.{with_items_is}
use Rattle.std.proofs.lemmas.Result.{err_from_is_err_and}
use Rattle.cx_codec.proofs.Composing.{refused_as, given_as}
use Rattle.cx_log.proofs.transfer.TransferBytes.read.Goals as goal

pub returns-in_err-read_front-clause-reads : goal.returns-in_err-read_front-clause-reads
returns-in_err-read_front-clause-reads g c told =
    let p = err_from_is_err_and c.from_residual.result c.from_residual.ensures.1 in
    rw (p.1, p.2) (refused_as refl (c.in_err-read_front.ensures.reads told))

pub returns-clause-reads : goal.returns-clause-reads
returns-clause-reads g c told =
    given_as (ap (take c.args.size) (with_items_is c.self.inside.buffer c.read_front.new.buffer (search rules)))
    (c.in_ok-read_front.ensures.reads told)
