use Rattle.std.proofs.lemmas.Result.{err_from_is_err_and}
use Rattle.std.proofs.Common.{rules, ◌≡◌, length}
use Rattle.cx_codec.proofs.Composing.{given_as, refused_as}
use Rattle.cx_log.proofs.FieldFaults.{met_same}
use Rattle.cx_live.proofs.Vectors.{comes_back}
use Rattle.cx_live.proofs.reading.take.Goals as goal

pub returns-in_err-take-clause-reads : goal.returns-in_err-take-clause-reads
returns-in_err-take-clause-reads g c told =
    let p = err_from_is_err_and c.from_residual.result c.from_residual.ensures.1 in
    rw (p.1, p.2) (refused_as (met_same _) (rw c.deref_mut.ensures.value at (c.in_err-take.ensures.reads told)))

pub returns-clause-reads : goal.returns-clause-reads
returns-clause-reads g c told =
    let size : length c.take.new.into ≡ length c.args.into.now.items = search rules in
    let whole : length c.args.into.now.items ≡ c.args.into.now.len = search rules in
    given_as (comes_back c.args.into.now.len c.take.new.into c.args.into.now.items size whole)
    (rw c.deref_mut.ensures.value at (c.in_ok-take.ensures.reads told))
