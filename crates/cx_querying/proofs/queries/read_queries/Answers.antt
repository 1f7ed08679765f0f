use Rattle.std.proofs.Common.{◌≡◌, ◌∙◌, ap, not, true}
use Rattle.std.specs.Result.{is_ok}
use Rattle.cx_querying.proofs.QueriesRead.{query_more}
use Rattle.cx_querying.proofs.queries.read_queries.Goals as goal

pub loop-index-preserved : goal.loop-index-preserved
loop-index-preserved c =
    let ok : is_ok c.push.result ≡ true = c.is_err.ensures.negation ∙ ap not c.if-is_err.false in
    c.push.ensures.items ∙ rw (ok, c.loop-index.invariant) (query_more _ _ _ c.query.ensures)
