-- One query after the other.
use Rattle.std.proofs.Common.{◌≡◌, [], map, unwrap_or, sym, ap, ◌∙◌, arith, slice_get}
use Rattle.std.specs.String.{string_bytes}
use Rattle.cx_words.specs.Queries.{queries_of}
use Rattle.cx_words.proofs.QueryCounts.{drop_more, query_at, query_left}
use Rattle.cx_words.proofs.queries.nth.Goals as goal

pub front-requires : goal.front-requires
front-requires c =
    query_left (queries_of (map string_bytes c.loop.rest.now)) _ c.loop.counter c.loop.invariant (omega arith)

pub loop-preserved : goal.loop-preserved
loop-preserved c =
    drop_more c.front.result.0 (queries_of (map string_bytes c.front.result.1.now)) _ c.loop.counter
    (ap (λ r. unwrap_or r []) (sym c.front.ensures) ∙ c.loop.invariant) (omega arith)

pub front-requires-2 : goal.front-requires-2
front-requires-2 c =
    query_left (queries_of (map string_bytes c.loop.rest.now)) _ c.loop.counter c.loop.invariant (omega arith)

pub returns : goal.returns
returns c =
    let at = query_at c.front-2.result.0 (queries_of (map string_bytes c.front-2.result.1.now)) _ c.loop.counter
    (ap (λ r. unwrap_or r []) (sym c.front-2.ensures) ∙ c.loop.invariant) (omega arith) in
    let same : c.loop.counter ≡ c.args.index = omega arith in
    ap (slice_get (unwrap_or (queries_of (map string_bytes c.args.words.now)) [])) (sym same) ∙ at
