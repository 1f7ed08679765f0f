-- The rest of the words are the queries from this index on.
use Rattle.std.proofs.Common.{◌≡◌, [], map, drop, unwrap_or}
use Rattle.std.specs.String.{string_bytes}
use Rattle.cx_words.specs.Queries.{queries_of}
use Rattle.cx_words.proofs.queries.nth.Given as goal

abbrev pub invariant-loop : goal.invariant-loop
invariant-loop l =
    unwrap_or (queries_of (map string_bytes l.rest)) []
    ≡ drop l.counter (unwrap_or (queries_of (map string_bytes l.words)) [])
