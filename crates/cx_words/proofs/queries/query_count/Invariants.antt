-- The queries that were counted, and those of the rest.
use Rattle.std.proofs.Common.{◌≡◌, ◌+◌, ◌≤◌, map, length}
use Rattle.std.specs.Option.{option_map}
use Rattle.std.specs.String.{string_bytes}
use Rattle.cx_words.specs.Queries.{queries_of}
use Rattle.cx_words.proofs.queries.query_count.Given as goal

abbrev pub invariant-loop-rest : goal.invariant-loop-rest
invariant-loop-rest l =
    (option_map length (queries_of (map string_bytes l.words))
    ≡ option_map (λ n. l.count + n) (option_map length (queries_of (map string_bytes l.rest))))
    × (l.count + length l.rest ≤ length l.words)

abbrev pub decreases-loop-rest : goal.decreases-loop-rest
decreases-loop-rest l = length l.rest
