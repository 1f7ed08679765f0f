use Rattle.std.proofs.Common.{◌≡◌, map, take}
use Rattle.std.specs.String.{string_bytes}
use Rattle.cx_words.specs.Queries.{queries_behind}
use Rattle.cx_querying.proofs.queries.read_queries.Given as goal

abbrev pub invariant-loop-index : goal.invariant-loop-index
invariant-loop-index l = l.queries.items ≡ take l.index (queries_behind (map string_bytes l.words))
