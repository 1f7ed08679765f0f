-- Behind a query of two words; and a lone word is none.
use Rattle.std.specs.String.{string_bytes}
use Rattle.cx_words.proofs.QueryCounts.{after_step, none_of_one}
use Rattle.cx_words.proofs.queries.first_query.Goals as goal

pub returns-in_default-clause-query : goal.returns-in_default-clause-query
returns-in_default-clause-query c = none_of_one string_bytes c.args.words.now c.requires c.in_default.len_below

pub returns-in-Some-clause-query : goal.returns-in-Some-clause-query
returns-in-Some-clause-query c =
    after_step string_bytes c.args.words.now c.kind-item.result c.number-item.result c.in-Some.query
    c.in-len2-up.len_at_least c.kind-item.is c.number-item.is (cc)
