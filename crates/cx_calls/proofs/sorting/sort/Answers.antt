use Rattle.std.proofs.Common.{rules}
use Rattle.std.proofs.lemmas.List.Sorted.{IsNonDecreasingBy-from_sort_by_key}
use Rattle.cx_calls.proofs.Ascending.{sorts}
use Rattle.cx_calls.proofs.sorting.sort.Goals as goal

pub returns : goal.returns
returns c = sorts c.args.bytes.now.items c.sort_unstable_by_key.new.self.items c.requires
    c.sort_unstable_by_key.ensures.permutation
    (IsNonDecreasingBy-from_sort_by_key (λ e. e.0) c.sort_unstable_by_key.new.self.items
    c.sort_unstable_by_key.ensures.sorted (λ a r q k. search rules))
