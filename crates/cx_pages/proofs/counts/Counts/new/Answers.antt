-- The first frame is used.
use Rattle.std.proofs.Common.{[], ◌∷◌, ◌≡◌}
use Rattle.cx_pages.proofs.Tallies.{first_tally}
use Rattle.cx_pages.proofs.counts.Counts.new.Goals as goal

pub invariant_of-result : goal.invariant_of-result
invariant_of-result c =
    let counts : c.in_ok-counts.counts.items ≡ c.args.count ∷ [] =
    c.in_ok-counts.ensures.items_if_clones_equal (λ y e. e) in
    let free : c.in_ok-free.free.items ≡ 0 ∷ [] = c.in_ok-free.ensures.items_if_clones_equal (λ y e. e) in
    rw (counts, free) (first_tally c.args.count c.requires)
