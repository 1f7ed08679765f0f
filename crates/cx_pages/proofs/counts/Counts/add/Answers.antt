-- A count that isn't 0 grows.
use Rattle.std.proofs.Common.{◌≤◌, sym, subst, arith}
use Rattle.cx_pages.specs.Counts.{Tally, count_of}
use Rattle.cx_pages.proofs.Tallies.{recounted}
use Rattle.cx_pages.proofs.counts.Counts.add.Goals as goal

pub invariant_of-self : goal.invariant_of-self
invariant_of-self c =
    recounted _ _ _ _ _ c.self.invariant (subst (λ (v : Tally). 1 ≤ count_of v.counts c.args.frame) (sym c.self.view_is)
    c.requires.some) (omega arith)
