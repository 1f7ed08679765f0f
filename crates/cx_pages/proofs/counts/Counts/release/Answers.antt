-- A count falls, and the frame is free where it was the last.
use Rattle.std.proofs.Common.{◌≤◌, sym, subst, arith}
use Rattle.cx_pages.specs.Counts.{Tally, count_of}
use Rattle.cx_pages.proofs.Tallies.{recounted, freed, slot_left}
use Rattle.cx_pages.proofs.counts.Counts.release.Goals as goal

pub index_mut-requires-then-count-eq0 : goal.index_mut-requires-then-count-eq0
index_mut-requires-then-count-eq0 c =
    let slot = slot_left _ _ _ c.args.frame c.self.invariant (subst (λ (v : Tally). 1 ≤ count_of v.counts c.args.frame)
    (sym c.self.view_is) c.requires) in
    omega arith

pub invariant_of-self : goal.invariant_of-self
invariant_of-self c =
    rw c.if-count-eq0.true
    (freed _ _ _ _ c.self.invariant (subst (λ (v : Tally). 1 ≤ count_of v.counts c.args.frame) (sym c.self.view_is)
    c.requires))

pub invariant_of-self-else-count-eq0 : goal.invariant_of-self-else-count-eq0
invariant_of-self-else-count-eq0 c =
    recounted _ _ _ _ _ c.self.invariant (subst (λ (v : Tally). 1 ≤ count_of v.counts c.args.frame) (sym c.self.view_is)
    c.requires)
    (omega (arith, c.if-count-eq0.false))
