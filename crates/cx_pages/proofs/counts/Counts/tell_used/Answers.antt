-- A frame that has a name is among those that are taken.
use Rattle.std.proofs.Common.{◌≡◌, ℕ, ◌+◌, ◌<◌, ◌≤◌, length, subst}
use Rattle.cx_pages.specs.Counts.{Tally, count_of, taken_count}
use Rattle.cx_pages.proofs.Tallies.{used_left}
use Rattle.cx_pages.proofs.counts.Counts.tell_used.Goals as goal

pub returns-clause-named : goal.returns-clause-named
returns-clause-named c = subst (λ (v : Tally). (f : ℕ) → 1 ≤ count_of v.counts f → v.spare < length v.counts)
    c.self.view_is
    (λ f some. used_left _ _ _ f c.self.invariant some)

pub returns-clause-others : goal.returns-clause-others
returns-clause-others c = subst (λ (v : Tally). taken_count v.counts + v.spare ≡ length v.counts) c.self.view_is
    c.self.invariant.balance
