-- The frame that is taken is the last of the free ones.
use Rattle.std.proofs.Common.{◌≡◌, ◌-◌, ◌<◌, ◌≤◌, length, get_or, sym, subst, arith}
use Rattle.std.proofs.lemmas.List.{get_or_read}
use Rattle.cx_pages.specs.Counts.{Tally}
use Rattle.cx_pages.proofs.Tallies.{taken_last, spare-within}
use Rattle.cx_pages.proofs.counts.Counts.take.Goals as goal

pub invariant_of-self : goal.invariant_of-self
invariant_of-self c =
    let some : 1 ≤ c.self.inside.spare = subst (λ (v : Tally). 1 ≤ v.spare) (sym c.self.view_is) c.requires in
    let within = spare-within _ _ _ c.self.invariant in
    let last : c.self.inside.spare - 1 < length c.self.inside.free.items = omega arith in
    let e : c.index-frame.result.now ≡ get_or c.self.inside.free.items (c.self.inside.spare - 1) 0
    = get_or_read c.self.inside.free.items (c.self.inside.spare - 1) c.index-frame.result.now last c.index-frame.ensures
    0 in
    rw e (taken_last _ _ _ c.self.invariant some)
