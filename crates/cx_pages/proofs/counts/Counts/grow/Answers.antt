-- The new frames are free, behind those that were.
use Rattle.std.proofs.Common.{◌≡◌, ℕ, ◌+◌, ◌-◌, ◌<◌, ◌≤◌, ◌++◌, ◌∙◌, List, length, replicate, get_or, refl, sym, ap}
use Rattle.std.proofs.Common.{subst, arith, ◌^◌}
use Rattle.cx_pages.specs.Counts.{Tally}
use Rattle.std.proofs.lemmas.List.{take_at, take_all}
use Rattle.cx_pages.proofs.Tallies.{grown, resized_at, spare-within}
use Rattle.cx_pages.proofs.counts.Counts.grow.Goals as goal

pub invariant_of-self-2 : goal.invariant_of-self-2
invariant_of-self-2 c =
    let within = spare-within _ _ _ c.self.invariant in
    let e : length c.number.new.places ≡ c.resize.new.self.len = omega arith in
    let all : length c.self.inside.counts.items ≤ c.len-len.result + c.args.more = omega arith in
    let s : c.len-len.result + c.args.more - c.self.inside.counts.len ≡ c.args.more = omega arith in
    let counts : c.resize-2.new.self.items ≡ c.self.inside.counts.items ++ replicate c.args.more 0 =
    rw (c.in_ok-resize-2.ensures.items, take_all _ _ all, s) refl in
    let small : length c.self.inside.counts.items + c.args.more < 2 ^ 32 =
    subst (λ (v : Tally). length v.counts + c.args.more < 2 ^ 32) (sym c.self.view_is) c.requires in
    let more : length c.self.inside.counts.items + c.args.more ≤ length c.number.new.places =
    omega (arith, c.in_ok-resize.ensures.len, e) in
    let old : (i : ℕ) → i < c.self.inside.spare → get_or c.number.new.places i 0 ≡ get_or c.self.inside.free.items i 0 =
    λ i low.
    c.number.ensures.before i low ∙ ap (λ (xs : List ℕ). get_or xs i 0) (c.deref_mut.ensures.value
    ∙ c.in_ok-resize.ensures.items)
    ∙ resized_at _ _ _ i (omega arith) (omega arith) in
    let new : (i : ℕ) → i < c.args.more → get_or c.number.new.places (c.self.inside.spare + i) 0
    ≡ length c.self.inside.counts.items + i = λ i low.
    omega (arith, c.number.ensures.numbered i low, c.len-len.ensures) in
    rw (take_at c.number.new.places _ _ e, counts) (grown _ _ _ _ c.self.invariant small _ more old new)
