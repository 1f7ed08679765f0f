-- Frames are added, which are free, or nothing is seen to change.
use Rattle.std.proofs.Common.{◌-◌, ◌≡◌, ℕ, ◌+◌, ◌∙◌, length, replicate, ap, subst, arith, length-append}
use Rattle.std.proofs.Common.{Result, Ok, Err}
use Rattle.std.specs.Result.{IfErr}
use Rattle.std.proofs.lemmas.List.{length-replicate}
use Rattle.cx_pages.specs.Counts.{Tally}
use Rattle.cx_pages.specs.Memories.{Memories}
use Rattle.cx_pages.specs.Tables.{memories_of}
use Rattle.cx_pages.proofs.Starting.{grown_same}
use Rattle.cx_pages.proofs.pool.Pool.grow.Goals as goal

if_err : {T E P : Type 0} → (r : Result T E) → P → IfErr r (λ e. P)
if_err (Ok done) p = tt
if_err (Err refused) p = p

pub returns-in_err-grow-2-clause-same : goal.returns-in_err-grow-2-clause-same
returns-in_err-grow-2-clause-same c =
    let size : length c.grow-2.new.self.counts ≡ length c.self.inside.counts.counts + 0 =
    omega (arith, ap (λ (t : Tally). length t.counts) c.in_err-grow-2.ensures.refused) in
    let spare : c.grow-2.new.self.spare ≡ c.self.inside.counts.spare + 0 =
    omega (arith, ap (λ (t : Tally). t.spare) c.in_err-grow-2.ensures.refused) in
    subst (λ (m : Memories). memories_of c.grow.new.self c.grow-2.new.self c.self.inside.current
    c.self.inside.tables.items ≡ record m { spare = c.grow-2.new.self.spare }) c.self.view_is
    (grown_same c.self.inside.frames c.grow.new.self c.self.inside.counts c.self.inside.current
    c.self.inside.tables.items c.self.invariant c.grow.ensures.same c.grow-2.new.self 0 size spare)

pub returns-in_err-grow-2-clause-refused : goal.returns-in_err-grow-2-clause-refused
returns-in_err-grow-2-clause-refused c =
    let size : length c.grow-2.new.self.counts ≡ length c.self.inside.counts.counts + 0 =
    omega (arith, ap (λ (t : Tally). length t.counts) c.in_err-grow-2.ensures.refused) in
    let same : c.grow-2.new.self.spare ≡ c.self.inside.counts.spare =
    ap (λ (t : Tally). t.spare) c.in_err-grow-2.ensures.refused in
    let spare : c.grow-2.new.self.spare ≡ c.self.inside.counts.spare + 0 = omega arith in
    if_err c.from_residual-in_err-grow-2.result
    (subst (λ (m : Memories). memories_of c.grow.new.self c.grow-2.new.self c.self.inside.current
    c.self.inside.tables.items ≡ m) c.self.view_is
    (grown_same c.self.inside.frames c.grow.new.self c.self.inside.counts c.self.inside.current
    c.self.inside.tables.items c.self.invariant c.grow.ensures.same c.grow-2.new.self 0 size spare
    ∙ ap (λ (n : ℕ). record (memories_of c.self.inside.frames c.self.inside.counts c.self.inside.current
    c.self.inside.tables.items) { spare = n }) same))

pub returns-clause-same : goal.returns-clause-same
returns-clause-same c =
    let size : length c.grow-2.new.self.counts ≡ length c.self.inside.counts.counts + (c.args.n - c.spare.result)
    = rw c.in_ok-grow-2.ensures.counts (length-append c.self.inside.counts.counts
    (replicate (c.args.n - c.spare.result) 0) ∙ ap (λ (n : ℕ). length c.self.inside.counts.counts + n)
    (length-replicate {A = ℕ} (c.args.n - c.spare.result) 0)) in
    subst (λ (m : Memories). memories_of c.grow.new.self c.grow-2.new.self c.self.inside.current
    c.self.inside.tables.items ≡ record m { spare = c.grow-2.new.self.spare }) c.self.view_is
    (grown_same c.self.inside.frames c.grow.new.self c.self.inside.counts c.self.inside.current
    c.self.inside.tables.items c.self.invariant c.grow.ensures.same c.grow-2.new.self (c.args.n - c.spare.result)
    size c.in_ok-grow-2.ensures.spare)
