-- Each page has the frame of zeros.
use Rattle.std.proofs.Common.{◌≡◌, ◌+◌, ℕ, List, ◌∷◌, [], ◌∙◌, replicate, map, ap}
use Rattle.cx_pages.specs.Frames.{frame_of, zero_page}
use Rattle.cx_pages.specs.Memories.{Memory}
use Rattle.cx_pages.proofs.Starting.{first_pool, first_pages}
use Rattle.cx_pages.proofs.pool.Pool.new.Goals as goal

pub invariant_of-result : goal.invariant_of-result
invariant_of-result c =
    let counts : c.in_ok-counts.counts.counts ≡ (c.args.pages + 2) ∷ [] = c.in_ok-counts.ensures.counts
    ∙ ap (λ (n : ℕ). (n + 2) ∷ []) c.from.ensures in
    rw (c.in_ok-current.ensures, c.new-4.ensures.items)
    (first_pool c.in_ok-frames.frames c.in_ok-counts.counts c.args.pages c.in_ok-frames.ensures.zeros
    c.in_ok-frames.ensures.count counts c.in_ok-counts.ensures.spare c.requires)

pub returns-clause-current : goal.returns-clause-current
returns-clause-current c =
    let pages : map (frame_of c.in_ok-frames.frames) (replicate c.args.pages 0) ≡ replicate c.args.pages zero_page =
    first_pages c.in_ok-frames.frames c.args.pages c.in_ok-frames.ensures.zeros in
    let put : List (List ℕ) → Memory = λ ps. record { pages = ps; stamps = replicate c.args.pages 0 } in
    rw c.in_ok-current.ensures (ap put pages)
