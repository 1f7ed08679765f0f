-- A frame has a name where its number is among the stamps.
use Rattle.std.proofs.Common.{◌≡◌, subst}
use Rattle.cx_pages.specs.Memories.{Memories, stamp_count}
use Rattle.cx_pages.proofs.Distinct.{used_is}
use Rattle.cx_pages.proofs.pool.Pool.used.Goals as goal

pub returns-clause-stamps : goal.returns-clause-stamps
returns-clause-stamps c = subst (λ (m : Memories). m.used ≡ stamp_count m) c.self.view_is
    (used_is _ _ _ _ c.self.invariant c.tell_used.ensures.others)
