-- An empty table is added, or none.
use Rattle.std.proofs.Common.{◌<◌, length, arith}
use Rattle.cx_pages.specs.declared.pool.TheConstants.{MOST_SAVED}
use Rattle.cx_pages.proofs.Saving.{pushed_pool}
use Rattle.cx_pages.proofs.pool.Pool.free_number.Goals as goal
use Rattle.cx_pages.proofs.pool.Pool.free_number.Goals.{in-Ok, in-Err}

pub invariant_of-self : goal.invariant_of-self
invariant_of-self c =
    let few : length c.self.inside.tables.items < MOST_SAVED =
    omega (arith, c.self.invariant.few, c.if-number-eq-MOST_SAVED.false) in
    elim c.match-push.branch [
      | in-Ok w ↦ rw (w.in-Ok.ensures.items, c.empty.ensures) (pushed_pool _ _ _ _ c.self.invariant few)
      | in-Err w ↦ rw w.in-Err.ensures.items c.self.invariant
    ]
