use Rattle.std.proofs.Math.Nat.{mod-add-mod, add-mod-mod}
use Rattle.cx_io.proofs.seed_world.divides_sum.Goals as goal

pub returns : goal.returns
returns c = simp (mod-add-mod, add-mod-mod)
