use Rattle.std.proofs.Common.{List, ℕ}
use Rattle.cx_making.proofs.Writes.{by_image, by_no_image}
use Rattle.cx_making.proofs.image.make.Goals as goal

pub returns-in-Ok-clause-writes : goal.returns-in-Ok-clause-writes
returns-in-Ok-clause-writes g c =
    by_image c.args.n c.in-Ok.image.items (λ (image : List ℕ). image) _ _ _ c.in-Ok.ensures
    (rw c.deref.ensures.value at c.write.ensures.writes)

pub returns-in-Err-clause-writes : goal.returns-in-Err-clause-writes
returns-in-Err-clause-writes g c = by_no_image c.args.n (λ (image : List ℕ). image) _
