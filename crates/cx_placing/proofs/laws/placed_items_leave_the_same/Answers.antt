use Rattle.std.proofs.Common.{true, refl}
use Rattle.cx_slices.specs.Items.{start}
use Rattle.cx_placing.specs.Called.{handed}
use Rattle.cx_placing.specs.Placing.{head_of}
use Rattle.cx_placing.specs.Touched.{untouched}
use Rattle.cx_placing.proofs.Going.{GoesWith-handed}
use Rattle.cx_placing.proofs.Runs.{placed_alike}
use Rattle.cx_placing.proofs.laws.placed_items_leave_the_same.Goals as goal

pub returns : goal.returns
returns g c = λ m called os faithful. placed_alike m called (start m) untouched true
    (handed (head_of m called (start m) os) (start m)) os faithful
    (GoesWith-handed m called (start m) (start m) os faithful refl (λ a. refl))
