-- Runs: observations that can follow one another.
use Rattle.std.specs.Prelude.{◌≡◌, true, List, [], ◌∷◌}
use Rattle.cx_slices.specs.Bytes.{with_bytes}
use Rattle.cx_slices.specs.Items.{Known, after}
use Rattle.cx_slices.specs.Observed.{IsPossible, Watch, misses}

-- The observation is possible, and what it took as not there is at no address that was accessed up to it, with it.
pub record FollowsOn {O G : Type 0} (m : Watch O G) (w : Known) (o : O) : Type 0 where
  pub possible : IsPossible m o
  pub misses : misses m (with_bytes (m.seen o) w.map) o ≡ true

abbrev pub IsPossibleRun : {O G : Type 0} → Watch O G → Known → List O → Type 0
IsPossibleRun m w [] = Unit {0}
IsPossibleRun m w (o ∷ os) = FollowsOn m w o × IsPossibleRun m (after m w o) os
