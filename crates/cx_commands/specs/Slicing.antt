-- What a slice can be of.
use Rattle.std.specs.Prelude.{◌≡◌, ◌≤◌, ◌^◌, true, List, length}
use Rattle.std.specs.List.{AllByRecursion}
use Rattle.cx_observe.specs.Possible.{Possible}
use Rattle.cx_observe.specs.declared.obs.Obs.{Obs}
use Rattle.cx_commands.specs.Observed.{has_observation}

-- A slice is of one observation at least and of 2^48 at most, each of which a step in user mode can make.
pub record CanBeSliced (os : List Obs) : Type 0 where
  pub possible : AllByRecursion Possible os
  pub some : has_observation os ≡ true
  pub few : length os ≤ 2 ^ 48
