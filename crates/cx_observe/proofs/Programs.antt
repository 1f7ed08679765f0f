-- Programs and their slices.
use Rattle.std.proofs.Common.{◌≡◌, ℕ, List, [], ◌∷◌, length, Ok}
use Rattle.std.specs.List.{AllByRecursion}
use Rattle.cx_slices.specs.Groups.{AreGroups, Group, alone_of, groups_of}
use Rattle.cx_slices.specs.Items.{start}
use Rattle.cx_slices.specs.Observed.{IsPossible}
use Rattle.cx_slices.proofs.Groups.{IsSliceOf, alone_of-groups_of, alone_of-only}
use Rattle.cx_slices.proofs.Runs.{possible_is_run, run_is_possible}
use Rattle.cx_observe.specs.Possible.{Possible}
use Rattle.cx_observe.specs.User.{user}
use Rattle.cx_observe.specs.declared.obs.Obs.{Obs}
use Rattle.cx_observe.proofs.Faithful.{possible_again, possible_by_itself, user_is_faithful, user_is_total}

pub all_by_themselves : (os : List Obs) → AllByRecursion Possible os → AllByRecursion (IsPossible user) os
all_by_themselves [] possible = tt
all_by_themselves (o ∷ os) possible = (possible_by_itself o possible.0, all_by_themselves os possible.1)

pub all_again : (os : List Obs) → AllByRecursion (IsPossible user) os → AllByRecursion Possible os
all_again [] possible = tt
all_again (o ∷ os) possible = (possible_again o possible.0, all_again os possible.1)

pub program_goes : (os : List Obs) → AllByRecursion Possible os → alone_of user (groups_of user os) (length os) ≡ Ok os
program_goes os possible = alone_of-groups_of user os user_is_faithful
    (possible_is_run user (start user) os user_is_total (all_by_themselves os possible))

pub program_possible : (groups : List (Group ℕ)) (count : ℕ) (os : List Obs) → AreGroups 32 0 count groups
    → alone_of user groups count ≡ Ok os → AllByRecursion Possible os
program_possible groups count os are went = all_again os
    (run_is_possible user (start user) os (alone_of-only user groups count os user_is_faithful are went).run)

pub program_only : (groups : List (Group ℕ)) (count : ℕ) (os : List Obs) → AreGroups 32 0 count groups
    → alone_of user groups count ≡ Ok os → IsSliceOf user groups count os
program_only groups count os are went = alone_of-only user groups count os user_is_faithful are went
