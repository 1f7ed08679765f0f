-- What a slicer stands for.
use Rattle.std.specs.Prelude.{◌≡◌, ℕ, List, [], ◌∷◌, length}
use Rattle.cx_observe.specs.User.{user}
use Rattle.cx_observe.specs.declared.obs.Obs.{Obs}
use Rattle.cx_slicefmt.specs.Text.{groups_text, least_behind}
use Rattle.cx_slices.specs.Groups.{groups_from, groups_of}
use Rattle.cx_slices.specs.Items.{Known, items_at, known_at, start}

-- It knows what is known behind these observations, how many they are, and where the next group may stand.
pub record IsSlicing (os : List Obs) (w : Known) (count least : ℕ) : Type 0 where
  pub known_is : w ≡ known_at user (start user) os
  pub count_is : count ≡ length os
  pub least_is : least ≡ least_behind 0 (groups_of user os)

-- the same for some observations
abbrev pub IsForSome : Known → ℕ → ℕ → Type 0
IsForSome w count least = ∥ ((os : List Obs) × IsSlicing os w count least) ∥₁

-- the text of one step, where its items have to be spelled
abbrev pub step_text : ℕ → ℕ → Known → Obs → List ℕ
step_text least count w o = groups_text least (groups_from count (items_at user w o ∷ []))

-- what an observation more adds to the slice of those before it
abbrev pub added_text : List Obs → Obs → List ℕ
added_text os o = step_text (least_behind 0 (groups_of user os)) (length os) (known_at user (start user) os) o
