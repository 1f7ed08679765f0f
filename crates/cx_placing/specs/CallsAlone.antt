-- A program that runs alone from a slice by its calls.
use Rattle.std.specs.Prelude.{◌≡◌, ℕ, suc, ◌+◌, ◌&&◌, Bool, true, false, List, [], ◌∷◌, length, Option, None, Some}
use Rattle.std.specs.Prelude.{IfSome, Result, Ok, Err, if◌then◌else◌}
use Rattle.cx_slicefmt.specs.Rules.{Head}
use Rattle.cx_slices.specs.Alone.{and_on}
use Rattle.cx_slices.specs.Bytes.{BytesRise}
use Rattle.cx_slices.specs.Items.{AreItems, is_nil, start}
use Rattle.cx_slices.specs.Observed.{Watch}
use Rattle.cx_placing.specs.Called.{CallStanding, handed, none_new, standing_behind, step_called}
use Rattle.cx_placing.specs.Placing.{CallSlice, Placed}

abbrev pub no_words_owed : Option (List (Option ℕ)) → Bool
no_words_owed None = true
no_words_owed (Some words) = none_new words

-- Nothing is owed at the end.
abbrev pub is_settled : CallStanding → Bool
is_settled s = is_nil s.owed && no_words_owed s.words

-- ---- a run from its slice

abbrev pub with_first : {O : Type 0} → O → Result (List O) ℕ → Result (List O) ℕ
with_first o (Ok os) = Ok (o ∷ os)
with_first o (Err k) = Err k

abbrev pub go_on_called : {O : Type 0} → ℕ → (O → Result (List O) ℕ) → Option O → Result (List O) ℕ
go_on_called k rest None = Err k
go_on_called k rest (Some o) = with_first o (rest o)

-- all observations from index k on, or the index of the first step that breaks a rule
abbrev pub run_called : {O G : Type 0} → Watch O G → (O → Option ℕ) → ℕ → CallStanding → List (Placed G)
    → Result (List O) ℕ
run_called m called k s [] = if is_settled s then Ok [] else Err k
run_called m called k s (p ∷ ps) =
    go_on_called k (λ o. run_called m called (suc k) (standing_behind m s o p.call) ps) (step_called m called s p)

unfoldable pub calls_alone : {O G : Type 0} → Watch O G → (O → Option ℕ) → CallSlice G → Result (List O) ℕ
calls_alone m called slice = run_called m called 0 (handed slice.head (start m)) slice.steps

-- ---- the same step by step: what is gone through, and whether the end is reached with nothing owed

abbrev pub ran_called : {O G : Type 0} → Watch O G → (O → Option ℕ) → CallStanding → List (Placed G) → List O
ran_called m called s [] = []
ran_called m called s (p ∷ ps) =
    and_on (λ o. ran_called m called (standing_behind m s o p.call) ps) (step_called m called s p)

abbrev pub ends_on : {O : Type 0} → (O → Bool) → Option O → Bool
ends_on rest None = false
ends_on rest (Some o) = rest o

abbrev pub ends_settled : {O G : Type 0} → Watch O G → (O → Option ℕ) → CallStanding → List (Placed G) → Bool
ends_settled m called s [] = is_settled s
ends_settled m called s (p ∷ ps) =
    ends_on (λ o. ends_settled m called (standing_behind m s o p.call) ps) (step_called m called s p)

abbrev pub all_or_broken_from : {O : Type 0} → ℕ → Bool → List O → Result (List O) ℕ
all_or_broken_from k ends os = if ends then Ok os else Err (k + length os)

-- what stands behind steps and their observations, of which there is one for each
abbrev pub standing_at : {O G : Type 0} → Watch O G → CallStanding → List (Placed G) → List O → CallStanding
standing_at m s [] os = s
standing_at m s (p ∷ ps) [] = s
standing_at m s (p ∷ ps) (o ∷ os) = standing_at m (standing_behind m s o p.call) ps os

-- ---- slices that a run can be handed

-- so many words or none, and bytes that rise
pub record IsHanded (count : ℕ) (head : Head) : Type 0 where
  pub words : length head.words ≡ count
  pub bytes : BytesRise 0 head.bytes

abbrev pub ArePlaced : {G : Type 0} → ℕ → List (Placed G) → Type 0
ArePlaced count [] = Unit {0}
ArePlaced count (p ∷ ps) =
    AreItems count p.items × IfSome p.call (λ call. IsHanded count call.head) × ArePlaced count ps

pub record IsCallSlice {G : Type 0} (count : ℕ) (slice : CallSlice G) : Type 0 where
  pub head : IsHanded count slice.head
  pub steps : ArePlaced count slice.steps
