-- The text of what more steps show begins with that of the first.
use Rattle.std.specs.Prelude.{◌≡◌, false, ℕ, suc, ◌+◌, List, [], ◌∷◌, ◌++◌, length}
use Rattle.std.proofs.Common.{append_assoc, arith, ap, sym, subst, ◌∙◌, refl}
use Rattle.std.proofs.lemmas.List.Elements.{filter_map-append}
use Rattle.cx_codec.specs.Blocks.{whole}
use Rattle.cx_codec.specs.Reads.{Begins}
use Rattle.cx_hart.specs.declared.record.StepRec.{StepRec}
use Rattle.cx_observe.specs.Observation.{observation_of}
use Rattle.cx_observe.specs.declared.obs.Obs.{Obs}
use Rattle.cx_print.specs.Lines.{obs_line}
use Rattle.cx_commands.specs.Observed.{has_observation, observation_lines, observations_in, occurs_in}

-- What these steps show of a root was told, of this one.
pub record HasToldOf (Keeps : List Obs → Type 0) (told root : ℕ) (given : List StepRec) : Type 0 where
  pub same : told ≡ root
  pub keeps : Keeps (observations_in root given)

-- ---- of a root

pub shown_grows : (text : List Obs → List ℕ) → ((xs ys : List Obs) → Begins (text xs) (text (xs ++ ys)))
    → (root : ℕ) (xs ys : List StepRec)
    → Begins (text (observations_in root xs)) (text (observations_in root (xs ++ ys)))
shown_grows text grows root xs ys =
    subst (λ (os : List Obs). Begins (text (observations_in root xs)) (text os))
    (sym (filter_map-append (λ rec. observation_of rec root) xs ys))
    (grows (observations_in root xs) (observations_in root ys))

-- Without an observation nothing is written.
pub nothing_shown : (text : List Obs → List ℕ) → whole (text []) ≡ [] → (root : ℕ) (given : List StepRec)
    → occurs_in root given ≡ false → whole (text (observations_in root given)) ≡ []
nothing_shown text first root given none = by_observations (observations_in root given) none
  where
    by_observations : (os : List Obs) → has_observation os ≡ false → whole (text os) ≡ []
    by_observations [] none = first
    by_observations (o ∷ os) none = cc

-- ---- lines

pub observation_lines_on : (index : ℕ) (os more : List Obs)
    → observation_lines index (os ++ more) ≡ observation_lines index os ++ observation_lines (index + length os) more
observation_lines_on index [] more = ap (λ (n : ℕ). observation_lines n more) (omega arith)
observation_lines_on index (o ∷ os) more =
    let next : suc index + length os ≡ index + length (o ∷ os) = omega arith in
    ap (λ (t : List ℕ). obs_line index o ++ t)
    (observation_lines_on (suc index) os more
    ∙ ap (λ (n : ℕ). observation_lines (suc index) os ++ observation_lines n more) next)
    ∙ sym (append_assoc (obs_line index o) (observation_lines (suc index) os)
    (observation_lines (index + length (o ∷ os)) more))

pub lines_grow : (os more : List Obs) → Begins (observation_lines 0 os) (observation_lines 0 (os ++ more))
lines_grow os more =
    record { rest = observation_lines (0 + length os) more; parts = observation_lines_on 0 os more }

pub no_lines_written : whole (observation_lines 0 []) ≡ []
unfolding whole
no_lines_written = refl
