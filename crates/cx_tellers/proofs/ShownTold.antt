-- What a step shows of a root is told.
use Rattle.std.proofs.Common.{◌≡◌, ℕ, nat_lt, List, [], ◌∷◌, ◌++◌, length, Option, None, Some, Result, Ok, Err}
use Rattle.std.proofs.Common.{arith, ap, sym, subst, refl, ◌∙◌}
use Rattle.std.proofs.lemmas.Bool.{lt-ltb}
use Rattle.std.proofs.lemmas.List.{append-nil}
use Rattle.std.proofs.lemmas.List.Elements.{filter_map-append}
use Rattle.std.specs.List.{cons_option}
use Rattle.cx_codec.specs.Blocks.{HasFront, StandsFor}
use Rattle.cx_codec.specs.declared.fault.OutFault.{OutFault}
use Rattle.cx_hart.specs.declared.record.StepRec.{StepRec}
use Rattle.cx_log.specs.Reading.{Opened}
use Rattle.cx_log.specs.Scan.{Scan}
use Rattle.cx_observe.specs.Observation.{observation_of}
use Rattle.cx_observe.specs.declared.obs.Obs.{Obs}
use Rattle.cx_commands.specs.Observed.{has_observation, observations_in, observed_by}
use Rattle.cx_commands.specs.Streaming.{FinishesOn, IsAll, Told, TellsOn}
use Rattle.cx_tellers.specs.Showing.{HasToldOf}

observed_more : (root : ℕ) (given : List StepRec) (rec : StepRec) (r : Option Obs) → observation_of rec root ≡ r
    → observations_in root (given ++ rec ∷ []) ≡ observations_in root given ++ cons_option r []
observed_more root given rec r is =
    filter_map-append (λ x. observation_of x root) given (rec ∷ [])
    ∙ ap (λ (s : Option Obs). observations_in root given ++ cons_option s []) is

pub shown_told : (text : List Obs → List ℕ) (Keeps : List Obs → Type 0) (root told : ℕ) (given : List StepRec)
    (rec : StepRec) (o : Obs) (base held : Option (List ℕ)) (waiting : List ℕ)
    (result : Result (Unit {0}) OutFault) → told ≡ root → observation_of rec told ≡ Some o
    → TellsOn base (text (observations_in root given ++ o ∷ [])) waiting held
    (Keeps (observations_in root given ++ o ∷ [])) result
    → TellsOn base (text (observations_in root (given ++ rec ∷ []))) waiting held
    (HasToldOf Keeps told root (given ++ rec ∷ [])) result
shown_told text Keeps root told given rec o base held waiting (Ok u) same is tells =
    let more = sym (observed_more root given rec (Some o) (ap (observation_of rec) (sym same) ∙ is)) in
    record {
      stands = subst (λ (os : List Obs). StandsFor base (text os) waiting held) more tells.stands;
      keeps = record { same = same; keeps = subst Keeps more tells.keeps };
    }
shown_told text Keeps root told given rec o base held waiting (Err e) same is tells =
    subst (λ (os : List Obs). HasFront base (text os) held)
    (sym (observed_more root given rec (Some o) (ap (observation_of rec) (sym same) ∙ is))) tells

-- a step that shows nothing
pub nothing_told : (text : List Obs → List ℕ) (Keeps : List Obs → Type 0) (root told : ℕ) (given : List StepRec)
    (rec : StepRec) (base held : Option (List ℕ)) (waiting : List ℕ) → observation_of rec told ≡ None
    → Told base (text (observations_in root given)) waiting held (HasToldOf Keeps told root given)
    → TellsOn base (text (observations_in root (given ++ rec ∷ []))) waiting held
    (HasToldOf Keeps told root (given ++ rec ∷ [])) (Ok (tt {0}))
nothing_told text Keeps root told given rec base held waiting is so_far =
    let more = sym (observed_more root given rec None (ap (observation_of rec) (sym so_far.keeps.same) ∙ is)
    ∙ append-nil (observations_in root given)) in
    record {
      stands = subst (λ (os : List Obs). StandsFor base (text os) waiting held) more so_far.stands;
      keeps = record { same = so_far.keeps.same; keeps = subst Keeps more so_far.keeps.keeps };
    }

-- the end
pub all_told : (full : List Obs → List ℕ) (root : ℕ) (o : Opened) (s : Scan) (given : List StepRec) (end : ℕ)
    (base held : Option (List ℕ)) (result : Result (Unit {0}) OutFault) → IsAll o s given end
    → FinishesOn base (full (observations_in root given)) held result
    → FinishesOn base (full (observed_by root o s)) held result
all_told full root o s given end base held result all finishes =
    subst (λ (xs : List StepRec). FinishesOn base (full (observations_in root xs)) held result) all.all finishes

-- whether there are any
pub found_is : (os : List Obs) (count : ℕ) → count ≡ length os → nat_lt 0 count ≡ has_observation os
found_is [] count is = rw is refl
found_is (o ∷ os) count is = lt-ltb 0 count (omega (arith, is))
