-- Words that change.
use Rattle.std.proofs.Common.{◌≡◌, ℕ, suc, ◌<◌, ◌^◌, ◌==◌, Bool, true, false, not, List, [], ◌∷◌, length, Option}
use Rattle.std.proofs.Common.{None, Some, unwrap_or, if◌then◌else◌, refl, ap, ap₂, eqb-true, eq-eqb}
use Rattle.std.proofs.lemmas.Bool.{and_from, and_parts, not-true}
use Rattle.std.specs.List.{AllByRecursion}
use Rattle.cx_slices.specs.Items.{IsWordOrNone}
use Rattle.cx_slices.specs.Words.{all_change, changed, changes, is_change}
use Rattle.cx_slices.proofs.Small.{same_suc}

to_the_wanted : (w v : ℕ) (t : Bool) → (w == v) ≡ t → unwrap_or (if t then None else Some v) w ≡ v
to_the_wanted w v true is = eqb-true w v is
to_the_wanted w v false is = refl

pub changed-changes : (ws vs : List ℕ) → length ws ≡ length vs → changed ws (changes ws vs) ≡ vs
changed-changes [] [] is = refl
changed-changes [] (v ∷ vs) is = cc
changed-changes (w ∷ ws) [] is = cc
changed-changes (w ∷ ws) (v ∷ vs) is = ap₂ (λ x xs. x ∷ xs) (to_the_wanted w v (w == v) refl)
    (changed-changes ws vs (same_suc (length ws) (length vs) is))

one_changes : (w v : ℕ) (t : Bool) → (w == v) ≡ t → is_change w (if t then None else Some v) ≡ true
one_changes w v true is = refl
one_changes w v false is = ap not is

pub all_change-changes : (ws vs : List ℕ) → all_change ws (changes ws vs) ≡ true
all_change-changes [] vs = refl
all_change-changes (w ∷ ws) [] = refl
all_change-changes (w ∷ ws) (v ∷ vs) = and_from (is_change w (if w == v then None else Some v))
    (all_change ws (changes ws vs)) (one_changes w v (w == v) refl) (all_change-changes ws vs)

pub length-changes : (ws vs : List ℕ) → length ws ≡ length vs → length (changes ws vs) ≡ length vs
length-changes [] [] is = refl
length-changes [] (v ∷ vs) is = cc
length-changes (w ∷ ws) [] is = cc
length-changes (w ∷ ws) (v ∷ vs) is = ap suc (length-changes ws vs (same_suc (length ws) (length vs) is))

pub length-changed : (ws : List ℕ) (is : List (Option ℕ)) → length (changed ws is) ≡ length ws
length-changed [] is = refl
length-changed (w ∷ ws) [] = refl
length-changed (w ∷ ws) (i ∷ is) = ap suc (length-changed ws is)

itself : (w : ℕ) → (if w == w then None else Some w) ≡ None
itself w = rw (eq-eqb w w refl) refl

back : (w : ℕ) (i : Option ℕ) → is_change w i ≡ true → (if w == unwrap_or i w then None else Some (unwrap_or i w)) ≡ i
back w None new = itself w
back w (Some v) new = rw (not-true (w == v) new) refl

pub changes-changed : (ws : List ℕ) (is : List (Option ℕ)) → length is ≡ length ws → all_change ws is ≡ true
    → changes ws (changed ws is) ≡ is
changes-changed [] [] size new = refl
changes-changed [] (i ∷ is) size new = cc
changes-changed (w ∷ ws) [] size new = cc
changes-changed (w ∷ ws) (i ∷ is) size new =
    let parts : (is_change w i ≡ true) × (all_change ws is ≡ true) = and_parts (is_change w i) (all_change ws is) new in
    ap₂ (λ x xs. x ∷ xs) (back w i parts.0) (changes-changed ws is (same_suc (length is) (length ws) size) parts.1)

change_fits : (w v : ℕ) (t : Bool) → v < 2 ^ 32 → IsWordOrNone (if t then None else Some v)
change_fits w v true fits = tt
change_fits w v false fits = fits

pub changes_fit : (ws vs : List ℕ) → AllByRecursion (λ word. word < 2 ^ 32) vs
    → AllByRecursion IsWordOrNone (changes ws vs)
changes_fit [] vs fit = tt
changes_fit (w ∷ ws) [] fit = tt
changes_fit (w ∷ ws) (v ∷ vs) fit = (change_fits w v (w == v) fit.0, changes_fit ws vs fit.1)
