-- What is put in for a root is one step more.
use Rattle.std.proofs.Common.{◌≡◌, ℕ, suc, ◌+◌, Bool, true, false, nat_eq, List, [], ◌∷◌, ◌++◌, length, None}
use Rattle.std.proofs.Common.{Some, refl, ap, ◌∙◌, arith}
use Rattle.std.specs.Map.{lookup, set_value}
use Rattle.indexmap.specs.IndexMap.{insert_entry}
use Rattle.cx_hart.specs.declared.record.StepRec.{StepRec}
use Rattle.cx_inspect.specs.Roots.{counted, noted, roots_on}
use Rattle.cx_inspect.specs.declared.roots.Tally.{Tally}

-- a root that is there
pub counted_there : (step root : ℕ) (es : List (ℕ × Tally)) (t : Tally) → lookup (nat_eq root) es ≡ Some t
    → counted step root es ≡ set_value (nat_eq root) es (record { steps = t.steps + 1; first = t.first })
counted_there step root [] t is = cc
counted_there step root (e ∷ es) t is = by (nat_eq root e.0) refl (counted_there step root es t)
  where
    by : (b : Bool) → nat_eq root e.0 ≡ b
        → (lookup (nat_eq root) es ≡ Some t
        → counted step root es ≡ set_value (nat_eq root) es (record { steps = t.steps + 1; first = t.first }))
        → counted step root (e ∷ es)
        ≡ set_value (nat_eq root) (e ∷ es) (record { steps = t.steps + 1; first = t.first })
    by true same rest =
        let is_t : Some e.1 ≡ Some t = rw same at is in let here : e.1 ≡ t = cc in rw (same, here) refl
    by false other rest = rw other (ap (λ (xs : List (ℕ × Tally)). e ∷ xs) (rest (rw other at is)))

-- the tally that is there, put in once more
pub same_there : (root : ℕ) (es : List (ℕ × Tally)) (t : Tally) → lookup (nat_eq root) es ≡ Some t
    → set_value (nat_eq root) es t ≡ es
same_there root [] t is = cc
same_there root (e ∷ es) t is = by (nat_eq root e.0) refl (same_there root es t)
  where
    by : (b : Bool) → nat_eq root e.0 ≡ b → (lookup (nat_eq root) es ≡ Some t → set_value (nat_eq root) es t ≡ es)
        → set_value (nat_eq root) (e ∷ es) t ≡ e ∷ es
    by true same rest =
        let is_t : Some e.1 ≡ Some t = rw same at is in let here : e.1 ≡ t = cc in rw (same, here) refl
    by false other rest = rw other (ap (λ (xs : List (ℕ × Tally)). e ∷ xs) (rest (rw other at is)))

-- a new root
pub counted_new : (step root : ℕ) (es : List (ℕ × Tally)) → lookup (nat_eq root) es ≡ None
    → counted step root es ≡ insert_entry nat_eq es root (record { steps = 1; first = step })
counted_new step root [] none = refl
counted_new step root (e ∷ es) none = by (nat_eq root e.0) refl (counted_new step root es)
  where
    by : (b : Bool) → nat_eq root e.0 ≡ b
        → (lookup (nat_eq root) es ≡ None
        → counted step root es ≡ insert_entry nat_eq es root (record { steps = 1; first = step }))
        → counted step root (e ∷ es) ≡ insert_entry nat_eq (e ∷ es) root (record { steps = 1; first = step })
    by true same rest = let never : Some e.1 ≡ None = rw same at none in cc
    by false other rest = rw other (ap (λ (xs : List (ℕ × Tally)). e ∷ xs) (rest (rw other at none)))

pub ruleset put_in = (counted_there, same_there, counted_new)

-- ---- step by step

-- the roots of one step more
pub roots_more : (roots : List (ℕ × Tally)) (step : ℕ) (xs : List StepRec) (rec : StepRec)
    → roots_on roots step (xs ++ rec ∷ []) ≡ noted (step + length xs) rec (roots_on roots step xs)
roots_more roots step [] rec = let same : step ≡ step + 0 = omega arith in ap (λ (n : ℕ). noted n rec roots) same
roots_more roots step (x ∷ xs) rec =
    let next : suc step + length xs ≡ step + length (x ∷ xs) = omega arith in
    roots_more (noted step x roots) (suc step) xs rec
    ∙ ap (λ (n : ℕ). noted n rec (roots_on (noted step x roots) (suc step) xs)) next
