-- The last of what is met, on a stretch that is cut in two.
use Rattle.std.proofs.Common.{◌≡◌, ℕ, zero, suc, ◌+◌, ◌-◌, ◌<◌, ◌≤◌, Option, None, Some, refl, ap, sym, ◌∙◌, arith, subst}
use Rattle.std.proofs.Common.{⊎_elim}
use Rattle.std.proofs.lemmas.Bool.{cases_lt}
use Rattle.cx_answer.specs.Latest.{IsLatest, IsNoneMet, latest, or_earlier}

or_assoc : {X : Type 0} (a b c : Option X) → or_earlier a (or_earlier b c) ≡ or_earlier (or_earlier a b) c
or_assoc None b c = refl
or_assoc (Some x) b c = refl

none_earlier : {X : Type 0} (a : Option X) → or_earlier a None ≡ a
none_earlier None = refl
none_earlier (Some x) = refl

-- what is met on the whole is met on the rest, or else on the front
pub joined : {X : Type 0} (met : ℕ → Option X) (first m n : ℕ)
    → latest met first (m + n) ≡ or_earlier (latest met (first + m) n) (latest met first m)
joined met first m zero = let same : m + zero ≡ m = omega arith in ap (latest met first) same
joined met first m (suc n) =
    let count : m + suc n ≡ suc (m + n) = omega arith in
    let place : first + (m + n) ≡ first + m + n = omega arith in
    ap (latest met first) count
    ∙ ap (λ (k : ℕ). or_earlier (met k) (latest met first (m + n))) place
    ∙ ap (or_earlier (met (first + m + n))) (joined met first m n)
    ∙ or_assoc (met (first + m + n)) (latest met (first + m) n) (latest met first m)

-- ---- the last place at which something is met

or_none : {X : Type 0} (a b : Option X) → or_earlier a b ≡ None → (a ≡ None) × (b ≡ None)
or_none None b e = (refl, e)
or_none (Some x) b e = cc

up_to : {X : Type 0} (met : ℕ → Option X) (first n k : ℕ) (from : ℕ) → met (first + n) ≡ None
    → ((j : ℕ) → from < j → j < first + n → met j ≡ None) → from < k → k < first + suc n → met k ≡ None
up_to met first n k from last before above below =
    ⊎_elim (λ less. before k above less)
    (λ more. (let same : k ≡ first + n = omega arith in ap met same ∙ last))
    (cases_lt k (first + n))

pub latest_is : {X : Type 0} (met : ℕ → Option X) (first n : ℕ) (x : X) → latest met first n ≡ Some x
    → IsLatest met first n x
latest_is met first zero x e = cc
latest_is {X} met first (suc n) x e = by (met (first + n)) refl e (latest_is met first n x)
  where
    by : (m : Option X) → met (first + n) ≡ m → or_earlier m (latest met first n) ≡ Some x
        → (latest met first n ≡ Some x → IsLatest met first n x) → IsLatest met first (suc n) x
    by (Some y) here is front = record {
      place = first + n;
      from = omega arith;
      below = omega arith;
      is = here ∙ is;
      none_behind = λ k above below. absurd (omega (arith, above, below));
    }
    by None here is front =
        let rest = front is in
        record {
          place = rest.place;
          from = rest.from;
          below = omega (arith, rest.below);
          is = rest.is;
          none_behind = λ k above below. up_to met first n k rest.place here rest.none_behind above below;
        }

pub is_latest : {X : Type 0} (met : ℕ → Option X) (first n : ℕ) (x : X) → IsLatest met first n x
    → latest met first n ≡ Some x
is_latest met first zero x l = absurd (omega (arith, l.from, l.below))
is_latest met first (suc n) x l =
    ⊎_elim (λ less.
    ap (λ m. or_earlier m (latest met first n)) (l.none_behind (first + n) less (omega arith))
    ∙ is_latest met first n x (record {
      place = l.place;
      from = l.from;
      below = less;
      is = l.is;
      none_behind = λ k above below. l.none_behind k above (omega (arith, below));
    }))
    (λ more.
    (let same : first + n ≡ l.place = omega (arith, more, l.below) in
    ap (λ m. or_earlier m (latest met first n)) (ap met same ∙ l.is)))
    (cases_lt l.place (first + n))

pub none_latest : {X : Type 0} (met : ℕ → Option X) (first n : ℕ) → latest met first n ≡ None → IsNoneMet met first n
none_latest met first zero e k above below = absurd (omega (arith, above, below))
none_latest met first (suc n) e k above below =
    let both = or_none (met (first + n)) (latest met first n) e in
    ⊎_elim (λ less. none_latest met first n both.1 k above less)
    (λ more. (let same : k ≡ first + n = omega arith in ap met same ∙ both.0))
    (cases_lt k (first + n))

pub latest_none : {X : Type 0} (met : ℕ → Option X) (first n : ℕ) → IsNoneMet met first n → latest met first n ≡ None
latest_none met first zero none = refl
latest_none met first (suc n) none =
    ap (λ m. or_earlier m (latest met first n)) (none (first + n) (omega arith) (omega arith))
    ∙ latest_none met first n (λ k above below. none k above (omega (arith, below)))
