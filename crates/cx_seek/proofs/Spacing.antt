-- How many checkpoints there are.
use Rattle.std.proofs.Common.{◌≡◌, ℕ, suc, ◌+◌, ◌*◌, ◌/◌, ◌%◌, ◌^◌, ◌<◌, ◌≤◌, inl, inr, sym, ap}
use Rattle.std.proofs.Common.{subst, ◌∙◌, arith}
use Rattle.std.proofs.lemmas.Bool.{cases_lt}
use Rattle.std.proofs.lemmas.Nat.{div-add-mod', div_below, le-div, mod-mul-add, mul-le}
use Rattle.cx_seek.specs.Interval.{interval}
use Rattle.cx_seek.specs.Keeping.{Spaced, SpacedBelow}
use Rattle.cx_seek.proofs.Intervals.{interval-doubles, interval-most, interval-some, interval-stays}

-- as many of a distance as another number
less_times : (a b d : ℕ) → a < b → a * d + d ≤ b * d
less_times a b d less = let m = mul-le (a + 1) d b d (omega arith) (omega arith) in omega (arith, m)

between : (a b d : ℕ) → a * d ≤ b * d → b * d < a * d + d → a ≡ b
between a b d low high = elim (cases_lt a b) [
  | inl less ↦ (let m = less_times a b d less in absurd (omega (arith, m)))
  | inr more ↦ elim (cases_lt b a) [
    | inl less ↦ (let m = less_times b a d less in absurd (omega (arith, m)))
    | inr same ↦ omega arith
  ]
]

-- ---- one step more

-- where there are 64 of the distance
pub record IsFull (n count d : ℕ) : Type 0 where
  pub steps : suc n ≡ 64 * d
  pub all : count ≡ 64
  pub doubles : interval (suc n) ≡ 2 * d

pub full : (n count d : ℕ) → suc n < 2 ^ 64 → d ≡ interval n → Spaced n count d → suc n / d ≡ 64 → IsFull n count d
full n count d fits is spaced many =
    let least : 1024 ≤ d = rw is (interval-some n) in
    let most : n < 64 * d = rw is (interval-most n (omega arith)) in
    let parts = div-add-mod' (suc n) d in
    let whole : (suc n / d) * d ≡ 64 * d = ap (λ (q : ℕ). q * d) many in
    let steps : suc n ≡ 64 * d = omega (arith, parts, whole, most) in
    record {
      steps = steps;
      all = sym (between 64 count d (let l = spaced.least in omega (arith, l, steps))
          (let m = spaced.most in omega (arith, m, steps)));
      doubles = interval-doubles n fits (steps ∙ ap (λ (x : ℕ). 64 * x) is) ∙ ap (λ (x : ℕ). 2 * x) (sym is);
    }

-- where there are fewer, it stays
pub not_full : (n d : ℕ) → n < 2 ^ 64 → d ≡ interval n → (suc n / d ≡ 64 → ⊥) → interval (suc n) ≡ d
not_full n d fits is few =
    let least : 1024 ≤ d = rw is (interval-some n) in
    let most : n < 64 * d = rw is (interval-most n fits) in
    elim (cases_lt (suc n) (64 * d)) [
      | inl below ↦ interval-stays n (subst (λ (x : ℕ). suc n < 64 * x) is below) ∙ sym is
      | inr above ↦ (let low = le-div 64 (suc n) d (omega (arith, least)) above in
          let high = div_below (suc n) d 65 (omega (arith, least)) (omega (arith, most, least)) in
          absurd (few (omega (arith, low, high))))
    ]

pub goes_below : (n count d : ℕ) → Spaced n count d → SpacedBelow (suc n) count d
goes_below n count d spaced = record {
  least = let l = spaced.least in omega (arith, l);
  most = let m = spaced.most in omega (arith, m);
}

pub halved : (n count d : ℕ) → 0 < d → suc n ≡ 64 * d → count + 32 ≡ 64 → SpacedBelow (suc n) count (2 * d)
halved n count d some steps half =
    let half_count : count ≡ 32 = omega arith in
    rw half_count (record { least = omega (arith, steps); most = omega (arith, steps) })

-- a checkpoint stands behind these steps
pub is_multiple : (taken count d : ℕ) → SpacedBelow taken count d → taken % d ≡ 0 → taken ≡ count * d
is_multiple taken count d spaced none =
    let parts = div-add-mod' taken d in
    let whole : taken ≡ (taken / d) * d = omega (arith, parts, none) in
    let l = spaced.least in
    let m = spaced.most in
    whole ∙ ap (λ (q : ℕ). q * d) (between (taken / d) count d (omega (arith, l, whole)) (omega (arith, m, whole)))

pub one_spaced : (taken count d : ℕ) → 0 < d → SpacedBelow taken count d → taken % d ≡ 0 → Spaced taken (count + 1) d
one_spaced taken count d some spaced none =
    let at = is_multiple taken count d spaced none in
    record { least = omega (arith, at); most = omega (arith, at) }

pub none_spaced : (taken count d : ℕ) → 0 < d → SpacedBelow taken count d → (taken % d ≡ 0 → ⊥) → Spaced taken count d
none_spaced taken count d some spaced other = elim (cases_lt taken (count * d)) [
  | inl below ↦ record { least = below; most = let m = spaced.most in omega (arith, m) }
  | inr above ↦ (let l = spaced.least in let at : taken ≡ count * d + 0 = omega (arith, l, above) in
      absurd (other (ap (λ (x : ℕ). x % d) at ∙ mod-mul-add count d 0 some)))
]

-- ---- before the first step, and at the end

pub first_spaced : Spaced 0 1 1024
first_spaced = record { least = omega arith; most = omega arith }

-- the index of the last checkpoint below a step
pub index_within : (n upto count d : ℕ) → 0 < d → Spaced upto count d → n ≤ upto → n / d < count
index_within n upto count d some spaced le =
    div_below n d count some (let l = spaced.least in omega (arith, l))

pub before_it : (n d : ℕ) → n / d * d + n % d ≡ n
before_it = div-add-mod'
