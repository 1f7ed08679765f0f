-- The distance of checkpoints, for a number of steps and for one more.
use Rattle.std.proofs.Common.{◌≡◌, ℕ, zero, suc, ◌*◌, ◌/◌, ◌^◌, ◌<◌, ◌≤◌, inl, inr, refl, sym, ap}
use Rattle.std.proofs.Common.{◌∙◌, arith}
use Rattle.std.proofs.lemmas.Bool.{cases_lt, le-ltb, lt-ltb}
use Rattle.std.proofs.lemmas.Nat.{div-add-mod', div_below, le-div, mul-le}
use Rattle.std.proofs.Math.Nat.{pow-succ'}
use Rattle.cx_seek.specs.Interval.{doubled, interval}

-- fewer than 64 of a distance are in n where n is below 64 of it
fewer : (n d : ℕ) → 0 < d → n < 64 * d → n / d < 64
fewer n d some below = div_below n d 64 some below

below_them : (n d : ℕ) → 0 < d → n / d < 64 → n < 64 * d
below_them n d some few = elim (cases_lt n (64 * d)) [
  | inl below ↦ below
  | inr above ↦ (let more = le-div 64 n d some above in absurd (omega (arith, more, few)))
]

-- the distance stays, or it is doubled
stays_where : (most n d : ℕ) → n / d < 64 → doubled (suc most) n d ≡ d
stays_where most n d few = rw (lt-ltb (n / d) 64 few) refl

doubles_where : (most n d : ℕ) → 64 ≤ n / d → doubled (suc most) n d ≡ doubled most n (2 * d)
doubles_where most n d many = rw (le-ltb (n / d) 64 many) refl

twice_power : (k : ℕ) → 2 * (1024 * 2 ^ k) ≡ 1024 * 2 ^ suc k
twice_power k = let e : 2 ^ suc k ≡ 2 * 2 ^ k = pow-succ' 2 k in omega (arith, e)

many_of : (n d : ℕ) → 64 ≤ n / d → 64 * d ≤ n
many_of n d many = let e = div-add-mod' n d in let m = mul-le 64 d (n / d) d many (omega arith) in omega (arith, e, m)

pow-positive : (k : ℕ) → 1 ≤ 2 ^ k
pow-positive zero = omega arith
pow-positive (suc k) = let e : 2 ^ suc k ≡ 2 * 2 ^ k = pow-succ' 2 k in let on = pow-positive k in omega (arith, e, on)

doubled-power : (most n j : ℕ) → (k : ℕ) × (doubled most n (1024 * 2 ^ j) ≡ 1024 * 2 ^ k)
doubled-power zero n j = (j, refl)
doubled-power (suc most) n j = elim (cases_lt (n / (1024 * 2 ^ j)) 64) [
  | inl few ↦ (j, stays_where most n (1024 * 2 ^ j) few)
  | inr many ↦ (let on = doubled-power most n (suc j) in (
    on.0,
    doubles_where most n (1024 * 2 ^ j) many ∙ ap (doubled most n) (twice_power j) ∙ on.1,
  ))
]

doubled-few : (most n d : ℕ) → 0 < d → n < 64 * d * 2 ^ most → n < 64 * doubled most n d
doubled-few zero n d some below = omega arith
doubled-few (suc most) n d some below = elim (cases_lt (n / d) 64) [
  | inl few ↦ rw (stays_where most n d few) (below_them n d some few)
  | inr many ↦ (let e : 2 ^ suc most ≡ 2 * 2 ^ most = pow-succ' 2 most in
      let same : 64 * d * 2 ^ suc most ≡ 64 * (2 * d) * 2 ^ most = rw e (products d (2 ^ most)) in
      rw (doubles_where most n d many) (doubled-few most n (2 * d) (omega arith) (rw same at below)))
]
  where
    products : (d p : ℕ) → 64 * d * (2 * p) ≡ 64 * (2 * d) * p
    products d p = omega arith

doubled-least : (most n d k : ℕ) → 0 < d → n < 64 * (d * 2 ^ k) → doubled most n d ≤ d * 2 ^ k
doubled-least zero n d k some below = times d (2 ^ k) (pow-positive k)
  where
    times : (d p : ℕ) → 1 ≤ p → d ≤ d * p
    times d p some = let m = mul-le d 1 d p (omega arith) some in omega (arith, m)
doubled-least (suc most) n d zero some below =
    let less : n < 64 * d = omega arith in
    rw (stays_where most n d (fewer n d some less)) (omega arith)
doubled-least (suc most) n d (suc k) some below = elim (cases_lt (n / d) 64) [
  | inl few ↦ rw (stays_where most n d few) (times d (2 ^ suc k) (pow-positive (suc k)))
  | inr many ↦ (let e : d * 2 ^ suc k ≡ 2 * d * 2 ^ k = rw (pow-succ' 2 k) (products d (2 ^ k)) in
      rw (doubles_where most n d many) (rw e (doubled-least most n (2 * d) k (omega arith) (rw e at below))))
]
  where
    products : (d p : ℕ) → d * (2 * p) ≡ 2 * d * p
    products d p = omega arith

    times : (d p : ℕ) → 1 ≤ p → d ≤ d * p
    times d p some = let m = mul-le d 1 d p (omega arith) some in omega (arith, m)

doubled-some : (most n d : ℕ) → 0 < d → d ≤ doubled most n d
doubled-some zero n d some = omega arith
doubled-some (suc most) n d some = elim (cases_lt (n / d) 64) [
  | inl few ↦ rw (stays_where most n d few) (omega arith)
  | inr many ↦ (let on = doubled-some most n (2 * d) (omega arith) in
      rw (doubles_where most n d many) (omega (arith, on)))
]

doubled-stays : (most n d : ℕ) → 0 < d → suc n < 64 * doubled most n d → doubled most (suc n) d ≡ doubled most n d
doubled-stays zero n d some below = refl
doubled-stays (suc most) n d some below = elim (cases_lt (n / d) 64) [
  | inl few ↦ (let here = stays_where most n d few in
      let less : suc n < 64 * d = rw here at below in
      stays_where most (suc n) d (fewer (suc n) d some less) ∙ sym here)
  | inr many ↦ (let here = doubles_where most n d many in
      let more : 64 ≤ suc n / d = le-div 64 (suc n) d some (let h = many_of n d many in omega (arith, h)) in
      doubles_where most (suc n) d more
      ∙ doubled-stays most n (2 * d) (omega arith) (rw here at below) ∙ sym here)
]

doubled-doubles : (most n d : ℕ) → 0 < d → suc n < 64 * d * 2 ^ most → suc n ≡ 64 * doubled most n d
    → doubled most (suc n) d ≡ 2 * doubled most n d
doubled-doubles zero n d some below at = absurd (omega arith)
doubled-doubles (suc most) n d some below at = elim (cases_lt (n / d) 64) [
  | inl few ↦ (let here = stays_where most n d few in
      let full : suc n ≡ 64 * d = rw here at at in
      let more : 64 ≤ suc n / d = le-div 64 (suc n) d some (omega (arith, full)) in
      doubles_where most (suc n) d more ∙ small most (suc n) (2 * d) (omega (arith, full)) ∙ ap (λ x. 2 * x) (sym here))
  | inr many ↦ (let here = doubles_where most n d many in
      let e : 2 ^ suc most ≡ 2 * 2 ^ most = pow-succ' 2 most in
      let same : 64 * d * 2 ^ suc most ≡ 64 * (2 * d) * 2 ^ most = rw e (products d (2 ^ most)) in
      let more : 64 ≤ suc n / d = le-div 64 (suc n) d some (let h = many_of n d many in omega (arith, h)) in
      doubles_where most (suc n) d more
      ∙ doubled-doubles most n (2 * d) (omega arith) (rw same at below) (rw here at at) ∙ ap (λ x. 2 * x) (sym here))
]
  where
    products : (d p : ℕ) → 64 * d * (2 * p) ≡ 64 * (2 * d) * p
    products d p = omega arith

    small : (most n d : ℕ) → (0 < d) × (n < 64 * d) → doubled most n d ≡ d
    small zero n d h = refl
    small (suc most) n d h = stays_where most n d (fewer n d h.0 h.1)

-- ---- the distance itself

opened : (n : ℕ) → interval n ≡ doubled 48 n 1024
unfolding interval
opened n = refl

all_steps : 64 * 1024 * 2 ^ 48 ≡ 2 ^ 64
all_steps = refl

pub interval-some : (n : ℕ) → 1024 ≤ interval n
interval-some n = rw (opened n) (doubled-some 48 n 1024 (omega arith))

pub interval-most : (n : ℕ) → n < 2 ^ 64 → n < 64 * interval n
interval-most n fits = rw (opened n) (doubled-few 48 n 1024 (omega arith) fits)

pub interval-few : (n : ℕ) → n < 2 ^ 64 → n / interval n < 64
interval-few n fits =
    let some = interval-some n in
    fewer n (interval n) (omega (arith, some)) (interval-most n fits)

pub interval-power : (n : ℕ) → (k : ℕ) × (interval n ≡ 1024 * 2 ^ k)
interval-power n = let p = doubled-power 48 n 0 in (p.0, opened n ∙ p.1)

pub interval-least : (n k : ℕ) → n / (1024 * 2 ^ k) < 64 → interval n ≤ 1024 * 2 ^ k
interval-least n k few =
    let some : 1 ≤ 2 ^ k = pow-positive k in
    let below = below_them n (1024 * 2 ^ k) (omega (arith, some)) few in
    rw (opened n) (doubled-least 48 n 1024 k (omega arith) below)

pub interval-stays : (n : ℕ) → suc n < 64 * interval n → interval (suc n) ≡ interval n
interval-stays n below =
    opened (suc n) ∙ doubled-stays 48 n 1024 (omega arith) (rw opened at below) ∙ sym (opened n)

pub interval-doubles : (n : ℕ) → suc n < 2 ^ 64 → suc n ≡ 64 * interval n → interval (suc n) ≡ 2 * interval n
interval-doubles n fits at =
    opened (suc n) ∙ doubled-doubles 48 n 1024 (omega arith) fits (at ∙ ap (λ x. 64 * x) (opened n))
    ∙ ap (λ x. 2 * x) (sym (opened n))

pub interval-first : interval 0 ≡ 1024
interval-first = opened 0
