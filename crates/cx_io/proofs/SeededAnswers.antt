-- What a turn does to the answers that a seeded world tells.
use Rattle.std.proofs.Common.{
  ◌≡◌,
  ℕ,
  zero,
  suc,
  ◌+◌,
  ◌-◌,
  ◌^◌,
  ◌<◌,
  ◌≤◌,
  min,
  Bool,
  true,
  false,
  cond,
  nat_lt,
  List,
  [],
  ◌∷◌,
  ◌++◌,
  length,
  None,
  Some,
  Ok,
  refl,
  add-one,
  arith,
  length-append,
}
use Rattle.std.proofs.lemmas.Bool.Decides.{nat_tests}
use Rattle.cx_io.specs.declared.outside.Outside.{Outside}
use Rattle.cx_io.specs.Turns.{AddsAnswer}
use Rattle.cx_io.specs.SeedWorld.{seeded_answer, first_answers, told_answers}

pub length-first_answers : (s n : ℕ) → length (first_answers s n) ≡ n
unfolding first_answers
length-first_answers s zero = refl
length-first_answers s (suc n) = simp (length-append) (omega (arith, length-first_answers s n))

pub first_answers-next : (s n : ℕ) → first_answers s (n + 1) ≡ first_answers s n ++ seeded_answer s n ∷ []
unfolding first_answers
first_answers-next s n = rw add-one refl

-- Told lists by two tests, of the count before and of the count after.
pub AddsAnswer-by_tests : (b c : Bool) (given now : List Outside) (answer : Outside)
    → (b ≡ true → c ≡ true → now ≡ given ++ answer ∷ []) → (b ≡ true → c ≡ false → 2 ^ 63 ≤ length given)
    → (b ≡ false → c ≡ false)
    → AddsAnswer (cond b (Some given) None) (cond c (Some now) None) (Ok answer)
AddsAnswer-by_tests true true given now answer more many none = more refl refl
AddsAnswer-by_tests true false given now answer more many none = many refl refl
AddsAnswer-by_tests false true given now answer more many none = let e = none refl in cc
AddsAnswer-by_tests false false given now answer more many none = refl

pub AddsAnswer-told : (s n next : ℕ) → n < 2 ^ 64 → next ≡ min (n + 1) (2 ^ 64 - 1)
    → AddsAnswer (told_answers (record { seed = s; calls = n })) (told_answers (record { seed = s; calls = next }))
    (Ok (seeded_answer s n))
AddsAnswer-told s n next fits is =
    AddsAnswer-by_tests (nat_lt n (2 ^ 64 - 1)) (nat_lt next (2 ^ 64 - 1)) (first_answers s n) (first_answers s next)
    (seeded_answer s n)
    (λ below below_too. let e : next ≡ n + 1 = grind (arith, nat_tests) in rw e (first_answers-next s n))
    (λ below last. let e : length (first_answers s n) ≡ n = length-first_answers s n in grind (arith, nat_tests))
    (λ last. grind (arith, nat_tests))
