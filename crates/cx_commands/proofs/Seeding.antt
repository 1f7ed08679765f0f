-- What a world that tells its seed says of its answers.
use Rattle.std.proofs.Common.{◌≡◌, ℕ, zero, suc, ◌-◌, ◌^◌, ◌<◌, ◌≤◌, Bool, true, false, cond, nat_lt, List, []}
use Rattle.std.proofs.Common.{◌∷◌}
use Rattle.std.proofs.Common.{◌++◌, length, Option, None, Some, Result, Ok, Err, refl, sym, ap, ◌∙◌}
use Rattle.std.proofs.Common.{arith, append_assoc, inl, inr}
use Rattle.std.proofs.lemmas.Bool.{cases_lt}
use Rattle.std.proofs.lemmas.List.{append-nil}
use Rattle.std.specs.Option.{option_map}
use Rattle.cx_io.specs.SeedWorld.{Seeded, first_answers, seeded_answer}
use Rattle.cx_io.specs.Turns.{AddsAnswer}
use Rattle.cx_io.specs.declared.outside.Failed.{Failed}
use Rattle.cx_io.specs.declared.outside.Outside.{Outside}
use Rattle.cx_io.proofs.SeededAnswers.{length-first_answers}
use Rattle.cx_record.specs.Promise.{AddsAnswers}
use Rattle.cx_commands.specs.Record.{seed_as_answer, told_behind_seed}

-- an answer goes to the end, whatever stands in front
pub adds_behind : (m : Outside) (given now : Option (List Outside)) (r : Result Outside Failed) → AddsAnswer given now r
    → AddsAnswer (option_map (λ all. m ∷ all) given) (option_map (λ all. m ∷ all) now) r
adds_behind m None now r adds = ap (option_map (λ all. m ∷ all)) adds
adds_behind m (Some g) None (Ok o) adds = omega (arith, adds)
adds_behind m (Some g) (Some all) (Ok o) adds = ap (λ (xs : List Outside). m ∷ xs) adds
adds_behind m (Some g) now (Err failed) adds = ap (option_map (λ all. m ∷ all)) adds

-- the seed stays, and the answers are its first ones
pub are_of_seed : (seed calls n : ℕ) (told : Bool) (outs : List Outside)
    → AddsAnswers (Some (seed_as_answer seed ∷ []))
    (option_map (λ all. seed_as_answer n ∷ all) (cond told (Some (first_answers n calls)) None)) outs
    → length outs < 2 ^ 62 → outs ≡ first_answers seed (length outs)
are_of_seed seed calls n false outs adds few = absurd (omega (arith, adds, few))
are_of_seed seed calls n true outs adds few =
    let all : ◌≡◌ {A = List Outside} (seed_as_answer n ∷ first_answers n calls) (seed_as_answer seed ∷ outs) = adds in
    let first : seed_as_answer n ≡ seed_as_answer seed = cc in
    let rest : first_answers n calls ≡ outs = cc in
    let same : n ≡ seed = ap (λ (o : Outside). o.ticks) first in
    let count : calls ≡ length outs =
    sym (length-first_answers n calls) ∙ ap (λ (xs : List Outside). length xs) rest in
    sym rest ∙ ap (λ (s : ℕ). first_answers s calls) same ∙ ap (first_answers seed) count

pub told_of_seed : (seed : ℕ) (w : Seeded) (outs : List Outside)
    → AddsAnswers (Some (seed_as_answer seed ∷ [])) (told_behind_seed w) outs → length outs < 2 ^ 62
    → outs ≡ first_answers seed (length outs)
told_of_seed seed w outs adds few = are_of_seed seed w.calls w.seed (nat_lt w.calls (2 ^ 64 - 1)) outs adds few

-- the seed alone, before the first answer
pub told_first : (seed : ℕ) → told_behind_seed (record { seed = seed; calls = 0 }) ≡ Some (seed_as_answer seed ∷ [])
unfolding first_answers
told_first seed = refl

-- fewer answers of a seed begin more of them
pub first_begin : (seed n steps : ℕ) → n ≤ steps
    → (rest : List Outside) × (first_answers seed steps ≡ first_answers seed n ++ rest)
unfolding first_answers
first_begin seed n zero within =
    let none : n ≡ 0 = omega (arith, within) in
    ([], rw none refl)
first_begin seed n (suc steps) within = elim (cases_lt n (suc steps)) [
  | inl below ↦
      (let before = first_begin seed n steps (omega (arith, below)) in (
        before.0 ++ seeded_answer seed steps ∷ [],
        ap (λ (xs : List Outside). xs ++ seeded_answer seed steps ∷ []) before.1
            ∙ append_assoc (first_answers seed n) before.0 (seeded_answer seed steps ∷ []),
      ))
  | inr above ↦
      (let same : n ≡ suc steps = omega (arith, above, within) in
      ([], ap (first_answers seed) (sym same) ∙ sym (append-nil (first_answers seed n))))
]
