-- What a turn does to the answers that a world with a list of them tells.
use Rattle.std.proofs.Common.{◌≡◌, ℕ, zero, suc, ◌+◌, ◌-◌, ◌^◌, ◌<◌, min, nat_lt, List, [], ◌∷◌, ◌++◌, length, Ok, refl, add-one, arith, length-append}
use Rattle.std.proofs.lemmas.Bool.Decides.{nat_tests}
use Rattle.cx_io.specs.declared.outside.Outside.{Outside}
use Rattle.cx_io.specs.Plan.{Plan}
use Rattle.cx_io.specs.Turns.{AddsAnswer}
use Rattle.cx_io.specs.ScriptWorld.{first_scripted, scripted_answer, told_script}
use Rattle.cx_io.proofs.SeededAnswers.{AddsAnswer-by_tests}

length-first_scripted : (script : List Outside) (n : ℕ) → length (first_scripted script n) ≡ n
unfolding first_scripted
length-first_scripted script zero = refl
length-first_scripted script (suc n) = simp (length-append) (omega (arith, length-first_scripted script n))

first_scripted-next : (script : List Outside) (n : ℕ)
    → first_scripted script (n + 1) ≡ first_scripted script n ++ scripted_answer script n ∷ []
unfolding first_scripted
first_scripted-next script n = rw add-one refl

pub AddsAnswer-scripted : (script : List Outside) (before after : Plan) (n next : ℕ) → n < 2 ^ 64
    → next ≡ min (n + 1) (2 ^ 64 - 1)
    → AddsAnswer (told_script (record { script = script; given = n; plan = before }))
    (told_script (record { script = script; given = next; plan = after })) (Ok (scripted_answer script n))
AddsAnswer-scripted script before after n next fits is =
    AddsAnswer-by_tests (nat_lt n (2 ^ 64 - 1)) (nat_lt next (2 ^ 64 - 1)) (first_scripted script n)
    (first_scripted script next) (scripted_answer script n)
    (λ below below_too. let e : next ≡ n + 1 = grind (arith, nat_tests) in rw e (first_scripted-next script n))
    (λ below last. let e : length (first_scripted script n) ≡ n = length-first_scripted script n
    in grind (arith, nat_tests))
    (λ last. grind (arith, nat_tests))
