-- How a phase of a step ends: it finds what the next one goes on with, or it ends the step.
use Rattle.std.specs.Prelude.{ℕ, Option, None, Some, Result, Ok, Err}
use Rattle.cx_hart.specs.declared.answer.Asked.{Asked}
use Rattle.cx_hart.specs.declared.findings.Stop.{Stop}
use Rattle.cx_hart.specs.declared.findings.Stop.TheVariants.{Asks, Trap}

abbrev pub End : Type 0 → Type 0
End Y = Result Y Stop

infixl 10 ◌>>=◌
abbrev pub ◌>>=◌ : {Y Z : Type 0} → End Y → (Y → End Z) → End Z
(Ok y) >>= next = next y
(Err stop) >>= next = Err stop

-- the phase finds this
abbrev pub found : {Y : Type 0} → Y → End Y
found y = Ok y

-- the step ends in an exception (Privileged 1.12, 3.1.15 for the cause, 3.1.16 for what is told beside it)
abbrev pub trap : {Y : Type 0} → ℕ → ℕ → End Y
trap cause tval = Err (Trap cause tval)

-- a value of the outside, which the step asks for
abbrev pub answered : Option ℕ → Asked → End ℕ
answered None what = Err (Asks what)
answered (Some value) what = Ok value
