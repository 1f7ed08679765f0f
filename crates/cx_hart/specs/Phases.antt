-- The phases of a step. Each carries what it has seen, and ends the step or finds what the next one goes on with.
use Rattle.std.specs.Prelude.{ℕ, List, [], ◌∷◌, ◌++◌, Ok, Err}
use Rattle.cx_hart.specs.Ends.{End, ◌>>=◌ as end_then}
use Rattle.cx_hart.specs.Looks.{Look}
use Rattle.cx_hart.specs.declared.findings.Stop.TheVariants.{Trap}

pub record Phase (Y : Type 0) : Type 0 where
  pub looks : List Look
  pub end : End Y

-- what the next phase sees; nothing where this one ends the step
abbrev pub looks_behind : {Y Z : Type 0} → End Y → (Y → Phase Z) → List Look
looks_behind (Ok y) next = (next y).looks
looks_behind (Err stop) next = []

infixl 10 ◌>>=◌
abbrev pub ◌>>=◌ : {Y Z : Type 0} → Phase Y → (Y → Phase Z) → Phase Z
p >>= next = record { looks = p.looks ++ looks_behind p.end next; end = end_then p.end (λ y. (next y).end) }

-- a phase that sees nothing
abbrev pub unseen : {Y : Type 0} → End Y → Phase Y
unseen end = record { looks = []; end = end }

abbrev pub found : {Y : Type 0} → Y → Phase Y
found y = unseen (Ok y)

abbrev pub trap : {Y : Type 0} → ℕ → ℕ → Phase Y
trap cause tval = unseen (Err (Trap cause tval))

-- a phase that looks once, and finds this
abbrev pub sees : {Y : Type 0} → Look → Y → Phase Y
sees look y = record { looks = look ∷ []; end = Ok y }
