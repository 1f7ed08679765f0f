-- A call that reads a field and tests it.
use Rattle.std.proofs.Common.{◌≡◌, ℕ, Bool, true, false, cond, refl, Ok, Err}
use Rattle.cx_codec.specs.Checks.{checked}
use Rattle.cx_codec.specs.Place.{Reader, done, bad}
use Rattle.cx_codec.specs.Reads.{Met, BadAt, Standing, Reads}
use Rattle.cx_codec.proofs.Composing.{fails, goes, gives, breaks}

abbrev judge : (ℕ → Bool) → ℕ → ℕ → Reader ℕ
judge test at v = cond {A = Reader ℕ} (test v) (done v) (bad at)

-- The field isn't there,
pub checked_fails : {X W E F : Type 0} {met : E → Met} {met' : F → Met} {view : X → ℕ} {view' : W
    → ℕ} {field : Reader ℕ} {old new : Standing}
    {e : E} {e' : F} (test : ℕ → Bool) → met' e' ≡ met e
    → Reads met view field old new (Err e) → Reads met' view' (checked test field) old new (Err e')
checked_fails {field = field} test same first = fails {reader = checked test field} (λ at v. judge test at v)
    (λ p. refl) same first

-- it passes,
pub checked_passes : {X W E F : Type 0} {met : E → Met} {met' : F → Met} {view : X → ℕ} {view' : W
    → ℕ} {field : Reader ℕ} {old new : Standing}
    {x : X} {y : W} (test : ℕ → Bool) → test (view x) ≡ true → view' y ≡ view x
    → Reads met view field old new (Ok x) → Reads met' view' (checked test field) old new (Ok y)
checked_passes {field = field} test good same first =
    goes {reader = checked test field} (λ at v. judge test at v) (λ p. refl) first
    (gives first.follows.told (λ p. rw (good, same) refl))

-- or it doesn't.
pub checked_breaks : {X W E F : Type 0} {met : E → Met} {met' : F → Met} {view : X → ℕ} {view' : W
    → ℕ} {field : Reader ℕ} {old new : Standing}
    {x : X} {e : F} (test : ℕ → Bool) → test (view x) ≡ false → met' e ≡ BadAt old.hand.at
    → Reads met view field old new (Ok x) → Reads met' view' (checked test field) old new (Err e)
checked_breaks {field = field} {old = old} test wrong is first =
    goes {reader = checked test field} (λ at v. judge test at v) (λ p. refl) first
    (breaks old.hand.at first.follows.told is (λ p. rw wrong refl))
