-- Facts of options, of numbers and of results that several files cite.
use Rattle.std.proofs.Common.{◌≡◌, ℕ, suc, ◌+◌, ◌<◌, ◌≤◌, None, Some, Result, Ok, Err, arith}

pub none_is_some : {P X : Type 0} (x : X) → None ≡ Some x → P
none_is_some x is = cc

pub some_is_same : {X : Type 0} (x y : X) → Some x ≡ Some y → x ≡ y
some_is_same x y is = cc

pub same_Ok : {X E : Type 0} (x y : X) → ◌≡◌ {A = Result X E} (Ok x) (Ok y) → x ≡ y
same_Ok x y is = cc

pub not_Ok : {P X E : Type 0} (e : E) (x : X) → ◌≡◌ {A = Result X E} (Err e) (Ok x) → P
not_Ok e x is = cc

pub same_suc : (m n : ℕ) → suc m ≡ suc n → m ≡ n
same_suc m n is = cc

pub above : (a b : ℕ) → b < a → a ≡ b → ⊥
above a b less is = omega arith

pub strictly : (a b : ℕ) → a ≤ b → (a ≡ b → ⊥) → a + 1 ≤ b
strictly a b less other = grind arith
