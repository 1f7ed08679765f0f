-- A value that takes no byte, and a text of none.
use Rattle.std.proofs.Common.{◌≡◌, ℕ, [], arith, sym, Result, Ok}
use Rattle.cx_codec.proofs.Parts.{same_place}
use Rattle.cx_codec.specs.Place.{Place, Takes, done}

pub nothing_taken : (p after : Place) → Takes p [] after → p ≡ after
nothing_taken p after takes = same_place p after (omega (arith, takes.there)) (sym takes.limit) takes.ahead

pub same_ok : {X : Type 0} (x y : X) → ◌≡◌ {A = Result X ℕ} (Ok x) (Ok y) → x ≡ y
same_ok x y e = cc

pub done_pair : {Y : Type 0} (a b : Y) (p q : Place) → done a p ≡ Ok (b, q) → ◌≡◌ {A = Y × Place} (a, p) (b, q)
done_pair {Y} a b p q e = same_ok {X = Y × Place} (a, p) (b, q) e
