-- What a first number of pages announces.
use Rattle.std.proofs.Common.{◌≡◌, ℕ, zero, suc, ◌<◌, false, arith, refl, Ok}
use Rattle.cx_codec.specs.Place.{Place}
use Rattle.cx_log.specs.Reading.{announced_by}

pub announced_some : (n : ℕ) (p : Place) → 0 < n
    → announced_by n p ≡ Ok (record { version = 1; split = false; pages = n }, p)
announced_some zero p some = absurd (omega arith)
announced_some (suc n) p some = refl
