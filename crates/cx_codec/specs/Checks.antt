-- Fields that have to pass a test, and the end of an input.
use Rattle.std.specs.Prelude.{ℕ, nat_le, ◌==◌, ◌&&◌, Bool, List, length, if◌then◌else◌, Option, None, Some}
use Rattle.std.specs.Prelude.{Result, Ok, Err}
use Rattle.cx_codec.specs.Place.{Place, Reader, ◌>>=◌, bad, done, here}

-- nothing may follow
abbrev pub close_at : Reader (Unit {0})
close_at p = if length p.ahead == 0 then Ok (tt, p) else Err p.at

-- the field that is bad
abbrev pub fault_of : {Y : Type 0} → Result (Y × Place) ℕ → Option ℕ
fault_of (Ok x) = None
fault_of (Err o) = Some o

-- a field that has to pass a test, and is bad at its first byte where it doesn't
abbrev pub checked : (ℕ → Bool) → Reader ℕ → Reader ℕ
checked test field = do
  start ← here
  value ← field
  if test value then done value else bad start

-- a number from a least one up to a greatest one
abbrev pub is_between : ℕ → ℕ → ℕ → Bool
is_between least greatest n = nat_le least n && nat_le n greatest
