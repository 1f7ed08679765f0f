-- Which addresses were accessed since the last call, or since the start.
use Rattle.std.specs.Prelude.{ℕ, ◌||◌, Bool, false, not, List, filter, is_some}
use Rattle.cx_slices.specs.Bytes.{Byte, byte_found}
use Rattle.cx_slices.specs.Observed.{Watch}

abbrev pub Touched : Type 0
Touched = ℕ → Bool

abbrev pub untouched : Touched
untouched a = false

-- A step accesses what it leaves bytes at: what it saw, and what it wrote.
abbrev pub accesses : {O G : Type 0} → Watch O G → O → ℕ → Bool
accesses m o a = is_some (byte_found (m.left o) a)

abbrev pub touching : {O G : Type 0} → Watch O G → O → Touched → Touched
touching m o touched a = touched a || accesses m o a

abbrev pub first_touched : Touched → List Byte → List Byte
first_touched touched es = filter (λ e. not (touched e.0)) es

abbrev pub touched_again : Touched → List Byte → List Byte
touched_again touched es = filter (λ e. touched e.0) es
