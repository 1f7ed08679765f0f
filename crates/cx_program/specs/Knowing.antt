-- What code knows of a program.
use Rattle.std.specs.Prelude.{◌≡◌, ℕ, ◌+◌, ◌-◌, ◌/◌, ◌⊎◌, Option, None, Some}
use Rattle.cx_exec.specs.Arithmetic.{wrapped}
use Rattle.cx_map.specs.declared.TheConstants.{PAGE_SIZE}
use Rattle.cx_observe.specs.Effects.{program_words}
use Rattle.cx_observe.specs.Seeing.{bytes_shown, seen_by, sights}
use Rattle.cx_observe.specs.declared.obs.Obs.{Obs}
use Rattle.cx_observe.specs.declared.obs.Seen.{Seen}
use Rattle.cx_shadow.specs.Cells.{AreHeld, byte_of}
use Rattle.cx_shadow.specs.declared.shadow.Shadow.{Shadow}
use Rattle.cx_slices.specs.Bytes.{Shows}
use Rattle.cx_slices.specs.Items.{Known}
use Rattle.cx_program.specs.declared.standing.Standing.{Standing}

abbrev pub known_by : Standing → Known
known_by s = record { words = s.words; map = byte_of s.shadow }

-- All that the step is handed stands already.
pub record IsKnown (w : Known) (o : Obs) : Type 0 where
  pub words : w.words ≡ program_words o.pc o.x
  pub bytes : Shows w.map (sights o)
  pub given : o.value ≡ None

-- There is room for the bytes that the step sees and writes.
pub record HasRoom (s : Shadow) (o : Obs) : Type 0 where
  pub seen : AreHeld s (seen_by o)
  pub written : AreHeld s (bytes_shown o.write)

-- The address is on the page of the first byte of an access, or of its last.
abbrev pub IsByAccess : ℕ → Option Seen → Type 0
IsByAccess a None = ⊥
IsByAccess a (Some s) =
    (a / PAGE_SIZE ≡ s.va / PAGE_SIZE) ⊎ (a / PAGE_SIZE ≡ wrapped (s.va + (s.len - 1)) / PAGE_SIZE)

-- The address is on a page of the step: that of pc, and those of the first and the last byte of what it reads or writes.
-- Where it does both, they are one access.
abbrev pub IsByStep : ℕ → Obs → Type 0
IsByStep a o = (a / PAGE_SIZE ≡ o.pc / PAGE_SIZE) ⊎ (IsByAccess a o.read ⊎ IsByAccess a o.write)
