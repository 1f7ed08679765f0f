-- What holds of the bytes of an access once they are found, so that they can be read and written.
use Rattle.std.specs.Prelude.{◌≡◌, ℕ, ◌+◌, ◌<◌, ◌≤◌, true, false, [], ◌∷◌, IfSome, Some, Ok}
use Rattle.cx_csr.specs.declared.state.State.{State}
use Rattle.cx_csr.specs.Access.{is_illegal}
use Rattle.cx_map.specs.Map.{IsInRam}
use Rattle.cx_map.specs.declared.TheConstants.{RAM_START}
use Rattle.cx_ram.specs.PhysicalMemory.{IsAccessLength, IsInOnePage}
use Rattle.cx_trap.specs.Return.{can_mret, can_sret}
use Rattle.cx_walk.specs.declared.walk.Place.TheVariants.{Ram}
use Rattle.cx_walk.specs.declared.walk.Walk.{Walk}
use Rattle.cx_hart.specs.declared.record.Touch.{Touch}
use Rattle.cx_hart.specs.declared.findings.Control.{Control}
use Rattle.cx_hart.specs.declared.findings.Control.TheVariants.{Untouched, Write, Mret, Sret}
use Rattle.cx_hart.specs.declared.findings.Part.{Part}
use Rattle.cx_hart.specs.declared.findings.Retired.{Retired}
use Rattle.cx_hart.specs.declared.findings.Target.{Target}
use Rattle.cx_hart.specs.declared.findings.Target.TheVariants.{Memory, Device}

-- 1 to 4 bytes in one page of RAM of so many bytes
pub record IsStretch (size place len : ℕ) : Type 0 where
  pub inside : IsInRam size place len
  pub page : IsInOnePage place len
  pub length : IsAccessLength len

-- a word below RAM
pub record IsOutside (place len : ℕ) : Type 0 where
  pub below : place < RAM_START
  pub whole : len ≡ 4

abbrev pub IsPart : ℕ → Part → Type 0
IsPart size part = IsStretch size part.pa part.len

-- the rest of a split access: no more than four bytes with the first part
pub record IsRest (size : ℕ) (first more : Part) : Type 0 where
  pub inside : IsPart size more
  pub whole : first.len + more.len ≤ 4

abbrev pub IsTarget : ℕ → Target → Type 0
IsTarget size (Memory first more) = IsPart size first × IfSome more (IsRest size first)
IsTarget size (Device part) = IsOutside part.pa part.len

-- the same of the lengths alone
pub record IsSizedRest (first more : Part) : Type 0 where
  pub some : 1 ≤ more.len
  pub whole : first.len + more.len ≤ 4

abbrev pub IsSized : Target → Type 0
IsSized (Memory first more) = IsAccessLength first.len × IfSome more (IsSizedRest first)
IsSized (Device part) = part.len ≡ 4

-- Bytes that can be written: in RAM a stretch.
pub record IsWritable (size : ℕ) (t : Touch) : Type 0 where
  pub ram : RAM_START ≤ t.pa → IsStretch size t.pa t.len

abbrev pub IsLegal : State → Control → Type 0
IsLegal s Untouched = Unit {0}
IsLegal s (Write number value) = is_illegal true s number ≡ false
IsLegal s Mret = can_mret s ≡ true
IsLegal s Sret = can_sret s ≡ true

-- What an instruction retires with can be carried out.
pub record IsReady (size : ℕ) (s : State) (r : Retired) : Type 0 where
  pub register : r.effect.rd < 32
  pub control : IsLegal s r.control
  pub write : IfSome r.write (IsWritable size)
  pub write_more : IfSome r.write_more (IsWritable size)

-- the walk of an access that isn't translated and whose bytes are all in RAM
abbrev pub bare_walk : ℕ → Walk
bare_walk va = record { count = 0; places = 0 ∷ 0 ∷ []; address = Some va; answer = Ok (Ram va) }
