-- What the record of a step always is, whatever the state, the memory and what is due.
use Rattle.std.specs.Prelude.{◌≡◌, ◌⊎◌, ℕ, ◌+◌, ◌≤◌, take, Option, None, IsSome, IfSome}
use Rattle.cx_csr.specs.declared.causes.TheConstants.{CALL_FROM_USER, CALL_FROM_SUPERVISOR, CALL_FROM_MACHINE}
use Rattle.cx_ram.specs.PhysicalMemory.{IsAccessLength}
use Rattle.cx_hart.specs.Touches.{padded}
use Rattle.cx_hart.specs.declared.record.Ended.{Ended}
use Rattle.cx_hart.specs.declared.record.Ended.TheVariants.{Interrupt, Retired, Trap}
use Rattle.cx_hart.specs.declared.record.StepRec.{StepRec}
use Rattle.cx_hart.specs.declared.record.Touch.{Touch}

-- ---- what was touched

-- 1 to 4 bytes, and 0 behind them
pub record IsTouch (t : Touch) : Type 0 where
  pub length : IsAccessLength t.len
  pub bytes : t.bytes ≡ padded 4 (take t.len t.bytes)

-- the word of an instruction
pub record IsWord (t : Touch) : Type 0 where
  pub touch : IsTouch t
  pub whole : t.len ≡ 4

-- The second part of an access goes on from a first, and both have no more than four bytes.
pub record IsSecond (first : Option Touch) (more : Touch) : Type 0 where
  pub touch : IsTouch more
  pub there : IsSome first
  pub whole : IfSome first (λ t. t.len + more.len ≤ 4)

-- An access touches up to the end of a page, and some of the next page where it goes on there.
pub record AreParts (touch more : Option Touch) : Type 0 where
  pub first : IfSome touch IsTouch
  pub second : IfSome more (IsSecond touch)

-- ---- how the step ended

-- it tells nothing of what an instruction reads, writes, takes or gives
pub record HasNothing (rec : StepRec) : Type 0 where
  pub read : rec.read ≡ None
  pub read_more : rec.read_more ≡ None
  pub write : rec.write ≡ None
  pub write_more : rec.write_more ≡ None
  pub value : rec.value ≡ None
  pub result : rec.result ≡ None

-- The causes of environment calls (Privileged 1.12, 3.1.15).
abbrev pub IsCall : ℕ → Type 0
IsCall cause = (cause ≡ CALL_FROM_USER) ⊎ (cause ≡ CALL_FROM_SUPERVISOR) ⊎ (cause ≡ CALL_FROM_MACHINE)

-- A step that retired or made a call has fetched a word. One that ended in a trap has what it saw on the way alone.
abbrev pub HasItsParts : Ended → StepRec → Type 0
HasItsParts Retired rec = IsSome rec.fetch
HasItsParts (Interrupt number) rec = HasNothing rec
HasItsParts (Trap cause) rec = HasNothing rec × (IsCall cause → IsSome rec.fetch)

-- ---- the record

pub record IsWellFormed (rec : StepRec) : Type 0 where
  pub walked : rec.walked ≤ 6
  pub places : rec.places ≡ padded 6 (take rec.walked rec.places)
  pub entries : rec.entries ≡ padded 6 (take rec.walked rec.entries)
  pub fetch : IfSome rec.fetch IsWord
  pub reads : AreParts rec.read rec.read_more
  pub writes : AreParts rec.write rec.write_more
  pub parts : HasItsParts rec.ended rec
