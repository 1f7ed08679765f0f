-- When a turn that has ended is carried out.
use Rattle.std.specs.Prelude.{ℕ, Bool, ◌&&◌, is_none, is_some, Option, None, Some, Ok, Err, IsTrue}
use Rattle.cx_csr.specs.declared.state.State.{State}
use Rattle.cx_trap.specs.Causes.{is_cause}
use Rattle.cx_hart.specs.After.{interrupt_cause}
use Rattle.cx_hart.specs.Ends.{End}
use Rattle.cx_hart.specs.Stretches.{IsReady}
use Rattle.cx_hart.specs.declared.answer.Asked.{Asked}
use Rattle.cx_hart.specs.declared.findings.Retired.{Retired}
use Rattle.cx_hart.specs.declared.findings.Stop.{Stop}
use Rattle.cx_hart.specs.declared.findings.Stop.TheVariants.{Asks, Interrupt, Trap}

-- the value that it asks for, which isn't due
abbrev pub asked_of : End Retired → Option Asked
asked_of (Ok r) = None
asked_of (Err (Asks what)) = Some what
asked_of (Err (Interrupt number)) = None
asked_of (Err (Trap cause tval)) = None

-- the value of the outside that it took
abbrev pub value_taken : End Retired → Option ℕ
value_taken (Ok r) = r.value
value_taken (Err stop) = None

-- A value is due that it doesn't take.
abbrev pub is_left : Option ℕ → End Retired → Bool
is_left given ended = is_some given && is_none (value_taken ended)

-- It ends in a cause of the hart, or asks for a value.
abbrev pub IsCause : Stop → Type 0
IsCause (Asks what) = Unit {0}
IsCause (Interrupt number) = IsTrue (is_cause (interrupt_cause number))
IsCause (Trap cause tval) = IsTrue (is_cause cause)

-- The turn can be carried out: it asks for nothing that isn't due, and ends in a cause of the hart or with an
-- instruction whose changes can be made.
abbrev pub IsEnd : ℕ → State → End Retired → Type 0
IsEnd size s (Ok r) = IsReady size s r
IsEnd size s (Err (Asks what)) = ⊥
IsEnd size s (Err (Interrupt number)) = IsTrue (is_cause (interrupt_cause number))
IsEnd size s (Err (Trap cause tval)) = IsTrue (is_cause cause)
