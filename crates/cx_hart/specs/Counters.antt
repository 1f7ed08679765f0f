-- The counters of a step (Privileged 1.12, 3.1.10): minstret counts each step that retires, modulo 2^64. That mcycle
-- counts each step is this hart's own choice, as it has no clock. A step that writes a half of one of them leaves it
-- at what it wrote.
use Rattle.std.specs.Prelude.{ℕ, ◌+◌, ◌%◌, ◌^◌, Bool, false, ◌==◌, ◌||◌, if◌then◌else◌}
use Rattle.cx_csr.specs.declared.numbers.TheConstants.{CSR_MCYCLE, CSR_MCYCLEH, CSR_MINSTRET, CSR_MINSTRETH}
use Rattle.cx_csr.specs.declared.state.State.{State}
use Rattle.cx_hart.specs.declared.findings.Control.{Control}
use Rattle.cx_hart.specs.declared.findings.Control.TheVariants.{Untouched, Write, Mret, Sret}

abbrev pub writes_one_of : ℕ → ℕ → Control → Bool
writes_one_of low high (Write number value) = number == low || number == high
writes_one_of low high Untouched = false
writes_one_of low high Mret = false
writes_one_of low high Sret = false

abbrev pub writes_cycle : Control → Bool
writes_cycle control = writes_one_of CSR_MCYCLE CSR_MCYCLEH control

abbrev pub writes_retired : Control → Bool
writes_retired control = writes_one_of CSR_MINSTRET CSR_MINSTRETH control

-- one more, unless it was written
abbrev pub counted : Bool → ℕ → ℕ
counted written count = if written then count else (count + 1) % 2 ^ 64

abbrev pub with_cycle : Control → State → State
with_cycle control s = record s { csr = record s.csr { mcycle = counted (writes_cycle control) s.csr.mcycle } }

abbrev pub with_retired : Control → State → State
with_retired control s = record s { csr = record s.csr { minstret = counted (writes_retired control) s.csr.minstret } }
