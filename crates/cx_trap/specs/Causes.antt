-- The causes of traps that this hart has (Privileged 1.12, section 3.1.15, table 3.6).
use Rattle.std.specs.Prelude.{ℕ, ◌+◌, ◌%◌, List, [], ◌∷◌, Bool, ◌==◌, ◌||◌, nat_le}
use Rattle.std.specs.List.{list_any}
use Rattle.cx_csr.specs.declared.causes.TheConstants.{INTERRUPT_BIT, INSTRUCTION_ADDRESS_MISALIGNED}
use Rattle.cx_csr.specs.declared.causes.TheConstants.{INSTRUCTION_ACCESS_FAULT, ILLEGAL_INSTRUCTION, BREAKPOINT}
use Rattle.cx_csr.specs.declared.causes.TheConstants.{LOAD_ADDRESS_MISALIGNED, LOAD_ACCESS_FAULT}
use Rattle.cx_csr.specs.declared.causes.TheConstants.{STORE_ADDRESS_MISALIGNED, STORE_ACCESS_FAULT, CALL_FROM_USER}
use Rattle.cx_csr.specs.declared.causes.TheConstants.{CALL_FROM_SUPERVISOR, CALL_FROM_MACHINE, INSTRUCTION_PAGE_FAULT}
use Rattle.cx_csr.specs.declared.causes.TheConstants.{LOAD_PAGE_FAULT, STORE_PAGE_FAULT}
use Rattle.cx_csr.specs.declared.interrupts.TheConstants.{SSI, MSI, STI, MTI, SEI, MEI}

-- The highest bit tells an interrupt from an exception, and the other bits are its number.
abbrev pub is_interrupt : ℕ → Bool
is_interrupt cause = nat_le INTERRUPT_BIT cause

abbrev pub cause_number : ℕ → ℕ
cause_number cause = cause % INTERRUPT_BIT

-- the interrupts, the one that is taken first first (section 3.1.9)
abbrev pub interrupts : List ℕ
interrupts = MEI ∷ MSI ∷ MTI ∷ SEI ∷ SSI ∷ STI ∷ []

abbrev pub exceptions : List ℕ
exceptions =
    INSTRUCTION_ADDRESS_MISALIGNED ∷ INSTRUCTION_ACCESS_FAULT ∷ ILLEGAL_INSTRUCTION ∷ BREAKPOINT
    ∷ LOAD_ADDRESS_MISALIGNED ∷ LOAD_ACCESS_FAULT ∷ STORE_ADDRESS_MISALIGNED ∷ STORE_ACCESS_FAULT
    ∷ CALL_FROM_USER ∷ CALL_FROM_SUPERVISOR ∷ CALL_FROM_MACHINE
    ∷ INSTRUCTION_PAGE_FAULT ∷ LOAD_PAGE_FAULT ∷ STORE_PAGE_FAULT ∷ []

abbrev pub is_cause : ℕ → Bool
is_cause cause = list_any (λ e. e == cause) exceptions || list_any (λ i. i + INTERRUPT_BIT == cause) interrupts
