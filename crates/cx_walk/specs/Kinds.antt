-- The kinds of accesses to memory, and the cause of the exception where one fails (Privileged 1.12, sections 3.1.15
-- and 4.3.2, steps 2 and 3: a load-reserved faults as a load, a store-conditional and an atomic operation as a store).
use Rattle.std.specs.Prelude.{◌≡◌, ◌⊎◌, ℕ, Bool, true, false}
use Rattle.cx_walk.specs.declared.kind.Kind.{Kind}
use Rattle.cx_walk.specs.declared.kind.Kind.TheVariants.{Fetch, Load, Store, Reserve, Atomic}
use Rattle.cx_csr.specs.declared.causes.TheConstants.{INSTRUCTION_ACCESS_FAULT, LOAD_ACCESS_FAULT, STORE_ACCESS_FAULT}
use Rattle.cx_csr.specs.declared.causes.TheConstants.{INSTRUCTION_PAGE_FAULT, LOAD_PAGE_FAULT, STORE_PAGE_FAULT}

abbrev pub access_fault : Kind → ℕ
access_fault Fetch = INSTRUCTION_ACCESS_FAULT
access_fault Load = LOAD_ACCESS_FAULT
access_fault Reserve = LOAD_ACCESS_FAULT
access_fault Store = STORE_ACCESS_FAULT
access_fault Atomic = STORE_ACCESS_FAULT

abbrev pub page_fault : Kind → ℕ
page_fault Fetch = INSTRUCTION_PAGE_FAULT
page_fault Load = LOAD_PAGE_FAULT
page_fault Reserve = LOAD_PAGE_FAULT
page_fault Store = STORE_PAGE_FAULT
page_fault Atomic = STORE_PAGE_FAULT

-- one of the two causes of a fault of this kind
abbrev pub IsFault : Kind → ℕ → Type 0
IsFault kind cause = (cause ≡ access_fault kind) ⊎ (cause ≡ page_fault kind)

-- an access that reads an instruction, and not data
abbrev pub is_fetch : Kind → Bool
is_fetch Fetch = true
is_fetch Load = false
is_fetch Reserve = false
is_fetch Store = false
is_fetch Atomic = false

-- an access that needs leave to write
abbrev pub is_write : Kind → Bool
is_write Fetch = false
is_write Load = false
is_write Reserve = false
is_write Store = true
is_write Atomic = true
