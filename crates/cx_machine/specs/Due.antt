-- What is due to a step: what the outside hands to it.
use Rattle.std.specs.Prelude.{ℕ, ◌^◌, ◌<◌, List, [], Option, None, IfSome, unwrap_or}
use Rattle.cx_csr.specs.Rules.{IsWithin}
use Rattle.cx_csr.specs.declared.interrupts.TheConstants.{LINE_INTERRUPTS}
use Rattle.cx_csr.specs.declared.lines.Lines.{Lines}
use Rattle.cx_csr.specs.declared.state.State.{State}
use Rattle.cx_map.specs.Map.{size_of_pages}
use Rattle.cx_machine.specs.Transfers.{AreTransfers, Transfer}

-- The transfers that come before the step, the interrupt lines from this step on, where they change, and the value that
-- the step asks for.
pub record Due : Type 0 where
  pub transfers : List Transfer
  pub lines : Option Lines
  pub value : Option ℕ

abbrev pub nothing_due : Due
nothing_due = record { transfers = []; lines = None; value = None }

-- what is left of it for the step itself once the transfers have come
abbrev pub behind_transfers : Due → Due
behind_transfers due = record due { transfers = [] }

-- lines that the hart has
abbrev pub AreLines : Lines → Type 0
AreLines lines = IsWithin LINE_INTERRUPTS lines.0

-- It fits RAM of so many pages: transfers inside it, lines that the hart has, a value of 32 bits.
pub record IsDue (pages : ℕ) (due : Due) : Type 0 where
  pub transfers : AreTransfers (size_of_pages pages) due.transfers
  pub lines : IfSome due.lines AreLines
  pub value : IfSome due.value (λ value. value < 2 ^ 32)

-- The lines stay where no others are due.
abbrev pub with_lines : Option Lines → State → State
with_lines lines s = record s { lines = unwrap_or lines s.lines }
