-- What devices write to RAM before a step.
use Rattle.std.specs.Prelude.{ℕ, ◌+◌, ◌≤◌, List, [], ◌∷◌, length, All, Bool, ◌&&◌, nat_lt, if◌then◌else◌, Option, None}
use Rattle.std.specs.Prelude.{Some}
use Rattle.cx_csr.specs.declared.state.State.{State}
use Rattle.cx_map.specs.Bytes.{AreBytes}
use Rattle.cx_map.specs.Map.{IsInRam, ram_index}
use Rattle.cx_map.specs.declared.TheConstants.{PAGE_SIZE}
use Rattle.cx_ram.specs.LittleEndian.{written}
use Rattle.cx_machine.specs.Machine.{MachineState}

-- bytes that a device writes, and the place of the first of them
pub record Transfer : Type 0 where
  pub place : ℕ
  pub bytes : List ℕ

-- It is 1 to 4,096 bytes, and all of them go to RAM of so many bytes.
pub record IsTransfer (size : ℕ) (t : Transfer) : Type 0 where
  pub some : 1 ≤ length t.bytes
  pub most : length t.bytes ≤ PAGE_SIZE
  pub ram : IsInRam size t.place (length t.bytes)
  pub bytes : AreBytes t.bytes

abbrev pub AreTransfers : ℕ → List Transfer → Type 0
AreTransfers size transfers = All (IsTransfer size) transfers

-- the bytes from a place on and those of the reserved word have one in common
abbrev pub overlaps : ℕ → ℕ → ℕ → Bool
overlaps place len word = nat_lt place (word + 4) && nat_lt word (place + len)

-- A write by a device to the bytes reserved drops the reservation (Unprivileged ISA, 8.2).
abbrev pub reservation_left : ℕ → ℕ → Option ℕ → Option ℕ
reservation_left place len None = None
reservation_left place len (Some word) = if overlaps place len word then None else Some word

abbrev pub state_after_transfer : Transfer → State → State
state_after_transfer t s = record s { reservation = reservation_left t.place (length t.bytes) s.reservation }

abbrev pub memory_after_transfer : Transfer → List ℕ → List ℕ
memory_after_transfer t memory = written memory (ram_index t.place) t.bytes

abbrev pub after_transfer : Transfer → MachineState → MachineState
after_transfer t m = record { state = state_after_transfer t m.state; memory = memory_after_transfer t m.memory }

-- the machine after the transfers, in order
abbrev pub after_transfers : List Transfer → MachineState → MachineState
after_transfers [] m = m
after_transfers (t ∷ transfers) m = after_transfers transfers (after_transfer t m)
