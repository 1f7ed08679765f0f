-- What each word of a state may be. A word obeys its rule where a write to its register could have left it there
-- (Privileged 1.12: the fields of each register, with the bits that this hart hasn't always 0).
use Rattle.std.specs.Prelude.{◌≡◌, ◌≢◌, ℕ, zero, suc, Bool, not, nat_lt, nat_le, ◌==◌, ◌&&◌, ◌+◌, ◌-◌, ◌%◌, ◌^◌, ◌<◌}
use Rattle.std.specs.Prelude.{◌≤◌, List, [], ◌∷◌, ◌++◌, replicate, slice_index, slice_index_or}
use Rattle.std.specs.Int.RustNames.{bit_and}
use Rattle.cx_csr.specs.declared.rules.Rule.{Rule}
use Rattle.cx_csr.specs.declared.rules.Rule.TheVariants.{Any, Aligned, Within, Mode, Status, Flag, Place}
use Rattle.cx_csr.specs.declared.causes.TheConstants.{DELEGABLE_EXCEPTIONS}
use Rattle.cx_csr.specs.declared.fields.TheConstants.{TVEC_FIELDS, COUNTEREN_FIELDS}
use Rattle.cx_csr.specs.declared.interrupts.TheConstants.{SUPERVISOR_INTERRUPTS, ALL_INTERRUPTS, LINE_INTERRUPTS}
use Rattle.cx_csr.specs.declared.modes.TheConstants.{RESERVED_MODE, MACHINE}
use Rattle.cx_csr.specs.declared.status.TheConstants.{MPP_FIELD, MPP_RESERVED, MSTATUS_FIELDS}
use Rattle.cx_map.specs.Map.{IsInRam, size_of_pages}
use Rattle.cx_map.specs.declared.TheConstants.{RAM_START}

-- an address of an instruction, or a place of a word
pub record IsAligned (word : ℕ) : Type 0 where
  pub wide : word < 2 ^ 32
  pub multiple : word % 4 ≡ 0

-- no bit outside the mask
abbrev pub IsWithin : ℕ → ℕ → Type 0
IsWithin mask word = bit_and word mask ≡ word

-- the modes of section 1.2: 0 user, 1 supervisor, 3 machine, while 2 is reserved
pub record IsMode (mode : ℕ) : Type 0 where
  pub most : mode ≤ MACHINE
  pub served : mode ≢ RESERVED_MODE

-- a value of mstatus: its fields (section 3.1.6), with a mode in MPP
pub record IsStatus (word : ℕ) : Type 0 where
  pub within : IsWithin MSTATUS_FIELDS word
  pub previous : bit_and word MPP_FIELD ≢ MPP_RESERVED

-- the place of a word in RAM of so many pages, aligned as a reservation is (Unprivileged 8.2)
pub record IsPlace (pages place : ℕ) : Type 0 where
  pub inside : IsInRam (size_of_pages pages) place 4
  pub multiple : place % 4 ≡ 0

-- The word of a reservation behind its flag: 0 where none stands.
abbrev pub IsPlaceBehind : ℕ → ℕ → ℕ → Type 0
IsPlaceBehind pages zero word = word ≡ 0
IsPlaceBehind pages (suc flag) word = IsPlace pages word

-- The word obeys the rule, for RAM of so many pages and with the word that stands before it.
abbrev pub Admits : ℕ → ℕ → Rule → ℕ → Type 0
Admits pages before Any word = word < 2 ^ 32
Admits pages before Aligned word = IsAligned word
Admits pages before (Within mask) word = IsWithin mask word
Admits pages before Mode word = IsMode word
Admits pages before Status word = IsStatus word
Admits pages before Flag word = word ≤ 1
Admits pages before Place word = IsPlaceBehind pages before word

-- Bytes lie in RAM of so many bytes, as a test.
abbrev pub is_in_ram : ℕ → ℕ → ℕ → Bool
is_in_ram size place len = nat_le RAM_START place && nat_le (place + len) (RAM_START + size)

-- the rules as tests
abbrev pub is_place : ℕ → ℕ → Bool
is_place pages place = is_in_ram (size_of_pages pages) place 4 && (place % 4 == 0)

abbrev pub is_place_behind : ℕ → ℕ → ℕ → Bool
is_place_behind pages zero word = word == 0
is_place_behind pages (suc flag) word = is_place pages word

abbrev pub admits : ℕ → ℕ → Rule → ℕ → Bool
admits pages before Any word = nat_lt word (2 ^ 32)
admits pages before Aligned word = nat_lt word (2 ^ 32) && (word % 4 == 0)
admits pages before (Within mask) word = bit_and word mask == word
admits pages before Mode word = nat_le word MACHINE && not (word == RESERVED_MODE)
admits pages before Status word = (bit_and word MSTATUS_FIELDS == word) && not (bit_and word MPP_FIELD == MPP_RESERVED)
admits pages before Flag word = nat_le word 1
admits pages before Place word = is_place_behind pages before word

-- The rules of the 58 words: pc and x1 to x31; the mode, mstatus, medeleg, mideleg, mie and the software bits of mip;
-- mtvec, mcounteren, mscratch, mepc, mcause, mtval; stvec, scounteren, sscratch, sepc, scause, stval; satp and the
-- halves of mcycle and minstret; the reservation's flag and place, and the lines.
abbrev pub rules : List Rule
rules =
    (Aligned ∷ replicate 31 Any)
    ++ (Mode ∷ Status ∷ Within DELEGABLE_EXCEPTIONS ∷ Within SUPERVISOR_INTERRUPTS ∷ [])
    ++ (Within ALL_INTERRUPTS ∷ Within SUPERVISOR_INTERRUPTS ∷ [])
    ++ (Within TVEC_FIELDS ∷ Within COUNTEREN_FIELDS ∷ Any ∷ Aligned ∷ Any ∷ Any ∷ [])
    ++ (Within TVEC_FIELDS ∷ Within COUNTEREN_FIELDS ∷ Any ∷ Aligned ∷ Any ∷ Any ∷ [])
    ++ replicate 5 Any
    ++ (Flag ∷ Place ∷ Within LINE_INTERRUPTS ∷ [])

abbrev pub rule_at : ℕ → Rule
rule_at i = slice_index_or rules i Any

-- word i of a list obeys its rule
abbrev pub FitsAt : ℕ → List ℕ → ℕ → Type 0
FitsAt pages words i = Admits pages (slice_index words (i - 1)) (rule_at i) (slice_index words i)

abbrev pub AllFit : ℕ → List ℕ → Type 0
AllFit pages words = (i : ℕ) → i < 58 → FitsAt pages words i

-- word i is the first that breaks its rule
pub record IsFirstBad (pages : ℕ) (words : List ℕ) (i : ℕ) : Type 0 where
  pub place : i < 58
  pub bad : ¬ FitsAt pages words i
  pub first : (k : ℕ) → k < i → FitsAt pages words k
