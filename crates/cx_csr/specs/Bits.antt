-- Bits of a word, and of mstatus.
use Rattle.std.specs.Prelude.{ℕ, ◌-◌, ◌/◌, ◌%◌, ◌^◌, Bool, ◌==◌}
use Rattle.std.specs.Int.{bit_at}
use Rattle.std.specs.Int.RustNames.{bit_and, bit_or}
use Rattle.cx_csr.specs.declared.status.TheConstants.{MPP}

-- bit k of the word is 1
abbrev pub is_set : ℕ → ℕ → Bool
is_set word k = bit_at word k == 1

-- MPP of mstatus, the mode before the last trap to machine mode (section 3.1.6.1)
abbrev pub previous_of_machine : ℕ → ℕ
previous_of_machine status = status / 2 ^ MPP % 4

-- the word with its bits under the mask taken from the value
abbrev pub with_bits : ℕ → ℕ → ℕ → ℕ
with_bits mask value word = bit_or (bit_and word (2 ^ 32 - 1 - mask)) (bit_and value mask)
