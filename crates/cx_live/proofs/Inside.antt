-- A command that the block device has taken is about bytes inside RAM.
use Rattle.std.proofs.Common.{◌≡◌, ℕ, Bool, true, false, cond, refl, Option, None, Some, arith}
use Rattle.std.proofs.lemmas.Bool.Decides.{nat_tests}
use Rattle.cx_block.specs.Block.{BlockDevice, after_store, after_store_at, fits, is_busy, size_of, unless_busy, with_command}
use Rattle.cx_block.specs.declared.states.TheConstants.{BUSY}
use Rattle.cx_map.specs.Map.{IsInRam, size_of_pages}
use Rattle.cx_walk.specs.declared.device.DeviceWord.{DeviceWord}
use Rattle.cx_walk.specs.declared.device.DeviceWord.TheVariants as word
use Rattle.cx_live.specs.Inside.{IsBusyInside}

-- A command that fits is about such bytes.
pub fits_inside : (pages command : ℕ) (b : BlockDevice) → fits pages command b ≡ true
    → IsInRam (size_of_pages pages) b.address (size_of b)
unfolding fits
fits_inside pages command b good = record { low = grind (arith, nat_tests); high = grind (arith, nat_tests) }

-- by whether it fits
by_fit : (pages v : ℕ) (b : BlockDevice) (good : Bool) → fits pages v b ≡ good
    → IsBusyInside (size_of_pages pages) (record b { command = v; state = cond good BUSY 3 })
by_fit pages v b true is = λ busy. fits_inside pages v b is
by_fit pages v b false is = λ busy. absurd (omega (arith, busy))

begun : (pages v : ℕ) (b : BlockDevice) → IsBusyInside (size_of_pages pages) (with_command pages v b)
begun pages v b = by_fit pages v b (fits pages v b) refl

-- what isn't busy is about nothing
idle : (size : ℕ) (b now : BlockDevice) → (is_busy b ≡ false → IsBusyInside size now) → IsBusyInside size b
    → IsBusyInside size (unless_busy b now)
idle size b now then inside = among (is_busy b) refl
  where
    among : (busy : Bool) → is_busy b ≡ busy → IsBusyInside size (cond busy b now)
    among true is = inside
    among false is = then is

waits : (b : BlockDevice) → is_busy b ≡ false → b.state ≡ BUSY → ⊥
waits b idle busy = grind (arith, nat_tests)

word_keeps : (word : DeviceWord) (pages v : ℕ) (b : BlockDevice) → IsBusyInside (size_of_pages pages) b
    → IsBusyInside (size_of_pages pages) (after_store word pages v b)
word_keeps word.Power pages v b inside = inside
word_keeps word.SoftwareInterrupt pages v b inside = inside
word_keeps word.TimeCompareLow pages v b inside = inside
word_keeps word.TimeCompareHigh pages v b inside = inside
word_keeps word.TimeLow pages v b inside = inside
word_keeps word.TimeHigh pages v b inside = inside
word_keeps word.MachineInterruptMask pages v b inside = inside
word_keeps word.SupervisorInterruptMask pages v b inside = inside
word_keeps word.InterruptPending pages v b inside = inside
word_keeps word.ConsoleData pages v b inside = inside
word_keeps word.ConsoleState pages v b inside = inside
word_keeps word.BlockSector pages v b inside =
    idle _ b (record b { sector = v }) (λ free busy. absurd (waits b free busy)) inside
word_keeps word.BlockAddress pages v b inside =
    idle _ b (record b { address = v }) (λ free busy. absurd (waits b free busy)) inside
word_keeps word.BlockCount pages v b inside =
    idle _ b (record b { count = v }) (λ free busy. absurd (waits b free busy)) inside
word_keeps word.BlockCommand pages v b inside = idle _ b (with_command pages v b) (λ free. begun pages v b) inside
word_keeps word.BlockState pages v b inside =
    idle _ b (record b { state = 0 }) (λ free busy. absurd (omega (arith, busy))) inside

pub store_keeps : (at : Option DeviceWord) (pages v : ℕ) (b : BlockDevice) → IsBusyInside (size_of_pages pages) b
    → IsBusyInside (size_of_pages pages) (after_store_at at pages v b)
store_keeps None pages v b inside = inside
store_keeps (Some word) pages v b inside = word_keeps word pages v b inside
