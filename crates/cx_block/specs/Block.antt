-- The block device, with the disk that it has.
use Rattle.std.specs.Prelude.{◌≡◌, ℕ, ◌+◌, ◌*◌, ◌%◌, ◌≤◌, ◌==◌, ◌||◌, ◌&&◌, Bool, true, false, nat_le, if◌then◌else◌}
use Rattle.std.specs.Prelude.{List, length, take, drop, Option, None, Some}
use Rattle.cx_block.specs.declared.disk.TheConstants.{MOST_AT_ONCE, MOST_SECTORS, SECTOR_SIZE}
use Rattle.cx_block.specs.declared.states.TheConstants.{BUSY, DONE, FROM_RAM, IDLE, REFUSED, TO_RAM}
use Rattle.cx_csr.specs.Rules.{is_in_ram}
use Rattle.cx_map.specs.Map.{size_of_pages}
use Rattle.cx_ram.specs.LittleEndian.{written}
use Rattle.cx_walk.specs.declared.device.DeviceWord.{DeviceWord}
use Rattle.cx_walk.specs.declared.device.DeviceWord.TheVariants.{BlockSector, BlockAddress, BlockCount, BlockCommand}
use Rattle.cx_walk.specs.declared.device.DeviceWord.TheVariants.{BlockState}

-- its five words, and the bytes of the disk
pub record BlockDevice : Type 0 where
  pub sector : ℕ
  pub address : ℕ
  pub count : ℕ
  pub command : ℕ
  pub state : ℕ
  pub disk : List ℕ

-- a disk: whole sectors, not too many
pub record IsDisk (disk : List ℕ) : Type 0 where
  pub whole : length disk % SECTOR_SIZE ≡ 0
  pub most : length disk ≤ MOST_SECTORS * SECTOR_SIZE

abbrev pub block_at_reset : List ℕ → BlockDevice
block_at_reset disk =
    record { sector = 0; address = 0; count = 0; command = 0; state = IDLE; disk = disk }

abbrev pub is_busy : BlockDevice → Bool
is_busy b = b.state == BUSY

-- how many bytes a command moves
abbrev pub size_of : BlockDevice → ℕ
size_of b = SECTOR_SIZE * b.count

-- A command that can be done, on RAM of so many pages: it is one of the two, for 1 to 8 sectors of the disk, and as many
-- bytes of RAM from a multiple of a sector's size on.
unfoldable pub fits : ℕ → ℕ → BlockDevice → Bool
fits pages command b =
    ((command == TO_RAM) || (command == FROM_RAM))
    && (nat_le 1 b.count && nat_le b.count MOST_AT_ONCE)
    && nat_le (SECTOR_SIZE * (b.sector + b.count)) (length b.disk)
    && (b.address % SECTOR_SIZE == 0)
    && is_in_ram (size_of_pages pages) b.address (size_of b)

-- The bytes of the command's sectors, and the disk with these in their place.
abbrev pub sectors_of : BlockDevice → List ℕ
sectors_of b = take (size_of b) (drop (SECTOR_SIZE * b.sector) b.disk)

abbrev pub with_sectors : List ℕ → BlockDevice → BlockDevice
with_sectors bytes b = record b { disk = written b.disk (SECTOR_SIZE * b.sector) bytes }

-- The words of the block device, among those of all devices.
abbrev pub is_own : DeviceWord → Bool
is_own BlockSector = true
is_own BlockAddress = true
is_own BlockCount = true
is_own BlockCommand = true
is_own BlockState = true
is_own _ = false

-- what a load of a word gives; the words of other devices read 0
abbrev pub word_load : DeviceWord → BlockDevice → ℕ
word_load BlockSector b = b.sector
word_load BlockAddress b = b.address
word_load BlockCount b = b.count
word_load BlockCommand b = b.command
word_load BlockState b = b.state
word_load _ b = 0

-- A busy device takes no store.
abbrev pub unless_busy : BlockDevice → BlockDevice → BlockDevice
unless_busy b now = if is_busy b then b else now

-- A command is kept also where it is refused.
abbrev pub with_command : ℕ → ℕ → BlockDevice → BlockDevice
with_command pages v b = record b { command = v; state = if fits pages v b then BUSY else REFUSED }

-- what a store of a value to a word leaves, with RAM of so many pages
abbrev pub after_store : DeviceWord → ℕ → ℕ → BlockDevice → BlockDevice
after_store BlockSector pages v b = unless_busy b (record b { sector = v })
after_store BlockAddress pages v b = unless_busy b (record b { address = v })
after_store BlockCount pages v b = unless_busy b (record b { count = v })
after_store BlockCommand pages v b = unless_busy b (with_command pages v b)
after_store BlockState pages v b = unless_busy b (record b { state = IDLE })
after_store _ pages v b = b

-- the same at a place where a word may stand
abbrev pub is_own_at : Option DeviceWord → Bool
is_own_at None = false
is_own_at (Some word) = is_own word

abbrev pub word_load_at : Option DeviceWord → BlockDevice → ℕ
word_load_at None b = 0
word_load_at (Some word) b = word_load word b

abbrev pub after_store_at : Option DeviceWord → ℕ → ℕ → BlockDevice → BlockDevice
after_store_at None pages v b = b
after_store_at (Some word) pages v b = after_store word pages v b

-- A command that is done leaves the rest as it was.
abbrev pub done : BlockDevice → BlockDevice
done b = record b { state = DONE }
