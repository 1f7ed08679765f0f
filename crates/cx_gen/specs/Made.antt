-- The image of a number.
use Rattle.std.specs.Prelude.{◌≡◌, ℕ, ◌+◌, ◌*◌, ◌%◌, false, List, map}
use Rattle.std.specs.List.{range_with_len}
use Rattle.cx_block.specs.declared.disk.TheConstants.{SECTOR_SIZE}
use Rattle.cx_live.specs.Image.{Image, IsImage}
use Rattle.cx_live.specs.Text.{image_text}

-- so many bytes, each by its index
unfoldable pub drawn : (ℕ → ℕ) → ℕ → List ℕ
drawn byte count = map byte (range_with_len 0 count)

-- byte i of the disk, and of what comes to the console, which are letters
abbrev pub disk_byte : ℕ → ℕ → ℕ
disk_byte n i = (i * 7 + n) % 256

abbrev pub letter : ℕ → ℕ → ℕ
letter n i = 97 + (i + n) % 26

-- 16 sectors, and 64 letters
abbrev pub disk_of : ℕ → List ℕ
disk_of n = drawn (disk_byte n) (16 * SECTOR_SIZE)

abbrev pub console_of : ℕ → List ℕ
console_of n = drawn (letter n) 64

-- An image of version 1.
abbrev pub plain_image : (pages : ℕ) (memory disk console : List ℕ) → Image
plain_image pages memory disk console =
    record {
      version = 1;
      split = false;
      pages = pages;
      memory = memory;
      disk = disk;
      console = console;
    }

-- The image of a number, whose RAM has 256 pages and begins with these bytes.
abbrev pub made_image : ℕ → List ℕ → Image
made_image n memory = plain_image 256 memory (disk_of n) (console_of n)

-- The bytes are the text of such an image, which keeps the rules.
pub record IsMade (n : ℕ) (bytes : List ℕ) : Type 0 where
  pub memory : List ℕ
  pub text : bytes ≡ image_text (made_image n memory)
  pub rules : IsImage (made_image n memory)
