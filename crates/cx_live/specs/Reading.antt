-- How an image is read.
use Rattle.std.specs.Prelude.{ℕ, ◌*◌, ◌==◌, Bool, false, List, if◌then◌else◌, replicate, Result, Ok, Err}
use Rattle.std.specs.Str.{bytes_eq}
use Rattle.cx_block.specs.declared.disk.TheConstants.{MOST_SECTORS, SECTOR_SIZE}
use Rattle.cx_codec.specs.Fields.{bytes_at}
use Rattle.cx_codec.specs.Place.{Place, Reader, ◌>>=◌, bad, done, here}
use Rattle.cx_log.specs.Fields.{varint_between}
use Rattle.cx_log.specs.Reading.{flag_at, pages_at, start_of}
use Rattle.cx_codec.specs.Checks.{close_at}
use Rattle.cx_map.specs.Map.{size_of_pages}
use Rattle.cx_map.specs.declared.TheConstants.{MOST_PAGES}
use Rattle.cx_live.specs.Image.{Image}
use Rattle.cx_live.specs.Text.{image_magic}
use Rattle.cx_live.specs.declared.limits.TheConstants.{MOST_CONSOLE}

-- the version that the magic tells, which is one field
abbrev pub version_by : ℕ → List ℕ → Reader ℕ
version_by start bytes =
    if bytes_eq bytes (image_magic 1) then done 1 else
    if bytes_eq bytes (image_magic 2) then done 2 else bad start

unfoldable pub version_at : Reader ℕ
version_at = do
  start ← here
  bytes ← bytes_at 4
  version_by start bytes

-- the flag of the hart, which version 1 hasn't
unfoldable pub given_flag_at : Reader Bool
given_flag_at = do
  flag ← flag_at
  done (flag == 1)

abbrev pub split_at : ℕ → Reader Bool
split_at version = if version == 1 then done false else given_flag_at

-- the pages of RAM that aren't all zero
unfoldable pub ram_at : ℕ → Reader (List ℕ)
ram_at pages = do
  count ← varint_between 0 pages
  pages_at pages count 0 (replicate (size_of_pages pages) 0)

-- pieces of some size, behind their number
unfoldable pub pieces_at : ℕ → ℕ → Reader (List ℕ)
pieces_at most size = do
  count ← varint_between 0 most
  bytes_at (count * size)

unfoldable pub image_at : Reader Image
image_at = do
  version ← version_at
  split ← split_at version
  pages ← varint_between 1 MOST_PAGES
  memory ← ram_at pages
  disk ← pieces_at MOST_SECTORS SECTOR_SIZE
  console ← pieces_at MOST_CONSOLE 1
  done (record {
    version = version;
    split = split;
    pages = pages;
    memory = memory;
    disk = disk;
    console = console;
  })

-- an image, and nothing behind it
unfoldable pub whole_image_at : Reader Image
whole_image_at = do
  image ← image_at
  end ← close_at
  done image

-- the image that an input is, or its first bad field
abbrev pub image_or_bad : Result (Image × Place) ℕ → Result Image ℕ
image_or_bad (Ok read) = Ok read.0
image_or_bad (Err o) = Err o

abbrev pub image_of : List ℕ → Result Image ℕ
image_of input = image_or_bad (whole_image_at (start_of input))
