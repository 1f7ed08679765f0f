-- The spelling of an image.
use Rattle.std.specs.Prelude.{ℕ, ◌/◌, ◌==◌, Bool, List, [], ◌∷◌, ◌++◌, length, if◌then◌else◌, codes}
use Rattle.cx_block.specs.declared.disk.TheConstants.{SECTOR_SIZE}
use Rattle.cx_codec.specs.Varint.{varint}
use Rattle.cx_log.specs.Text.{page_count, pages_text}
use Rattle.cx_live.specs.Image.{Image}

-- the four bytes that an image begins with, by its version
abbrev pub image_magic : ℕ → List ℕ
image_magic version = if version == 1 then codes "CXI1" else codes "CXI2"

-- Version 1 has no flag of the hart.
abbrev pub flag_text : ℕ → Bool → List ℕ
flag_text version split = if version == 1 then [] else (if split then 1 else 0) ∷ []

-- the pages of RAM that aren't all zero, behind their number
abbrev pub memory_text : ℕ → List ℕ → List ℕ
memory_text pages memory = varint (page_count memory pages) ++ pages_text memory pages

-- bytes in pieces of some size, behind the number of pieces
abbrev pub pieces_text : ℕ → List ℕ → List ℕ
pieces_text size bytes = varint (length bytes / size) ++ bytes

unfoldable pub image_text : Image → List ℕ
image_text image =
    image_magic image.version
    ++ (flag_text image.version image.split
    ++ (varint image.pages
    ++ (memory_text image.pages image.memory
    ++ (pieces_text SECTOR_SIZE image.disk
    ++ pieces_text 1 image.console))))
