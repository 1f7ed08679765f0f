-- What a live machine starts from.
use Rattle.std.specs.Prelude.{ℕ, ◌≤◌, Bool, List, length}
use Rattle.cx_block.specs.Block.{IsDisk}
use Rattle.cx_log.specs.Order.{IsVersion}
use Rattle.cx_machine.specs.Machine.{IsMemory}
use Rattle.cx_map.specs.Bytes.{AreBytes}
use Rattle.cx_map.specs.Map.{IsPageCount}
use Rattle.cx_live.specs.declared.limits.TheConstants.{MOST_CONSOLE}

-- The version of its format, which a recording of it has too; whether the hart carries out misaligned loads and stores;
-- the pages of RAM and its bytes; the bytes of the disk, and those that will come to the console.
pub record Image : Type 0 where
  pub version : ℕ
  pub split : Bool
  pub pages : ℕ
  pub memory : List ℕ
  pub disk : List ℕ
  pub console : List ℕ

-- The rules that an image keeps.
pub record IsImage (image : Image) : Type 0 where
  pub version : IsVersion image.version image.split
  pub pages : IsPageCount image.pages
  pub memory : IsMemory image.pages image.memory
  pub disk : IsDisk image.disk
  pub disk_bytes : AreBytes image.disk
  pub console : length image.console ≤ MOST_CONSOLE
  pub console_bytes : AreBytes image.console
