-- What an image keeps in memory: a machine that no step was taken of, a disk, and bytes for the console.
use Rattle.std.specs.Prelude.{◌≡◌, ℕ, ◌≤◌, Bool, List, length}
use Rattle.cx_block.specs.Block.{IsDisk}
use Rattle.cx_hart.specs.Whole.{Whole}
use Rattle.cx_log.specs.Order.{IsVersion}
use Rattle.cx_live.specs.Run.{reset_state}
use Rattle.cx_live.specs.declared.limits.TheConstants.{MOST_CONSOLE}

pub record IsBlank (version : ℕ) (split : Bool) (disk console : List ℕ) (machine : Whole) : Type 0 where
  pub state : machine.state ≡ reset_state
  pub split_is : machine.split ≡ split
  pub version_is : IsVersion version split
  pub disk_is : IsDisk disk
  pub console_is : length console ≤ MOST_CONSOLE
