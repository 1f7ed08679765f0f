-- What always holds of a live machine in memory.
use Rattle.std.specs.Prelude.{◌≡◌, ℕ, ◌≤◌, List, length}
use Rattle.cx_block.specs.Block.{BlockDevice}
use Rattle.cx_hart.specs.Whole.{Whole}
use Rattle.cx_map.specs.declared.TheConstants.{PAGE_SIZE}
use Rattle.cx_live.specs.Inside.{IsBusyInside}

pub record IsSound (machine : Whole) (block : BlockDevice) (console : List ℕ) (arrived : ℕ) (buffer : List ℕ)
    (moved : ℕ) : Type 0 where
  pub inside : IsBusyInside (length machine.memory) block
  pub arrived_is : arrived ≤ length console
  pub buffer_is : length buffer ≡ PAGE_SIZE
  pub moved_is : moved ≤ length buffer
