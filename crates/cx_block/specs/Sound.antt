-- What always holds of a block device.
use Rattle.std.specs.Prelude.{◌≡◌, ℕ, ◌+◌, ◌*◌, ◌≤◌, length}
use Rattle.cx_block.specs.Block.{BlockDevice, IsDisk}
use Rattle.cx_block.specs.declared.disk.TheConstants.{MOST_AT_ONCE, SECTOR_SIZE}
use Rattle.cx_block.specs.declared.states.TheConstants.{BUSY, REFUSED}

-- The sectors of a command that can be done: one to eight, all on the disk.
pub record IsReady (sector count size : ℕ) : Type 0 where
  pub some : 1 ≤ count
  pub most : count ≤ MOST_AT_ONCE
  pub there : SECTOR_SIZE * (sector + count) ≤ size

-- Its disk is one, its state is one of the four, and what it is busy with can be done.
pub record IsBlock (b : BlockDevice) : Type 0 where
  pub disk : IsDisk b.disk
  pub state : b.state ≤ REFUSED
  pub ready : b.state ≡ BUSY → IsReady b.sector b.count (length b.disk)
