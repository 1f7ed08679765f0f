-- Where the bytes of RAM lie that a block device is busy with.
use Rattle.std.specs.Prelude.{◌≡◌, ℕ}
use Rattle.cx_block.specs.Block.{BlockDevice, size_of}
use Rattle.cx_block.specs.declared.states.TheConstants.{BUSY}
use Rattle.cx_map.specs.Map.{IsInRam}

-- They are inside RAM of so many bytes.
abbrev pub IsBusyInside : ℕ → BlockDevice → Type 0
IsBusyInside size b = b.state ≡ BUSY → IsInRam size b.address (size_of b)
