-- What always holds of a live machine with RAM of so many pages.
use Rattle.std.specs.Prelude.{◌≡◌, ℕ, ◌^◌, ◌<◌, true}
use Rattle.cx_block.specs.Block.{BlockDevice, fits}
use Rattle.cx_block.specs.Sound.{IsBlock}
use Rattle.cx_block.specs.declared.states.TheConstants.{BUSY}
use Rattle.cx_devices.specs.Devices.{IsSound}
use Rattle.cx_machine.specs.Machine.{IsMachine}
use Rattle.cx_map.specs.Bytes.{AreBytes}
use Rattle.cx_live.specs.Live.{Live}

-- The words of the block device are words, its disk is one, and what it is busy with can be done.
pub record KeepsBlock (pages : ℕ) (b : BlockDevice) : Type 0 where
  pub sound : IsBlock b
  pub sector : b.sector < 2 ^ 32
  pub address : b.address < 2 ^ 32
  pub count : b.count < 2 ^ 32
  pub command : b.command < 2 ^ 32
  pub disk : AreBytes b.disk
  pub fits : b.state ≡ BUSY → fits pages b.command b ≡ true

pub record KeepsLive (pages : ℕ) (l : Live) : Type 0 where
  pub machine : IsMachine pages l.machine
  pub devices : IsSound l.devices
  pub block : KeepsBlock pages l.block
  pub console : AreBytes l.console
