use Rattle.std.proofs.Common.{◌≡◌, take, true}
use Rattle.cx_slices.specs.Bytes.{all_there}
use Rattle.cx_alone.proofs.handing.all_there.Given as goal

pub record Passing (l : goal.Live-loop-item) : Type 0 where
  pub all : all_there l.bytes (take l.item-index l.items) ≡ true

abbrev pub invariant-loop-item : goal.invariant-loop-item
invariant-loop-item l = Passing l
