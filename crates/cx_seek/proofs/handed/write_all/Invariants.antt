use Rattle.std.proofs.Common.{◌≡◌, length, take}
use Rattle.cx_hart.specs.Whole.{machine_of}
use Rattle.cx_machine.specs.Transfers.{after_transfers}
use Rattle.cx_seek.proofs.handed.write_all.Given as goal

abbrev pub invariant-loop-index : goal.invariant-loop-index
invariant-loop-index l = record {
  machine : machine_of l.machine ≡ after_transfers (take l.index l.moves) (machine_of l.fn.machine);
  size : length l.machine.memory ≡ length l.fn.machine.memory;
  split : l.machine.split ≡ l.fn.machine.split;
  saved : l.machine.saved ≡ l.fn.machine.saved;
}
