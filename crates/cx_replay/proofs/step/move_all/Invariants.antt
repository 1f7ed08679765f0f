use Rattle.std.proofs.Common.{◌≡◌, length, take}
use Rattle.cx_hart.specs.Whole.{machine_of}
use Rattle.cx_machine.specs.Transfers.{after_transfers}
use Rattle.cx_replay.proofs.step.move_all.Given as goal

abbrev pub invariant-loop-n : goal.invariant-loop-n
invariant-loop-n l = record {
  machine : machine_of l.machine ≡ after_transfers (take l.n l.moves) (machine_of l.fn.machine);
  size : length l.machine.memory ≡ length l.fn.machine.memory;
  split : l.machine.split ≡ l.fn.machine.split;
  saved : l.machine.saved ≡ l.fn.machine.saved;
}
