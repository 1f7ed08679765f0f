use Rattle.std.proofs.Common.{◌≡◌, take}
use Rattle.cx_seek.proofs.handed.copy_moves.Given as goal

abbrev pub invariant-loop-index : goal.invariant-loop-index
invariant-loop-index l = record { copied : l.moves.items ≡ take l.index l.due.transfers }
