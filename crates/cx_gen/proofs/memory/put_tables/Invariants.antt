use Rattle.std.proofs.Common.{◌≡◌, length}
use Rattle.cx_map.specs.Map.{size_of_pages}
use Rattle.cx_gen.proofs.memory.put_tables.Given as goal

abbrev pub invariant-loop-process : goal.invariant-loop-process
invariant-loop-process l = record { size : length l.ram.memory ≡ size_of_pages 256 }
