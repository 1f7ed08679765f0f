use Rattle.std.proofs.Common.{◌≡◌}
use Rattle.cx_gen.specs.Made.{disk_byte, drawn}
use Rattle.cx_gen.proofs.content.disk.Given as goal

abbrev pub invariant-loop-index : goal.invariant-loop-index
invariant-loop-index l = record {
  made : l.disk.items ≡ drawn (disk_byte l.n) l.index;
}
