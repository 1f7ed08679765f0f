use Rattle.std.proofs.Common.{◌≡◌}
use Rattle.cx_gen.specs.Made.{letter, drawn}
use Rattle.cx_gen.proofs.content.console.Given as goal

abbrev pub invariant-loop-index : goal.invariant-loop-index
invariant-loop-index l = record {
  made : l.console.items ≡ drawn (letter l.n) l.index;
}
