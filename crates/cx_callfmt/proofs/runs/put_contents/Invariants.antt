use Rattle.std.proofs.Common.{Ok, take, map}
use Rattle.cx_callfmt.proofs.runs.put_contents.Given as goal

abbrev pub invariant-loop-byte : goal.invariant-loop-byte
invariant-loop-byte g l = record {
  puts : g.O.Target.puts (map (λ e. e.1) (take l.byte-index l.bytes)) l.fn.out l.fn.to l.out l.to (Ok (tt {0}));
}
