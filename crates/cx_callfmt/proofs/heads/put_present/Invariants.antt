use Rattle.std.proofs.Common.{Ok, take}
use Rattle.cx_slicefmt.specs.Text.{present_text}
use Rattle.cx_callfmt.proofs.heads.put_present.Given as goal

abbrev pub invariant-loop-word : goal.invariant-loop-word
invariant-loop-word g l = record {
  puts : g.O.Target.puts (present_text (take l.word-index l.words)) l.fn.out l.fn.to l.out l.to (Ok (tt {0}));
}
