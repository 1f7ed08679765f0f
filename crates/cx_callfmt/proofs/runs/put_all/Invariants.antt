use Rattle.std.proofs.Common.{◌≡◌, ℕ, ◌-◌, List, ◌++◌, Ok, drop, length}
use Rattle.cx_slices.specs.Stretches.{stretches_of}
use Rattle.cx_slicefmt.specs.Text.{runs_text}
use Rattle.cx_callfmt.proofs.runs.put_all.Given as goal

-- what was put, and the runs to come
abbrev pub invariant-loop-at : goal.invariant-loop-at
invariant-loop-at g l = record {
  put : List ℕ;
  puts : g.O.Target.puts put l.fn.out l.fn.to l.out l.to (Ok (tt {0}));
  whole : put ++ runs_text (stretches_of (drop l.at l.bytes)) ≡ runs_text (stretches_of l.bytes);
}

abbrev pub decreases-loop-at : goal.decreases-loop-at
decreases-loop-at g l = length l.bytes - l.at
