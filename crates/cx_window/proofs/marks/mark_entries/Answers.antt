use Rattle.std.proofs.Common.{arith}
use Rattle.cx_window.proofs.Marking.{entry_marked}
use Rattle.cx_window.proofs.marks.mark_entries.Goals as goal

pub loop-n-preserved : goal.loop-n-preserved
loop-n-preserved c =
    entry_marked c.args.marks.now c.loop-n.marks c.mark_bytes.new.marks c.args.places.now c.loop-n.n
    (omega (arith, c.loop-n-test.true)) (record {
      size = c.loop-n.invariant.size;
      pages =
          c.loop-n.invariant.pages;
    }) (record { size = c.mark_bytes.ensures.size; pages = c.mark_bytes.ensures.pages })
