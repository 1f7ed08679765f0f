use Rattle.std.proofs.Common.{sym, ◌∙◌, arith}
use Rattle.cx_shadow.specs.Cells.{bytes_of_page}
use Rattle.cx_shadow.proofs.Runs.{one_missing_at, one_more_at}
use Rattle.cx_shadow.proofs.page.Page.has.Goals as goal

pub returns-then-not-is_at : goal.returns-then-not-is_at
returns-then-not-is_at c = sym (one_missing_at (bytes_of_page c.args.self.now) c.args.offset c.loop-byte.byte-index
    c.loop-byte.at c.args.bytes.now c.loop-byte-test.true c.loop-byte.invariant.at
    (sym c.is_at.ensures ∙ c.if-not-is_at.true))

pub loop-byte-preserved : goal.loop-byte-preserved
loop-byte-preserved c = record {
  had = one_more_at (bytes_of_page c.args.self.now) c.args.offset c.loop-byte.byte-index c.loop-byte.at
      c.args.bytes.now c.loop-byte-test.true c.loop-byte.invariant.at c.loop-byte.invariant.had
      (sym c.is_at.ensures ∙ c.if-not-is_at.false);
  at = omega (arith, c.loop-byte.invariant.at);
  within = c.loop-byte.invariant.within;
}
