use Rattle.std.proofs.Common.{arith}
use Rattle.cx_live.proofs.LiveRuns.{reset_keeps}
use Rattle.cx_record.proofs.front.header.Goals as goal

pub returns-clause-rules : goal.returns-clause-rules
returns-clause-rules c = record {
  version = rw (c.version.ensures, c.split.ensures) c.requires.version;
  pages = rw c.pages.ensures c.requires.pages;
  base = omega arith;
  start = rw c.start.ensures (reset_keeps c.pages.result);
  count = omega (arith, c.count_pages.ensures.within, c.pages.ensures);
}
