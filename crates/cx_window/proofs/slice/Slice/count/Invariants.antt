use Rattle.std.proofs.Common.{◌≡◌, ◌≤◌}
use Rattle.cx_log.specs.Text.{page_count}
use Rattle.cx_window.specs.Slice.{written_of}
use Rattle.cx_window.proofs.slice.Slice.count.Given as goal

abbrev pub invariant-loop-page : goal.invariant-loop-page
invariant-loop-page l = record {
  count : l.count ≡ page_count (written_of l.self).memory l.page;
  within : l.count ≤ l.page;
}
