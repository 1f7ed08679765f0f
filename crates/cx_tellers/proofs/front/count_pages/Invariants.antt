use Rattle.std.proofs.Common.{◌≡◌, ◌≤◌}
use Rattle.cx_log.specs.Text.{page_count}
use Rattle.cx_tellers.proofs.front.count_pages.Given as goal

abbrev pub invariant-loop-page : goal.invariant-loop-page
invariant-loop-page l = record {
  count : l.count ≡ page_count l.ram.memory l.page;
  within : l.count ≤ l.page;
}
