use Rattle.std.proofs.Common.{arith, refl}
use Rattle.std.proofs.lemmas.Result.{err_from_is_err_and}
use Rattle.cx_codec.proofs.Putting.{puts_none}
use Rattle.cx_window.proofs.Kept.{pages_fail}
use Rattle.cx_tellers.proofs.front.put_pages.Goals as goal

pub loop-page-init : goal.loop-page-init
loop-page-init g c = record {
  puts = puts_none c.requires.live;
  header = refl;
  behind = refl;
  least = omega (arith, c.requires.first);
  left = omega (arith, c.requires.owed);
}

pub returns-in_err-put_page-clause-puts : goal.returns-in_err-put_page-clause-puts
returns-in_err-put_page-clause-puts g c =
    let p = err_from_is_err_and c.from_residual.result c.from_residual.ensures.1 in
    rw (p.1, p.2) (pages_fail c.args.ram.now.memory c.loop-page.page c.args.pages c.loop-page-test.true
    c.loop-page.invariant.puts c.in_err-put_page.ensures.puts)
