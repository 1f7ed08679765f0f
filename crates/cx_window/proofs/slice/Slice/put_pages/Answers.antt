use Rattle.std.proofs.Common.{ap, arith, refl}
use Rattle.std.proofs.lemmas.Result.{err_from_is_err_and}
use Rattle.cx_codec.proofs.Putting.{puts_none}
use Rattle.cx_window.specs.Slice.{Sliced, written_of}
use Rattle.cx_window.proofs.Kept.{pages_fail}
use Rattle.cx_window.proofs.slice.Slice.put_pages.Goals as goal

pub loop-page-init : goal.loop-page-init
loop-page-init g c = record {
  puts = puts_none c.requires.live;
  header = refl;
  behind = refl;
  least =
      omega (arith, c.requires.first);
  left = omega (arith, c.requires.owed);
}

pub returns-in_err-put_page-clause-puts : goal.returns-in_err-put_page-clause-puts
returns-in_err-put_page-clause-puts g c =
    let p = err_from_is_err_and c.from_residual.result c.from_residual.ensures.1 in
    rw (p.1, p.2) (pages_fail (written_of c.args.self.now).memory c.loop-page.page c.args.self.now.header.pages
    (omega (arith, c.loop-page-test.true, ap (λ (s : Sliced). s.header.pages) c.self.view_is))
    c.loop-page.invariant.puts c.in_err-put_page.ensures.puts)
