use Rattle.std.proofs.Common.{◌∙◌, arith}
use Rattle.std.proofs.lemmas.Result.{err_from_is_err_and}
use Rattle.cx_codec.proofs.Following.{begins_on}
use Rattle.cx_replay.proofs.Giving.{gave_on}
use Rattle.cx_seek.proofs.opening.run_through.Goals as goal

pub returns-in_err-going-clause-ran : goal.returns-in_err-going-clause-ran
returns-in_err-going-clause-ran g c told input begins end o whole given base stands keeps =
    let before = c.loop-going.invariant in
    let p = err_from_is_err_and c.from_residual.result c.from_residual.ensures.1 in
    let here = (before.follows told).told in
    let earlier = begins_on (c.turn.ensures.follows here).grows begins in
    let shown = rw c.loop-going-test.true at (before.turned told input earlier end o whole given base stands keeps) in
    rw (p.1, p.2) (c.in_err-going.ensures.turned here input begins end o whole shown.0 base shown.1.0 shown.1.1)

pub loop-going-preserved : goal.loop-going-preserved
loop-going-preserved g c =
    let before = c.loop-going.invariant in
    let ok = c.in_ok-going.ensures in
    record {
      follows = λ told. gave_on (before.follows told) (ok.follows (before.follows told).told);
      turned = λ told input begins end o whole given base stands keeps.
          let here = (before.follows told).told in
          let earlier = begins_on (ok.follows here).grows begins in
          let shown = rw c.loop-going-test.true at (before.turned told input earlier end o whole given base stands keeps)
          in
          ok.turned here input begins end o whole shown.0 base shown.1.0 shown.1.1;
      spent = λ told. ok.spent (before.follows told).told;
      pages = ok.pages ∙ before.pages;
      kept = ok.kept;
      above = ok.above;
      live = ok.live;
      later = omega (arith, ok.cause.later, before.later);
      small = λ small. ok.cause.fits (before.small small);
    }

pub returns-clause-ran : goal.returns-clause-ran
returns-clause-ran g c told input begins end o whole given base stands keeps =
    rw c.loop-going-test.false at (c.loop-going.invariant.turned told input begins end o whole given base stands keeps)
