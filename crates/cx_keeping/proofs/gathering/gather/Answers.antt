use Rattle.std.proofs.Common.{◌∙◌, arith}
use Rattle.std.proofs.lemmas.Result.{err_from_is_err_and}
use Rattle.cx_codec.proofs.Following.{begins_on}
use Rattle.cx_replay.proofs.Giving.{gave_on}
use Rattle.cx_keeping.proofs.gathering.gather.Goals as goal

pub returns-in_err-found-clause-gathers : goal.returns-in_err-found-clause-gathers
returns-in_err-found-clause-gathers g c told input begins end from last o whole order goes =
    let before = c.loop-found.invariant in
    let p = err_from_is_err_and c.from_residual.result c.from_residual.ensures.1 in
    let here = (before.follows told).told in
    let earlier = begins_on (c.turn.ensures.follows here).grows begins in
    rw (p.1, p.2) (c.in_err-found.ensures.turns here input begins end from last o whole order
    (before.goes told input earlier end from last o whole order goes))

pub returns-in-Some-clause-gathers : goal.returns-in-Some-clause-gathers
returns-in-Some-clause-gathers g c told input begins end from last o whole order goes =
    let before = c.loop-found.invariant in
    let here = (before.follows told).told in
    let earlier = begins_on (c.turn.ensures.follows here).grows begins in
    rw c.in-Some.is at (c.in_ok-found.ensures.turns here input begins end from last o whole order
    (before.goes told input earlier end from last o whole order goes))

pub loop-found-preserved : goal.loop-found-preserved
loop-found-preserved g c =
    let before = c.loop-found.invariant in
    let ok = c.in_ok-found.ensures in
    let rises = rw c.in-None.is at ok.at in
    record {
      follows = λ told. gave_on (before.follows told) (ok.follows (before.follows told).told);
      goes = λ told input begins end from last o whole order goes.
          let here = (before.follows told).told in
          let earlier = begins_on (ok.follows here).grows begins in
          rw c.in-None.is at (ok.turns here input begins end from last o whole order
          (before.goes told input earlier end from last o whole order goes));
      rises = omega (arith, before.rises, rises);
      live = rw c.in-None.is at ok.live;
      split = ok.split ∙ before.split;
      saved = ok.saved ∙ before.saved;
      pages = ok.pages ∙ before.pages;
      later = omega (arith, ok.cause.later, before.later);
      small = λ small. ok.cause.fits (before.small small);
    }
