use Rattle.std.proofs.Common.{arith}
use Rattle.std.proofs.lemmas.Result.{err_from_is_err_and}
use Rattle.cx_codec.proofs.Following.{begins_on}
use Rattle.cx_replay.proofs.Giving.{gave_on}
use Rattle.cx_telling.proofs.telling.tell_all.Goals as goal

pub returns-in_err-going-clause-tells : goal.returns-in_err-going-clause-tells
returns-in_err-going-clause-tells g c told input begins end asked o whole base ordered stands so_far =
    let before = c.loop-going.invariant in
    let p = err_from_is_err_and c.from_residual.result c.from_residual.ensures.1 in
    let here = (before.follows told).told in
    let earlier = begins_on (c.tell_step.ensures.follows here).grows begins in
    let shown = rw c.loop-going-test.true at (before.told told input earlier end asked o whole base ordered stands so_far) in
    rw (p.1, p.2) (c.in_err-going.ensures.tells here input begins end asked o whole shown.0 base ordered shown.1.0 shown.1.1)

pub loop-going-preserved : goal.loop-going-preserved
loop-going-preserved g c =
    let before = c.loop-going.invariant in
    let ok = c.in_ok-going.ensures in
    record {
      follows = λ told. gave_on (before.follows told) (ok.follows (before.follows told).told);
      told = λ told input begins end asked o whole base ordered stands so_far.
          let here = (before.follows told).told in
          let earlier = begins_on (ok.follows here).grows begins in
          let shown = rw c.loop-going-test.true at (before.told told input earlier end asked o whole base ordered stands
          so_far) in
          ok.tells here input begins end asked o whole shown.0 base ordered shown.1.0 shown.1.1;
      spent = λ told. ok.spent (before.follows told).told;
      live = ok.live;
      ready = ok.ready;
      later = omega (arith, ok.read_cause.later, before.later);
      small = λ small. ok.read_cause.fits (before.small small);
      failed = omega (arith, ok.write_cause.later, before.failed);
      few = λ few. ok.write_cause.fits (before.few few);
    }

pub returns-clause-tells : goal.returns-clause-tells
returns-clause-tells g c told input begins end asked o whole base ordered stands so_far =
    rw c.loop-going-test.false at (c.loop-going.invariant.told told input begins end asked o whole base ordered stands so_far)
