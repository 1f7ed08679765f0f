use Rattle.std.proofs.Common.{arith, ◌∙◌}
use Rattle.std.proofs.lemmas.Result.{err_from_is_err_and}
use Rattle.cx_codec.proofs.Following.{begins_on}
use Rattle.cx_replay.proofs.Giving.{gave_on}
use Rattle.cx_replay.proofs.gather.gather.Goals as goal

pub returns-in_err-settled-clause-gathers : goal.returns-in_err-settled-clause-gathers
returns-in_err-settled-clause-gathers g c told input begins end whole so_far =
    let before = c.loop-settled.invariant in
    let p = err_from_is_err_and c.from_residual.result c.from_residual.ensures.1 in
    let here = (before.follows told).told in
    let earlier = begins_on (c.turn.ensures.follows here).grows begins in
    let gathers = rw c.loop-settled-test.true at (before.gathers told input earlier end whole so_far) in
    rw (p.1, p.2) (c.in_err-settled.ensures.turns here input begins end whole gathers)

pub loop-settled-preserved : goal.loop-settled-preserved
loop-settled-preserved g c =
    let before = c.loop-settled.invariant in
    let ok = c.in_ok-settled.ensures in
    record {
      follows = λ told. gave_on (before.follows told) (ok.follows (before.follows told).told);
      gathers = λ told input begins end whole so_far.
          let here = (before.follows told).told in
          let earlier = begins_on (ok.follows here).grows begins in
          let gathers = rw c.loop-settled-test.true at (before.gathers told input earlier end whole so_far) in
          ok.turns here input begins end whole gathers;
      sound = ok.sound;
      at = ok.at ∙ before.at;
      pages = ok.pages ∙ before.pages;
      later = omega (arith, ok.cause.later, before.later);
      small = λ small. ok.cause.fits (before.small small);
    }

pub returns-clause-gathers : goal.returns-clause-gathers
returns-clause-gathers g c told input begins end whole so_far =
    rw c.loop-settled-test.false at (c.loop-settled.invariant.gathers told input begins end whole so_far)
