use Rattle.std.proofs.lemmas.Result.{err_from_is_err_and}
use Rattle.std.proofs.Common.{arith, refl, ◌∙◌}
use Rattle.cx_codec.proofs.Midway.{begin}
use Rattle.cx_callfmt.proofs.Gathers.{all_taken, more_taken, more_fails}
use Rattle.cx_callfmt.proofs.gathering.gather_bytes.Goals as goal

pub loop-more-init : goal.loop-more-init
loop-more-init g c = record {
  live = c.requires.live;
  limit = refl;
  within = omega (arith, c.at.ensures.at, c.at.ensures.within);
  behind = refl;
  ended = refl;
  none = λ same. cc;
  read = λ told. begin _ told (λ p. refl);
  later = omega arith;
  small = λ small. small;
}

pub returns-in_err-more-clause-reads : goal.returns-in_err-more-clause-reads
returns-in_err-more-clause-reads g c told =
    let p = err_from_is_err_and c.from_residual.result c.from_residual.ensures.1 in
    let so_far = c.loop-more.invariant.read told in
    rw (p.1, p.2) (more_fails _ _ _ _ _ c.loop-more.more c.loop-more-test.true so_far
    (c.in_err-more.ensures.reads so_far.follows.told))

pub loop-more-preserved : goal.loop-more-preserved
loop-more-preserved g c = record {
  live = c.in_ok-more.ensures.goes.live;
  limit = c.in_ok-more.ensures.goes.limit ∙ c.loop-more.invariant.limit;
  within = c.in_ok-more.ensures.goes.within;
  behind = c.in_ok-more.ensures.behind ∙ c.loop-more.invariant.behind;
  ended = c.in_ok-more.ensures.ended ∙ c.loop-more.invariant.ended;
  none = c.in_ok-more.ensures.none;
  read = λ told.
      let so_far = c.loop-more.invariant.read told in
      more_taken _ _ _ _ c.loop-more.more _ c.loop-more-test.true so_far
      (c.in_ok-more.ensures.reads so_far.follows.told);
  later = omega (arith, c.in_ok-more.ensures.goes.cause.later, c.loop-more.invariant.later);
  small = λ small. c.in_ok-more.ensures.goes.cause.fits (c.loop-more.invariant.small small);
}

pub returns-clause-reads : goal.returns-clause-reads
returns-clause-reads g c told = all_taken _ _ _ c.loop-more-test.false (c.loop-more.invariant.read told)
