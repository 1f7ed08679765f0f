use Rattle.std.proofs.Common.{arith, refl, ◌∙◌, length-set}
use Rattle.std.proofs.lemmas.Result.{err_from_is_err_and}
use Rattle.cx_codec.proofs.Collecting.{
  none_taken,
  none_held,
  more_taken,
  more_held,
  last_taken,
  last_held,
  ten_taken,
  ten_held,
  byte_missing,
  missing_held,
}
use Rattle.cx_codec.proofs.bytes.Bytes.collect.Goals as goal

pub loop-count-init : goal.loop-count-init
loop-count-init g c = record {
  live = c.requires.live;
  whole = c.requires.whole;
  at = omega arith;
  limit = refl;
  within = omega (arith, c.at.ensures.at, c.at.ensures.within);
  taken = λ told. none_taken _ _ told;
  held = none_held _ _ refl;
  later = omega arith;
  fits = λ small. small;
}

pub returns-in_err-byte-clause-reads : goal.returns-in_err-byte-clause-reads
returns-in_err-byte-clause-reads g c told =
    let p = err_from_is_err_and c.from_residual.result c.from_residual.ensures.1 in
    let before = c.loop-count.invariant.taken told in
    rw (p.1, p.2) (byte_missing _ _ _ (omega arith) refl before (c.in_err-byte.ensures.reads before.follows.told))

pub returns-in_err-byte-clause-asks : goal.returns-in_err-byte-clause-asks
returns-in_err-byte-clause-asks g c =
    let p = err_from_is_err_and c.from_residual.result c.from_residual.ensures.1 in
    rw (p.1, p.2) (missing_held _ _ _ (omega arith) refl c.in_err-byte.ensures.asks c.loop-count.invariant.held
    (λ step so_far. step ∙ so_far))

pub returns-then-byte-lt128-clause-reads : goal.returns-then-byte-lt128-clause-reads
returns-then-byte-lt128-clause-reads g c told =
    let before = c.loop-count.invariant.taken told in
    last_taken _ _ _ (omega arith) c.loop-count.invariant.whole before (c.in_ok-byte.ensures.reads before.follows.told)
    (omega arith)

pub returns-then-byte-lt128-clause-asks : goal.returns-then-byte-lt128-clause-asks
returns-then-byte-lt128-clause-asks g c =
    last_held _ _ _ (omega arith) c.loop-count.invariant.whole c.in_ok-byte.ensures.asks c.loop-count.invariant.held
    (λ step so_far. step ∙ so_far)
    (omega (arith, c.in_ok-byte.ensures.at, c.in_ok-byte.ensures.goes.within, c.in_ok-byte.ensures.goes.limit))
    (omega arith)

pub loop-count-preserved : goal.loop-count-preserved
loop-count-preserved g c = record {
  live = c.in_ok-byte.ensures.goes.live;
  whole = length-set _ _ _ ∙ c.loop-count.invariant.whole;
  at = omega (arith, c.in_ok-byte.ensures.at);
  limit = c.in_ok-byte.ensures.goes.limit ∙ c.loop-count.invariant.limit;
  within = c.in_ok-byte.ensures.goes.within;
  taken = λ told.
      let before = c.loop-count.invariant.taken told in
      more_taken _ _ _ (omega arith) c.loop-count.invariant.whole before
      (c.in_ok-byte.ensures.reads before.follows.told) (omega arith);
  held = more_held _ _ _ _
      (omega arith) c.loop-count.invariant.whole c.in_ok-byte.ensures.asks c.loop-count.invariant.held
      (λ step so_far. step ∙ so_far)
      (omega (arith, c.in_ok-byte.ensures.at, c.in_ok-byte.ensures.goes.within, c.in_ok-byte.ensures.goes.limit))
      (omega arith);
  later = omega (arith, c.in_ok-byte.ensures.goes.cause.later);
  fits = λ small. c.in_ok-byte.ensures.goes.cause.fits (c.loop-count.invariant.fits small);
}

pub returns-clause-reads : goal.returns-clause-reads
returns-clause-reads g c told = ten_taken _ _ (omega arith) c.loop-count.invariant.whole
    (c.loop-count.invariant.taken told)

pub returns-clause-asks : goal.returns-clause-asks
returns-clause-asks g c = ten_held _ _ (omega arith) c.loop-count.invariant.whole c.loop-count.invariant.held
