use Rattle.std.proofs.lemmas.Result.{err_from_is_err_and}
use Rattle.std.proofs.Common.{arith, refl, ◌∙◌}
use Rattle.std.proofs.lemmas.List.{length-set}
use Rattle.cx_log.proofs.Words.{none_read, none_fits, word_read, word_missing, words_read, one_more_fits}
use Rattle.cx_log.proofs.reading.state_words.Goals as goal

pub loop-index-init : goal.loop-index-init
loop-index-init g c =
    record {
      live = c.requires;
      limit = refl;
      within = omega (arith, c.at.ensures.at, c.at.ensures.within);
      size = refl;
      fits = none_fits _ _;
      read = λ told. none_read _ _ _ told;
      later = omega arith;
      small = λ small. small;
    }

pub returns-in_err-word-clause-reads : goal.returns-in_err-word-clause-reads
returns-in_err-word-clause-reads g c told =
    let p = err_from_is_err_and c.from_residual.result c.from_residual.ensures.1 in
    let so_far = c.loop-index.invariant.read told in
    rw (p.1, p.2) (word_missing _ _ _ _ (omega (arith, c.loop-index-test.true)) refl so_far
    (c.in_err-word.ensures.reads so_far.follows.told))

pub loop-index-preserved : goal.loop-index-preserved
loop-index-preserved g c =
    record {
      live = c.in_ok-word.ensures.goes.live;
      limit = c.in_ok-word.ensures.goes.limit ∙ c.loop-index.invariant.limit;
      within = c.in_ok-word.ensures.goes.within;
      size = length-set _ _ _ ∙ c.loop-index.invariant.size;
      fits = one_more_fits _ _ _ _ _ (omega (arith, c.loop-index-test.true)) c.loop-index.invariant.size
          c.loop-index.invariant.fits c.in_ok-word.ensures.fits;
      read = λ told.
          let so_far = c.loop-index.invariant.read told in
          word_read _ _ _ _ _ (omega (arith, c.loop-index-test.true)) c.loop-index.invariant.size so_far
          (c.in_ok-word.ensures.reads so_far.follows.told);
      later = omega (arith, c.in_ok-word.ensures.goes.cause.later);
      small = λ small. c.in_ok-word.ensures.goes.cause.fits (c.loop-index.invariant.small small);
    }

pub returns-clause-reads : goal.returns-clause-reads
returns-clause-reads g c told =
    words_read _ _ _ _ (omega arith) c.loop-index.invariant.size (c.loop-index.invariant.read told)
