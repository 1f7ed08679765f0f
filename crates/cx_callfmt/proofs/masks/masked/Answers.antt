use Rattle.std.proofs.lemmas.Result.{err_from_is_err_and}
use Rattle.std.proofs.Common.{arith, refl, ◌∙◌}
use Rattle.std.proofs.lemmas.List.{length-set}
use Rattle.cx_codec.proofs.Composing.{fails}
use Rattle.cx_slicefmt.specs.Reading.{masked_at}
use Rattle.cx_slicefmt.proofs.FieldFaults.{met_same}
use Rattle.cx_slicefmt.proofs.WordLoop.{items_begin, item_next, item_fails, items_end}
use Rattle.cx_callfmt.proofs.masks.masked.Goals as goal

pub returns-in_err-mask-clause-reads : goal.returns-in_err-mask-clause-reads
unfolding masked_at
returns-in_err-mask-clause-reads g c told =
    let p = err_from_is_err_and c.from_residual.result c.from_residual.ensures.1 in
    rw (p.1, p.2) (fails {reader = masked_at} _ (λ p. refl) (met_same _) (c.in_err-mask.ensures.reads told))

pub loop-index-init : goal.loop-index-init
loop-index-init g c =
    record {
      live = c.in_ok-mask.ensures.goes.live;
      limit = c.in_ok-mask.ensures.goes.limit;
      within = c.in_ok-mask.ensures.goes.within;
      size = refl;
      read = λ told. items_begin _ (c.in_ok-mask.ensures.reads told) told;
      later = omega (arith, c.in_ok-mask.ensures.goes.cause.later);
      small = λ small. c.in_ok-mask.ensures.goes.cause.fits small;
    }

pub returns-in_err-word-clause-reads : goal.returns-in_err-word-clause-reads
returns-in_err-word-clause-reads g c told =
    let p = err_from_is_err_and c.from_residual-in_err-word.result c.from_residual-in_err-word.ensures.1 in
    let so_far = c.loop-index.invariant.read told in
    rw (p.1, p.2) (item_fails _ _ _ so_far (omega (arith, c.loop-index-test.true)) refl
    (c.in_err-word.ensures.reads so_far.follows.told))

pub loop-index-preserved : goal.loop-index-preserved
loop-index-preserved g c =
    record {
      live = c.in_ok-word.ensures.goes.live;
      limit = c.in_ok-word.ensures.goes.limit ∙ c.loop-index.invariant.limit;
      within = c.in_ok-word.ensures.goes.within;
      size = length-set _ _ _ ∙ c.loop-index.invariant.size;
      read = λ told.
          let so_far = c.loop-index.invariant.read told in
          item_next _ _ _ so_far (omega (arith, c.loop-index-test.true)) c.loop-index.invariant.size
          (c.in_ok-word.ensures.reads so_far.follows.told);
      later = omega (arith, c.in_ok-word.ensures.goes.cause.later);
      small = λ small. c.in_ok-word.ensures.goes.cause.fits (c.loop-index.invariant.small small);
    }

pub returns-clause-reads : goal.returns-clause-reads
returns-clause-reads g c told =
    items_end _ _ _ (c.loop-index.invariant.read told) (omega arith) c.loop-index.invariant.size
