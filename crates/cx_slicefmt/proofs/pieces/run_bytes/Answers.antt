use Rattle.std.proofs.lemmas.Result.{err_from_is_err_and}
use Rattle.std.proofs.Common.{arith, refl, ◌∙◌, rules}
use Rattle.cx_slicefmt.proofs.RunLoop.{runs_begin, run_next, run_fails, runs_end}
use Rattle.cx_slicefmt.proofs.pieces.run_bytes.Goals as goal

pub loop-index-init : goal.loop-index-init
loop-index-init g c =
    record {
      live = c.requires.live;
      limit = refl;
      within = omega (arith, c.at.ensures.at, c.at.ensures.within);
      room = search rules;
      read = λ told. rw c.new-into.ensures (runs_begin _ told);
      later = omega arith;
      small = λ small. small;
    }

pub returns-in_err-run-clause-reads : goal.returns-in_err-run-clause-reads
returns-in_err-run-clause-reads g c told =
    let p = err_from_is_err_and c.from_residual.result c.from_residual.ensures.1 in
    let so_far = c.loop-index.invariant.read told in
    rw (p.1, p.2) (run_fails _ _ _ so_far (omega (arith, c.loop-index-test.true)) refl
    (c.in_err-run.ensures.reads so_far.follows.told))

pub loop-index-preserved : goal.loop-index-preserved
loop-index-preserved g c =
    record {
      live = c.in_ok-run.ensures.goes.live;
      limit = c.in_ok-run.ensures.goes.limit ∙ c.loop-index.invariant.limit;
      within = c.in_ok-run.ensures.goes.within;
      room = omega (arith, c.push_run.ensures.len, c.in_ok-run.ensures.short, c.loop-index.invariant.room);
      read = λ told.
          let so_far = c.loop-index.invariant.read told in
          run_next _ _ _ _ _ _ so_far (omega (arith, c.loop-index-test.true)) (search rules) c.push_run.ensures.items
          (c.in_ok-run.ensures.reads so_far.follows.told);
      later = omega (arith, c.in_ok-run.ensures.goes.cause.later);
      small = λ small. c.in_ok-run.ensures.goes.cause.fits (c.loop-index.invariant.small small);
    }

pub returns-clause-reads : goal.returns-clause-reads
returns-clause-reads g c told =
    runs_end _ _ _ _ (c.loop-index.invariant.read told) (omega arith) refl
