use Rattle.std.proofs.lemmas.Result.{err_from_is_err_and}
use Rattle.std.proofs.Common.{◌*◌, arith, ap, refl, ◌∙◌, length}
use Rattle.cx_map.specs.declared.TheConstants.{PAGE_SIZE}
use Rattle.cx_hart.specs.Whole.{Whole}
use Rattle.cx_ram.specs.LittleEndian.{written}
use Rattle.cx_live.proofs.Filling.{filled_bad, filled_on}
use Rattle.cx_live.proofs.reading.fill.Goals as goal

pub returns-in_err-number-clause-reads : goal.returns-in_err-number-clause-reads
returns-in_err-number-clause-reads g c told =
    let p = err_from_is_err_and c.from_residual.result c.from_residual.ensures.1 in
    let so_far = c.loop-left.invariant.filled told in
    let page = c.in_err-number.ensures.reads so_far.follows.told in
    rw (p.1, p.2) (filled_bad so_far (omega (arith, c.loop-left-test.true)) page)

pub loop-left-preserved : goal.loop-left-preserved
loop-left-preserved g c =
    let before = c.loop-left.invariant in
    let ok = c.in_ok-number.ensures in
    let same = c.in_ok-reserve.ensures.same in
    record {
      live = ok.goes.live;
      size = c.fill.ensures.size ∙ ap (λ (m : Whole). length m.memory) same ∙ before.size;
      state = c.fill.ensures.state ∙ ap (λ (m : Whole). m.state) same ∙ before.state;
      split = c.fill.ensures.split ∙ ap (λ (m : Whole). m.split) same ∙ before.split;
      filled = λ told.
          let so_far = before.filled told in
          filled_on so_far (omega (arith, c.loop-left-test.true)) (omega (arith, c.loop-left-test.true)) refl
          (c.fill.ensures.memory
          ∙ ap (λ (m : Whole). written m.memory (c.in_ok-number.number * PAGE_SIZE) c.page.new.into) same)
          (ok.reads so_far.follows.told);
      later = omega (arith, ok.goes.cause.later, before.later);
      small = λ small. ok.goes.cause.fits (before.small small);
    }
