use Rattle.std.proofs.lemmas.Result.{err_from_is_err_and}
use Rattle.std.proofs.Common.{◌*◌, arith, ap, ◌∙◌, length}
use Rattle.cx_map.specs.declared.TheConstants.{PAGE_SIZE}
use Rattle.cx_hart.specs.Whole.{Whole}
use Rattle.cx_ram.specs.LittleEndian.{written}
use Rattle.cx_telling.proofs.Filling.{filled_on, filled_bad}
use Rattle.cx_telling.proofs.opening.fill.Goals as goal

pub returns-in_err-number-clause-reads : goal.returns-in_err-number-clause-reads
returns-in_err-number-clause-reads g c told =
    let p = err_from_is_err_and c.from_residual.result c.from_residual.ensures.1 in
    let so_far = c.loop-number.invariant.filled told in
    let page = rw c.loop-number.invariant.header at (c.in_err-number.ensures.reads so_far.follows.told) in
    rw (p.1, p.2) (filled_bad so_far page)

pub loop-number-preserved : goal.loop-number-preserved
loop-number-preserved g c =
    let before = c.loop-number.invariant in
    let ok = c.in_ok-number.ensures in
    let turned = rw c.in-Some.is at ok.turns in
    let same = c.in_ok-reserve.ensures.same in
    record {
      live = ok.live;
      header = ok.same.0 ∙ before.header;
      behind = ok.same.1 ∙ before.behind;
      ended = ok.same.2 ∙ before.ended;
      size = c.fill.ensures.size ∙ ap (λ (m : Whole). length m.memory) same ∙ before.size;
      state = c.fill.ensures.state ∙ ap (λ (m : Whole). m.state) same ∙ before.state;
      split = c.fill.ensures.split ∙ ap (λ (m : Whole). m.split) same ∙ before.split;
      filled = λ told.
          let so_far = before.filled told in
          let page = rw (before.header, c.in-Some.is) at (ok.reads so_far.follows.told) in
          filled_on so_far turned.left turned.least
          (c.fill.ensures.memory
          ∙ ap (λ (m : Whole). written m.memory (c.in-Some.number * PAGE_SIZE) c.next_page.new.into) same) page;
      later = omega (arith, ok.cause.later, before.later);
      small = λ small. ok.cause.fits (before.small small);
    }
