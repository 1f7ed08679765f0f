-- One step more.
use Rattle.std.proofs.Common.{◌≡◌, sym, arith, rules, ◌∙◌}
use Rattle.cx_answer.proofs.Searches.{between_next, found_next, listed_next, none_found}
use Rattle.cx_answer.proofs.stretch.scan.Goals as goal

pub loop-init : goal.loop-init
loop-init g c = record {
  run = c.in_ok-seek.ensures.run;
  found = λ R of. sym (none_found R c.args.query.now c.args.from);
  between = tt;
  listed = tt;
  at = c.in_ok-seek.ensures.at;
  same = c.in_ok-seek.ensures.same;
  above = omega arith;
  ticks = omega (arith, c.in_ok-seek.ensures.ticks, c.requires.checkpoint);
}

pub loop-preserved : goal.loop-preserved
loop-preserved g c =
    let inv = c.loop.invariant in
    let met = c.in_ok-met.ensures in
    record {
      run = λ R of. met.run R (inv.run R of);
      found = λ R of. found_next R c.args.query.now c.args.from c.loop.counter c.loop.seeker.player.at _ _ _ inv.above
          inv.at c.later_of-found.ensures (met.met R (inv.run R of)) (inv.found R of);
      between = between_next c.args.from c.loop.counter c.loop.seeker.player.at _ _ _ inv.above inv.at
          c.later_of-found.ensures met.between inv.between;
      listed = listed_next c.args.query.now _ _ _ c.later_of-found.ensures met.listed inv.listed;
      at = omega (arith, met.at, inv.at);
      same = record {
        course = met.same.course ∙ inv.same.course;
        saved = met.same.saved ∙ inv.same.saved;
      };
      above = omega (arith, inv.above);
      ticks = omega (arith, met.ticks, inv.ticks, inv.above);
    }
