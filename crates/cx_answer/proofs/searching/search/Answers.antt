-- The last stretch with an answer has the last answer.
use Rattle.std.proofs.Common.{◌≡◌, ◌≤◌, Some, None, sym, arith, ◌∙◌}
use Rattle.cx_answer.specs.AnswerOf.{found_between}
use Rattle.cx_answer.proofs.Searches.{answer_there, found_before, nothing_there}
use Rattle.cx_answer.proofs.searching.search.Goals as goal

pub returns-in-Some-clause-answer : goal.returns-in-Some-clause-answer
returns-in-Some-clause-answer g c R of =
    let inv = c.loop-upto.invariant in
    let from = c.checkpoint_before-from in
    answer_there R c.args.query.now c.base-base.result from.result c.loop-upto.upto c.args.n c.in-Some.answer
    (c.base-base.ensures ∙ of.run.base) from.ensures.above (omega (arith, from.ensures.below)) (inv.found R of)
    (sym c.in-Some.is ∙ c.in_ok-answer.ensures.found R (inv.run R of))

pub loop-upto-preserved : goal.loop-upto-preserved
loop-upto-preserved g c =
    let inv = c.loop-upto.invariant in
    let from = c.checkpoint_before-from in
    let scan = c.in_ok-answer.ensures in
    record {
      run = λ R of. scan.run R (inv.run R of);
      found = λ R of. found_before R c.args.query.now c.base-base.result from.result c.loop-upto.upto c.args.n
          from.ensures.above (omega (arith, from.ensures.below)) (inv.found R of)
          (sym c.in_default.is ∙ scan.found R (inv.run R of));
      above = from.ensures.above;
      below = omega (arith, from.ensures.below, inv.below);
      same = record {
        course = scan.same.course ∙ inv.same.course;
        saved = scan.same.saved ∙ inv.same.saved;
      };
      ticks = omega (arith, scan.ticks, inv.ticks, from.ensures.below, inv.below);
    }

pub returns-clause-answer : goal.returns-clause-answer
returns-clause-answer g c R of =
    let inv = c.loop-upto.invariant in
    nothing_there R c.args.query.now c.base-base.result c.loop-upto.upto c.args.n (c.base-base.ensures ∙ of.run.base)
    (omega (arith, inv.above, c.loop-upto-test.false)) (inv.found R of)
