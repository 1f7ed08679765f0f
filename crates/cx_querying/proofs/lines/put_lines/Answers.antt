use Rattle.std.proofs.Common.{◌≤◌, length, arith, refl, ◌∙◌}
use Rattle.std.proofs.lemmas.List.{append-nil}
use Rattle.std.proofs.lemmas.Result.{err_from_is_err_and}
use Rattle.cx_answer.specs.AnswerOf.{is_query_there}
use Rattle.cx_querying.proofs.AnswerLines.{all_lines, line_refused, line_told, no_lines, one_of_all}
use Rattle.cx_querying.proofs.lines.put_lines.Goals as goal

pub loop-index-init : goal.loop-index-init
loop-index-init g c = record {
  live = c.requires.live;
  course = refl;
  puts = λ R base put of stands. record { stands = rw (no_lines R, append-nil put) stands; keeps = of };
  later = omega arith;
  few = λ few. few;
}

pub put_line-requires-clause-live : goal.put_line-requires-clause-live
put_line-requires-clause-live g c = c.loop-index.invariant.live

pub put_line-requires-clause-there : goal.put_line-requires-clause-there
put_line-requires-clause-there g c =
    let now = c.args.seeker.now in
    rw c.loop-index.invariant.course
    (one_of_all (is_query_there now.course.base now.course.end now.course.pages) c.args.queries.now c.loop-index.index _
    c.requires.there c.loop-index-test.true)

pub loop-index-preserved : goal.loop-index-preserved
loop-index-preserved g c =
    let before = c.loop-index.invariant in
    let ok = c.in_ok-put_line.ensures in
    record {
      live = ok.live;
      course = ok.same.course ∙ before.course;
      puts = λ R base put of stands.
          let told = before.puts R base put of stands in
          line_told R c.args.queries.now c.loop-index.index _ base put _ _ _ c.loop-index-test.true
          (ok.puts R base _ told.keeps told.stands);
      later = omega (arith, ok.cause.later, before.later);
      few = λ few. ok.cause.fits (before.few few);
    }

pub returns-in_err-put_line-clause-puts : goal.returns-in_err-put_line-clause-puts
returns-in_err-put_line-clause-puts g c R base put of stands =
    let p = err_from_is_err_and c.from_residual.result c.from_residual.ensures.1 in
    let told = c.loop-index.invariant.puts R base put of stands in
    rw p.1 (line_refused R c.args.queries.now c.loop-index.index _ base put _ c.loop-index-test.true
    (c.in_err-put_line.ensures.puts R base _ told.keeps told.stands))

pub returns-clause-puts : goal.returns-clause-puts
returns-clause-puts g c R base put of stands =
    let all : length c.args.queries.now ≤ c.loop-index.index = omega (arith, c.loop-index-test.false) in
    rw (all_lines R c.args.queries.now c.loop-index.index all) at (c.loop-index.invariant.puts R base put of stands)
