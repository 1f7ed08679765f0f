use Rattle.std.proofs.Common.{◌∙◌, ◌<◌, [], ◌∷◌, ◌++◌, ap, arith, length-append, sym}
use Rattle.std.proofs.lemmas.Result.{err_from_is_err_and}
use Rattle.cx_run.specs.Due.{due_at}
use Rattle.cx_commands.proofs.Streams.{given_upto, tell_refused, told_end, told_fault}
use Rattle.cx_telling.proofs.telling.tell_step.Goals as goal

pub returns-in_err-next_into-clause-tells : goal.returns-in_err-next_into-clause-tells
returns-in_err-next_into-clause-tells g c told input begins end asked o whole given base ordered stands so_far =
    let p = err_from_is_err_and c.from_residual.result c.from_residual.ensures.1 in
    let now = c.next_into.new.self in
    rw (p.1, p.2) (told_fault (g.W.Teller.text asked o whole) now.machine now.progress (g.R.Records.seen now.records).bytes
    (g.R.Records.has now.records (g.S.Source.given c.next_into.new.source) input end) now.due end _ _ base _ _
    c.in_err-next_into.field-0.0 (λ xs ys. g.met.W.Teller.grows asked o whole xs ys ordered) stands so_far.stands
    (c.in_err-next_into.ensures.answers told input begins end o whole given stands))

pub returns-then-not-branch-clause-tells : goal.returns-then-not-branch-clause-tells
returns-then-not-branch-clause-tells g c told input begins end asked o whole given base ordered stands so_far =
    let now = c.next_into.new.self in
    let answers = rw c.if-not-branch.true at (c.in_ok-next_into.ensures.answers told input begins end o whole given
    stands) in
    let still = rw c.if-not-branch.true at c.in_ok-next_into.ensures.at in (
      given,
      (
        told_end now.machine now.progress (g.R.Records.seen now.records).bytes
            (g.R.Records.has now.records (g.S.Source.given c.next_into.new.source) input end) now.due end _ _ (Unit {0})
            stands still answers,
        so_far,
      ),
    )

pub returns-in_err-tell-clause-tells : goal.returns-in_err-tell-clause-tells
returns-in_err-tell-clause-tells g c told input begins end asked o whole given base ordered stands so_far =
    let p = err_from_is_err_and c.from_residual-in_err-tell.result c.from_residual-in_err-tell.ensures.1 in
    let answers = rw c.if-not-branch.false at (c.in_ok-next_into.ensures.answers told input begins end o whole given
    stands) in
    let step = c.at-step.ensures ∙ stands.count in
    let within : c.at-step.result < whole.upto = omega (
      arith,
      step,
      given_upto answers.0,
      length-append given
          (c.next_into.new.rec ∷ []),
    ) in
    let due = c.due.ensures ∙ answers.1 ∙ ap (due_at whole.events) (sym step) in
    rw (p.1, p.2) (tell_refused (g.W.Teller.text asked o whole) end _ _ base _ c.in_err-tell.field-0.0
    (λ xs ys. g.met.W.Teller.grows asked o whole xs ys ordered) answers.0
    (c.in_err-tell.ensures.tells asked o whole given base ordered step within due so_far))

pub returns-clause-tells : goal.returns-clause-tells
returns-clause-tells g c told input begins end asked o whole given base ordered stands so_far =
    let answers = rw c.if-not-branch.false at (c.in_ok-next_into.ensures.answers told input begins end o whole given
    stands) in
    let step = c.at-step.ensures ∙ stands.count in
    let within : c.at-step.result < whole.upto = omega (
      arith,
      step,
      given_upto answers.0,
      length-append given
          (c.next_into.new.rec ∷ []),
    ) in
    let due = c.due.ensures ∙ answers.1 ∙ ap (due_at whole.events) (sym step) in (
      given ++ c.next_into.new.rec ∷ [],
      (answers.0, c.in_ok-tell.ensures.tells asked o whole given base ordered step within due so_far),
    )
