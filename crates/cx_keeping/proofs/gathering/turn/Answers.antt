use Rattle.std.proofs.Common.{◌∙◌, ap, sym}
use Rattle.cx_run.specs.Due.{due_at}
use Rattle.cx_replay.proofs.Standing.{carried_all}
use Rattle.cx_keeping.proofs.Going.{free_reach, step_bad, step_broken, step_ends, step_kept}
use Rattle.cx_keeping.proofs.gathering.turn.Goals as goal

pub returns-then-going-clause-turns : goal.returns-then-going-clause-turns
returns-then-going-clause-turns g c told input begins end from last o whole order goes =
    let at = c.args.replay.now.progress.at in
    let stands = goes.stands in
    let arrives = rw c.if-going.true at (c.in-Ok.ensures.answers told input begins end o whole goes.given
    stands) in
    let now = rw c.if-going.true at c.in-Ok.ensures.at in
    let rec = arrives.0 in
    let gave = arrives.1.1 in
    let mark = c.is_at_mark-marked.ensures _ input end last o whole goes.given stands order in
    let kept = rw c.at-step.ensures at c.keep.ensures.kept in
    step_kept c.keep.result o whole from at c.next_untold.new.self.progress.at last end c.args.kept.now
    c.keep.new.kept goes.given rec c.is_at_mark-marked.result c.next_untold.new.self.due _ _ _ order goes.kept_is
    goes.none mark (gave.1 ∙ ap (due_at whole.events) (sym stands.count)) now gave.0
    kept (c.keep.ensures.finds _ input end last o whole _ gave.0 order) c.keep.ensures.refused

pub returns-else-going-clause-turns : goal.returns-else-going-clause-turns
returns-else-going-clause-turns g c told input begins end from last o whole order goes =
    let stands = goes.stands in
    let arrives = rw c.if-going.false at (c.in-Ok.ensures.answers told input begins end o whole goes.given
    stands) in
    rw c.at-step.ensures (step_ends o whole from c.args.replay.now.progress.at c.args.kept.now goes.given _ _
    stands.count goes.kept_is goes.none arrives.0 arrives.1)

pub returns-in-Err-ReadFault-clause-turns : goal.returns-in-Err-ReadFault-clause-turns
returns-in-Err-ReadFault-clause-turns g c told input begins end from last o whole order goes =
    let stands = goes.stands in
    let answers = rw c.in-Err-ReadFault.field-0-is at (c.in-Err-ReadFault.ensures.answers told input begins end o whole
    goes.given stands) in
    λ cut.
    let here = answers cut in (
      here.0,
      free_reach o whole from c.args.replay.now.progress.at goes.given stands.count (carried_all stands here.1)
          goes.none,
    )

pub returns-in-Err-Format-clause-turns : goal.returns-in-Err-Format-clause-turns
returns-in-Err-Format-clause-turns g c told input begins end from last o whole order goes =
    let stands = goes.stands in
    let answers = rw c.in-Err-Format.field-0-is at (c.in-Err-Format.ensures.answers told input begins end o whole
    goes.given stands) in
    λ may.
    let here = answers may in
    step_bad o whole from _ goes.given stands goes.none here.0 here.1

pub returns-in-Err-Broken-clause-turns : goal.returns-in-Err-Broken-clause-turns
returns-in-Err-Broken-clause-turns g c told input begins end from last o whole order goes =
    let stands = goes.stands in
    let answers = rw c.in-Err-Broken.field-0-is at (c.in-Err-Broken.ensures.answers told input begins end o whole
    goes.given stands) in
    λ may. step_broken o whole from c.args.replay.now.progress.at _ goes.given stands.count goes.none
    answers.0 answers.1
