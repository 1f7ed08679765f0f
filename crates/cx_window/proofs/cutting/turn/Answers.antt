use Rattle.std.proofs.Common.{◌++◌, ◌∙◌, ap, sym}
use Rattle.std.proofs.lemmas.Result.{err_from_is_err_and}
use Rattle.cx_machine.specs.Due.{Due}
use Rattle.cx_window.specs.Slicing.{window_events}
use Rattle.cx_window.proofs.Running.{replay_ends, replay_goes, replay_untold, stops_of}
use Rattle.cx_window.proofs.cutting.turn.Goals as goal

pub returns-in_err-next_into-clause-turned : goal.returns-in_err-next_into-clause-turned
returns-in_err-next_into-clause-turned g c told input begins end o whole given stands slices =
    let p = err_from_is_err_and c.from_residual-in_err-next_into.result c.from_residual-in_err-next_into.ensures.1 in
    let here = c.in_ok-see.ensures.stands (g.S.Source.given c.args.source.now) input end o whole given stands in
    rw (p.1, p.2) (stops_of o whole given c.next_into.new.self.machine c.next_into.new.self.progress
    (g.R.Records.seen c.next_into.new.self.records).bytes
    (g.R.Records.has c.next_into.new.self.records (g.S.Source.given c.next_into.new.source) input end)
    c.next_into.new.self.due end _ _ c.in_err-next_into.field-0.0
    (c.in_err-next_into.ensures.answers told input begins end o whole given here))

pub returns-then-not-branch-clause-turned : goal.returns-then-not-branch-clause-turned
returns-then-not-branch-clause-turned g c told input begins end o whole given stands slices =
    let step = c.at-step.result in
    let mid = c.see.new.replay in
    let here = c.in_ok-see.ensures.stands (g.S.Source.given c.args.source.now) input end o whole given stands in
    let answers = rw c.if-not-branch.true at (c.in_ok-next_into.ensures.answers told input begins end o whole given
    here) in
    let now = rw c.if-not-branch.true at c.in_ok-next_into.ensures.at in
    replay_ends o whole given mid.machine mid.progress _ _ c.next_into.new.self.machine _ _ _ c.next_into.new.self.due
    end _ (Unit {0}) (λ given. Unit {0}) c.args.replay.now.machine.saved c.args.slicer.now
    c.see.new.slicer step _ here (c.at-step.ensures ∙ sym c.in_ok-see.ensures.at) now c.next_into.ensures.saved
    (rw c.at-step.ensures c.in_ok-see.ensures.seen) slices answers

pub returns-clause-turned : goal.returns-clause-turned
returns-clause-turned g c told input begins end o whole given stands slices =
    let step = c.at-step.result in
    let mid = c.see.new.replay in
    let here = c.in_ok-see.ensures.stands (g.S.Source.given c.args.source.now) input end o whole given stands in
    let answers = rw c.if-not-branch.false at (c.in_ok-next_into.ensures.answers told input begins end o whole given
    here) in
    let more = c.in_ok-feed.ensures.events ∙ ap (λ (due : Due). c.see.new.slicer.events
    ++ window_events c.see.new.slicer step c.gave_mark.result due) c.due.ensures in
    replay_goes o whole given mid.machine mid.progress _ _ c.next_into.new.self.machine _ _ _ _ end (Unit {0})
    (Unit {0}) c.args.replay.now.machine.saved c.args.slicer.now
    c.see.new.slicer c.feed.new.self step c.next_into.new.self.progress.at c.next_into.new.rec c.gave_mark.result here
    (c.at-step.ensures ∙ sym c.in_ok-see.ensures.at) c.next_into.ensures.saved
    (rw c.at-step.ensures c.in_ok-see.ensures.seen) c.in_ok-see.ensures.window slices answers
    (λ order. c.gave_mark.ensures _ input end o whole given c.next_into.new.rec answers.0 order)
    c.feed.ensures.marks more c.feed.ensures.same

pub returns-then-not-has_step-clause-turned : goal.returns-then-not-has_step-clause-turned
returns-then-not-has_step-clause-turned g c told input begins end o whole given stands slices =
    let mid = c.see.new.replay in
    let here = c.in_ok-see.ensures.stands (g.S.Source.given c.args.source.now) input end o whole given stands in
    replay_untold o whole given mid.machine mid.progress _ _ c.next_untold.new.self.machine
    c.next_untold.new.self.progress (g.R.Records.seen c.next_untold.new.self.records).bytes
    (g.R.Records.has c.next_untold.new.self.records (g.S.Source.given c.next_untold.new.source) input end)
    c.next_untold.new.self.due end _ _ c.args.replay.now.machine.saved c.args.slicer.now c.see.new.slicer
    c.at-step.result c.next_untold.result here (c.at-step.ensures ∙ sym c.in_ok-see.ensures.at)
    c.next_untold.ensures.at c.next_untold.ensures.saved
    (rw c.at-step.ensures c.in_ok-see.ensures.seen) c.in_ok-see.ensures.window slices
    (sym c.if-not-has_step.ensures) (c.next_untold.ensures.answers told input begins end o whole given here)
