use Rattle.std.proofs.Common.{◌≡◌, ◌+◌, ◌-◌, ◌∙◌, ℕ, ap, arith, subst, sym}
use Rattle.std.proofs.lemmas.Result.{err_from_is_err_and}
use Rattle.cx_hart.specs.Whole.{machine_of}
use Rattle.cx_log.specs.Scan.{decoded}
use Rattle.cx_machine.specs.Due.{Due}
use Rattle.cx_replay.specs.Replaying.{Replaying}
use Rattle.cx_seek.specs.Checkpoints.{IsMachineAt}
use Rattle.cx_seek.specs.Dues.{noted}
use Rattle.cx_seek.specs.Keeping.{Keeps}
use Rattle.cx_seek.proofs.KeptRuns.{replay_ended, replay_goes, stops_of}
use Rattle.cx_seek.proofs.opening.turn.Goals as goal

pub returns-in_err-next_untold-clause-turned : goal.returns-in_err-next_untold-clause-turned
returns-in_err-next_untold-clause-turned g c told input begins end o whole given base stands keeps =
    let p = err_from_is_err_and c.from_residual.result c.from_residual.ensures.1 in
    rw (p.1, p.2) (stops_of o whole given c.next_untold.new.self.machine c.next_untold.new.self.progress
    (g.R.Records.seen c.next_untold.new.self.records).bytes
    (g.R.Records.has c.next_untold.new.self.records (g.S.Source.given c.next_untold.new.source) input end)
    c.next_untold.new.self.due end _ _ c.in_err-next_untold.field-0.0
    (c.in_err-next_untold.ensures.answers told input begins end o whole given stands))

pub returns-then-not-branch-clause-turned : goal.returns-then-not-branch-clause-turned
returns-then-not-branch-clause-turned g c told input begins end o whole given base stands keeps =
    let answers = rw c.if-not-branch.true at (c.in_ok-next_untold.ensures.answers told input begins end o whole given
    stands) in
    let now = rw c.if-not-branch.true at c.in_ok-next_untold.ensures.at in
    replay_ended o whole given c.args.replay.now.machine c.next_untold.new.self.machine c.args.replay.now.progress _ _
    c.next_untold.new.self.progress _ _ c.next_untold.new.self.due end _ (Unit {0}) c.args.keeping.now stands now
    c.next_untold.ensures.saved keeps answers

pub returns-clause-turned : goal.returns-clause-turned
returns-clause-turned g c told input begins end o whole given base stands keeps =
    let first = c.args.replay.now in
    let mid = c.next_untold.new.self in
    let last = c.keep.new.replay in
    let notes = c.args.keeping.now.notes in
    let answers = rw c.if-not-branch.false at (c.in_ok-next_untold.ensures.answers told input begins end o whole given
    stands) in
    let now : mid.progress.at ≡ first.progress.at + 1 = rw c.if-not-branch.false at c.in_ok-next_untold.ensures.at in
    let rest = c.in_ok-keep.ensures.still.rest in
    let records = ap (λ (x : Replaying g.row.R.Denot). x.records) rest in
    let progress = ap (λ (x : Replaying g.row.R.Denot). x.progress) rest in
    let are = c.in_ok-note.ensures ∙ ap (λ (n : ℕ). noted n c.due.result.now notes) c.at-step.ensures
    ∙ ap (λ (d : Due). noted first.progress.at d notes) c.due.ensures in
    let at : o.header.base + (c.at.result - c.args.base) ≡ mid.progress.at =
    omega (arith, base, c.at.ensures, c.requires.above, now) in
    rw records (replay_goes o whole given first.machine mid.machine last.machine first.progress mid.progress
    last.progress _ _ _ _ mid.due end (Unit {0}) (Unit {0}) answers.0 c.args.keeping.now c.keep.new.keeping c.note.new.self stands
    c.next_untold.ensures.saved answers.1.1 keeps now are progress
    (λ keeps there. subst (λ (n : ℕ). Keeps (decoded o whole) last.machine.saved n c.keep.new.keeping) at
    (c.in_ok-keep.ensures.keeps (decoded o whole)
    (subst (λ (n : ℕ). IsMachineAt (decoded o whole) n (machine_of mid.machine)) (sym at) there)
    (subst (λ (n : ℕ). Keeps (decoded o whole) mid.machine.saved n
    (record c.args.keeping.now { notes = c.note.new.self })) (sym at) keeps)))
    c.in_ok-keep.ensures.still.machine c.in_ok-keep.ensures.still.split)
