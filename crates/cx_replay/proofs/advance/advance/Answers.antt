use Rattle.std.proofs.Common.{◌≡◌, ap, sym, ◌∙◌}
use Rattle.std.proofs.lemmas.Result.{err_from_is_err_and}
use Rattle.cx_hart.specs.Whole.{machine_of}
use Rattle.cx_map.specs.Map.{size_of_pages}
use Rattle.cx_replay.proofs.Answering.{answers_broken, answers_end, answers_fault, answers_step}
use Rattle.cx_replay.proofs.advance.advance.Goals as goal

pub returns-in_err-settle_next-clause-answers : goal.returns-in_err-settle_next-clause-answers
returns-in_err-settle_next-clause-answers g c told input begins end o whole given stands =
    let p = err_from_is_err_and c.from_residual.result c.from_residual.ensures.1 in
    rw (p.1, p.2) (answers_fault c.args.machine.now c.settle_next.new.progress
    (g.R.Records.seen c.settle_next.new.records).bytes
    (g.R.Records.has c.settle_next.new.records (g.S.Source.given c.settle_next.new.source) input end)
    c.settle_next.new.due end _ _ c.in_err-settle_next.field-0.0
    stands c.settle_next.ensures.at (c.in_err-settle_next.ensures.settles told input begins end whole stands.read))

pub returns-then-not-branch-clause-answers : goal.returns-then-not-branch-clause-answers
returns-then-not-branch-clause-answers g c told input begins end o whole given stands =
    let sound = rw c.if-not-branch.true at c.in_ok-settle_next.ensures.sound in
    let settles = rw c.if-not-branch.true at (c.in_ok-settle_next.ensures.settles told input begins end whole
    stands.read) in
    answers_end c.settle_next.new.progress (g.R.Records.seen c.settle_next.new.records).bytes
    (g.R.Records.has c.settle_next.new.records (g.S.Source.given c.settle_next.new.source) input end)
    c.settle_next.new.due end _
    (input ≡ g.S.Source.given c.settle_next.new.source) stands sound.still sound.bytes settles

pub returns-then-not-branch-2-clause-answers : goal.returns-then-not-branch-2-clause-answers
returns-then-not-branch-2-clause-answers g c told input begins end o whole given stands =
    let settled = rw c.if-not-branch.false at (c.in_ok-settle_next.ensures.settles told input begins end whole
    stands.read) in
    let stops = rw c.if-not-branch-2.true at c.in_ok-take_step.ensures.step in
    answers_broken c.take_step.new.machine c.settle_next.new.progress end (Unit {0}) (Unit {0}) stands settled
    c.settle_next.ensures.at stops

pub pass-requires : goal.pass-requires
pass-requires g c =
    let ready = rw c.if-not-branch.false at c.in_ok-settle_next.ensures.sound in
    ready.within

pub returns-clause-answers : goal.returns-clause-answers
returns-clause-answers g c told input begins end o whole given stands =
    let settled = rw c.if-not-branch.false at (c.in_ok-settle_next.ensures.settles told input begins end whole
    stands.read) in
    let goes = rw c.if-not-branch-2.false at c.in_ok-take_step.ensures.step in
    rw c.pass.ensures (
      goes.0,
      (
        goes.1.1,
        answers_step c.take_step.new.machine goes.0 c.settle_next.new.progress end
            (Unit {0}) (Unit {0}) stands settled
            c.settle_next.ensures.at c.take_step.ensures.split goes.1.0,
      ),
    )

pub returns-clause-taken : goal.returns-clause-taken
returns-clause-taken g c =
    let goes = rw c.if-not-branch-2.false at c.in_ok-take_step.ensures.step in
    let ready = rw c.if-not-branch.false at c.in_ok-settle_next.ensures.sound in (
      goes.0,
      (
        goes.1.1,
        record {
          split = c.args.machine.now.split;
          pages = (g.R.Records.seen c.settle_next.new.records).pages;
          machine = machine_of c.args.machine.now;
          due = c.settle_next.new.due;
          next = machine_of c.take_step.new.machine;
          keeps = c.keeps_rules.ensures (g.R.Records.seen c.settle_next.new.records).pages
              (c.requires.size ∙ ap size_of_pages (sym c.settle_next.ensures.pages));
          fits = ready.handed;
          goes = goes.1.0;
        },
      ),
    )
