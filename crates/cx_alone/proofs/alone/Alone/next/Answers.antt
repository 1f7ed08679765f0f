use Rattle.std.proofs.lemmas.Result.{err_from_is_err_and}
use Rattle.cx_program.specs.Knowing.{known_by}
use Rattle.cx_alone.specs.Settling.{IsAheadBy}
use Rattle.cx_alone.specs.Steps.{handed}
use Rattle.cx_alone.proofs.Answering.{breaks, end_is_due, ended, goes_on, refuses}
use Rattle.cx_alone.proofs.alone.Alone.next.Goals as goal

pub returns-in_err-due-clause-answers : goal.returns-in_err-due-clause-answers
returns-in_err-due-clause-answers g c = λ told input may whole end os stands.
    let p = err_from_is_err_and c.from_residual.result c.from_residual.ensures.1 in
    rw (p.1, p.2) (refuses whole end os c.args.self.now.at (known_by c.args.self.now.standing) _ c.in_err-due.field-0.0
    stands.run (c.in_err-due.ensures.settles told input may whole end stands.ahead))

pub returns-in-Ok-None-clause-answers : goal.returns-in-Ok-None-clause-answers
returns-in-Ok-None-clause-answers g c = λ told input may whole end os stands.
    let e = ended whole os c.args.self.now.at (known_by c.args.self.now.standing) (known_by c.go_by.new.standing)
    (IsAheadBy whole end c.settle.new.self (g.S.Source.left c.settle.new.source)
    (g.S.Source.given c.settle.new.source) input) (handed c.in_ok-due.due) c.in-Ok-None.field-0 stands.run
    (c.in_ok-due.ensures.settles told input may whole end stands.ahead) c.in-Ok-None.field-0-is c.in-Ok-None.ensures.goes in
    (e.good, (e.gave, record { run = e.run; ahead = e.ahead }))

pub returns-in-Ok-Some-clause-answers : goal.returns-in-Ok-Some-clause-answers
returns-in-Ok-Some-clause-answers g c = λ told input may whole end os stands.
    let w = goes_on whole os c.in-Ok-Some.obs c.args.self.now.at (known_by c.args.self.now.standing)
    (known_by c.go_by.new.standing)
    (IsAheadBy whole end c.settle.new.self (g.S.Source.left c.settle.new.source)
    (g.S.Source.given c.settle.new.source) input) (handed c.in_ok-due.due) c.in-Ok-Some.field-0 stands.run
    (c.in_ok-due.ensures.settles told input may whole end stands.ahead) c.in-Ok-Some.field-0-is c.in-Ok-Some.ensures.goes in
    record { run = w.run; ahead = w.ahead }

pub returns-in-Err-Broken-clause-answers : goal.returns-in-Err-Broken-clause-answers
returns-in-Err-Broken-clause-answers g c = λ told input may whole end os stands.
    let b = breaks whole os c.args.self.now.at (known_by c.args.self.now.standing) (known_by c.go_by.new.standing)
    (IsAheadBy whole end c.settle.new.self (g.S.Source.left c.settle.new.source)
    (g.S.Source.given c.settle.new.source) input) (handed c.in_ok-due.due) c.in-Err-Broken.field-0 stands.run
    (c.in_ok-due.ensures.settles told input may whole end stands.ahead) c.in-Err-Broken.field-0-is
    c.in-Err-Broken.ensures.goes in
    (b.bad, (b.gave, b.count))

pub returns-in-Ok-None-clause-ended : goal.returns-in-Ok-None-clause-ended
returns-in-Ok-None-clause-ended g c = λ found.
    c.in_ok-due.ensures.ended (end_is_due (known_by c.args.self.now.standing) (known_by c.go_by.new.standing)
    (handed c.in_ok-due.due) c.in-Ok-None.field-0 c.in-Ok-None.field-0-is c.in-Ok-None.ensures.goes)
