use Rattle.std.proofs.lemmas.Result.{err_from_is_err_and}
use Rattle.cx_call_alone.specs.Settling.{IsAheadBy}
use Rattle.cx_call_alone.proofs.Answering.{breaks, due_rises, end_is_over, ended, goes_on, refuses}
use Rattle.cx_call_alone.proofs.alone.CallAlone.next.Goals as goal

pub returns-in_err-due-clause-answers : goal.returns-in_err-due-clause-answers
returns-in_err-due-clause-answers g c = λ told input may whole end os stands.
    let p = err_from_is_err_and c.from_residual.result c.from_residual.ensures.1 in
    rw (p.1, p.2) (refuses whole end os c.args.self.now.at stands.s _ c.in_err-due.field-0.0 stands.run
    (c.in_err-due.ensures.settles told input may whole end stands.ahead))

pub returns-in-Ok-None-clause-answers : goal.returns-in-Ok-None-clause-answers
returns-in-Ok-None-clause-answers g c = λ told input may whole end os stands.
    let is = c.in_ok-due.ensures.settles told input may whole end stands.ahead in
    let e = ended whole os c.args.self.now.at stands.s c.go_by.new.standing
    (IsAheadBy whole end c.settle.new.self (g.S.Source.left c.settle.new.source)
    (g.S.Source.given c.settle.new.source) input) c.in_ok-due.due c.in-Ok-None.field-0 stands.run is
    c.in-Ok-None.field-0-is (c.in-Ok-None.ensures.goes stands.s stands.is (due_rises whole c.args.self.now.at _
    c.in_ok-due.due is)) in
    (e.good, (e.gave, record { s = stands.s; is = e.is; run = stands.run; ahead = e.ahead }))

pub returns-in-Ok-Some-clause-answers : goal.returns-in-Ok-Some-clause-answers
returns-in-Ok-Some-clause-answers g c = λ told input may whole end os stands.
    let is = c.in_ok-due.ensures.settles told input may whole end stands.ahead in
    let w = goes_on whole os c.in-Ok-Some.obs c.args.self.now.at stands.s c.go_by.new.standing
    (IsAheadBy whole end c.settle.new.self (g.S.Source.left c.settle.new.source)
    (g.S.Source.given c.settle.new.source) input) c.in_ok-due.due c.in-Ok-Some.field-0 stands.run is
    c.in-Ok-Some.field-0-is (c.in-Ok-Some.ensures.goes stands.s stands.is (due_rises whole c.args.self.now.at _
    c.in_ok-due.due is)) in
    record { s = w.s; is = w.is; run = w.run; ahead = w.ahead }

pub returns-in-Err-Broken-clause-answers : goal.returns-in-Err-Broken-clause-answers
returns-in-Err-Broken-clause-answers g c = λ told input may whole end os stands.
    let is = c.in_ok-due.ensures.settles told input may whole end stands.ahead in
    let b = breaks whole os c.args.self.now.at stands.s c.go_by.new.standing
    (IsAheadBy whole end c.settle.new.self (g.S.Source.left c.settle.new.source)
    (g.S.Source.given c.settle.new.source) input) c.in_ok-due.due c.in-Err-Broken.field-0 stands.run is
    c.in-Err-Broken.field-0-is (c.in-Err-Broken.ensures.goes stands.s stands.is (due_rises whole c.args.self.now.at _
    c.in_ok-due.due is)) in
    (b.bad, (b.gave, b.count))

pub returns-in-Ok-None-clause-ended : goal.returns-in-Ok-None-clause-ended
returns-in-Ok-None-clause-ended g c = λ found.
    end_is_over c.settle.new.self.waiting c.in_ok-due.due (c.in-Ok-None.ensures.over c.in-Ok-None.field-0-is)
    c.in_ok-due.ensures.ended
