use Rattle.std.proofs.Common.{suc, sym, ◌∙◌}
use Rattle.std.proofs.lemmas.Result.{err_from_is_err_and}
use Rattle.cx_call_alone.specs.Ahead.{place_called}
use Rattle.cx_call_alone.proofs.Midway.{nothing_here, refuse_by, take_by}
use Rattle.cx_call_alone.proofs.ahead.Ahead.take.Goals as goal

pub returns-then-at-self-clause-takes : goal.returns-then-at-self-clause-takes
returns-then-at-self-clause-takes g c = λ told input may whole end most mid.
    nothing_here whole end c.args.at most c.args.self.now.upto c.args.self.now.waiting
    (place_called c.args.self.now.reader (g.S.Source.given c.args.source.now) input)
    (g.S.Source.left c.args.source.now) c.args.step.now mid c.if-at-self.true

pub returns-in_err-upto-clause-takes : goal.returns-in_err-upto-clause-takes
returns-in_err-upto-clause-takes g c = λ told input may whole end most mid.
    let p = err_from_is_err_and c.from_residual.result c.from_residual.ensures.1 in
    rw (p.1, p.2) (refuse_by whole end c.args.at (suc most) c.args.self.now.upto c.args.self.now.waiting c.in-Some.what
    c.args.self.now.reader (place_called c.args.self.now.reader (g.S.Source.given c.args.source.now) input)
    (place_called c.read_record.new.reader (g.S.Source.given c.read_record.new.source) input)
    (g.S.Source.left c.args.source.now) (g.S.Source.left c.read_record.new.source) c.args.step.now _
    c.in_err-upto.field-0.0 (sym c.take.ensures.value ∙ c.in-Some.is) c.requires mid c.if-at-self.false
    (c.in_err-upto.ensures.reads told input may mid.taken.bytes))

pub returns-clause-takes : goal.returns-clause-takes
returns-clause-takes g c = λ told input may whole end most mid.
    take_by whole end c.args.at most c.args.self.now.upto c.in_ok-upto.upto c.args.self.now.waiting c.in-Some.what
    c.in_ok-upto.waiting c.args.self.now.reader
    (place_called c.args.self.now.reader (g.S.Source.given c.args.source.now) input)
    (place_called c.read_record.new.reader (g.S.Source.given c.read_record.new.source) input)
    (g.S.Source.left c.args.source.now) (g.S.Source.left c.read_record.new.source) c.args.step.now c.tell.new.self
    (sym c.take.ensures.value ∙ c.in-Some.is) c.requires mid c.if-at-self.false
    (c.in_ok-upto.ensures.reads told input may mid.taken.bytes) (c.in_ok-upto.ensures.stays told input may)
    c.tell.ensures.told c.tell.ensures.rises
