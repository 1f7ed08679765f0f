use Rattle.std.proofs.Common.{sym, ◌∙◌}
use Rattle.std.proofs.lemmas.Result.{err_from_is_err_and}
use Rattle.cx_alone.proofs.Inputs.{may_be_before}
use Rattle.cx_call_alone.specs.Ahead.{place_called}
use Rattle.cx_call_alone.proofs.Midway.{end_due, not_over, over_none, started_by, step_settled}
use Rattle.cx_call_alone.proofs.ahead.Ahead.settle.Goals as goal

pub returns-then-is_over-clause-settles : goal.returns-then-is_over-clause-settles
returns-then-is_over-clause-settles g c = λ told input may whole end stands.
    end_due whole end c.args.at c.args.self.now.upto c.args.self.now.waiting
    (place_called c.args.self.now.reader (g.S.Source.given c.args.source.now) input)
    (g.S.Source.left c.args.source.now) (sym c.is_over.ensures ∙ c.if-is_over.true) stands

pub returns-then-is_over-clause-ended : goal.returns-then-is_over-clause-ended
returns-then-is_over-clause-ended g c =
    over_none c.args.at c.args.self.now.upto c.args.self.now.waiting (sym c.is_over.ensures ∙ c.if-is_over.true)

pub returns-in_err-take-clause-settles : goal.returns-in_err-take-clause-settles
returns-in_err-take-clause-settles g c = λ told input may whole end stands.
    let p = err_from_is_err_and c.from_residual.result c.from_residual.ensures.1 in
    let start = started_by whole end c.args.at c.args.self.now.upto c.args.self.now.waiting
    (place_called c.args.self.now.reader (g.S.Source.given c.args.source.now) input)
    (g.S.Source.left c.args.source.now) c.none-step.result stands c.none-step.ensures.none c.none-step.ensures.rises
    (not_over c.args.at c.args.self.now.upto c.args.self.now.waiting (sym c.is_over.ensures ∙ c.if-is_over.false)) in
    rw (p.1, p.2) (c.in_err-take.ensures.takes told input may whole end 2 start)

pub returns-in_err-take-2-clause-settles : goal.returns-in_err-take-2-clause-settles
returns-in_err-take-2-clause-settles g c = λ told input may whole end stands.
    let p = err_from_is_err_and c.from_residual-in_err-take-2.result c.from_residual-in_err-take-2.ensures.1 in
    let start = started_by whole end c.args.at c.args.self.now.upto c.args.self.now.waiting
    (place_called c.args.self.now.reader (g.S.Source.given c.args.source.now) input)
    (g.S.Source.left c.args.source.now) c.none-step.result stands c.none-step.ensures.none c.none-step.ensures.rises
    (not_over c.args.at c.args.self.now.upto c.args.self.now.waiting (sym c.is_over.ensures ∙ c.if-is_over.false)) in
    let gave = c.in_ok-take.ensures.follows told in
    let may1 = may_be_before (g.S.Source.left c.take.new.source) (g.S.Source.left c.take-2.new.source)
    (g.S.Source.given c.take.new.source) (g.S.Source.given c.take-2.new.source) input
    (c.in_err-take-2.ensures.follows gave.told) may in
    rw (p.1, p.2) (c.in_err-take-2.ensures.takes gave.told input may whole end 1
    (c.in_ok-take.ensures.takes told input may1 whole end 2 start))

pub returns-in_err-take-3-clause-settles : goal.returns-in_err-take-3-clause-settles
returns-in_err-take-3-clause-settles g c = λ told input may whole end stands.
    let p = err_from_is_err_and c.from_residual-in_err-take-3.result c.from_residual-in_err-take-3.ensures.1 in
    let start = started_by whole end c.args.at c.args.self.now.upto c.args.self.now.waiting
    (place_called c.args.self.now.reader (g.S.Source.given c.args.source.now) input)
    (g.S.Source.left c.args.source.now) c.none-step.result stands c.none-step.ensures.none c.none-step.ensures.rises
    (not_over c.args.at c.args.self.now.upto c.args.self.now.waiting (sym c.is_over.ensures ∙ c.if-is_over.false)) in
    let gave = c.in_ok-take.ensures.follows told in
    let gave2 = c.in_ok-take-2.ensures.follows gave.told in
    let may2 = may_be_before (g.S.Source.left c.take-2.new.source) (g.S.Source.left c.take-3.new.source)
    (g.S.Source.given c.take-2.new.source) (g.S.Source.given c.take-3.new.source) input
    (c.in_err-take-3.ensures.follows gave2.told) may in
    let may1 = may_be_before (g.S.Source.left c.take.new.source) (g.S.Source.left c.take-2.new.source)
    (g.S.Source.given c.take.new.source) (g.S.Source.given c.take-2.new.source) input gave2 may2 in
    rw (p.1, p.2) (c.in_err-take-3.ensures.takes gave2.told input may whole end 0
    (c.in_ok-take-2.ensures.takes gave.told input may2 whole end 1
    (c.in_ok-take.ensures.takes told input may1 whole end 2 start)))

pub returns-clause-settles : goal.returns-clause-settles
returns-clause-settles g c = λ told input may whole end stands.
    let start = started_by whole end c.args.at c.args.self.now.upto c.args.self.now.waiting
    (place_called c.args.self.now.reader (g.S.Source.given c.args.source.now) input)
    (g.S.Source.left c.args.source.now) c.none-step.result stands c.none-step.ensures.none c.none-step.ensures.rises
    (not_over c.args.at c.args.self.now.upto c.args.self.now.waiting (sym c.is_over.ensures ∙ c.if-is_over.false)) in
    let gave = c.in_ok-take.ensures.follows told in
    let gave2 = c.in_ok-take-2.ensures.follows gave.told in
    let may2 = may_be_before (g.S.Source.left c.take-2.new.source) (g.S.Source.left c.take-3.new.source)
    (g.S.Source.given c.take-2.new.source) (g.S.Source.given c.take-3.new.source) input
    (c.in_ok-take-3.ensures.follows gave2.told) may in
    let may1 = may_be_before (g.S.Source.left c.take.new.source) (g.S.Source.left c.take-2.new.source)
    (g.S.Source.given c.take.new.source) (g.S.Source.given c.take-2.new.source) input gave2 may2 in
    step_settled whole end c.args.at c.take-3.new.self.upto c.take-3.new.self.waiting
    (place_called c.take-3.new.self.reader (g.S.Source.given c.take-3.new.source) input)
    (g.S.Source.left c.take-3.new.source) c.take-3.new.step
    (c.in_ok-take-3.ensures.takes gave2.told input may whole end 0
    (c.in_ok-take-2.ensures.takes gave.told input may2 whole end 1
    (c.in_ok-take.ensures.takes told input may1 whole end 2 start)))
