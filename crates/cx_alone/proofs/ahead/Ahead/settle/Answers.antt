use Rattle.std.proofs.Common.{sym, ◌∙◌}
use Rattle.std.proofs.lemmas.Result.{err_from_is_err_and}
use Rattle.cx_alone.specs.Ahead.{place_of}
use Rattle.cx_alone.proofs.Entries.{between}
use Rattle.cx_alone.proofs.Reading.{step_settled, step_stopped}
use Rattle.cx_alone.proofs.ahead.Ahead.settle.Goals as goal

pub returns-then-at-self-clause-settles : goal.returns-then-at-self-clause-settles
returns-then-at-self-clause-settles g c = λ told input may whole end stands.
    let b = between whole end c.args.at c.args.self.now.upto c.args.self.now.waiting
    (place_of c.args.self.now.reader (g.S.Source.given c.args.source.now) input) (g.S.Source.left c.args.source.now)
    stands c.if-at-self.true in
    (b.none, b.within, b.ahead)

pub returns-in_err-upto-clause-settles : goal.returns-in_err-upto-clause-settles
returns-in_err-upto-clause-settles g c = λ told input may whole end stands.
    let p = err_from_is_err_and c.from_residual.result c.from_residual.ensures.1 in
    rw (p.1, p.2) (step_stopped whole end c.args.at c.args.self.now.upto c.in-Some.items c.args.self.now.waiting
    c.args.self.now.reader (place_of c.args.self.now.reader (g.S.Source.given c.args.source.now) input)
    (place_of c.read_entry.new.reader (g.S.Source.given c.read_entry.new.source) input)
    (g.S.Source.left c.args.source.now) (g.S.Source.left c.read_entry.new.source) _ c.in_err-upto.field-0.0 (sym c.take.ensures.value ∙ c.in-Some.is) c.requires
    c.if-at-self.false stands (c.in_err-upto.ensures.reads told input may stands.bytes))

pub returns-clause-settles : goal.returns-clause-settles
returns-clause-settles g c = λ told input may whole end stands.
    let h = step_settled whole end c.args.at c.args.self.now.upto c.in_ok-upto.upto c.in-Some.items
    c.args.self.now.waiting c.in_ok-upto.waiting c.args.self.now.reader
    (place_of c.args.self.now.reader (g.S.Source.given c.args.source.now) input)
    (place_of c.read_entry.new.reader (g.S.Source.given c.read_entry.new.source) input)
    (g.S.Source.left c.args.source.now) (g.S.Source.left c.read_entry.new.source)
    (sym c.take.ensures.value ∙ c.in-Some.is) c.requires c.if-at-self.false stands
    (c.in_ok-upto.ensures.reads told input may stands.bytes) (c.in_ok-upto.ensures.stays told input may) in
    (h.are, h.within, h.ahead)
