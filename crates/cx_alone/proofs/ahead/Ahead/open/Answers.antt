use Rattle.std.proofs.lemmas.Result.{err_from_is_err_and}
use Rattle.cx_alone.specs.Ahead.{place_of}
use Rattle.cx_alone.proofs.Reading.{start_refused}
use Rattle.cx_alone.proofs.ahead.Ahead.open.Goals as goal

pub returns-in_err-upto-clause-opens : goal.returns-in_err-upto-clause-opens
returns-in_err-upto-clause-opens g c = λ told input may are.
    let p = err_from_is_err_and c.from_residual.result c.from_residual.ensures.1 in
    rw (p.1, p.2) (start_refused c.args.bytes c.open-reader.result (g.S.Source.given c.args.source.now) input
    (place_of c.read_entry.new.reader (g.S.Source.given c.read_entry.new.source) input)
    (g.S.Source.left c.read_entry.new.source) _ c.in_err-upto.field-0.0 c.open-reader.ensures
    (c.in_err-upto.ensures.reads told input may) are)
