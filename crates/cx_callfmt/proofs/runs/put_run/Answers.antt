use Rattle.std.proofs.lemmas.List.{length-map}
use Rattle.std.proofs.lemmas.Result.{err_from_is_err_and}
use Rattle.cx_callfmt.proofs.runs.put_run.Goals as goal

pub returns-in_err-put_word : goal.returns-in_err-put_word
returns-in_err-put_word g c =
    let p = err_from_is_err_and c.from_residual.result c.from_residual.ensures.1 in
    rw (p.1, p.2) (g.met.O.Target.puts_fails _ _ _ _ _ _ _ c.in_err-put_word.ensures)

pub returns-in_err-put_varint : goal.returns-in_err-put_varint
returns-in_err-put_varint g c =
    let p = err_from_is_err_and c.from_residual-in_err-put_varint.result c.from_residual-in_err-put_varint.ensures.1 in
    rw (p.1, p.2, length-map) (g.met.O.Target.puts_on _ _ _ _ _ _ _ _ _ c.in_ok-put_word.ensures
    (g.met.O.Target.puts_fails _ _ _ _ _ _ _ c.in_err-put_varint.ensures))

pub returns : goal.returns
returns g c = rw length-map (g.met.O.Target.puts_on _ _ _ _ _ _ _ _ _ c.in_ok-put_word.ensures
    (g.met.O.Target.puts_on _ _ _ _ _ _ _ _ _ c.in_ok-put_varint.ensures c.put_contents.ensures))
