use Rattle.std.proofs.lemmas.List.{length-map}
use Rattle.std.proofs.lemmas.Result.{err_from_is_err_and}
use Rattle.cx_codec.proofs.Putting.{puts_on, puts_fails}
use Rattle.cx_slicefmt.proofs.stretches.put_run.Goals as goal

pub returns-in_err-put_word : goal.returns-in_err-put_word
returns-in_err-put_word g c =
    let p = err_from_is_err_and c.from_residual.result c.from_residual.ensures.1 in
    rw (p.1, p.2) (puts_fails _ _ c.in_err-put_word.ensures)

pub returns-in_err-put_varint : goal.returns-in_err-put_varint
returns-in_err-put_varint g c =
    let p = err_from_is_err_and c.from_residual-in_err-put_varint.result c.from_residual-in_err-put_varint.ensures.1 in
    rw (p.1, p.2, length-map) (puts_on _ _ c.in_ok-put_word.ensures (puts_fails _ _ c.in_err-put_varint.ensures))
