use Rattle.std.proofs.Common.{[], ◌∷◌}
use Rattle.std.proofs.lemmas.Result.{err_from_is_err_and}
use Rattle.cx_codec.proofs.Putting.{puts_on, puts_fails}
use Rattle.cx_codec.specs.Varint.{varint}
use Rattle.cx_slicefmt.proofs.text.put_entry.Goals as goal

pub returns-in_err-put_byte : goal.returns-in_err-put_byte
returns-in_err-put_byte g c =
    let p = err_from_is_err_and c.from_residual.result c.from_residual.ensures.1 in
    rw (p.1, p.2) (puts_fails (c.args.tag ∷ []) (varint c.args.distance) c.in_err-put_byte.ensures)

pub returns : goal.returns
returns g c = puts_on (c.args.tag ∷ []) (varint c.args.distance) c.in_ok-put_byte.ensures c.put_varint.ensures
