use Rattle.std.proofs.lemmas.Result.{err_from_is_err_and}
use Rattle.std.proofs.Common.{[], ◌∷◌}
use Rattle.cx_codec.specs.Varint.{varint}
use Rattle.cx_log.specs.Kind.{tag_of}
use Rattle.cx_codec.proofs.Putting.{puts_on, puts_fails}
use Rattle.cx_log.proofs.text.put_start.Goals as goal

pub returns-in_err-put_byte : goal.returns-in_err-put_byte
returns-in_err-put_byte g c =
    let p = err_from_is_err_and c.from_residual.result c.from_residual.ensures.1 in
    rw (p.1, p.2) (puts_fails (tag_of c.args.kind ∷ []) (varint c.args.distance)
    (rw c.tag.ensures at c.in_err-put_byte.ensures))

pub returns : goal.returns
returns g c =
    puts_on (tag_of c.args.kind ∷ []) (varint c.args.distance) (rw c.tag.ensures at c.in_ok-put_byte.ensures)
    c.put_varint.ensures
