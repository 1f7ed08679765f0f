use Rattle.std.proofs.lemmas.Result.{err_from_is_err_and}
use Rattle.cx_codec.specs.Varint.{varint}
use Rattle.cx_codec.proofs.Putting.{puts_on, puts_fails}
use Rattle.cx_log.proofs.text.put_page.Goals as goal

pub returns-in_err-put_varint : goal.returns-in_err-put_varint
returns-in_err-put_varint g c =
    let p = err_from_is_err_and c.from_residual.result c.from_residual.ensures.1 in
    rw (p.1, p.2) (puts_fails (varint c.args.number) c.args.bytes.now c.in_err-put_varint.ensures)

pub returns : goal.returns
returns g c =
    puts_on (varint c.args.number) c.args.bytes.now c.in_ok-put_varint.ensures c.put_bytes.ensures
