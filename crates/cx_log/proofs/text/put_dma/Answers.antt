use Rattle.std.proofs.lemmas.Result.{err_from_is_err_and}
use Rattle.std.proofs.Common.{◌++◌, length}
use Rattle.std.specs.Int.{w32, to_le_bytes}
use Rattle.cx_codec.specs.Varint.{varint}
use Rattle.cx_codec.proofs.Putting.{puts_on, puts_fails}
use Rattle.cx_log.proofs.text.put_dma.Goals as goal

pub returns-in_err-put_word : goal.returns-in_err-put_word
returns-in_err-put_word g c =
    let p = err_from_is_err_and c.from_residual.result c.from_residual.ensures.1 in
    rw (p.1, p.2) (puts_fails (to_le_bytes w32 c.args.place) (varint (length c.args.bytes.now) ++ c.args.bytes.now)
    c.in_err-put_word.ensures)

pub returns-in_err-put_varint : goal.returns-in_err-put_varint
returns-in_err-put_varint g c =
    let p = err_from_is_err_and c.from_residual-in_err-put_varint.result c.from_residual-in_err-put_varint.ensures.1 in
    rw (p.1, p.2) (puts_on (to_le_bytes w32 c.args.place) _ c.in_ok-put_word.ensures
    (puts_fails (varint (length c.args.bytes.now)) c.args.bytes.now c.in_err-put_varint.ensures))

pub returns : goal.returns
returns g c =
    puts_on (to_le_bytes w32 c.args.place) _ c.in_ok-put_word.ensures (puts_on (varint (length c.args.bytes.now))
    c.args.bytes.now c.in_ok-put_varint.ensures c.put_bytes.ensures)
