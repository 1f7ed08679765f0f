use Rattle.std.proofs.Common.{[], ◌∷◌}
use Rattle.std.proofs.lemmas.Result.{err_from_is_err_and}
use Rattle.cx_codec.specs.Varint.{varint}
use Rattle.cx_callfmt.proofs.records.put_entry.Goals as goal

pub returns-in_err-put_byte : goal.returns-in_err-put_byte
returns-in_err-put_byte g c =
    let p = err_from_is_err_and c.from_residual.result c.from_residual.ensures.1 in
    rw (p.1, p.2) (g.met.O.Target.puts_fails (c.args.tag ∷ []) (varint c.args.distance) _ _ _ _ _
    c.in_err-put_byte.ensures)

pub returns : goal.returns
returns g c = g.met.O.Target.puts_on (c.args.tag ∷ []) (varint c.args.distance) _ _ _ _ _ _ _
    c.in_ok-put_byte.ensures c.put_varint.ensures
