use Rattle.std.proofs.Common.{length}
use Rattle.std.proofs.lemmas.Result.{err_from_is_err_and}
use Rattle.cx_codec.specs.Varint.{varint}
use Rattle.cx_slices.specs.Stretches.{stretches_of}
use Rattle.cx_slicefmt.specs.Text.{runs_text}
use Rattle.cx_callfmt.proofs.runs.put_runs.Goals as goal

pub returns-in_err-put_varint : goal.returns-in_err-put_varint
returns-in_err-put_varint g c =
    let p = err_from_is_err_and c.from_residual.result c.from_residual.ensures.1 in
    let ss = stretches_of c.args.bytes.now in
    rw (p.1, p.2) (g.met.O.Target.puts_fails (varint (length ss)) (runs_text ss) _ _ _ _ _
    (rw c.run_count.ensures at c.in_err-put_varint.ensures))

pub returns : goal.returns
returns g c =
    let ss = stretches_of c.args.bytes.now in
    g.met.O.Target.puts_on (varint (length ss)) (runs_text ss) _ _ _ _ _ _ _
    (rw c.run_count.ensures at c.in_ok-put_varint.ensures) c.put_all.ensures
