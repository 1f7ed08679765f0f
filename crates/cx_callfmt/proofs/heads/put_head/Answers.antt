use Rattle.std.proofs.lemmas.Result.{err_from_is_err_and}
use Rattle.cx_slices.specs.Stretches.{stretches_of}
use Rattle.cx_slicefmt.specs.Text.{counted_text, head_text, masked_text}
use Rattle.cx_callfmt.proofs.heads.put_head.Goals as goal

pub returns-in_err-put_masked : goal.returns-in_err-put_masked
unfolding head_text
returns-in_err-put_masked g c =
    let p = err_from_is_err_and c.from_residual.result c.from_residual.ensures.1 in
    rw (p.1, p.2) (g.met.O.Target.puts_fails (masked_text c.args.words.now)
    (counted_text (stretches_of c.args.bytes.now)) _ _ _ _ _ c.in_err-put_masked.ensures)

pub returns : goal.returns
unfolding head_text
returns g c = g.met.O.Target.puts_on (masked_text c.args.words.now) (counted_text (stretches_of c.args.bytes.now))
    _ _ _ _ _ _ _ c.in_ok-put_masked.ensures c.put_runs.ensures
