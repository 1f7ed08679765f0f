use Rattle.std.proofs.Common.{refl, ap}
use Rattle.std.proofs.lemmas.Result.{err_from_is_err_and}
use Rattle.cx_codec.specs.Blocks.{Waiting}
use Rattle.cx_codec.proofs.Putting.{starts_on, starts_fails}
use Rattle.cx_callfmt.specs.Writing.{call_output_of}
use Rattle.cx_callfmt.proofs.writer.CallWriter.start.Goals as goal

pub returns-in_err-put_bytes-clause-starts : goal.returns-in_err-put_bytes-clause-starts
returns-in_err-put_bytes-clause-starts g c =
    let p = err_from_is_err_and c.from_residual-in_err-put_bytes.result c.from_residual-in_err-put_bytes.ensures.1 in
    rw (p.1, p.2) (starts_fails call_output_of _ (ap (λ (w : Waiting). w.bytes) c.in_ok-out.ensures)
    c.in_err-put_bytes.ensures)

pub returns-clause-starts : goal.returns-clause-starts
returns-clause-starts g c =
    starts_on call_output_of _ (ap (λ (w : Waiting). w.bytes) c.in_ok-out.ensures) c.in_ok-put_bytes.ensures refl
