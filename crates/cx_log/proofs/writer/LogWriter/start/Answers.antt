use Rattle.std.proofs.Common.{refl, ap}
use Rattle.std.proofs.lemmas.Result.{err_from_is_err_and}
use Rattle.cx_codec.specs.Blocks.{Waiting}
use Rattle.cx_codec.proofs.Putting.{starts_on, starts_fails}
use Rattle.cx_log.specs.Engine.{output_of}
use Rattle.cx_log.proofs.writer.LogWriter.start.Goals as goal

pub returns-in_err-put_header-clause-starts : goal.returns-in_err-put_header-clause-starts
returns-in_err-put_header-clause-starts g c =
    let p = err_from_is_err_and c.from_residual-in_err-put_header.result c.from_residual-in_err-put_header.ensures.1 in
    rw (p.1, p.2) (starts_fails output_of _ (ap (λ (w : Waiting). w.bytes) c.in_ok-out.ensures)
    c.in_err-put_header.ensures)

pub returns-clause-starts : goal.returns-clause-starts
returns-clause-starts g c =
    starts_on output_of _ (ap (λ (w : Waiting). w.bytes) c.in_ok-out.ensures) c.in_ok-put_header.ensures refl
