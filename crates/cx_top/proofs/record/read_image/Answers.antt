use Rattle.std.proofs.lemmas.Result.{err_from_is_err_and}
use Rattle.cx_telling.proofs.Consuming.{consumes_all, consumes_some, gave_of_follows}
use Rattle.cx_commands.proofs.Recordings.{first_refused, image_fault_is_early}
use Rattle.cx_top.proofs.record.read_image.Goals as goal

pub returns-in_err-image-clause-image : goal.returns-in_err-image-clause-image
returns-in_err-image-clause-image g c told input begins =
    let p = err_from_is_err_and c.from_residual-in_err-image.result c.from_residual-in_err-image.ensures.1 in
    rw (p.1, p.2) (first_refused c.in_ok-bytes.bytes (g.S.Source.left c.args.source.now)
    (g.S.Source.given c.args.source.now) input _ _ c.in_err-image.field-0.0 c.in_ok-bytes.ensures
    ((c.in_err-image.ensures.image told).reads input begins))

pub returns-clause-image : goal.returns-clause-image
returns-clause-image g c told input begins =
    rw c.in_ok-bytes.ensures at ((c.in_ok-image.ensures.image told).reads input begins)

pub returns-in_err-image-clause-consumes : goal.returns-in_err-image-clause-consumes
returns-in_err-image-clause-consumes g c told =
    let p = err_from_is_err_and c.from_residual-in_err-image.result c.from_residual-in_err-image.ensures.1 in
    rw (p.1, p.2)
    (consumes_some (gave_of_follows (c.in_err-image.ensures.image told).follows)
    (image_fault_is_early c.in_err-image.field-0.0))

pub returns-clause-consumes : goal.returns-clause-consumes
returns-clause-consumes g c told =
    consumes_all (gave_of_follows (c.in_ok-image.ensures.image told).follows) (c.in_ok-image.ensures.spent told)
