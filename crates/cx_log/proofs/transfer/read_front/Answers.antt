use Rattle.std.proofs.Common.{arith, length-take}
use Rattle.std.proofs.lemmas.List.{take_at}
use Rattle.std.proofs.lemmas.Result.{err_from_is_err_and}
use Rattle.cx_codec.proofs.Composing.{refused_as, given_as, as_many}
use Rattle.cx_log.proofs.FieldFaults.{met_same}
use Rattle.cx_log.proofs.transfer.read_front.Goals as goal

pub returns-in_err-take-clause-reads : goal.returns-in_err-take-clause-reads
returns-in_err-take-clause-reads g c told =
    let p = err_from_is_err_and c.from_residual.result c.from_residual.ensures.1 in
    rw (p.1, p.2) (as_many c.args.size (refused_as (met_same _) (c.in_err-take.ensures.reads told))
    (simp length-take (omega arith)))

pub returns-clause-reads : goal.returns-clause-reads
returns-clause-reads g c told =
    as_many c.args.size (given_as (take_at c.take.new.into _ c.args.size
    (omega (arith, length-take c.args.size c.args.buffer.now))) (c.in_ok-take.ensures.reads told))
    (simp length-take (omega arith))
