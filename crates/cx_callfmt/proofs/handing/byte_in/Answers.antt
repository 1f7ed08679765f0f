use Rattle.std.proofs.lemmas.Result.{err_from_is_err_and}
use Rattle.std.proofs.Common.{refl}
use Rattle.cx_codec.proofs.Composing.{fails, goes, gives}
use Rattle.cx_slicefmt.proofs.FieldFaults.{met_same}
use Rattle.cx_callfmt.specs.Handing.{next_in}
use Rattle.cx_callfmt.proofs.handing.byte_in.Goals as goal

pub returns-in_err-byte-clause-reads : goal.returns-in_err-byte-clause-reads
unfolding next_in
returns-in_err-byte-clause-reads g c told =
    let p = err_from_is_err_and c.from_residual.result c.from_residual.ensures.1 in
    rw (p.1, p.2) (fails _ (λ p. refl) (met_same _) (c.in_err-byte.ensures.reads told))

pub returns-clause-reads : goal.returns-clause-reads
unfolding next_in
returns-clause-reads g c told =
    let first = c.in_ok-byte.ensures.reads told in
    goes _ (λ p. refl) first (gives first.follows.told (λ p. refl))
