use Rattle.std.proofs.Common.{refl}
use Rattle.std.proofs.lemmas.Result.{err_from_is_err_and}
use Rattle.cx_tellers.proofs.of_root.OfRootTeller.start.Goals as goal

pub returns-clause-starts : goal.returns-clause-starts
returns-clause-starts g c o whole header memory =
    let told = c.in_ok-teller.ensures.starts in
    record { stands = told.stands; keeps = record { same = refl; keeps = told.keeps } }

pub returns-in_err-teller-clause-starts : goal.returns-in_err-teller-clause-starts
returns-in_err-teller-clause-starts g c o whole header memory =
    let p = err_from_is_err_and c.from_residual.result c.from_residual.ensures.1 in
    rw p.1 c.in_err-teller.ensures.starts
