use Rattle.std.proofs.lemmas.Result.{err_from_is_err_and}
use Rattle.std.proofs.Common.{refl}
use Rattle.cx_codec.proofs.Composing.{given_as, refused_as}
use Rattle.cx_callfmt.proofs.reader.CallReader.next_byte.Goals as goal

pub returns-in_err-next_byte-clause-reads : goal.returns-in_err-next_byte-clause-reads
returns-in_err-next_byte-clause-reads g c told =
    let p = err_from_is_err_and c.from_residual.result c.from_residual.ensures.1 in
    rw (← c.self.view_is, p.1, p.2) (refused_as refl (c.in_err-next_byte.ensures.reads told))

pub returns-in-None-clause-reads : goal.returns-in-None-clause-reads
returns-in-None-clause-reads g c told =
    rw (← c.self.view_is) (given_as refl (rw c.in-None.is at (c.in_ok-next_byte.ensures.reads told)))

pub returns-in-Some-clause-reads : goal.returns-in-Some-clause-reads
returns-in-Some-clause-reads g c told =
    rw (← c.self.view_is) (given_as refl (rw c.in-Some.is at (c.in_ok-next_byte.ensures.reads told)))

pub returns-in-None-clause-none : goal.returns-in-None-clause-none
returns-in-None-clause-none g c same =
    let none = rw c.in-None.is at c.in_ok-next_byte.ensures.none in record { size = none.0; runs = none.1 }
