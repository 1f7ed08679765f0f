use Rattle.std.proofs.lemmas.Result.{err_from_is_err_and}
use Rattle.std.proofs.Common.{refl}
use Rattle.cx_codec.proofs.Composing.{gives}
use Rattle.cx_slicefmt.proofs.FieldFaults.{met_same}
use Rattle.cx_slicefmt.proofs.WordLoop.{word_given, word_missing}
use Rattle.cx_callfmt.proofs.fields.word_if.Goals as goal

pub returns-then-bit-eq0-clause-reads : goal.returns-then-bit-eq0-clause-reads
returns-then-bit-eq0-clause-reads g c told = rw c.if-bit-eq0.true (gives told (λ p. refl))

pub returns-in_err-word-clause-reads : goal.returns-in_err-word-clause-reads
returns-in_err-word-clause-reads g c told =
    let p = err_from_is_err_and c.from_residual.result c.from_residual.ensures.1 in
    rw (p.1, p.2) (word_missing _ c.if-bit-eq0.false (met_same _) (c.in_err-word.ensures.reads told))

pub returns-clause-reads : goal.returns-clause-reads
returns-clause-reads g c told = word_given _ c.if-bit-eq0.false (c.in_ok-word.ensures.reads told)
