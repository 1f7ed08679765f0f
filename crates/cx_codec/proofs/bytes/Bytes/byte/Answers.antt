use Rattle.std.proofs.Common.{refl}
use Rattle.std.proofs.lemmas.Result.{err_from_is_err_and}
use Rattle.cx_codec.specs.Fields.{byte_at}
use Rattle.cx_codec.proofs.Composing.{fails, goes, gives, asks_fails, asks_then, done_same}
use Rattle.cx_codec.proofs.bytes.Bytes.byte.Goals as goal

pub returns-in_err-take-clause-reads : goal.returns-in_err-take-clause-reads
unfolding byte_at
returns-in_err-take-clause-reads g c told =
    let p = err_from_is_err_and c.from_residual.result c.from_residual.ensures.1 in
    rw (p.1, p.2) (fails {reader = byte_at} _ (λ p. refl) refl (c.in_err-take.ensures.reads told))

pub returns-in_err-take-clause-asks : goal.returns-in_err-take-clause-asks
unfolding byte_at
returns-in_err-take-clause-asks g c =
    let p = err_from_is_err_and c.from_residual.result c.from_residual.ensures.1 in
    rw (p.1, p.2) (asks_fails {reader = byte_at} _ (λ p. refl) refl c.in_err-take.ensures.asks)

pub returns-clause-reads : goal.returns-clause-reads
unfolding byte_at
returns-clause-reads g c told =
    let first = c.in_ok-take.ensures.reads told in
    goes {reader = byte_at} _ (λ p. refl) first (gives first.follows.told (λ p. refl))

pub returns-clause-asks : goal.returns-clause-asks
unfolding byte_at
returns-clause-asks g c =
    asks_then {reader = byte_at} _ (λ p. refl) c.in_ok-take.ensures.asks (λ y after read. done_same _ y _ after read)
    (λ o bad. cc)
