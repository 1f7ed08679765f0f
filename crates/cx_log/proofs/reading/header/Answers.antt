use Rattle.std.proofs.lemmas.Result.{err_from_is_err_and}
use Rattle.std.proofs.Common.{refl}
use Rattle.cx_log.specs.Reading.{header_at}
use Rattle.cx_codec.proofs.Composing.{fails, goes, gives}
use Rattle.cx_log.proofs.reading.header.Goals as goal

pub returns-in_err-announced-clause-reads : goal.returns-in_err-announced-clause-reads
unfolding header_at
returns-in_err-announced-clause-reads g c told =
    let p = err_from_is_err_and c.from_residual.result c.from_residual.ensures.1 in
    rw (p.1, p.2) (fails {reader = header_at} _ (λ p. refl) refl (c.in_err-announced.ensures.reads told))

pub returns-in_err-base-clause-reads : goal.returns-in_err-base-clause-reads
unfolding header_at
returns-in_err-base-clause-reads g c told =
    let p = err_from_is_err_and c.from_residual-in_err-base.result c.from_residual-in_err-base.ensures.1 in
    let announced = c.in_ok-announced.ensures.reads told in
    rw (p.1, p.2) (goes {reader = header_at} _ (λ p. refl) announced
    (fails _ (λ p. refl) refl (c.in_err-base.ensures.reads announced.follows.told)))

pub returns-in_err-words-clause-reads : goal.returns-in_err-words-clause-reads
unfolding header_at
returns-in_err-words-clause-reads g c told =
    let p = err_from_is_err_and c.from_residual-in_err-words.result c.from_residual-in_err-words.ensures.1 in
    let announced = c.in_ok-announced.ensures.reads told in
    let base = c.in_ok-base.ensures.reads announced.follows.told in
    rw (p.1, p.2) (goes {reader = header_at} _ (λ p. refl) announced
    (goes _ (λ p. refl) base (fails _ (λ p. refl) refl (c.in_err-words.ensures.reads base.follows.told))))

pub returns-in_err-count-clause-reads : goal.returns-in_err-count-clause-reads
unfolding header_at
returns-in_err-count-clause-reads g c told =
    let p = err_from_is_err_and c.from_residual-in_err-count.result c.from_residual-in_err-count.ensures.1 in
    let announced = c.in_ok-announced.ensures.reads told in
    let base = c.in_ok-base.ensures.reads announced.follows.told in
    let words = c.in_ok-words.ensures.reads base.follows.told in
    rw (p.1, p.2) (goes {reader = header_at} _ (λ p. refl) announced
    (goes _ (λ p. refl) base
    (goes _ (λ p. refl) words (fails _ (λ p. refl) refl (c.in_err-count.ensures.reads words.follows.told)))))

pub returns-clause-reads : goal.returns-clause-reads
unfolding header_at
returns-clause-reads g c told =
    let announced = c.in_ok-announced.ensures.reads told in
    let base = c.in_ok-base.ensures.reads announced.follows.told in
    let words = c.in_ok-words.ensures.reads base.follows.told in
    let count = c.in_ok-count.ensures.reads words.follows.told in
    goes {reader = header_at} _ (λ p. refl) announced
    (goes _ (λ p. refl) base (goes _ (λ p. refl) words (goes _ (λ p. refl) count
    (gives count.follows.told (λ p. rw c.from_fitting_words-start.ensures.state refl)))))
