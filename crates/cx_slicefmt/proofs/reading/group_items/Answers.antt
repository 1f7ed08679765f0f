use Rattle.std.proofs.Common.{refl}
use Rattle.std.proofs.lemmas.Result.{err_from_is_err_and}
use Rattle.cx_codec.proofs.Composing.{fails, goes, gives}
use Rattle.cx_slicefmt.proofs.ItemParts.{items_parts}
use Rattle.cx_slicefmt.proofs.reading.group_items.Goals as goal

pub returns-in_err-words-clause-reads : goal.returns-in_err-words-clause-reads
returns-in_err-words-clause-reads g c told =
    let p = err_from_is_err_and c.from_residual.result c.from_residual.ensures.1 in
    rw (p.1, p.2) (fails _ items_parts refl (c.in_err-words.ensures.reads told))

pub returns-in_err-count-clause-reads : goal.returns-in_err-count-clause-reads
returns-in_err-count-clause-reads g c told =
    let p = err_from_is_err_and c.from_residual-in_err-count.result c.from_residual-in_err-count.ensures.1 in
    let words = c.in_ok-words.ensures.reads told in
    rw (p.1, p.2) (goes _ items_parts words (fails _ (λ p. refl) refl (c.in_err-count.ensures.reads words.follows.told)))

pub returns-in_err-pairs-clause-reads : goal.returns-in_err-pairs-clause-reads
returns-in_err-pairs-clause-reads g c told =
    let p = err_from_is_err_and c.from_residual-in_err-pairs.result c.from_residual-in_err-pairs.ensures.1 in
    let words = c.in_ok-words.ensures.reads told in
    let count = c.in_ok-count.ensures.reads words.follows.told in
    rw (p.1, p.2) (goes _ items_parts words (goes _ (λ p. refl) count
    (fails _ (λ p. refl) refl (c.in_err-pairs.ensures.reads count.follows.told))))

pub returns-in_err-given-clause-reads : goal.returns-in_err-given-clause-reads
returns-in_err-given-clause-reads g c told =
    let p = err_from_is_err_and c.from_residual-in_err-given.result c.from_residual-in_err-given.ensures.1 in
    let words = c.in_ok-words.ensures.reads told in
    let count = c.in_ok-count.ensures.reads words.follows.told in
    let pairs = c.in_ok-pairs.ensures.reads count.follows.told in
    rw (p.1, p.2) (goes _ items_parts words (goes _ (λ p. refl) count (goes _ (λ p. refl) pairs
    (fails _ (λ p. refl) refl (rw c.is_bare-needed.ensures at (c.in_err-given.ensures.reads pairs.follows.told))))))

pub returns-clause-reads : goal.returns-clause-reads
returns-clause-reads g c told =
    let words = c.in_ok-words.ensures.reads told in
    let count = c.in_ok-count.ensures.reads words.follows.told in
    let pairs = c.in_ok-pairs.ensures.reads count.follows.told in
    let given = rw c.is_bare-needed.ensures at (c.in_ok-given.ensures.reads pairs.follows.told) in
    goes _ items_parts words (goes _ (λ p. refl) count (goes _ (λ p. refl) pairs
    (goes _ (λ p. refl) given (gives given.follows.told (λ p. refl)))))
