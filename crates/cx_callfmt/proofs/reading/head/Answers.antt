use Rattle.std.proofs.lemmas.Result.{err_from_is_err_and}
use Rattle.std.proofs.Common.{refl}
use Rattle.cx_codec.proofs.Composing.{fails, goes, gives}
use Rattle.cx_callfmt.specs.Beginning.{head_begun_at}
use Rattle.cx_callfmt.proofs.reading.head.Goals as goal

pub returns-in_err-words-clause-reads : goal.returns-in_err-words-clause-reads
unfolding head_begun_at
returns-in_err-words-clause-reads g c told =
    let p = err_from_is_err_and c.from_residual.result c.from_residual.ensures.1 in
    rw (p.1, p.2) (fails _ (λ p. refl) refl (c.in_err-words.ensures.reads told))

pub returns-in_err-runs-clause-reads : goal.returns-in_err-runs-clause-reads
unfolding head_begun_at
returns-in_err-runs-clause-reads g c told =
    let p = err_from_is_err_and c.from_residual-in_err-runs.result c.from_residual-in_err-runs.ensures.1 in
    let words = c.in_ok-words.ensures.reads told in
    rw (p.1, p.2) (goes _ (λ p. refl) words
    (fails _ (λ p. refl) refl (rw c.least_runs-least.ensures at (c.in_err-runs.ensures.reads words.follows.told))))

pub returns-clause-reads : goal.returns-clause-reads
unfolding head_begun_at
returns-clause-reads g c told =
    let words = c.in_ok-words.ensures.reads told in
    let runs = rw c.least_runs-least.ensures at (c.in_ok-runs.ensures.reads words.follows.told) in
    goes _ (λ p. refl) words (goes _ (λ p. refl) runs (gives runs.follows.told (λ p. refl)))
