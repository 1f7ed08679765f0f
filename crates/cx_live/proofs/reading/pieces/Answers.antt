use Rattle.std.proofs.lemmas.Result.{err_from_is_err_and}
use Rattle.std.proofs.Common.{refl, ◌∙◌}
use Rattle.std.proofs.Math.Nat.{mul-mod_left}
use Rattle.cx_codec.proofs.Composing.{fails, given_as, goes, refused_as}
use Rattle.cx_live.specs.Reading.{pieces_at}
use Rattle.cx_live.proofs.reading.pieces.Goals as goal

pub returns-in_err-count-clause-reads : goal.returns-in_err-count-clause-reads
unfolding pieces_at
returns-in_err-count-clause-reads g c told =
    let p = err_from_is_err_and c.from_residual.result c.from_residual.ensures.1 in
    rw (p.1, p.2) (fails {reader = pieces_at c.args.most c.args.size} _ (λ p. refl) refl
    (c.in_err-count.ensures.reads told))

pub returns-in_err-take-clause-reads : goal.returns-in_err-take-clause-reads
unfolding pieces_at
returns-in_err-take-clause-reads g c told =
    let p = err_from_is_err_and c.from_residual-in_err-take.result c.from_residual-in_err-take.ensures.1 in
    let count = c.in_ok-count.ensures.reads told in
    let bytes = rw c.in_ok-pieces.ensures at (c.in_err-take.ensures.reads count.follows.told) in
    rw (p.1, p.2) (goes {reader = pieces_at c.args.most c.args.size} _ (λ p. refl) count (refused_as refl bytes))

pub returns-clause-reads : goal.returns-clause-reads
unfolding pieces_at
returns-clause-reads g c told =
    let count = c.in_ok-count.ensures.reads told in
    let bytes = rw c.in_ok-pieces.ensures at (c.in_ok-take.ensures.reads count.follows.told) in
    goes {reader = pieces_at c.args.most c.args.size} _ (λ p. refl) count (given_as refl bytes)

pub returns-clause-whole : goal.returns-clause-whole
returns-clause-whole g c = rw (c.in_ok-take.ensures.size ∙ c.in_ok-pieces.ensures) (mul-mod_left _ _)
