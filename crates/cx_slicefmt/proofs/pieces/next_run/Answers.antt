use Rattle.std.proofs.Common.{rules, refl, [], ◌∷◌}
use Rattle.std.proofs.lemmas.Result.{err_from_is_err_and}
use Rattle.cx_codec.proofs.Composing.{fails, goes, gives, as_many}
use Rattle.cx_slicefmt.specs.Reading.{run_at}
use Rattle.cx_slicefmt.proofs.FieldFaults.{met_same}
use Rattle.cx_slicefmt.proofs.RunLoop.{field_back}
use Rattle.cx_slicefmt.proofs.pieces.next_run.Goals as goal

pub returns-in_err-va-clause-reads : goal.returns-in_err-va-clause-reads
unfolding run_at
returns-in_err-va-clause-reads g c told =
    let p = err_from_is_err_and c.from_residual.result c.from_residual.ensures.1 in
    rw (p.1, p.2) (fails _ (λ p. refl) refl (c.in_err-va.ensures.reads told))

pub returns-in_err-size-clause-reads : goal.returns-in_err-size-clause-reads
unfolding run_at
returns-in_err-size-clause-reads g c told =
    let p = err_from_is_err_and c.from_residual-in_err-size.result c.from_residual-in_err-size.ensures.1 in
    let va = c.in_ok-va.ensures.reads told in
    rw (p.1, p.2) (goes _ (λ p. refl) va
    (fails _ (λ p. refl) refl (rw c.room_at.ensures at (c.in_err-size.ensures.reads va.follows.told))))

pub returns-in_err-take-clause-reads : goal.returns-in_err-take-clause-reads
unfolding run_at
returns-in_err-take-clause-reads g c told =
    let p = err_from_is_err_and c.from_residual-in_err-take.result c.from_residual-in_err-take.ensures.1 in
    let va = c.in_ok-va.ensures.reads told in
    let size = rw c.room_at.ensures at (c.in_ok-size.ensures.reads va.follows.told) in
    rw (p.1, p.2) (goes _ (λ p. refl) va (goes _ (λ p. refl) size
    (fails _ (λ p. refl) (met_same _)
    (as_many c.in_ok-size.size (c.in_err-take.ensures.reads size.follows.told) (search rules)))))

pub returns-clause-reads : goal.returns-clause-reads
unfolding run_at
returns-clause-reads g c told =
    let va = c.in_ok-va.ensures.reads told in
    let size = rw c.room_at.ensures at (c.in_ok-size.ensures.reads va.follows.told) in
    let bytes = as_many c.in_ok-size.size (c.in_ok-take.ensures.reads size.follows.told) (search rules) in
    goes _ (λ p. refl) va (goes _ (λ p. refl) size
    (goes _ (λ p. refl) bytes (gives bytes.follows.told
    (λ p. rw (field_back c.take.new.into (0 ∷ 0 ∷ 0 ∷ 0 ∷ 0 ∷ 0 ∷ 0 ∷ 0 ∷ []) c.in_ok-size.size (search rules)) refl))))
