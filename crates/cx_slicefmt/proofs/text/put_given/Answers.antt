use Rattle.std.proofs.Common.{[], ◌∷◌}
use Rattle.std.proofs.lemmas.Result.{err_from_is_err_and}
use Rattle.cx_codec.proofs.Putting.{puts_on, puts_fails}
use Rattle.cx_slicefmt.specs.Text.{bit, word_text}
use Rattle.cx_slicefmt.proofs.text.put_given.Goals as goal

pub returns-in_err-put_byte : goal.returns-in_err-put_byte
returns-in_err-put_byte g c =
    let p = err_from_is_err_and c.from_residual.result c.from_residual.ensures.1 in
    rw (p.1, p.2) (puts_fails (bit c.args.given ∷ []) (word_text c.args.given)
    (rw c.bit.ensures at c.in_err-put_byte.ensures))

pub returns : goal.returns
returns g c = puts_on (bit c.args.given ∷ []) (word_text c.args.given)
    (rw c.bit.ensures at c.in_ok-put_byte.ensures) c.put_word_if.ensures
