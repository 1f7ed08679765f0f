use Rattle.std.specs.Int.{w32, to_le_bytes}
use Rattle.std.proofs.lemmas.Result.{err_from_is_err_and}
use Rattle.cx_slicefmt.specs.Text.{mask_of, present_text}
use Rattle.cx_callfmt.proofs.heads.put_masked.Goals as goal

pub returns-in_err-put_word : goal.returns-in_err-put_word
returns-in_err-put_word g c =
    let p = err_from_is_err_and c.from_residual.result c.from_residual.ensures.1 in
    rw (p.1, p.2) (g.met.O.Target.puts_fails (to_le_bytes w32 (mask_of c.args.words.now))
    (present_text c.args.words.now) _ _ _ _ _ (rw c.mask_of.ensures at c.in_err-put_word.ensures))

pub returns : goal.returns
returns g c = g.met.O.Target.puts_on (to_le_bytes w32 (mask_of c.args.words.now)) (present_text c.args.words.now)
    _ _ _ _ _ _ _ (rw c.mask_of.ensures at c.in_ok-put_word.ensures) c.put_present.ensures
