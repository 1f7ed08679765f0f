use Rattle.std.specs.Int.{w32, to_le_bytes}
use Rattle.std.proofs.lemmas.Result.{err_from_is_err_and}
use Rattle.cx_slicefmt.specs.Rules.{Head}
use Rattle.cx_slicefmt.specs.Text.{head_text}
use Rattle.cx_callfmt.proofs.records.put_told.Goals as goal

pub returns-in_err-put_word : goal.returns-in_err-put_word
returns-in_err-put_word g c =
    let p = err_from_is_err_and c.from_residual.result c.from_residual.ensures.1 in
    let head : Head = record { words = c.args.words.now; bytes = c.args.bytes.now } in
    rw (p.1, p.2) (g.met.O.Target.puts_fails (to_le_bytes w32 c.args.number) (head_text head) _ _ _ _ _
    c.in_err-put_word.ensures)

pub returns : goal.returns
returns g c =
    let head : Head = record { words = c.args.words.now; bytes = c.args.bytes.now } in
    g.met.O.Target.puts_on (to_le_bytes w32 c.args.number) (head_text head) _ _ _ _ _ _ _ c.in_ok-put_word.ensures
    c.put_head.ensures
