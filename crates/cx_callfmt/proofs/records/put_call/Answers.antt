use Rattle.std.proofs.lemmas.Result.{err_from_is_err_and}
use Rattle.cx_placing.specs.Records.{Calls}
use Rattle.cx_callfmt.specs.Text.{payload}
use Rattle.cx_callfmt.proofs.Texts.{record_parts}
use Rattle.cx_callfmt.proofs.records.put_call.Goals as goal

pub returns-in_err-put_entry : goal.returns-in_err-put_entry
returns-in_err-put_entry g c =
    let p = err_from_is_err_and c.from_residual.result c.from_residual.ensures.1 in
    let what = Calls c.args.number (record { words = c.args.words.now; bytes = c.args.bytes.now }) in
    rw (p.1, p.2, ← record_parts c.args.before (record { index = c.args.index; what = what }))
    (g.met.O.Target.puts_fails _ (payload what) _ _ _ _ _ c.in_err-put_entry.ensures)

pub returns : goal.returns
returns g c =
    let what = Calls c.args.number (record { words = c.args.words.now; bytes = c.args.bytes.now }) in
    rw (← record_parts c.args.before (record { index = c.args.index; what = what }))
    (g.met.O.Target.puts_on _ (payload what) _ _ _ _ _ _ _ c.in_ok-put_entry.ensures c.put_told.ensures)
