use Rattle.std.proofs.lemmas.Result.{err_from_is_err_and}
use Rattle.std.proofs.Common.{◌+◌, arith, drop}
use Rattle.cx_slicefmt.specs.Text.{present_text}
use Rattle.cx_slicefmt.proofs.Presents.{present_text-more, present_text-split, present_text-all}
use Rattle.cx_callfmt.proofs.heads.put_present.Goals as goal

pub loop-word-init : goal.loop-word-init
loop-word-init g c = record { puts = g.met.O.Target.puts_none _ _ c.requires }

pub put_word_if-requires : goal.put_word_if-requires
put_word_if-requires g c = g.met.O.Target.goes_on _ _ _ _ _ c.loop-word.invariant.puts

pub returns-in_err-put_word_if : goal.returns-in_err-put_word_if
returns-in_err-put_word_if g c =
    let p = err_from_is_err_and c.from_residual.result c.from_residual.ensures.1 in
    let words = c.args.words.now in
    let i = c.loop-word.word-index in
    rw (p.1, p.2, ← present_text-split words i (omega (arith, c.loop-word-test.true)))
    (g.met.O.Target.puts_fails _ (present_text (drop (i + 1) words)) _ _ _ _ _
    (g.met.O.Target.puts_on _ _ _ _ _ _ _ _ _ c.loop-word.invariant.puts c.in_err-put_word_if.ensures))

pub loop-word-preserved : goal.loop-word-preserved
loop-word-preserved g c = record {
  puts = rw (← present_text-more c.args.words.now c.loop-word.word-index (omega (arith, c.loop-word-test.true)))
      (g.met.O.Target.puts_on _ _ _ _ _ _ _ _ _ c.loop-word.invariant.puts c.in_ok-put_word_if.ensures);
}

pub returns : goal.returns
returns g c = rw (← present_text-all c.args.words.now c.loop-word.word-index (omega arith)) c.loop-word.invariant.puts
