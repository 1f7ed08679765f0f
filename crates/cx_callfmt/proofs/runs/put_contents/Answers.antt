use Rattle.std.proofs.lemmas.Result.{err_from_is_err_and}
use Rattle.std.proofs.Common.{◌+◌, arith, drop, map}
use Rattle.cx_slicefmt.proofs.FirstRun.{contents_more, contents_split, contents_all}
use Rattle.cx_callfmt.proofs.runs.put_contents.Goals as goal

pub loop-byte-init : goal.loop-byte-init
loop-byte-init g c = record { puts = g.met.O.Target.puts_none _ _ c.requires }

pub put_byte-requires : goal.put_byte-requires
put_byte-requires g c = g.met.O.Target.goes_on _ _ _ _ _ c.loop-byte.invariant.puts

pub returns-in_err-put_byte : goal.returns-in_err-put_byte
returns-in_err-put_byte g c =
    let p = err_from_is_err_and c.from_residual.result c.from_residual.ensures.1 in
    let bytes = c.args.bytes.now in
    let i = c.loop-byte.byte-index in
    rw (p.1, p.2, ← contents_split bytes i (omega (arith, c.loop-byte-test.true)))
    (g.met.O.Target.puts_fails _ (map (λ e. e.1) (drop (i + 1) bytes)) _ _ _ _ _
    (g.met.O.Target.puts_on _ _ _ _ _ _ _ _ _ c.loop-byte.invariant.puts c.in_err-put_byte.ensures))

pub loop-byte-preserved : goal.loop-byte-preserved
loop-byte-preserved g c = record {
  puts = rw (← contents_more c.args.bytes.now c.loop-byte.byte-index (omega (arith, c.loop-byte-test.true)))
      (g.met.O.Target.puts_on _ _ _ _ _ _ _ _ _ c.loop-byte.invariant.puts c.in_ok-put_byte.ensures);
}

pub returns : goal.returns
returns g c = rw (← contents_all c.args.bytes.now c.loop-byte.byte-index (omega arith)) c.loop-byte.invariant.puts
