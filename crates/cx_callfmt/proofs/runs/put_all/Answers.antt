use Rattle.std.proofs.Common.{◌+◌, ◌-◌, ◌++◌, [], take, drop, arith, refl}
use Rattle.std.proofs.lemmas.Result.{err_from_is_err_and}
use Rattle.cx_slices.specs.Stretches.{stretches_of}
use Rattle.cx_slicefmt.specs.Text.{run_text, runs_text}
use Rattle.cx_slicefmt.specs.Writing.{run_of}
use Rattle.cx_slicefmt.proofs.FirstRun.{runs_on, runs_all}
use Rattle.cx_callfmt.proofs.runs.put_all.Goals as goal

pub loop-at-init : goal.loop-at-init
loop-at-init g c = record { put = []; puts = g.met.O.Target.puts_none _ _ c.requires; whole = refl }

pub put_run-requires-clause-live : goal.put_run-requires-clause-live
put_run-requires-clause-live g c = g.met.O.Target.goes_on _ _ _ _ _ c.loop-at.invariant.puts

pub returns-in_err-put_run : goal.returns-in_err-put_run
returns-in_err-put_run g c =
    let p = err_from_is_err_and c.from_residual.result c.from_residual.ensures.1 in
    let bytes = c.args.bytes.now in
    let at = c.loop-at.at in
    let count = c.first_run.result in
    let put = c.loop-at.invariant.put in
    rw (
      p.1,
      p.2,
      ← runs_on bytes at count (at + count - at) put (omega arith) c.first_run.ensures
          c.loop-at.invariant.whole,
    )
    (g.met.O.Target.puts_fails _ (runs_text (stretches_of (drop (at + count) bytes))) _ _ _ _ _
    (g.met.O.Target.puts_on put (run_text (run_of (take (at + count - at) (drop at bytes)))) _ _ _ _ _ _ _
    c.loop-at.invariant.puts c.in_err-put_run.ensures))

pub loop-at-preserved : goal.loop-at-preserved
loop-at-preserved g c =
    let bytes = c.args.bytes.now in
    let at = c.loop-at.at in
    let count = c.first_run.result in
    let put = c.loop-at.invariant.put in
    let run = run_text (run_of (take (at + count - at) (drop at bytes))) in
    record {
      put = put ++ run;
      puts = g.met.O.Target.puts_on put run _ _ _ _ _ _ _ c.loop-at.invariant.puts c.in_ok-put_run.ensures;
      whole = runs_on bytes at count (at + count - at) put (omega arith) c.first_run.ensures c.loop-at.invariant.whole;
    }

pub returns : goal.returns
returns g c = rw (← runs_all c.args.bytes.now c.loop-at.at c.loop-at.invariant.put c.loop-at-test.false
    c.loop-at.invariant.whole) c.loop-at.invariant.puts
