use Rattle.std.proofs.Common.{◌≡◌, ◌-◌, suc, arith, ap, ◌∙◌}
use mir.Val.{bool_byte}
use Rattle.cx_slicefmt.proofs.FirstRun.{count_on, one_small}
use Rattle.cx_callfmt.proofs.runs.run_count.Goals as goal

pub loop-left-preserved : goal.loop-left-preserved
loop-left-preserved c =
    let next : c.loop-left.left ≡ suc (c.loop-left.left - 1) = omega (arith, c.loop-left-test.true) in
    record {
      within = omega (arith, c.loop-left.invariant.within);
      few = omega (
        arith,
        c.loop-left.invariant.few,
        c.loop-left-test.true,
        c.from-count.ensures,
        one_small c.ends_run.result,
      );
      count = count_on c.args.bytes.now (c.loop-left.left - 1) c.loop-left.left c.loop-left.count c.from-count.result
          next c.loop-left.invariant.within c.loop-left.invariant.count
          (c.from-count.ensures ∙ ap bool_byte c.ends_run.ensures);
    }
