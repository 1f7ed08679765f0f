use Rattle.std.proofs.Common.{sym, subst}
use Rattle.std.proofs.lemmas.Result.{err_from_is_err_and}
use Rattle.cx_hart.specs.Whole.{Whole}
use Rattle.cx_log.specs.Scan.{decoded}
use Rattle.cx_window.specs.Slice.{Finishes}
use Rattle.cx_window.proofs.WindowOf.{finishes_window, has_it, lacks_window, nothing_shown}
use Rattle.cx_window.proofs.cutting.cut.Goals as goal

pub returns-in_err-run_through-clause-cuts : goal.returns-in_err-run_through-clause-cuts
returns-in_err-run_through-clause-cuts g c told input begins end o whole is judged stands =
    let p = err_from_is_err_and c.from_residual-in_err-run_through.result c.from_residual-in_err-run_through.ensures.1
    in
    rw (p.1, p.2) (c.in_err-run_through.ensures.ran told input begins end o whole stands
    (nothing_shown (decoded o whole) c.args.replay.machine.saved _ _ _ _ c.in_ok-slicer.ensures))

pub returns-then-not-lies_in-clause-cuts : goal.returns-then-not-lies_in-clause-cuts
returns-then-not-lies_in-clause-cuts g c told input begins end o whole is judged stands =
    let ran = c.in_ok-run_through.ensures.ran told input begins end o whole stands
    (nothing_shown (decoded o whole) c.args.replay.machine.saved _ _ _ _ c.in_ok-slicer.ensures) in
    λ h. lacks_window o whole _ c.args.span.from c.args.span.to c.args.header.now
    c.run_through.new.replay.machine.saved c.run_through.new.slicer is (ran h)
    (rw c.at.ensures at (sym c.if-not-lies_in.ensures))

pub returns-clause-cuts : goal.returns-clause-cuts
returns-clause-cuts g c told input begins end o whole is judged stands =
    let saved = c.run_through.new.replay.machine.saved in
    let kept = c.run_through.new.slicer in
    let ran = c.in_ok-run_through.ensures.ran told input begins end o whole stands
    (nothing_shown (decoded o whole) c.args.replay.machine.saved _ _ _ _ c.in_ok-slicer.ensures) in
    let there = rw c.at.ensures at (sym c.if-not-lies_in.ensures) in
    let finishes = subst (λ (m : Whole). Finishes c.args.header.now m.saved kept c.finish.result)
    c.into_machine.ensures.machine c.finish.ensures in
    finishes_window o whole _ c.args.span.from c.args.span.to end _ (Unit {0}) c.args.header.now saved
    c.in_ok-slicer.slicer kept c.finish.result is judged ran c.in_ok-slicer.ensures c.in_ok-run_through.ensures.same
    (λ h. has_it o whole _ c.args.span.from c.args.span.to c.args.header.now saved kept is (ran h) there) finishes
