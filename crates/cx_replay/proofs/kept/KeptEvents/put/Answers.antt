use Rattle.std.proofs.Common.{◌≡◌, ◌<◌, ◌∙◌, List, length, take, slice_index_or, sym, ap, arith}
use Rattle.std.proofs.lemmas.Result.{err_from_is_err_and}
use Rattle.cx_log.specs.Order.{behind_it}
use Rattle.cx_log.specs.Recording.{Recorded}
use Rattle.cx_run.specs.SoFar.{behind_all}
use Rattle.cx_replay.proofs.EventsKept.{behind_more, order_here, order_more, puts_more, puts_stops, taken}
use Rattle.cx_replay.proofs.kept.KeptEvents.put.Goals as goal

pub returns-in_err-put-clause-puts : goal.returns-in_err-put-clause-puts
returns-in_err-put-clause-puts g c =
    let p = err_from_is_err_and c.from_residual.result c.from_residual.ensures.1 in
    let events : List Recorded = c.args.self.now in
    let k = c.loop-index.index in
    let x = c.index.result.now in
    let here : slice_index_or events k x ≡ x = ap (λ es. slice_index_or es k x) (sym c.self.view_is)
    ∙ sym c.index.ensures in
    let there : k < length events = omega (arith, c.loop-index-test.true, ap length c.self.view_is) in
    rw (p.1, p.2) (puts_stops c.args.writer.now.behind events k x x there here c.loop-index.invariant.puts
    (rw (← c.loop-index.invariant.behind) c.in_err-put.ensures.puts))

pub loop-index-preserved : goal.loop-index-preserved
loop-index-preserved g c =
    let events : List Recorded = c.args.self.now in
    let k = c.loop-index.index in
    let x = c.index.result.now in
    let b = c.args.writer.now.behind in
    let before = c.loop-index.invariant in
    let here : slice_index_or events k x ≡ x = ap (λ es. slice_index_or es k x) (sym c.self.view_is)
    ∙ sym c.index.ensures in
    let there : k < length events = omega (arith, c.loop-index-test.true, ap length c.self.view_is) in
    let may = order_here _ _ k _ events x x there here before.order in
    record {
      puts = puts_more b events k x x there here before.puts (rw (← before.behind) c.in_ok-put.ensures.puts);
      behind = c.in_ok-put.ensures.behind ∙ ap (λ e. behind_it e x) before.behind
          ∙ sym (ap (behind_all b) (taken events k x x there here) ∙ behind_more b (take k events) x);
      order = rw (c.in_ok-put.ensures.header, c.in_ok-put.ensures.behind)
          ((order_more _ _ k _ events x x there here may).0 before.order);
      header = c.in_ok-put.ensures.header ∙ before.header;
      left = c.in_ok-put.ensures.left ∙ before.left;
    }
