use Rattle.std.proofs.Common.{◌+◌, ◌<◌, [], arith, drop, length, take, refl}
use Rattle.std.proofs.lemmas.Result.{err_from_is_err_and}
use Rattle.cx_run.specs.StepEvents.{transfer_events}
use Rattle.cx_replay.proofs.EventsKept.{transfer_kept}
use Rattle.cx_record.proofs.PutRecords.{events_cut, events_on}
use Rattle.cx_tellers.proofs.Upgrading.{all_along, events_along, transfers_cut}
use Rattle.cx_tellers.proofs.upgrade.Upgrade.put_transfers.Goals as goal

pub returns-in_err-put-clause-puts : goal.returns-in_err-put-clause-puts
returns-in_err-put-clause-puts g c =
    let p = err_from_is_err_and c.from_residual.result c.from_residual.ensures.1 in
    let n = c.args.step in
    let k = c.loop-index.index in
    let ts = c.args.due.now.transfers in
    let first = transfer_events n (take k ts) in
    let there : k < length ts = omega (arith, c.loop-index-test.true, c.dmas-index-end.ensures) in
    let more = transfer_kept n k ts (record { place = 0; bytes = [] }) [] first there refl in
    let last = rw (c.dma_place.ensures, c.dma_bytes.ensures) at c.in_err-put.ensures.puts in
    rw (p.1, p.2) (events_along _ _ (transfers_cut n (k + 1) ts)
    (events_cut (transfer_events n (take (k + 1) ts)) (transfer_events n (drop (k + 1) ts))
    (events_along _ _ more (events_on first _ c.loop-index.invariant.puts last))))

pub loop-index-preserved : goal.loop-index-preserved
loop-index-preserved g c =
    let n = c.args.step in
    let k = c.loop-index.index in
    let ts = c.args.due.now.transfers in
    let first = transfer_events n (take k ts) in
    let there : k < length ts = omega (arith, c.loop-index-test.true, c.dmas-index-end.ensures) in
    let more = transfer_kept n k ts (record { place = 0; bytes = [] }) [] first there refl in
    let last = rw (c.dma_place.ensures, c.dma_bytes.ensures) at c.in_ok-put.ensures.puts in
    let before = c.loop-index.invariant in
    record {
      puts = all_along _ _ more (events_on first _ before.puts last).all;
      later = omega (arith, before.later, c.in_ok-put.ensures.cause.later);
      few = λ few. c.in_ok-put.ensures.cause.fits (before.few few);
    }
