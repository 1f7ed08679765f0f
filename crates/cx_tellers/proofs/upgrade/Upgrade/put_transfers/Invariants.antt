use Rattle.std.proofs.Common.{◌^◌, ◌<◌, ◌≤◌, take}
use Rattle.cx_run.specs.StepEvents.{transfer_events}
use Rattle.cx_record.specs.Putting.{PutAll}
use Rattle.cx_tellers.proofs.upgrade.Upgrade.put_transfers.Given as goal

abbrev pub invariant-loop-index : goal.invariant-loop-index
invariant-loop-index g l =
    let held = g.T.Sink.held in
    let fails = g.T.Sink.faults in
    record {
      puts : PutAll (transfer_events l.step (take l.index l.due.transfers)) l.fn.self (held l.fn.sink) l.self
          (held l.sink);
      later : fails l.fn.sink ≤ fails l.sink;
      few : fails l.fn.sink < 2 ^ 64 → fails l.sink < 2 ^ 64;
    }
