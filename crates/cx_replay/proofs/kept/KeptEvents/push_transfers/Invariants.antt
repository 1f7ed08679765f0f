use Rattle.std.proofs.Common.{◌≡◌, ◌++◌, take}
use Rattle.cx_run.specs.StepEvents.{transfer_events}
use Rattle.cx_replay.proofs.kept.KeptEvents.push_transfers.Given as goal

abbrev pub invariant-loop-index : goal.invariant-loop-index
invariant-loop-index l = record { kept : l.self ≡ l.fn.self ++ transfer_events l.step (take l.index l.due.transfers) }
