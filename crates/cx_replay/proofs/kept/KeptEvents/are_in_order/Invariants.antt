use Rattle.std.proofs.Common.{◌≤◌, ◌+◌, ◌↔◌, drop}
use Rattle.cx_log.specs.Order.{InOrder}
use Rattle.cx_log.specs.declared.limits.TheConstants.{MARK_DISTANCE, STEP_LIMIT}
use Rattle.cx_replay.proofs.kept.KeptEvents.are_in_order.Given as goal

abbrev pub invariant-loop-index : goal.invariant-loop-index
invariant-loop-index l = record {
  mark : l.behind.mark ≤ STEP_LIMIT + MARK_DISTANCE;
  same : InOrder l.pages l.start l.self l.end ↔ InOrder l.pages l.behind (drop l.index l.self) l.end;
}
