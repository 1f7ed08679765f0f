use Rattle.std.proofs.Common.{◌∙◌, ap}
use Rattle.cx_log.specs.Item.{behind_entry}
use Rattle.cx_replay.proofs.EventsKept.{entry_is}
use Rattle.cx_replay.proofs.kept.KeptEvent.leaves.Goals as goal

pub returns : goal.returns
returns c =
    let is = entry_is c.self.inside.bytes.items c.self.inside.item c.self.invariant in
    rw (← c.self.view_is) (c.after.ensures c.self.inside.bytes.items ∙ ap (behind_entry c.args.behind.now) is)
