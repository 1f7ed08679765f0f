use Rattle.std.proofs.Common.{refl, sym}
use Rattle.cx_log.specs.Order.{at_start}
use Rattle.cx_replay.specs.KeptRecords.{IsOrderFrom, scan_of}
use Rattle.cx_replay.proofs.Rereads.{order_from}
use Rattle.cx_replay.proofs.replay.Replay+KeptReader.of_kept.Goals as goal

pub returns-clause-stands : goal.returns-clause-stands
returns-clause-stands c given input offset =
    let h = c.args.header.now in
    let from : IsOrderFrom h.pages h.base c.args.events c.args.end = record {
      behind = at_start h.base h.start;
      step = refl;
      order = c.requires.order;
    } in
    c.start.ensures.stands given input offset (record { header = h; memory = c.args.machine.memory })
    (scan_of c.args.events c.args.end) (record { is = rw c.new-records.ensures refl })
    (order_from h.pages h.base c.args.events c.args.end from)
    (record { base_is = refl; start = sym c.requires.state; memory = refl; split = sym c.requires.split })
