use Rattle.std.proofs.Common.{length, refl}
use Rattle.cx_hart.specs.Whole.{machine_of}
use Rattle.cx_machine.specs.Machine.{pages_of}
use Rattle.cx_seek.proofs.KeptRuns.{none_kept, saved_answer, saved_answer_keeps, seen_still}
use Rattle.cx_seek.proofs.keeping.keep.Goals as goal

pub returns-then-taken-keeping-eq0-clause-kept : goal.returns-then-taken-keeping-eq0-clause-kept
returns-then-taken-keeping-eq0-clause-kept g c =
    let mid = c.make_room.new.replay in
    saved_answer c.save.result (g.R.Records.seen c.args.replay.now.records).pages (g.R.Records.seen mid.records).pages
    (pages_of mid.machine.memory) c.args.taken (length c.make_room.new.keeping.notes) (machine_of mid.machine)
    mid.machine.saved c.save.new.replay.machine.saved c.make_room.new.keeping c.save.new.keeping
    (seen_still g.R.Records.seen _ _ c.make_room.ensures.still) c.make_room.ensures.kept c.if-taken-keeping-eq0.true
    c.save.ensures.saves c.save.ensures.pages c.save.ensures.distance

pub returns-then-taken-keeping-eq0-clause-keeps : goal.returns-then-taken-keeping-eq0-clause-keeps
returns-then-taken-keeping-eq0-clause-keeps g c =
    let mid = c.make_room.new.replay in
    saved_answer_keeps c.save.result (g.R.Records.seen c.args.replay.now.records).pages (pages_of mid.machine.memory)
    c.args.taken (length c.make_room.new.keeping.notes) (machine_of c.args.replay.now.machine) (machine_of mid.machine)
    c.args.replay.now.machine.saved mid.machine.saved c.save.new.replay.machine.saved c.args.keeping.now
    c.make_room.new.keeping c.save.new.keeping c.make_room.ensures.still.machine c.make_room.ensures.kept
    c.make_room.ensures.keeps c.if-taken-keeping-eq0.true refl c.save.ensures.saves
    c.save.ensures.distance c.save.ensures.notes

pub returns-clause-kept : goal.returns-clause-kept
returns-clause-kept g c =
    none_kept (g.R.Records.seen c.args.replay.now.records).pages c.args.taken c.make_room.new.replay.machine.saved
    c.make_room.new.keeping c.make_room.ensures.kept c.if-taken-keeping-eq0.false
