use Rattle.cx_replay.proofs.Scanning.{reads_record}
use Rattle.cx_replay.proofs.log_records.LogReaderRecords.next_record.Goals as goal

pub returns-clause-reads : goal.returns-clause-reads
returns-clause-reads g c told input begins end rest has =
    reads_record c.args.self.now c.next.new.self _ _ _ _ input end rest c.next.result c.requires.more
    c.next.ensures.same c.next.ensures.gave
    (c.next.ensures.reads told) begins has
