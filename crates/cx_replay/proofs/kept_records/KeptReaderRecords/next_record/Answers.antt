use Rattle.cx_replay.proofs.Rereads.{gives_kept}
use Rattle.cx_replay.proofs.kept_records.KeptReaderRecords.next_record.Goals as goal

pub returns-clause-reads : goal.returns-clause-reads
returns-clause-reads g c told input begins end rest has =
    gives_kept c.args.self.now c.pass.new.self _ _ input end rest _ c.pass.ensures.gives c.pass.ensures.end has
