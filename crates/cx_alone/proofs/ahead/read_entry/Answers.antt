use Rattle.cx_alone.proofs.Reading.{end_comes, end_is_last, fault_comes, group_comes}
use Rattle.cx_alone.proofs.ahead.read_entry.Goals as goal

pub returns-in-Ok-Group-clause-reads : goal.returns-in-Ok-Group-clause-reads
returns-in-Ok-Group-clause-reads g c = λ told input may are.
    group_comes _ _ c.args.reader.now.least c.in-Ok-Group.index c.in-Ok-Group.items c.in-Ok-Group.field-0 input
    c.in-Ok-Group.field-0-is (c.in-Ok-Group.ensures.reads told) may.begins are

pub returns-in-Ok-End-clause-reads : goal.returns-in-Ok-End-clause-reads
returns-in-Ok-End-clause-reads g c = λ told input may are.
    end_comes _ _ c.args.reader.now.least c.in-Ok-End.count c.in-Ok-End.field-0 input
    c.in-Ok-End.field-0-is (c.in-Ok-End.ensures.reads told) may are

pub returns-in-Err-clause-reads : goal.returns-in-Err-clause-reads
returns-in-Err-clause-reads g c = λ told input may are.
    fault_comes _ _ _ c.in-Err.fault c.replay_fault.result input c.replay_fault.ensures (c.in-Err.ensures.reads told) may

pub returns-in-Ok-End-clause-last : goal.returns-in-Ok-End-clause-last
returns-in-Ok-End-clause-last g c = λ told none.
    end_is_last _ _ c.args.reader.now.least c.in-Ok-End.count c.in-Ok-End.field-0 c.in-Ok-End.field-0-is
    (c.in-Ok-End.ensures.reads told)
