use Rattle.std.proofs.Common.{refl}
use Rattle.cx_codec.proofs.Composing.{fails, gives, goes}
use Rattle.cx_callfmt.specs.Engine.{head_in}
use Rattle.cx_call_alone.proofs.Heads.{call_met_same, head_gathered, with_words}
use Rattle.cx_call_alone.proofs.reading.read_head.Goals as goal

pub returns-in-Ok-clause-reads : goal.returns-in-Ok-clause-reads
returns-in-Ok-clause-reads g c = λ told.
    let gathered = rw c.new-bytes.ensures.items at (rw c.requires.runs at (c.in-Ok.ensures.reads told)) in
    goes (with_words (head_in c.args.found)) (head_gathered (head_in c.args.found)) gathered
    (gives gathered.follows.told (λ p. refl))

pub returns-in-Err-clause-reads : goal.returns-in-Err-clause-reads
returns-in-Err-clause-reads g c = λ told.
    let gathered = rw c.new-bytes.ensures.items at (rw c.requires.runs at (c.in-Err.ensures.reads told)) in
    fails (with_words (head_in c.args.found)) (head_gathered (head_in c.args.found))
    (call_met_same c.in-Err.fault c.call_fault.result c.call_fault.ensures) gathered
