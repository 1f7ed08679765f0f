use Rattle.std.proofs.Common.{None}
use Rattle.cx_codec.specs.Reads.{over, place_in}
use Rattle.cx_retelling.proofs.ProcessReplays.{opens}
use Rattle.cx_retelling.proofs.process_slice.AloneSliceReplay.open.Goals as goal

pub returns-clause-opens : goal.returns-clause-opens
returns-clause-opens g c told input may are =
    opens (place_in (over c.args.bytes None (g.S.Source.given c.args.source.now)) input)
    (g.S.Source.left c.open_process.new.source) (g.S.Source.given c.open_process.new.source) input c.open_process.result
    (c.open_process.ensures.opens told input may are)
