use Rattle.std.proofs.Common.{None}
use Rattle.cx_codec.specs.Reads.{over, place_in}
use Rattle.cx_retelling.proofs.CallReplays.{opens}
use Rattle.cx_retelling.proofs.call_slice.CallAloneSliceReplay.open.Goals as goal

pub returns-clause-opens : goal.returns-clause-opens
returns-clause-opens g c told input may are =
    opens (place_in (over c.args.bytes None (g.S.Source.given c.args.source.now)) input)
    (g.S.Source.left c.open_calls.new.source) (g.S.Source.given c.open_calls.new.source) input c.open_calls.result
    (c.open_calls.ensures.opens told input may are)
