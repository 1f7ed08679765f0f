use Rattle.cx_codec.specs.Place.{end_of}
use Rattle.cx_slicefmt.specs.Rules.{process}
use Rattle.cx_slicefmt.specs.Scan.{scan_groups}
use Rattle.cx_retelling.proofs.ProcessReplays.{answers, spent_by}
use Rattle.cx_retelling.proofs.process_slice.AloneSliceReplay.give.Goals as goal

pub returns-clause-answers : goal.returns-clause-answers
returns-clause-answers g c told input may p os stands =
    answers p os c.next.new.self (g.S.Source.left c.next.new.source) (g.S.Source.given c.next.new.source) input
    c.next.result (c.next.ensures.answers told input may (scan_groups process 0 p) (end_of p) os stands)

pub returns-clause-spent : goal.returns-clause-spent
returns-clause-spent g c told last = spent_by c.next.result c.next.new.self.ahead.waiting
    (g.S.Source.left c.next.new.source) (c.next.ensures.last told last) c.next.ensures.ended
