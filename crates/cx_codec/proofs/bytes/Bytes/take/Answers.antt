use Rattle.std.proofs.Common.{arith}
use Rattle.cx_codec.proofs.Taking.{takes_all, takes_fewer, takes_cut, held_all, held_fewer, held_never_cut}
use Rattle.cx_codec.proofs.bytes.Bytes.take.Goals as goal

pub returns-in-Ok-clause-reads : goal.returns-in-Ok-clause-reads
returns-in-Ok-clause-reads g c told =
    rw (← c.self.view_is) (takes_all _ _ _ (omega arith) (c.in-Ok.ensures.copies told) c.if-count-into.true)

pub returns-in-Ok-clause-asks : goal.returns-in-Ok-clause-asks
returns-in-Ok-clause-asks g c =
    rw (← c.self.view_is) (held_all _ _ _ (omega arith) c.if-count-into.true c.in-Ok.ensures.held)

pub returns-in-Ok-2-clause-reads : goal.returns-in-Ok-2-clause-reads
returns-in-Ok-2-clause-reads g c told =
    rw (← c.self.view_is)
    (takes_fewer _ _ _ _ (omega arith) (c.in-Ok.ensures.copies told) (omega (arith, c.in-Ok.ensures.bound))
    (omega (arith, c.in-Ok.ensures.at)))

pub returns-in-Ok-2-clause-asks : goal.returns-in-Ok-2-clause-asks
returns-in-Ok-2-clause-asks g c =
    rw (← c.self.view_is)
    (held_fewer _ _ _ _ (omega arith) (omega (arith, c.in-Ok.ensures.bound))
    (omega (arith, c.in-Ok.ensures.at)) c.in-Ok.ensures.held)

pub returns-in-Err-clause-reads : goal.returns-in-Err-clause-reads
returns-in-Err-clause-reads g c told =
    rw (← c.self.view_is) (takes_cut _ _ _ (omega arith) (c.in-Err.ensures.copies told))

pub returns-in-Err-clause-asks : goal.returns-in-Err-clause-asks
returns-in-Err-clause-asks g c =
    rw (← c.self.view_is) (held_never_cut _ _ _ (omega arith) c.in-Err.ensures.held)
