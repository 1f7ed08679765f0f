use Rattle.std.proofs.Common.{◌^◌}
use Rattle.cx_codec.proofs.Composing.{along, gives}
use Rattle.cx_callfmt.specs.Engine.{pending_in}
use Rattle.cx_callfmt.proofs.HandedOut.{next_is_in, next_is_none, next_is_run}
use Rattle.cx_callfmt.proofs.Nexts.{there_is_one}
use Rattle.cx_callfmt.proofs.handing.next_byte.Goals as goal

pub returns-then-left-gt0-clause-reads : goal.returns-then-left-gt0-clause-reads
returns-then-left-gt0-clause-reads g c told =
    along (λ p. next_is_in (2 ^ 32) (pending_in c.args.left) p c.if-left-gt0.true)
    (c.byte_in.ensures.reads told)

pub returns-then-left-gt0-2-clause-reads : goal.returns-then-left-gt0-2-clause-reads
returns-then-left-gt0-2-clause-reads g c told =
    along (λ p. next_is_run (2 ^ 32) (pending_in c.args.left) p c.if-left-gt0.false c.if-left-gt0-2.true)
    (c.byte_of_run.ensures.reads told)

pub returns-clause-reads : goal.returns-clause-reads
returns-clause-reads g c told =
    gives told (λ p. next_is_none (2 ^ 32) (pending_in c.args.left) p c.if-left-gt0.false c.if-left-gt0-2.false)

pub returns-then-left-gt0-clause-none : goal.returns-then-left-gt0-clause-none
returns-then-left-gt0-clause-none g c = there_is_one c.args.left c.byte_in.result c.byte_in.ensures.some

pub returns-then-left-gt0-2-clause-none : goal.returns-then-left-gt0-2-clause-none
returns-then-left-gt0-2-clause-none g c = there_is_one c.args.left c.byte_of_run.result c.byte_of_run.ensures.some
