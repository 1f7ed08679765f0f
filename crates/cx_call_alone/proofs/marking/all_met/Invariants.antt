use Rattle.std.proofs.Common.{◌≡◌, take, true}
use Rattle.cx_call_alone.specs.Owed.{marked_met}
use Rattle.cx_call_alone.specs.Standing.{owed_marks}
use Rattle.cx_call_alone.proofs.marking.all_met.Given as goal

pub record Passing (l : goal.Live-loop-byte) : Type 0 where
  pub all : marked_met l.seen (owed_marks l.head l.touched) (take l.byte-index l.written) ≡ true

abbrev pub invariant-loop-byte : goal.invariant-loop-byte
invariant-loop-byte l = Passing l
