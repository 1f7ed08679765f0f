use Rattle.std.proofs.Common.{rules, arith, ◌≡◌, ◌<◌, length}
use Rattle.std.proofs.lemmas.List.{nil_from_length}
use Rattle.cx_codec.proofs.Ending.{ends_here, ends_cut, ends_later, ends_at_limit}
use Rattle.cx_codec.proofs.bytes.Bytes.at_end.Goals as goal

pub returns-in-Ok-false-clause-ends : goal.returns-in-Ok-false-clause-ends
returns-in-Ok-false-clause-ends g c told =
    let size : length c.refill.new.self.ahead ≡ 0 = grind arith in
    let ended = rw c.in-Ok-false.field-0-test at (c.in-Ok-false.ensures.end told) in
    rw (← c.self.view_is)
    (ends_here (c.in-Ok-false.ensures.refills told) (nil_from_length c.refill.new.self.ahead size) ended)

pub returns-then-is_full-clause-ends : goal.returns-then-is_full-clause-ends
returns-then-is_full-clause-ends g c told =
    let some : 0 < length c.refill.new.self.ahead = grind arith in
    rw (← c.self.view_is) (ends_at_limit _ (c.in-Ok-true.ensures.refills told) some (search rules) c.at.ensures.at)

pub returns-else-is_full-clause-ends : goal.returns-else-is_full-clause-ends
returns-else-is_full-clause-ends g c told =
    let some : 0 < length c.refill.new.self.ahead = grind arith in
    rw (← c.self.view_is) (ends_later (c.in-Ok-true.ensures.refills told) some (search rules))

pub returns-in-Err-clause-ends : goal.returns-in-Err-clause-ends
returns-in-Err-clause-ends g c told =
    rw (← c.self.view_is) (ends_cut (c.in-Err.ensures.refills told) c.in-Err.ensures.failed)
