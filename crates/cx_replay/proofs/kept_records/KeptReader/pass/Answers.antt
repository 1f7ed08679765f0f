use Rattle.std.proofs.Common.{◌≡◌, ◌<◌, ◌∙◌, length, false, ap, arith}
use Rattle.cx_replay.specs.KeptRecords.{Rereading}
use Rattle.cx_replay.proofs.Rereads.{rereads}
use Rattle.cx_replay.proofs.kept_records.KeptReader.pass.Goals as goal

pub invariant_of-self : goal.invariant_of-self
invariant_of-self c =
    let r = c.self.inside in
    let there : r.next < length r.events = omega (arith, c.if-self-count.true, c.count.ensures) in
    let more : r.ended ≡ false = ap (λ (x : Rereading). x.ended) c.self.view_is ∙ c.requires in (
      omega (arith, there),
      (rereads r.pages r.last r.end r.next r.events r.ended c.item-item.result more c.self.invariant.1 there
          c.item-item.ensures).order,
    )

pub returns-then-self-count-clause-gives : goal.returns-then-self-count-clause-gives
returns-then-self-count-clause-gives c =
    let r = c.self.inside in
    let there : r.next < length r.events = omega (arith, c.if-self-count.true, c.count.ensures) in
    let more : r.ended ≡ false = ap (λ (x : Rereading). x.ended) c.self.view_is ∙ c.requires in
    rw (← c.self.view_is) (rereads r.pages r.last r.end r.next r.events r.ended c.item-item.result more
    c.self.invariant.1 there c.item-item.ensures).gives

pub returns-then-self-count-clause-gave : goal.returns-then-self-count-clause-gave
returns-then-self-count-clause-gave c =
    let r = c.self.inside in
    let there : r.next < length r.events = omega (arith, c.if-self-count.true, c.count.ensures) in
    let more : r.ended ≡ false = ap (λ (x : Rereading). x.ended) c.self.view_is ∙ c.requires in
    rw (← c.self.view_is) (rereads r.pages r.last r.end r.next r.events r.ended c.item-item.result more
    c.self.invariant.1 there c.item-item.ensures).gave
