use Rattle.std.proofs.Common.{refl, ap, ◌∙◌, ◌≡◌, take, Ok, Err}
use Rattle.std.proofs.lemmas.Result.{err_from_is_err_and}
use Rattle.cx_codec.specs.Fields.{varint_at}
use Rattle.cx_codec.specs.Place.{Place}
use Rattle.cx_codec.specs.Reads.{BadAt}
use Rattle.cx_codec.proofs.Composing.{fails, goes, gives, breaks, asks_fails, asks_then}
use Rattle.cx_codec.proofs.VarintBytes.{judged, judged_good, judged_bad}
use Rattle.cx_codec.proofs.Taking.{same_read, same_bad, never_both}
use Rattle.cx_codec.proofs.bytes.Bytes.varint.Goals as goal

pub returns-in_err-count-clause-reads : goal.returns-in_err-count-clause-reads
unfolding varint_at
returns-in_err-count-clause-reads g c told =
    let p = err_from_is_err_and c.from_residual.result c.from_residual.ensures.1 in
    rw (p.1, p.2) (fails {reader = varint_at} _ (λ p. refl) refl (c.in_err-count.ensures.reads told))

pub returns-in_err-count-clause-asks : goal.returns-in_err-count-clause-asks
unfolding varint_at
returns-in_err-count-clause-asks g c =
    let p = err_from_is_err_and c.from_residual.result c.from_residual.ensures.1 in
    rw (p.1, p.2) (asks_fails {reader = varint_at} _ (λ p. refl) refl c.in_err-count.ensures.asks)

pub returns-in-Some-clause-reads : goal.returns-in-Some-clause-reads
unfolding varint_at
returns-in-Some-clause-reads g c told =
    let first = c.in_ok-count.ensures.reads told in
    goes {reader = varint_at} _ (λ p. refl) first
    (gives first.follows.told
    (λ p. judged_good (take c.in_ok-count.count c.collect.new.field) c.in-Some.value c.args.self.now.at p
    c.in-Some.ensures))

pub returns-in-Some-clause-asks : goal.returns-in-Some-clause-asks
unfolding varint_at
returns-in-Some-clause-asks g c =
    let good : (p : Place) → judged (take c.in_ok-count.count c.collect.new.field) c.args.self.now.at p ≡ Ok
    (c.in-Some.value, p)
    = λ p. judged_good (take c.in_ok-count.count c.collect.new.field) c.in-Some.value c.args.self.now.at p
    c.in-Some.ensures in
    asks_then {reader = varint_at} _ (λ p. refl) c.in_ok-count.ensures.asks
    (λ y after read. same_read _ c.in-Some.value y _ after (good _) read) (λ o wrong. never_both (good _) wrong)

pub returns-in-None-clause-reads : goal.returns-in-None-clause-reads
unfolding varint_at
returns-in-None-clause-reads g c told =
    let first = rw (← c.self.view_is) at (c.in_ok-count.ensures.reads told) in
    goes {reader = varint_at} _ (λ p. refl) first
    (breaks _ first.follows.told (ap BadAt c.at-start.ensures.at)
    (λ p. judged_bad (take c.in_ok-count.count c.collect.new.field) c.args.self.now.at p c.in-None.ensures))

pub returns-in-None-clause-asks : goal.returns-in-None-clause-asks
unfolding varint_at
returns-in-None-clause-asks g c =
    let wrong : (p : Place)
    → judged (take c.in_ok-count.count c.collect.new.field) c.args.self.now.at p ≡ Err c.args.self.now.at
    = λ p. judged_bad (take c.in_ok-count.count c.collect.new.field) c.args.self.now.at p c.in-None.ensures in
    asks_then {reader = varint_at} _ (λ p. refl) c.in_ok-count.ensures.asks
    (λ y after read. never_both read (wrong _)) (λ o bad. ap BadAt (c.at-start.ensures.at ∙ same_bad (wrong _) bad))
