use Rattle.std.proofs.Common.{[], arith, refl, rules}
use Rattle.std.proofs.lemmas.Result.{err_from_is_err_and}
use Rattle.cx_alone.specs.Ahead.{MayBeInput}
use Rattle.cx_alone.proofs.Inputs.{may_be_before}
use Rattle.cx_codec.specs.Place.{end_of}
use Rattle.cx_replay.proofs.Giving.{gave_none, gave_on}
use Rattle.cx_telling.proofs.Streamed.{out_is_early, told_is_early}
use Rattle.cx_retelling.proofs.Retold.{
  front_through,
  out_refuses,
  retelling_ends,
  retelling_stops,
  retelling_unfinished,
  stops_at_sink,
}
use Rattle.cx_retelling.proofs.retelling.retell_all.Goals as goal

pub returns-in_err-teller-clause-does : goal.returns-in_err-teller-clause-does
returns-in_err-teller-clause-does g c told input bytes begins p ends stands =
    let q = err_from_is_err_and c.from_residual.result c.from_residual.ensures.1 in
    let text = g.L.ObservationTeller.text in
    let t = g.R.SliceReplay.through p in
    rw (q.1, q.2) (retelling_stops text g.L.ObservationTeller.full t bytes (end_of p) _ _ _ _ _ ends (λ cut none. cut)
    (out_refuses c.in_err-teller.field-0.0) (λ h. stops_at_sink text t (end_of p) _ _ _ c.in_err-teller.field-0.0
    (front_through text _ _ [] t.observations g.met.L.ObservationTeller.grows (t.observations, refl)
    c.in_err-teller.ensures.starts)))

pub returns-in_err-teller-clause-spent : goal.returns-in_err-teller-clause-spent
returns-in_err-teller-clause-spent g c told last =
    let q = err_from_is_err_and c.from_residual.result c.from_residual.ensures.1 in
    rw (q.1, q.2) (λ j. absurd (out_is_early c.in_err-teller.field-0.0 j))

pub loop-going-init : goal.loop-going-init
loop-going-init g c = record {
  follows = λ told. gave_none (g.S.Source.left c.args.source.now) (g.S.Source.given c.args.source.now) told;
  told = λ told input may p stands. record {
    observations = [];
    stands = stands;
    told = c.in_ok-teller.ensures.starts;
  };
  last = λ told last. last;
  spent = λ told last. (search rules);
  able = c.requires.going;
  ready = c.in_ok-teller.ensures.goes;
  later = omega arith;
  small = λ small. small;
  failed = c.in_ok-teller.ensures.cause.later;
  few = c.in_ok-teller.ensures.cause.fits;
}

pub loop-going-preserved : goal.loop-going-preserved
loop-going-preserved g c =
    let before = c.loop-going.invariant in
    let ok = c.in_ok-going.ensures in
    record {
      follows = λ told. gave_on (before.follows told) (ok.follows (before.follows told).told);
      told = λ told input may p stands.
          let here = (before.follows told).told in
          let earlier = may_be_before _ _ _ _ input (ok.follows here) may in
          let has = rw c.loop-going-test.true at (before.told told input earlier p stands) in
          ok.tells here input may p _ has;
      last = λ told last. ok.last (before.follows told).told (before.last told last);
      spent = λ told last. ok.spent (before.follows told).told (before.last told last);
      able = ok.going;
      ready = ok.ready;
      later = omega (arith, ok.read_cause.later, before.later);
      small = λ small. ok.read_cause.fits (before.small small);
      failed = omega (arith, ok.write_cause.later, before.failed);
      few = λ few. ok.write_cause.fits (before.few few);
    }

pub returns-in_err-going-clause-does : goal.returns-in_err-going-clause-does
returns-in_err-going-clause-does g c told input bytes begins p ends stands =
    let q = err_from_is_err_and c.from_residual-in_err-going.result c.from_residual-in_err-going.ensures.1 in
    let before = c.loop-going.invariant in
    let here = (before.follows told).told in
    rw (q.1, q.2) (retelling_stops g.L.ObservationTeller.text g.L.ObservationTeller.full (g.R.SliceReplay.through p)
    bytes (end_of p) _ _ _ _ c.in_err-going.field-0.0 ends (λ cut none. cut) c.in_err-going.ensures.kind (λ h.
    (let may : MayBeInput _ _ input = record { begins = begins; whole = h } in
    let earlier = may_be_before _ _ _ _ input (c.in_err-going.ensures.follows here) may in
    let has = rw c.loop-going-test.true at (before.told told input earlier p (stands h)) in
    c.in_err-going.ensures.tells here input may p _ has)))

pub returns-in_err-going-clause-spent : goal.returns-in_err-going-clause-spent
returns-in_err-going-clause-spent g c told last =
    let q = err_from_is_err_and c.from_residual-in_err-going.result c.from_residual-in_err-going.ensures.1 in
    rw (q.1, q.2) (λ j. absurd (told_is_early c.in_err-going.field-0.0 c.in_err-going.ensures.kind j))

pub returns-in_err-going-clause-follows : goal.returns-in_err-going-clause-follows
returns-in_err-going-clause-follows g c told =
    let before = c.loop-going.invariant.follows told in
    gave_on before (c.in_err-going.ensures.follows before.told)

pub returns-in_err-finish-clause-does : goal.returns-in_err-finish-clause-does
returns-in_err-finish-clause-does g c told input bytes begins p ends stands =
    let q = err_from_is_err_and c.from_residual-in_err-finish.result c.from_residual-in_err-finish.ensures.1 in
    let t = g.R.SliceReplay.through p in
    rw (q.1, q.2) (retelling_unfinished g.L.ObservationTeller.text g.L.ObservationTeller.full t bytes _ _ _ _
    c.in_err-finish.field-0.0 (λ h.
    (let may : MayBeInput _ _ input = record { begins = begins; whole = h } in
    let all = rw c.loop-going-test.false at (c.loop-going.invariant.told told input may p (stands h)) in
    (all.0, c.in_err-finish.ensures.finishes t.observations _ all.1))))

pub returns-in_err-finish-clause-spent : goal.returns-in_err-finish-clause-spent
returns-in_err-finish-clause-spent g c told last =
    let q = err_from_is_err_and c.from_residual-in_err-finish.result c.from_residual-in_err-finish.ensures.1 in
    rw (q.1, q.2) (λ j. absurd (out_is_early c.in_err-finish.field-0.0 j))

pub returns-clause-does : goal.returns-clause-does
returns-clause-does g c told input bytes begins p ends stands =
    let t = g.R.SliceReplay.through p in
    retelling_ends g.L.ObservationTeller.text g.L.ObservationTeller.full t bytes _ (Unit {0}) _ _ (λ h.
    (let may : MayBeInput _ _ input = record { begins = begins; whole = h } in
    let all = rw c.loop-going-test.false at (c.loop-going.invariant.told told input may p (stands h)) in
    (all.0, c.in_ok-finish.ensures.finishes t.observations _ all.1)))

pub returns-clause-spent : goal.returns-clause-spent
returns-clause-spent g c told last = λ j. rw c.loop-going-test.false at (c.loop-going.invariant.spent told last)
