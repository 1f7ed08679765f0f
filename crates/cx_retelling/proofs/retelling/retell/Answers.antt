use Rattle.std.proofs.Common.{None}
use Rattle.std.proofs.lemmas.Result.{err_from_is_err_and}
use Rattle.cx_alone.specs.Ahead.{MayBeInput}
use Rattle.cx_alone.proofs.Inputs.{may_be_before}
use Rattle.cx_codec.specs.Place.{Place, end_of}
use Rattle.cx_codec.specs.Reads.{over, place_in}
use Rattle.cx_replay.proofs.Giving.{gave_on}
use Rattle.cx_retelling.proofs.Retold.{fault_is_early, fault_refuses, retelling_stops, stops_unopened}
use Rattle.cx_retelling.proofs.retelling.retell.Goals as goal

pub returns-in_err-replay-clause-does : goal.returns-in_err-replay-clause-does
returns-in_err-replay-clause-does g c told input bytes begins are ends =
    let q = err_from_is_err_and c.from_residual.result c.from_residual.ensures.1 in
    let p : Place = place_in (over c.args.bytes None (g.S.Source.given c.args.source.now)) input in
    let text = g.L.ObservationTeller.text in
    let t = g.R.SliceReplay.through p in
    rw (q.1, q.2) (retelling_stops text g.L.ObservationTeller.full t bytes (end_of p) _ _ _ _ _ ends (λ cut none. cut)
    (fault_refuses c.in_err-replay.field-0.0) (λ h. stops_unopened text t (end_of p) _ _ c.in_err-replay.field-0.0
    g.met.L.ObservationTeller.unwritten
    (c.in_err-replay.ensures.opens told input (record { begins = begins; whole = h }) are)))

pub returns-in_err-replay-clause-spent : goal.returns-in_err-replay-clause-spent
returns-in_err-replay-clause-spent g c told =
    let q = err_from_is_err_and c.from_residual.result c.from_residual.ensures.1 in
    rw (q.1, q.2) (λ j. absurd (fault_is_early c.in_err-replay.field-0.0 j))

pub returns-clause-follows : goal.returns-clause-follows
returns-clause-follows g c told =
    let opened = c.in_ok-replay.ensures.follows told in gave_on opened (c.retell_all.ensures.follows opened.told)

pub returns-clause-does : goal.returns-clause-does
returns-clause-does g c told input bytes begins are ends =
    let opened = c.in_ok-replay.ensures.follows told in
    let p : Place = place_in (over c.args.bytes None (g.S.Source.given c.args.source.now)) input in
    c.retell_all.ensures.does opened.told input bytes begins p ends (λ h.
    (let may : MayBeInput _ _ input = record { begins = begins; whole = h } in
    c.in_ok-replay.ensures.opens told input (may_be_before _ _ _ _ input (c.retell_all.ensures.follows opened.told) may)
    are))

pub returns-clause-spent : goal.returns-clause-spent
returns-clause-spent g c told =
    c.retell_all.ensures.spent (c.in_ok-replay.ensures.follows told).told (c.in_ok-replay.ensures.last told)
