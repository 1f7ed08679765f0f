use Rattle.std.proofs.Common.{List, [], ◌∷◌, ◌++◌, sym, subst}
use Rattle.std.proofs.lemmas.Result.{err_from_is_err_and}
use Rattle.cx_codec.specs.Place.{end_of}
use Rattle.cx_observe.specs.declared.obs.Obs.{Obs}
use Rattle.cx_commands.proofs.Streams.{blocks_front}
use Rattle.cx_commands.specs.Streaming.{Told}
use Rattle.cx_retelling.proofs.Retold.{front_through, stops_at_sink, stops_by}
use Rattle.cx_retelling.proofs.retelling.retell_next.Goals as goal

pub returns-then-steps-gt-STEP_LIMIT-clause-tells : goal.returns-then-steps-gt-STEP_LIMIT-clause-tells
returns-then-steps-gt-STEP_LIMIT-clause-tells g c told input may p base has =
    let text = g.L.ObservationTeller.text in
    front_through text base _ has.observations (g.R.SliceReplay.through p).observations g.met.L.ObservationTeller.grows
    (g.met.R.SliceReplay.begins p has.observations c.args.replay.now _ _ input has.stands)
    (blocks_front base _ (text has.observations) _ has.told.stands)

pub returns-in_err-obs-clause-tells : goal.returns-in_err-obs-clause-tells
returns-in_err-obs-clause-tells g c told input may p base has =
    let q = err_from_is_err_and c.from_residual.result c.from_residual.ensures.1 in
    let text = g.L.ObservationTeller.text in
    rw (q.1, q.2) (stops_by text (g.R.SliceReplay.through p) (end_of p) has.observations _ base _
    c.in_err-obs.field-0.0 (c.in_err-obs.ensures.answers told input may p has.observations has.stands)
    has.told.stands.written
    (front_through text base _ has.observations (g.R.SliceReplay.through p).observations g.met.L.ObservationTeller.grows
    (g.met.R.SliceReplay.begins p has.observations c.args.replay.now _ _ input has.stands)
    (blocks_front base _ (text has.observations) _ has.told.stands)))

pub returns-in-None-clause-tells : goal.returns-in-None-clause-tells
returns-in-None-clause-tells g c told input may p base has =
    let waiting = g.L.ObservationTeller.waiting c.args.teller.now in
    let answers = rw c.in-None.is at (c.in_ok-obs.ensures.answers told input may p has.observations has.stands) in (
      answers.0,
      subst (λ (os : List Obs). Told base (g.L.ObservationTeller.text os) waiting
          (g.T.Sink.held c.args.sink.now) (g.L.ObservationTeller.keeps c.args.teller.now os)) (sym answers.1) has.told,
    )

pub returns-in_err-tell-in-Some-clause-tells : goal.returns-in_err-tell-in-Some-clause-tells
returns-in_err-tell-in-Some-clause-tells g c told input may p base has =
    let q = err_from_is_err_and c.from_residual-in_err-tell-in-Some.result
    c.from_residual-in_err-tell-in-Some.ensures.1 in
    let text = g.L.ObservationTeller.text in
    let stands = rw c.in-Some.is at (c.in_ok-obs.ensures.answers told input may p has.observations has.stands) in
    rw (q.1, q.2) (stops_at_sink text (g.R.SliceReplay.through p) (end_of p) _ base _ c.in_err-tell-in-Some.field-0.0
    (front_through text base _ (has.observations ++ c.in-Some.obs ∷ []) (g.R.SliceReplay.through p).observations
    g.met.L.ObservationTeller.grows
    (g.met.R.SliceReplay.begins p (has.observations ++ c.in-Some.obs ∷ []) c.give.new.self _ _ input stands)
    (c.in_err-tell-in-Some.ensures.tells has.observations base has.told)))

pub returns-in_ok-tell-in-Some-clause-tells : goal.returns-in_ok-tell-in-Some-clause-tells
returns-in_ok-tell-in-Some-clause-tells g c told input may p base has = record {
  observations = has.observations ++ c.in-Some.obs ∷ [];
  stands = rw c.in-Some.is at (c.in_ok-obs.ensures.answers told input may p has.observations has.stands);
  told = c.in_ok-tell-in-Some.ensures.tells has.observations base has.told;
}
