use Rattle.std.proofs.Common.{[], ◌∷◌, ◌++◌}
use Rattle.std.proofs.lemmas.Result.{err_from_is_err_and}
use Rattle.cx_observe.specs.declared.obs.Obs.{Obs}
use Rattle.cx_calls.specs.Stands.{HasTaken, output_of}
use Rattle.cx_calls.proofs.Growing.{grows}
use Rattle.cx_calls.specs.Begun.{calls_added, calls_begun}
use Rattle.cx_tellers.proofs.FedTold.{fed_cause, fed_live, fed_on, unfed}
use Rattle.cx_tellers.proofs.CallsTold.{room_or}
use Rattle.cx_tellers.proofs.calling.CallerObservationTeller.tell.Goals as goal

pub returns-in_err-may_have_more-clause-tells : goal.returns-in_err-may_have_more-clause-tells
returns-in_err-may_have_more-clause-tells g c os base told =
    let p = err_from_is_err_and c.from_residual.result c.from_residual.ensures.1 in
    rw p.1 (unfed (calls_begun os) (calls_begun (os ++ c.args.obs.now ∷ [])) base _ _ (calls_added os c.args.obs.now)
    (grows os c.args.obs.now) told.stands)

pub returns-clause-tells : goal.returns-clause-tells
returns-clause-tells g c os base told =
    fed_on g.T.Sink.held g.T.Sink.faults (λ os. HasTaken os c.args.self.now) (λ os. calls_added os c.args.obs.now)
    (output_of c.args.self.now) (output_of c.feed.new.self) c.args.sink.now c.feed.new.sink c.feed.result
    (calls_begun os) (calls_begun (os ++ c.args.obs.now ∷ [])) _ _ os base (grows os c.args.obs.now) told.keeps
    told (c.feed.ensures.stands os told.keeps) (λ os taken. room_or (c.feed.ensures.puts os taken))

pub returns-clause-goes : goal.returns-clause-goes
returns-clause-goes g c =
    fed_live g.T.Sink.held g.T.Sink.faults (λ os. HasTaken os c.args.self.now) (λ os. calls_added os c.args.obs.now)
    (output_of c.args.self.now) (output_of c.feed.new.self) c.args.sink.now c.feed.new.sink c.feed.result
    (c.args.self.now.calling c.requires.ready) (λ os taken. room_or (c.feed.ensures.puts os taken))

pub returns-clause-cause : goal.returns-clause-cause
returns-clause-cause g c =
    fed_cause g.T.Sink.held g.T.Sink.faults (λ os. HasTaken os c.args.self.now) (λ os. calls_added os c.args.obs.now)
    (output_of c.args.self.now) (output_of c.feed.new.self) c.args.sink.now c.feed.new.sink c.feed.result
    (c.args.self.now.calling c.requires.ready) (λ os taken. room_or (c.feed.ensures.puts os taken))
