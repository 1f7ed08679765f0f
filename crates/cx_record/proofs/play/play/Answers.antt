use Rattle.std.proofs.Common.{sym, ◌∙◌}
use Rattle.std.proofs.lemmas.Result.{err_from_is_err_and}
use Rattle.cx_record.proofs.Played.{plays_fault}
use Rattle.cx_record.proofs.play.play.Goals as goal

pub returns-in_err-take_turn-clause-plays : goal.returns-in_err-take_turn-clause-plays
returns-in_err-take_turn-clause-plays g c =
    let p = err_from_is_err_and c.from_residual.result c.from_residual.ensures.1 in
    λ image given base is split put.
    rw (p.1, p.2) (plays_fault image c.args.steps c.loop-step.step given (g.W.World.answers c.take_turn.new.world) base
    (g.T.Sink.held c.take_turn.new.sink) c.take_turn.new.writer c.take_turn.new.live.live _ is c.loop-step-test.true
    c.requires.few
    (c.in_err-take_turn.ensures.turns image given base is (split ∙ sym c.loop-step.invariant.split)
    (c.loop-step.invariant.puts image given base is split put)))
