use Rattle.std.proofs.Common.{rules}
use Rattle.cx_io.proofs.ScriptedAnswers.{AddsAnswer-scripted}
use Rattle.cx_io.proofs.script_world.ScriptWorldWorld.turn.Goals as goal

pub returns-clause-answer : goal.returns-clause-answer
returns-clause-answer c =
    rw (← c.self.view_is, c.next_answer-answer.ensures)
    (AddsAnswer-scripted c.self.inside.script.items c.self.inside.plan c.fails_now.new.self c.self.inside.given
    c.saturating_add-self-inside.result (search rules) c.saturating_add-self-inside.ensures)
