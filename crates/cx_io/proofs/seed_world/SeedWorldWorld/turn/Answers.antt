use Rattle.std.proofs.Common.{rules}
use Rattle.cx_io.proofs.SeededAnswers.{AddsAnswer-told}
use Rattle.cx_io.proofs.seed_world.SeedWorldWorld.turn.Goals as goal

pub returns-clause-answer : goal.returns-clause-answer
returns-clause-answer c =
    rw (← c.self.view_is, c.divides_sum.ensures, c.divides_sum-2.ensures)
    (AddsAnswer-told c.self.inside.seed c.self.inside.calls c.saturating_add-self-inside.result
    (search rules) c.saturating_add-self-inside.ensures)
