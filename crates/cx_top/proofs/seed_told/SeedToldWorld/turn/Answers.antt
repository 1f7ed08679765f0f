use Rattle.std.proofs.Common.{rules, refl}
use Rattle.cx_io.specs.Plan.{one_more}
use Rattle.cx_io.proofs.SeededAnswers.{AddsAnswer-told}
use Rattle.cx_commands.specs.Record.{seed_as_answer}
use Rattle.cx_commands.proofs.Seeding.{adds_behind}
use Rattle.cx_top.proofs.seed_told.SeedToldWorld.turn.Goals as goal

pub returns-clause-answer : goal.returns-clause-answer
returns-clause-answer c =
    let seed = c.self.inside.seed in
    let calls = c.self.inside.calls in
    rw (
      c.advance.ensures,
      ← c.self.view_is,
      c.self.invariant.each,
      c.self.invariant.console_next,
      c.self.invariant.block_next,
    )
    (adds_behind (seed_as_answer seed) _ _ _ (AddsAnswer-told seed calls (one_more calls) (search rules) refl))
