use Rattle.cx_program.specs.Knowing.{known_by}
use Rattle.cx_slices.specs.Items.{no_items}
use Rattle.cx_alone.proofs.Steps.{nothing_handed, nothing_new, taken}
use Rattle.cx_alone.proofs.step.go_on.Goals as goal

pub returns-clause-taken : goal.returns-clause-taken
returns-clause-taken c = taken (known_by c.args.standing.now) (known_by c.args.standing.now) (known_by c.carry.new.standing)
    (no_items 32) c.carry.result (nothing_new (known_by c.args.standing.now))
    (nothing_handed (known_by c.args.standing.now)) c.carry.ensures.carried
