use Rattle.cx_commands.proofs.Recordings.{never_world, seeds, seeded_kind}
use Rattle.cx_top.proofs.record.record_seed.Goals as goal

pub returns-clause-answer : goal.returns-clause-answer
returns-clause-answer g c told input begins =
    (seeds c.args.steps c.args.seed _ _ _ _ c.record_steps.new.world _ _ _ c.requires.most
    (never_world _ c.record_steps.ensures.world_cause) c.new-world.ensures
    (c.record_steps.ensures.records told input begins)).0

pub returns-clause-leaves : goal.returns-clause-leaves
returns-clause-leaves g c told input begins =
    (seeds c.args.steps c.args.seed _ _ _ _ c.record_steps.new.world _ _ _ c.requires.most
    (never_world _ c.record_steps.ensures.world_cause) c.new-world.ensures
    (c.record_steps.ensures.records told input begins)).1.0

pub returns-clause-asks : goal.returns-clause-asks
returns-clause-asks g c told input begins =
    (seeds c.args.steps c.args.seed _ _ _ _ c.record_steps.new.world _ _ _ c.requires.most
    (never_world _ c.record_steps.ensures.world_cause) c.new-world.ensures
    (c.record_steps.ensures.records told input begins)).1.1

pub returns-clause-kind : goal.returns-clause-kind
returns-clause-kind g c =
    seeded_kind _ c.record_steps.ensures.kind (never_world _ c.record_steps.ensures.world_cause)
