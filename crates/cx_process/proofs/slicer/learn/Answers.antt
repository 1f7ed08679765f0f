use Rattle.std.proofs.Common.{[]}
use Rattle.cx_codec.proofs.Putting.{puts_along, puts_none}
use Rattle.cx_program.specs.Knowing.{known_by}
use Rattle.cx_process.specs.Slicing.{step_text}
use Rattle.cx_process.proofs.Standing.{all_stays, no_items_at, no_least, no_text}
use Rattle.cx_process.proofs.slicer.learn.Goals as goal

pub returns-then-known-clause-puts : goal.returns-then-known-clause-puts
returns-then-known-clause-puts g c = puts_along [] (step_text c.args.groups.now.least c.args.count
    (known_by c.args.standing.now) c.args.obs.now)
    (no_text c.args.groups.now.least c.args.count (known_by c.args.standing.now) c.args.obs.now
    (no_items_at (known_by c.args.standing.now) c.args.obs.now (c.requires.known c.if-known.true)))
    (puts_none c.requires.live)

pub returns-then-known-clause-least : goal.returns-then-known-clause-least
returns-then-known-clause-least g c = no_least c.args.groups.now.least c.args.count
    (known_by c.args.standing.now) c.args.obs.now
    (no_items_at (known_by c.args.standing.now) c.args.obs.now (c.requires.known c.if-known.true))

pub returns-then-known-clause-known : goal.returns-then-known-clause-known
returns-then-known-clause-known g c =
    all_stays (known_by c.args.standing.now) c.args.obs.now (c.requires.known c.if-known.true)
