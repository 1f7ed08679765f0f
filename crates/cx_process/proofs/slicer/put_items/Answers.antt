use Rattle.std.proofs.Common.{sym, ◌∙◌}
use Rattle.cx_program.specs.Knowing.{known_by}
use Rattle.cx_slicefmt.specs.Engine.{items_in}
use Rattle.cx_process.proofs.Spelled.{spelled}
use Rattle.cx_process.proofs.slicer.put_items.Goals as goal

pub group-requires-clause-rules : goal.group-requires-clause-rules
group-requires-clause-rules g c = spelled (known_by c.args.standing.now) c.args.obs.now c.args.count
    c.args.groups.now.least (items_in c.items-items.result) c.items-items.ensures.items c.items-items.ensures.words
    (sym c.are_none.ensures ∙ c.if-are_none.false) c.requires.possible c.requires.order c.requires.most
