use Rattle.cx_shadow.specs.Cells.{byte_of}
use Rattle.cx_program.proofs.Shown.{all_shown}
use Rattle.cx_program.proofs.standing.Standing.has_sights.Goals as goal

pub returns-then-shows : goal.returns-then-shows
returns-then-shows c = λ is. all_shown (byte_of c.args.self.now.shadow) c.args.obs.now c.to_le_bytes.result
    c.to_le_bytes.ensures (c.shows.ensures c.if-shows.true) (c.shows_access.ensures is)
