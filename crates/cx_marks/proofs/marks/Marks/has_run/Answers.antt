use Rattle.std.proofs.Common.{ap, ◌∙◌}
use Rattle.std.proofs.lemmas.List.{take-replicate}
use Rattle.cx_shadow.specs.Cells.{are_at, byte_of}
use Rattle.cx_marks.proofs.Stamped.{run_is}
use Rattle.cx_marks.proofs.marks.Marks.has_run.Goals as goal

pub returns : goal.returns
returns c = c.has.ensures
    ∙ (ap (are_at (byte_of c.args.self.now.stamps) c.args.va)
    (take-replicate c.args.len 4 c.args.self.now.turn c.requires.few)
    ∙ run_is c.args.self.now c.args.va c.args.len)
