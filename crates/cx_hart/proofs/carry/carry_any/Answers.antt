use Rattle.std.proofs.Common.{◌∙◌, sym}
use Rattle.cx_hart.specs.Outcomes.{here_of}
use Rattle.cx_hart.proofs.Ends.{executed_end}
use Rattle.cx_hart.proofs.carry.carry_any.Goals as goal

pub conclude-requires-clause-end : goal.conclude-requires-clause-end
conclude-requires-clause-end g c =
    executed_end (here_of c.args.split c.args.given c.args.ram.now.memory c.args.state.now) c.args.word c.args.ins.now
    c.executed-ended.result c.requires.keeps c.pages.ensures.bytes c.is_word.ensures c.ranges.word.fits
    c.requires.formed c.executed-ended.ensures.retired (sym c.asked_of.ensures ∙ c.in_default.is)
