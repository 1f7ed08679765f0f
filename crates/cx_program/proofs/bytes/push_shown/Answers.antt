use Rattle.std.proofs.Common.{◌++◌, ap, ◌∙◌}
use Rattle.cx_observe.specs.Seeing.{bytes_on}
use Rattle.cx_program.proofs.bytes.push_shown.Goals as goal

pub returns-in-Some : goal.returns-in-Some
returns-in-Some c = rw c.in-Some.is (c.push_on.ensures.bytes
    ∙ ap (λ l. c.args.into.now.items ++ bytes_on c.in-Some.seen.va l) c.front.ensures.bytes)
