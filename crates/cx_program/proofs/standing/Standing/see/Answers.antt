use Rattle.std.proofs.Common.{◌∙◌}
use Rattle.cx_shadow.proofs.Several.{held_on}
use Rattle.cx_program.proofs.standing.Standing.see.Goals as goal

pub returns-clause-room : goal.returns-clause-room
returns-clause-room c = record {
  seen = held_on c.args.self.now.shadow c.put_all.new.self (λ a held. c.put_all.ensures.holds a ∙ held) _
      c.requires.seen;
  written = held_on c.args.self.now.shadow c.put_all.new.self (λ a held. c.put_all.ensures.holds a ∙ held) _
      c.requires.written;
}
