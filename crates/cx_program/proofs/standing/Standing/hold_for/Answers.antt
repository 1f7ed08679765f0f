use Rattle.cx_program.proofs.Held.{known_room}
use Rattle.cx_program.proofs.standing.Standing.hold_for.Goals as goal

pub returns-then-known-clause-room : goal.returns-then-known-clause-room
returns-then-known-clause-room c = known_room c.args.self.now c.hold_access.new.shadow c.args.obs.now
    c.hold_access.result (c.requires.known c.if-known.true) c.hold_access.ensures.keeps c.hold_access.ensures.held
