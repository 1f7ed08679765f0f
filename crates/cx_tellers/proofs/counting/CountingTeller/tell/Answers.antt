use Rattle.std.proofs.Common.{[]}
use Rattle.std.proofs.lemmas.Result.{err_from_is_err_and}
use Rattle.cx_tellers.proofs.RootsTold.{roots_noted}
use Rattle.cx_tellers.proofs.Taken.{formed}
use Rattle.cx_commands.proofs.Streams.{blocks_front}
use Rattle.cx_tellers.proofs.counting.CountingTeller.tell.Goals as goal

pub returns-in_err-note-clause-tells : goal.returns-in_err-note-clause-tells
returns-in_err-note-clause-tells g c asked o whole given base ordered at within due so_far =
    let p = err_from_is_err_and c.from_residual.result c.from_residual.ensures.1 in
    rw p.1 (blocks_front base _ [] [] so_far.stands)

pub returns-clause-tells : goal.returns-clause-tells
returns-clause-tells g c asked o whole given base ordered at within due so_far = record {
  stands = so_far.stands;
  keeps = roots_noted c.args.self.now.roots _ o.header.base c.args.step given c.args.rec.now at so_far.keeps
      c.in_ok-note.ensures.noted;
}

pub note-requires : goal.note-requires
note-requires g c = formed c.args.rec.now c.requires.taken
