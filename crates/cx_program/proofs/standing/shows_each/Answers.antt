use Rattle.std.proofs.Common.{sym, ◌∙◌}
use Rattle.cx_shadow.specs.Cells.{byte_of}
use Rattle.cx_program.proofs.Shown.{next_place, shows_more, shows_whole}
use Rattle.cx_program.proofs.standing.shows_each.Goals as goal

pub loop-byte-preserved : goal.loop-byte-preserved
loop-byte-preserved c = record {
  shows = shows_more (byte_of c.args.shadow.now) c.args.va c.loop-byte.byte-index c.loop-byte.at c.args.bytes.now
      c.loop-byte-test.true c.loop-byte.invariant.shows c.loop-byte.invariant.at
      (sym c.has_byte.ensures ∙ c.if-not-has_byte.false);
  at = next_place c.args.va c.loop-byte.byte-index c.loop-byte.at c.loop-byte.invariant.at;
}

pub returns : goal.returns
returns c = λ is. shows_whole (byte_of c.args.shadow.now) c.args.va c.loop-byte.byte-index c.args.bytes.now
    c.loop-byte-test.false c.loop-byte.invariant.shows
