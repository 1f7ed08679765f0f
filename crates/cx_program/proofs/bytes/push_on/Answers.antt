use Rattle.std.proofs.Common.{arith}
use Rattle.cx_program.proofs.Shown.{next_place, one_more}
use Rattle.cx_program.proofs.bytes.push_on.Goals as goal

pub loop-byte-preserved : goal.loop-byte-preserved
loop-byte-preserved c = record {
  items = one_more c.args.into.now.items c.loop-byte.into.items c.push.new.self.items c.args.va c.loop-byte.byte-index
      c.loop-byte.at c.args.bytes.now c.loop-byte-test.true c.loop-byte.invariant.items c.loop-byte.invariant.at
      c.push.ensures.items;
  size = omega (arith, c.push.ensures.len, c.loop-byte.invariant.size);
  at = next_place c.args.va c.loop-byte.byte-index c.loop-byte.at c.loop-byte.invariant.at;
  room = c.loop-byte.invariant.room;
}
