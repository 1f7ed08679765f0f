use Rattle.std.proofs.Common.{arith, ◌-◌, ◌∙◌}
use Rattle.cx_shadow.specs.Cells.{byte_of}
use Rattle.cx_shadow.proofs.Several.{held_at, put_before}
use Rattle.cx_shadow.proofs.shadow.Shadow.put_all.Goals as goal

pub put-requires : goal.put-requires
put-requires c =
    c.loop-left.invariant.holds _ ∙ held_at c.args.self.now c.args.bytes.now (c.loop-left.left - 1) (0, 0) c.requires
    (omega (arith, c.loop-left.invariant.within, c.loop-left-test.true))

pub loop-left-preserved : goal.loop-left-preserved
loop-left-preserved c = record {
  within = omega (arith, c.loop-left.invariant.within);
  bytes = put_before (byte_of c.loop-left.self) (byte_of c.put.new.self) c.args.bytes.now c.loop-left.left
      (byte_of c.args.self.now) c.loop-left-test.true c.loop-left.invariant.within c.loop-left.invariant.bytes
      c.put.ensures.here c.put.ensures.others;
  holds = λ a. c.put.ensures.holds a ∙ c.loop-left.invariant.holds a;
  asked = c.loop-left.invariant.asked;
}
