use Rattle.std.proofs.Common.{arith, refl, ◌-◌, ◌∙◌}
use Rattle.cx_shadow.proofs.Several.{held_at}
use Rattle.cx_marks.proofs.Stamped.{one_before}
use Rattle.cx_marks.proofs.marks.Marks.mark_all.Goals as goal

pub put-requires : goal.put-requires
put-requires c =
    c.loop-left.invariant.holds _ ∙ held_at c.args.self.now.stamps c.args.bytes.now (c.loop-left.left - 1) (0, 0)
    c.requires (omega (arith, c.loop-left.invariant.within, c.loop-left-test.true))

pub loop-left-preserved : goal.loop-left-preserved
loop-left-preserved c = record {
  within = omega (arith, c.loop-left.invariant.within);
  marks = one_before c.args.self.now c.loop-left.self _ c.args.bytes.now c.loop-left.left c.loop-left-test.true
      c.loop-left.invariant.within refl c.loop-left.invariant.marks c.put.ensures.here c.put.ensures.others;
  holds = λ a. c.put.ensures.holds a ∙ c.loop-left.invariant.holds a;
  asked = c.loop-left.invariant.asked;
}
