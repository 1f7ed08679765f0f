use Rattle.std.proofs.Common.{arith, refl, ◌∙◌}
use Rattle.cx_shadow.proofs.Several.{held_at}
use Rattle.cx_call_alone.proofs.Accessed.{accessed_more, all_accessed, marked_more, none_accessed}
use Rattle.cx_call_alone.proofs.marking.access.Goals as goal

pub loop-at-init : goal.loop-at-init
loop-at-init c = record {
  within = omega arith;
  marks = λ a. none_accessed c.args.touched.now a;
  holds = λ a. refl;
  asked = c.requires;
  owes = λ owed owes. all_accessed c.args.head.now c.args.touched.now c.args.owes owed owes;
}

pub mark_all-requires : goal.mark_all-requires
mark_all-requires c = (
  c.loop-at.invariant.holds _ ∙ held_at c.args.touched.now.stamps c.args.bytes.now c.loop-at.at (0, 0)
      c.requires c.loop-at-test.true,
  tt,
)

pub loop-at-preserved : goal.loop-at-preserved
loop-at-preserved c = record {
  within = omega (arith, c.loop-at-test.true);
  marks = λ a. marked_more c.args.touched.now c.loop-at.touched _ c.args.bytes.now c.loop-at.at a c.loop-at-test.true
      c.loop-at.invariant.marks c.mark_all.ensures.marks;
  holds = λ a. c.mark_all.ensures.holds a ∙ c.loop-at.invariant.holds a;
  asked = c.loop-at.invariant.asked;
  owes = λ owed owes. accessed_more c.args.head.now c.loop-at.touched _ c.args.bytes.now c.loop-at.at c.loop-at.left
      c.one_off-left.result owed c.is_owed.result c.loop-at-test.true
      (c.loop-at.invariant.owes owed owes) c.is_owed.ensures c.one_off-left.ensures c.mark_all.ensures.marks;
}
