use Rattle.std.proofs.Common.{refl, ◌∙◌}
use Rattle.std.proofs.lemmas.List.{take_more}
use Rattle.cx_shadow.proofs.Several.{held_on, one_more_held}
use Rattle.cx_shadow.proofs.shadow.Shadow.hold_all.Goals as goal

pub loop-byte-preserved : goal.loop-byte-preserved
loop-byte-preserved c = record {
  held = rw (take_more c.args.bytes.now c.loop-byte.byte-index (0, 0) c.loop-byte-test.true) (one_more_held
      c.hold.new.self _ _ (held_on c.loop-byte.self c.hold.new.self c.in_ok-hold.ensures.keeps _
      c.loop-byte.invariant.held) (c.in_ok-hold.ensures.held _ refl));
  bytes = λ a. c.in_ok-hold.ensures.bytes a ∙ c.loop-byte.invariant.bytes a;
  keeps = λ a held. c.in_ok-hold.ensures.keeps a (c.loop-byte.invariant.keeps a held);
}
