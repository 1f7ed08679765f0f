use Rattle.std.proofs.Common.{arith}
use Rattle.std.proofs.lemmas.List.{take_rest}
use Rattle.cx_codec.proofs.Blocks.{appends_more, appends_told}
use Rattle.cx_codec.proofs.output.write_all.Goals as goal

pub loop-written-preserved : goal.loop-written-preserved
loop-written-preserved g c = record {
  within = omega (arith, c.in_ok-written.ensures.bound);
  told = λ told. appends_told _ _ _ c.in_ok-written.ensures.bytes (c.loop-written.invariant.told told);
  appended = appends_more _ _ _ _ _ _ c.loop-written.invariant.appended (rw take_rest at c.in_ok-written.ensures.bytes);
  later = omega (arith, c.in_ok-written.ensures.cause.later);
  fits = λ small. c.in_ok-written.ensures.cause.fits (c.loop-written.invariant.fits small);
}
