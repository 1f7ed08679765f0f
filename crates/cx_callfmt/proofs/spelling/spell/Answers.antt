use Rattle.std.proofs.Common.{◌∙◌}
use Rattle.std.proofs.lemmas.List.{length-set}
use Rattle.cx_codec.proofs.Spelling.{more_spelled, all_spelled}
use Rattle.cx_callfmt.proofs.spelling.spell.Goals as goal

pub loop-rest-preserved : goal.loop-rest-preserved
loop-rest-preserved c = record {
  whole = length-set c.loop-rest.digits c.loop-rest.count _ ∙ c.loop-rest.invariant.whole;
  spelled = more_spelled _ _ _ _ c.loop-rest.invariant.spelled c.loop-rest-test.true c.loop-rest.invariant.whole;
}

pub returns-clause-spelled : goal.returns-clause-spelled
returns-clause-spelled c =
    all_spelled _ _ _ _ c.loop-rest.invariant.spelled c.loop-rest-test.false c.loop-rest.invariant.whole
