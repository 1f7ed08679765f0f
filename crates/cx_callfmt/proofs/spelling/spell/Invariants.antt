use Rattle.std.proofs.Common.{◌≡◌, length}
use Rattle.cx_codec.proofs.Spelling.{Spelled}
use Rattle.cx_callfmt.proofs.spelling.spell.Given as goal

abbrev pub invariant-loop-rest : goal.invariant-loop-rest
invariant-loop-rest l = record {
  whole : length l.digits ≡ 10;
  spelled : Spelled l.value l.digits l.count l.rest;
}

abbrev pub decreases-loop-rest : goal.decreases-loop-rest
decreases-loop-rest l = l.rest
