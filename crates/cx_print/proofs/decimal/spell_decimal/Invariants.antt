use Rattle.std.proofs.Common.{◌≡◌, ◌≤◌, ◌++◌, length, drop}
use Rattle.std.specs.Fmt.{decimal}
use Rattle.cx_print.proofs.decimal.spell_decimal.Given as goal

abbrev pub invariant-loop-rest : goal.invariant-loop-rest
invariant-loop-rest l = record {
  whole : length l.digits ≡ 20;
  place : l.place ≤ 20;
  room : length (decimal l.rest) ≤ l.place;
  spelled : decimal l.n ≡ decimal l.rest ++ drop l.place l.digits;
}

abbrev pub decreases-loop-rest : goal.decreases-loop-rest
decreases-loop-rest l = l.rest
