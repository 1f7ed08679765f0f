use Rattle.std.proofs.Common.{◌≡◌, ◌^◌, ◌<◌, ◌≤◌, false, length, drop}
use Rattle.std.specs.Fmt.{digits}
use Rattle.cx_print.proofs.HexDigits.{spelled_at}
use Rattle.cx_print.proofs.hex.spell_hex.Given as goal

abbrev pub invariant-loop-rest : goal.invariant-loop-rest
invariant-loop-rest l = record {
  whole : length l.digits ≡ 5;
  some : 1 ≤ l.place;
  place : l.place ≤ 5;
  fits : l.rest < 16 ^ l.place;
  spelled : digits 16 false l.number ≡ spelled_at l.place l.rest (drop l.place l.digits);
}

abbrev pub decreases-loop-rest : goal.decreases-loop-rest
decreases-loop-rest l = l.rest
