use native.Mathlib.Omega.{arith}
use Rattle.std.proofs.Common.{◌<◌, ◌^◌}
use Rattle.std.specs.Prelude.{replicate}
use Rattle.std.proofs.lemmas.List.Elements.{All-replicate, All-set}
use Rattle.cx_bench.proofs.mode.registers.Goals as goal

pub returns-clause-wide : goal.returns-clause-wide
returns-clause-wide c = All-set (λ v. v < 2 ^ 32) (replicate 32 0) 1 c.args.data c.ranges.data.fits
    (All-replicate (λ v. v < 2 ^ 32) 32 0 (omega arith))
