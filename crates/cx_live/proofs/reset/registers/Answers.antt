use Rattle.std.proofs.Common.{◌<◌, ◌^◌, arith}
use Rattle.std.proofs.lemmas.List.Elements.{All-replicate}
use Rattle.cx_live.proofs.reset.registers.Goals as goal

pub returns-clause-wide : goal.returns-clause-wide
returns-clause-wide c = All-replicate (λ v. v < 2 ^ 32) 32 0 (omega arith)
