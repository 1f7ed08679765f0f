use Rattle.std.proofs.Common.{◌≡◌, arith}
use Rattle.cx_ram.proofs.Loads.{loaded_four}
use Rattle.cx_ram.proofs.little_endian.load.Goals as goal

pub returns-in_default-clause-value : goal.returns-in_default-clause-value
returns-in_default-clause-value c =
    let e : c.args.len ≡ 4 = omega (arith, c.requires.length) in
    rw (e, loaded_four) c.from_le_bytes-in_default.ensures
