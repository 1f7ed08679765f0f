use Rattle.std.proofs.Common.{◌≡◌, arith}
use Rattle.cx_ram.proofs.Writes.{stored_one, stored_two, stored_three, stored_four}
use Rattle.cx_ram.proofs.ram.Ram.store.Goals as goal

pub returns-in-1-clause-memory : goal.returns-in-1-clause-memory
returns-in-1-clause-memory c = rw (c.in-1.is, c.write.ensures.memory) (stored_one _ _ _ c.args.value
    c.to_le_bytes-bytes.ensures)

pub returns-in-2-clause-memory : goal.returns-in-2-clause-memory
returns-in-2-clause-memory c = rw (c.in-2.is, c.write-in-2.ensures.memory) (stored_two _ _ _ c.args.value
    c.to_le_bytes-bytes.ensures)

pub returns-in-3-clause-memory : goal.returns-in-3-clause-memory
returns-in-3-clause-memory c = rw (c.in-3.is, c.write-in-3.ensures.memory) (stored_three _ _ _ c.args.value
    c.to_le_bytes-bytes.ensures)

pub returns-in_default-clause-memory : goal.returns-in_default-clause-memory
returns-in_default-clause-memory c = let e : c.args.len ≡ 4 = omega (arith, c.requires.length) in
    rw (e, c.write-in_default.ensures.memory) (stored_four _ _ _ c.args.value
    c.to_le_bytes-bytes.ensures)
