use Rattle.std.proofs.Common.{◌∙◌, rules}
use Rattle.cx_map.specs.Map.{ram_index}
use Rattle.cx_hart.proofs.TouchBytes.{stored_touch}
use Rattle.cx_hart.proofs.after.store.Goals as goal

pub returns-clause-memory : goal.returns-clause-memory
returns-clause-memory c =
    c.store.ensures.memory
    ∙ stored_touch c.args.ram.now.memory c.args.touch.bytes (ram_index c.args.touch.pa) c.args.touch.len
    c.from_le_bytes.result c.requires.inside.length.0 c.requires.inside.length.1 (search rules) (search rules)
    c.from_le_bytes.ensures
