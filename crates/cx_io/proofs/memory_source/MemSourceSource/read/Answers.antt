use Rattle.std.proofs.Common.{◌+◌, ◌≤◌, length, arith}
use Rattle.std.proofs.lemmas.Grind.{common_steps}
use Rattle.cx_io.proofs.Fronts.{drop-moved, take-moved}
use Rattle.cx_io.proofs.memory_source.MemSourceSource.read.Goals as goal

pub returns-clause-bytes : goal.returns-clause-bytes
returns-clause-bytes c =
    let within : c.self.inside.at + c.min-count.result ≤ length c.self.inside.bytes.items =
    grind (arith, common_steps) in
    rw (← c.self.view_is, c.copy_from_slice.ensures.after, c.deref.ensures.value) (
      drop-moved c.self.inside.bytes.items _ c.self.inside.at c.min-count.result within,
      λ none some. grind (arith, common_steps),
    )

pub returns-clause-given : goal.returns-clause-given
returns-clause-given c =
    let within : c.self.inside.at + c.min-count.result ≤ length c.self.inside.bytes.items =
    grind (arith, common_steps) in
    rw (← c.self.view_is, c.copy_from_slice.ensures.after, c.deref.ensures.value)
    (take-moved c.self.inside.bytes.items _ c.self.inside.at c.min-count.result within)
