use Rattle.std.proofs.Common.{take}
use Rattle.cx_hart.specs.Reads.{entry_indices}
use Rattle.cx_window.specs.Marks.{AddsMarks}
use Rattle.cx_window.proofs.marks.mark_entries.Given as goal

abbrev pub invariant-loop-n : goal.invariant-loop-n
invariant-loop-n l = AddsMarks l.fn.marks l.marks (entry_indices (take l.n l.places))
