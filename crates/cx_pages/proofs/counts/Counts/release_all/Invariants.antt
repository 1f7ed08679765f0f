use Rattle.std.proofs.Common.{◌≡◌, ℕ, ◌+◌, ◌≤◌, length, take}
use Rattle.cx_pages.specs.Counts.{count_of}
use Rattle.cx_pages.specs.Tables.{names}
use Rattle.cx_pages.proofs.counts.Counts.release_all.Given as goal

abbrev pub invariant-loop-frame : goal.invariant-loop-frame
invariant-loop-frame l = ((f : ℕ) → count_of l.self.counts f + names f (take l.frame-index l.table)
    ≡ count_of l.fn.self.counts f) × (length l.self.counts ≡ length l.fn.self.counts) × (l.fn.self.spare ≤ l.self.spare)
