-- The words before the index obey their rules.
use Rattle.std.proofs.Common.{ℕ, ◌<◌}
use Rattle.cx_csr.specs.Rules.{FitsAt}
use Rattle.cx_csr.proofs.words.first_bad.Given as goal

abbrev pub invariant-loop-index : goal.invariant-loop-index
invariant-loop-index l = (k : ℕ) → k < l.index → FitsAt l.pages l.words k
