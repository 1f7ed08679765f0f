use Rattle.std.proofs.Common.{◌≡◌, ℕ, ◌+◌, ◌<◌, get_or}
use Rattle.cx_pages.proofs.counts.number.Given as goal

abbrev pub invariant-loop-i : goal.invariant-loop-i
invariant-loop-i l = ((k : ℕ) → k < l.fn.at → get_or l.places k 0 ≡ get_or l.initial.places k 0)
    × ((k : ℕ) → k < l.i → get_or l.places (l.fn.at + k) 0 ≡ l.fn.first + k)
