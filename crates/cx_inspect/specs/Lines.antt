-- The lines of roots.
use Rattle.std.specs.Prelude.{ℕ, List}
use Rattle.std.specs.List.{flat_map}
use Rattle.cx_print.specs.Lines.{root_line}
use Rattle.cx_inspect.specs.declared.roots.Tally.{Tally}

-- a line for each root, in order
unfoldable pub root_lines : List (ℕ × Tally) → List ℕ
root_lines roots = flat_map (λ e. root_line e.0 e.1.steps e.1.first) roots
