-- What `trace window` does: the lines of the window's steps, as `trace all` writes them.
use Rattle.std.specs.Prelude.{◌≡◌, ℕ, ◌-◌, List, ◌++◌, drop, take}
use Rattle.cx_log.specs.Reading.{Opened}
use Rattle.cx_log.specs.Scan.{Scan}
use Rattle.cx_commands.specs.Doing.{Doing}
use Rattle.cx_commands.specs.Streaming.{settled_steps}
use Rattle.cx_commands.specs.Trace.{lines_from}
use Rattle.cx_commands.specs.Window.{of_window}

-- the lines of the steps from a up to b, of those of an input
abbrev pub window_lines : ℕ → ℕ → Opened → Scan → List ℕ
window_lines a b o s = lines_from a (take (b - a) (drop (a - o.header.base) (settled_steps o s)))

-- `trace window a b`
abbrev pub tracing_window : ℕ → ℕ → Doing
tracing_window a b = of_window (window_lines a b) a b

-- a text stands in another
pub record IsPartOf (text all : List ℕ) : Type 0 where
  pub before : List ℕ
  pub behind : List ℕ
  pub parts : all ≡ before ++ (text ++ behind)
