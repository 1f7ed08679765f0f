-- Which command the texts of the words ask for.
use Rattle.std.specs.Prelude.{ℕ, if◌then◌else◌, nat_lt, List, [], ◌∷◌, Option, None, Some, codes}
use Rattle.std.specs.Bool.{then_some}
use Rattle.std.specs.Option.{option_and_then, option_map, option_zip}
use Rattle.std.specs.Str.{bytes_eq}
use Rattle.cx_words.specs.Arguments.{one_word, step_count, two_numbers}
use Rattle.cx_words.specs.Number.{number}
use Rattle.cx_words.specs.Queries.{query_count}
use Rattle.cx_words.specs.declared.command.Command.{Command}
use Rattle.cx_words.specs.declared.command.Command.TheVariants.{Window, Process, Calls, Relog, Replay, TraceAll}
use Rattle.cx_words.specs.declared.command.Command.TheVariants.{TraceWindow, TraceRoot, Record, RecordSeed, Roots}
use Rattle.cx_words.specs.declared.command.Command.TheVariants.{Inspect, Salvage, Make, Demo, Upgrade}

-- a command that has no arguments
unfoldable pub alone : Command → List (List ℕ) → Option Command
alone command [] = Some command
alone command _ = None

-- `trace all`, `trace window A B` and `trace root R`
unfoldable pub trace_of : List (List ℕ) → Option Command
trace_of [] = None
trace_of (what ∷ arguments) =
    if bytes_eq what (codes "all") then alone TraceAll arguments else
    if bytes_eq what (codes "window") then option_map (λ p. TraceWindow p.0 p.1) (two_numbers arguments) else
    if bytes_eq what (codes "root") then option_map TraceRoot (one_word arguments) else None

-- `record STEPS` and `record STEPS SEED`
unfoldable pub record_of : List (List ℕ) → Option Command
record_of (steps ∷ []) = option_map Record (step_count steps)
record_of (steps ∷ seed ∷ []) = option_map (λ p. RecordSeed p.0 p.1) (option_zip (step_count steps) (number seed))
record_of _ = None

-- `inspect` and its queries, at least one
unfoldable pub inspect_of : List (List ℕ) → Option Command
inspect_of arguments = option_and_then (λ count. then_some (nat_lt 0 count) (Inspect count)) (query_count arguments)

-- The commands by their names; all other words are none.
abbrev pub command_of : List ℕ → List (List ℕ) → Option Command
command_of name arguments =
    if bytes_eq name (codes "window") then option_map (λ p. Window p.0 p.1) (two_numbers arguments) else
    if bytes_eq name (codes "process") then option_map Process (one_word arguments) else
    if bytes_eq name (codes "calls") then option_map Calls (one_word arguments) else
    if bytes_eq name (codes "relog") then alone Relog arguments else
    if bytes_eq name (codes "replay") then alone Replay arguments else
    if bytes_eq name (codes "trace") then trace_of arguments else
    if bytes_eq name (codes "record") then record_of arguments else
    if bytes_eq name (codes "roots") then alone Roots arguments else
    if bytes_eq name (codes "inspect") then inspect_of arguments else
    if bytes_eq name (codes "salvage") then alone Salvage arguments else
    if bytes_eq name (codes "make") then option_map Make (one_word arguments) else
    if bytes_eq name (codes "demo") then option_map Demo (one_word arguments) else
    if bytes_eq name (codes "upgrade") then alone Upgrade arguments else None

abbrev pub parse : List (List ℕ) → Option Command
parse [] = None
parse (name ∷ arguments) = command_of name arguments
