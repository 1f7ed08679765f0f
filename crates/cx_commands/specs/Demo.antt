-- What `demo` does: a summary of the recording of an image, and of the slices of the programs in it.
use Rattle.std.specs.Prelude.{ℕ, List, [], ◌∷◌, ◌++◌, codes, length}
use Rattle.std.specs.Fmt.{decimal}
use Rattle.std.specs.List.{flat_map}
use Rattle.cx_inspect.specs.Roots.{roots_from}
use Rattle.cx_inspect.specs.declared.roots.Tally.{Tally}
use Rattle.cx_log.specs.Reading.{Opened}
use Rattle.cx_log.specs.Scan.{Scan, decoded}
use Rattle.cx_print.specs.Hex.{hex}
use Rattle.cx_commands.specs.Calls.{calling}
use Rattle.cx_commands.specs.Doing.{Doing, text_of}
use Rattle.cx_commands.specs.Make.{writing}
use Rattle.cx_commands.specs.Process.{slicing}
use Rattle.cx_commands.specs.Record.{seeded}
use Rattle.cx_commands.specs.Replay.{replaying}
use Rattle.cx_commands.specs.Streaming.{settled_steps}

-- The recording of an image over so many steps, with a seed.
abbrev pub recorded_by : (steps seed : ℕ) → List ℕ → List ℕ
recorded_by steps seed image = (seeded steps seed).full image

-- the line of a recording: the number that it was made of, its end, how long it is, and how many roots it has
unfoldable pub recording_line : (n end size roots : ℕ) → List ℕ
recording_line n end size roots =
    codes "demo " ++ decimal n ++ codes " steps " ++ decimal end ++ codes " bytes " ++ decimal size
    ++ codes " roots " ++ decimal roots ++ 10 ∷ []

-- The line of a root: how many steps were chosen for it, and how long its slice is, its slice by calls, and the lines of
-- its slice.
unfoldable pub sizes_line : (root steps process calls text : ℕ) → List ℕ
sizes_line root steps process calls text =
    codes "root " ++ hex 8 root ++ codes " steps " ++ decimal steps ++ codes " process " ++ decimal process
    ++ codes " calls " ++ decimal calls ++ codes " text " ++ decimal text ++ 10 ∷ []

-- the line of a root of a recording, by what `process`, `calls` and `replay` write
abbrev pub sizes_of : (recording : List ℕ) → (root steps : ℕ) → List ℕ
sizes_of recording root steps =
    let slice : List ℕ = (slicing root).full recording in
    sizes_line root steps (length slice) (length ((calling root).full recording)) (length (replaying.full slice))

-- the lines of the roots, in order
unfoldable pub sizes_lines : (recording : List ℕ) → List (ℕ × Tally) → List ℕ
sizes_lines recording roots = flat_map (λ e. sizes_of recording e.0 e.1.steps) roots

-- the summary of a recording that was made of a number, by its roots and its end
abbrev pub summary_by : (n : ℕ) (recording : List ℕ) → List (ℕ × Tally) → ℕ → List ℕ
summary_by n recording roots end =
    recording_line n end (length recording) (length roots) ++ sizes_lines recording roots

abbrev pub summary_in : (n : ℕ) (recording : List ℕ) → Opened → Scan → List ℕ
summary_in n recording o s =
    summary_by n recording (roots_from o.header.base (settled_steps o s)) (decoded o s).end

abbrev pub summary_of : ℕ → List ℕ → List ℕ
summary_of n recording = text_of (summary_in n recording) recording

-- `demo`, by the image that was made: the summary of its recording over 200,000 steps, of which the number is the seed
abbrev pub demo_text : ℕ → List ℕ → List ℕ
demo_text n image = summary_of n (recorded_by 200000 n image)

abbrev pub demoing : ℕ → List ℕ → Doing
demoing n image = writing (demo_text n image)
