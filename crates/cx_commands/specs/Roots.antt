-- What `roots` does: a line for each root that occurs in a recording, in the order in which they were first seen.
use Rattle.std.specs.Prelude.{◌≡◌, true, false, ℕ, List, [], None, Result, Ok, Err}
use Rattle.std.proofs.Common.{refl}
use Rattle.cx_codec.specs.Place.{Place}
use Rattle.cx_codec.specs.Reads.{Begins}
use Rattle.cx_hart.specs.HartStep.{hart_step}
use Rattle.cx_inspect.specs.Lines.{root_lines}
use Rattle.cx_inspect.specs.Roots.{roots_from}
use Rattle.cx_inspect.specs.declared.roots.Tally.{Tally}
use Rattle.cx_log.specs.Reading.{Opened, start_of}
use Rattle.cx_log.specs.Scan.{Scan}
use Rattle.cx_run.specs.FirstBad.{bad_behind}
use Rattle.cx_commands.specs.Doing.{Answers, Doing, of_recording}
use Rattle.cx_commands.specs.Opening.{begun_at, scan_from}
use Rattle.cx_commands.specs.Streaming.{IsStreamRefusal, settled_steps}
use Rattle.cx_commands.specs.Window.{no_text}
use Rattle.cx_commands.specs.declared.status.Status.{Status}
use Rattle.cx_commands.specs.declared.status.Status.TheVariants as status

-- the lines of the roots that occur in an input
abbrev pub roots_text : Opened → Scan → List ℕ
roots_text o s = root_lines (roots_from o.header.base (settled_steps o s))

-- `roots`: nothing is written before all was judged
abbrev pub listing_roots : Doing
listing_roots = of_recording false (λ o s. true) roots_text no_text

-- ---- the parts of a call

-- no text begins with none
pub nothing_grows : Begins [] []
nothing_grows = record { rest = []; parts = refl }

-- Nothing is bad in the input, and these are its roots.
pub record HasRoots (bytes : List ℕ) (roots : List (ℕ × Tally)) : Type 0 where
  pub opened : Opened
  pub place : Place
  pub begun : begun_at (start_of bytes) ≡ Ok (opened, place)
  pub good : bad_behind hart_step opened (scan_from opened place) ≡ None
  pub are : roots ≡ roots_from opened.header.base (settled_steps opened (scan_from opened place))

-- the roots of an input, or the answer to it
abbrev pub ReadsRoots : List ℕ → (whole cut : Type 0) → Result (List (ℕ × Tally)) Status → Type 0
ReadsRoots bytes whole cut (Ok roots) = whole → HasRoots bytes roots
ReadsRoots bytes whole cut (Err status) = Answers listing_roots bytes whole cut status

-- Nothing is put while the roots are counted, so no sink fails then.
abbrev pub without_sink : Status → Status
without_sink status.WriteFault = status.NoMemory
without_sink answer = answer

-- those that reading may end with
abbrev pub IsCountRefusal : Status → Type 0
IsCountRefusal status.WriteFault = ⊥
IsCountRefusal answer = IsStreamRefusal false answer
