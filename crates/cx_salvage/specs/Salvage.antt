-- What of a cut or damaged recording is a recording still.
use Rattle.std.specs.Prelude.{ℕ, ◌+◌, nat_le, Bool, List, [], ◌++◌, filter, Option, None, Some, Result, Ok, Err}
use Rattle.std.specs.Option.{option_map}
use Rattle.cx_codec.specs.Place.{Place}
use Rattle.cx_log.specs.Order.{at_start}
use Rattle.cx_log.specs.Reading.{Opened, opened_at, start_of}
use Rattle.cx_log.specs.Recording.{Recorded, Recording}
use Rattle.cx_log.specs.Scan.{Scan, decoded, scan_behind}
use Rattle.cx_log.specs.Text.{header_of, header_text, pages_text, recording_text}
use Rattle.cx_machine.specs.Step.{Step}
use Rattle.cx_replay.specs.Handing.{last_mark}
use Rattle.cx_run.specs.FirstBad.{Refusal, bad_behind, carried}
use Rattle.cx_run.specs.SoFar.{events_text}
use Rattle.cx_run.specs.Window.{recorded_from}

-- the step of the last mark that is no later than a step
abbrev pub last_good : ℕ → List Recorded → Option ℕ
last_good reach events = last_mark (filter (λ r. nat_le r.step reach) events)

-- The step of the last good mark. One is good up to where the settled steps are carried out: it settles the steps below
-- its own, and hands nothing to its own.
abbrev pub good_mark : {Rec : Type 0} → (Bool → Step Rec) → Opened → Scan → Option ℕ
good_mark steps o s = last_good (o.header.base + carried steps (decoded o s)) s.events

-- The recording of the steps below this one, with all of its memory.
abbrev pub cut_at : ℕ → Recording → Recording
cut_at m R = recorded_from R R.base m (record { state = R.start; memory = R.memory })

-- Of an input with a bad place the recording up to the last good mark is saved; of any other all of it.
abbrev pub saved_by : {Rec : Type 0} → (Bool → Step Rec) → Opened → Scan → Option Refusal → Option (List ℕ)
saved_by steps o s None = Some (recording_text (decoded o s))
saved_by steps o s (Some bad) = option_map (λ m. recording_text (cut_at m (decoded o s))) (good_mark steps o s)

abbrev pub saved : {Rec : Type 0} → (Bool → Step Rec) → Opened → Scan → Option (List ℕ)
saved steps o s = saved_by steps o s (bad_behind steps o s)

abbrev pub salvage_in : {Rec : Type 0} → (Bool → Step Rec) → Result (Opened × Place) ℕ → Option (List ℕ)
salvage_in steps (Err o) = None
salvage_in steps (Ok x) = saved steps x.0 (scan_behind x.0 x.1)

-- What is saved of an input: none where its header or pages are bad, or where it has a bad place and no good mark.
unfoldable pub salvage_of : {Rec : Type 0} → (Bool → Step Rec) → List ℕ → Option (List ℕ)
salvage_of steps bytes = salvage_in steps (opened_at (start_of bytes))

-- ---- what of it stands fast, whatever follows

-- the text of a recording without its End
abbrev pub open_text : Recording → List ℕ
open_text R =
    (header_text (header_of R) ++ pages_text R.memory R.pages) ++ events_text (at_start R.base R.start) R.events

-- the text up to a mark, without the mark
abbrev pub text_to : Opened → Scan → ℕ → List ℕ
text_to o s m = open_text (cut_at m (decoded o s))

abbrev pub kept_by : Opened → Scan → Option ℕ → List ℕ
kept_by o s None = []
kept_by o s (Some m) = text_to o s m

-- What may be written of an input before all of it is read: the text up to its last good mark, and nothing where it
-- has none.
abbrev pub kept : {Rec : Type 0} → (Bool → Step Rec) → Opened → Scan → List ℕ
kept steps o s = kept_by o s (good_mark steps o s)

abbrev pub kept_in : {Rec : Type 0} → (Bool → Step Rec) → Result (Opened × Place) ℕ → List ℕ
kept_in steps (Err o) = []
kept_in steps (Ok x) = kept steps x.0 (scan_behind x.0 x.1)

unfoldable pub kept_text : {Rec : Type 0} → (Bool → Step Rec) → List ℕ → List ℕ
kept_text steps bytes = kept_in steps (opened_at (start_of bytes))
