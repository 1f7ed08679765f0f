-- What `inspect` does: a line for the answer to each query about a recording, in order.
use Rattle.std.specs.Prelude.{◌≡◌, false, ℕ, List, Result, Ok, Err}
use Rattle.cx_answer.specs.Lines.{answer_lines, are_there}
use Rattle.cx_codec.specs.Place.{Place}
use Rattle.cx_log.specs.Reading.{Opened, start_of}
use Rattle.cx_log.specs.Scan.{Scan, decoded}
use Rattle.cx_seek.specs.Opening.{HasOpened}
use Rattle.cx_seek.specs.Seeking.{Seeking}
use Rattle.cx_words.specs.declared.question.Query.{Query}
use Rattle.cx_commands.specs.Doing.{Answers, Doing, of_recording}
use Rattle.cx_commands.specs.Opening.{begun_at, scan_from}
use Rattle.cx_commands.specs.Window.{no_text}
use Rattle.cx_commands.specs.declared.status.Status.{Status}

-- the lines of the answers about an input
abbrev pub answers_text : List Query → Opened → Scan → List ℕ
answers_text queries o s = answer_lines (decoded o s) queries

-- `inspect` with these queries: nothing is written before all was judged, and nothing where one of them isn't there
abbrev pub inspecting : List Query → Doing
inspecting queries = of_recording false (λ o s. are_there (decoded o s) queries) (answers_text queries) no_text

-- ---- the parts of a call

-- Nothing is bad in the input, and this seeks in its recording.
pub record HasSeeker (bytes : List ℕ) (s : Seeking) : Type 0 where
  pub opened : Opened
  pub place : Place
  pub begun : begun_at (start_of bytes) ≡ Ok (opened, place)
  pub opens : HasOpened opened (scan_from opened place) s

-- a seeker in an input, or the answer to it
abbrev pub ReadsSeeker : List Query → List ℕ → (whole cut : Type 0) → Result Seeking Status → Type 0
ReadsSeeker queries bytes whole cut (Ok s) = whole → HasSeeker bytes s
ReadsSeeker queries bytes whole cut (Err status) = Answers (inspecting queries) bytes whole cut status
