-- What the recording of a window shows of a program is what the window's steps show of it.
use Rattle.std.proofs.Common.{◌≡◌, ℕ, ◌-◌, List, [], length, take, drop, Option, None, Some, IsSomeAnd, Ok}
use Rattle.std.proofs.Common.{refl, ap, sym, ◌∙◌, arith}
use Rattle.std.proofs.lemmas.List.{append-nil}
use Rattle.cx_codec.specs.Place.{Place, Takes}
use Rattle.cx_codec.proofs.Composing.{bound}
use Rattle.cx_hart.specs.HartStep.{hart_step}
use Rattle.cx_hart.specs.declared.record.StepRec.{StepRec}
use Rattle.cx_log.specs.Order.{KeepsRules}
use Rattle.cx_log.specs.Reading.{opened_at, start_of}
use Rattle.cx_log.specs.Recording.{Recording}
use Rattle.cx_log.specs.Scan.{recording_at, records_at, scan_behind}
use Rattle.cx_log.specs.Text.{recording_text}
use Rattle.cx_log.proofs.RecordingSizes.{recording_size}
use Rattle.cx_log.proofs.Recordings.{recording_again, whole_of}
use Rattle.cx_run.specs.FirstBad.{carried}
use Rattle.cx_run.specs.Run.{Run, run_of}
use Rattle.cx_commands.specs.Observed.{observations_in, observed_in, observed_of}
use Rattle.cx_commands.specs.Streaming.{records_of}
use Rattle.cx_commands.specs.Window.{WindowOf}
use Rattle.cx_commands.proofs.LinesAgain.{steps_of}

-- a recording is read from its text
read_again : (R : Recording) → KeepsRules R
    → (end : Place) × (recording_at (start_of (recording_text R)) ≡ Ok (R, end))
read_again R rules =
    let text : List ℕ = recording_text R in
    let after : Place = record (start_of text) { at = length text; ahead = [] } in
    let takes : Takes (start_of text) text after = record {
      ahead = sym (append-nil text);
      there = omega arith;
      limit = refl;
      within = omega (arith, recording_size R rules);
    } in
    let read = recording_again R (start_of text) after rules takes in
    (read.0, read.1)

-- what an input shows that is read as a recording
shown_of_read : (root : ℕ) (bytes : List ℕ) (R : Recording) (end : Place) → recording_at (start_of bytes) ≡ Ok (R, end)
    → observed_of root bytes ≡ observations_in root (records_of (run_of (hart_step R.split) R (carried hart_step R)))
unfolding recording_at observed_of
shown_of_read root bytes R end read =
    let opened = bound (opened_at (start_of bytes)) records_at (R, end) read in
    let s = scan_behind opened.value opened.mid in
    let whole = whole_of opened.value s R end s.stop refl opened.then in
    ap (observed_in root) opened.read
    ∙ ap (λ (D : Recording). observations_in root (records_of (run_of (hart_step D.split) D (carried hart_step D))))
    whole.1

text_shows : (root : ℕ) (R : Recording) (run : Run StepRec) → KeepsRules R
    → run_of (hart_step R.split) R (R.end - R.base) ≡ Some run
    → observed_of root (recording_text R) ≡ observations_in root run.records
text_shows root R run rules is =
    let read = read_again R rules in
    shown_of_read root (recording_text R) R read.0 read.1
    ∙ ap (observations_in root) (steps_of R (R.end - R.base) run refl is)

same_shown : (root : ℕ) (W : Recording) (steps : List StepRec) → KeepsRules W
    → IsSomeAnd (run_of (hart_step W.split) W (W.end - W.base)) (λ here. here.records ≡ steps)
    → observed_of root (recording_text W) ≡ observations_in root steps
same_shown root W steps rules same = by_run (run_of (hart_step W.split) W (W.end - W.base)) refl same
  where
    by_run : (o : Option (Run StepRec)) → run_of (hart_step W.split) W (W.end - W.base) ≡ o
        → IsSomeAnd o (λ here. here.records ≡ steps)
        → observed_of root (recording_text W) ≡ observations_in root steps
    by_run None is same = absurd same
    by_run (Some run) is same = text_shows root W run rules is ∙ ap (observations_in root) same

pub window_shows : (a b : ℕ) (bytes : List ℕ) (root : ℕ) (W : Recording) → (w : WindowOf a b bytes W)
    → observed_of root (recording_text W)
    ≡ observations_in root (take (b - a) (drop (a - w.of.base) w.run.records))
window_shows a b bytes root W w =
    same_shown root W (take (b - a) (drop (a - w.of.base) w.run.records)) w.accepted.rules w.same_run
