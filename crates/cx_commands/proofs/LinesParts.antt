-- The lines of a window stand among those of all steps.
use Rattle.std.proofs.Common.{◌≡◌, ℕ, ◌+◌, ◌-◌, ◌<◌, ◌≤◌, List, ◌++◌, length, take, drop, None, Ok, arith, refl, ap}
use Rattle.std.proofs.Common.{sym}
use Rattle.std.proofs.Common.{◌∙◌}
use Rattle.std.proofs.lemmas.List.{length-take-le, take-append-drop}
use Rattle.cx_codec.specs.Place.{Place}
use Rattle.cx_hart.specs.HartStep.{hart_step}
use Rattle.cx_hart.specs.declared.record.StepRec.{StepRec}
use Rattle.cx_log.specs.Reading.{Opened, start_of}
use Rattle.cx_log.specs.Scan.{decoded}
use Rattle.cx_map.specs.Bytes.{AreBytes}
use Rattle.cx_run.specs.FirstBad.{bad_behind, first_bad}
use Rattle.cx_run.specs.Run.{run_of}
use Rattle.cx_run.specs.Window.{has_window}
use Rattle.cx_run.proofs.Runs.{length-records, some_run}
use Rattle.cx_commands.specs.Doing.{there_of}
use Rattle.cx_commands.specs.Growing.{lines_on}
use Rattle.cx_commands.specs.Opening.{begun_at, scan_from}
use Rattle.cx_commands.specs.Streaming.{settled_by, settled_steps}
use Rattle.cx_commands.specs.Trace.{line_text, lines_from, tracing}
use Rattle.cx_commands.specs.TraceWindow.{IsPartOf, tracing_window, window_lines}
use Rattle.cx_commands.proofs.Answering.{judged_good, window_within}
use Rattle.cx_commands.proofs.Doings.{refusal_behind, text_behind}
use Rattle.cx_commands.proofs.Judging.{good_is_begun, text_of_begun}
use Rattle.cx_commands.proofs.LinesAgain.{steps_of}

-- a list of records in two parts
in_two : (step n : ℕ) (xs : List StepRec)
    → lines_from step xs ≡ lines_from step (take n xs) ++ lines_from (step + length (take n xs)) (drop n xs)
in_two step n xs = ap (lines_from step) (sym (take-append-drop n xs)) ∙ lines_on step (take n xs) (drop n xs)

part : (base a b : ℕ) (xs : List StepRec) → base ≤ a → a - base ≤ length xs
    → IsPartOf (lines_from a (take (b - a) (drop (a - base) xs))) (lines_from base xs)
part base a b xs from long =
    let ys : List StepRec = drop (a - base) xs in
    let size : length (take (a - base) xs) ≡ a - base = length-take-le (a - base) xs long in
    let first : base + length (take (a - base) xs) ≡ a = omega (arith, size, from) in
    record {
      before = lines_from base (take (a - base) xs);
      behind = lines_from (a + length (take (b - a) ys)) (drop (b - a) ys);
      parts = in_two base (a - base) xs
          ∙ ap (λ (n : ℕ). lines_from base (take (a - base) xs) ++ lines_from n ys) first
          ∙ ap (λ (t : List ℕ). lines_from base (take (a - base) xs) ++ t) (in_two a (b - a) ys);
    }

part_of : (text text' all all' : List ℕ) → text ≡ text' → all ≡ all' → IsPartOf text' all' → IsPartOf text all
part_of text text' all all' same whole part = rw (same, whole) part

part_behind : (a b : ℕ) (bytes : List ℕ) (o : Opened) (p : Place) → AreBytes bytes
    → begun_at (start_of bytes) ≡ Ok (o, p) → (tracing_window a b).refusal bytes ≡ None
    → IsPartOf ((tracing_window a b).full bytes) (tracing.full bytes)
part_behind a b bytes o p are begun good =
    let both = judged_good (bad_behind hart_step o (scan_from o p)) (has_window (decoded o (scan_from o p)) a b)
    (sym (refusal_behind (λ o s. has_window (decoded o s) a b) bytes o p begun) ∙ good) in
    let within = window_within (decoded o (scan_from o p)) a b both.1 in
    let is = text_of_begun bytes o p are begun both.0 in
    let count : ℕ = (scan_from o p).upto - o.header.base in
    let all = some_run (run_of (hart_step o.header.split) (decoded o (scan_from o p)) count) is.accepted.unbroken in
    let there : settled_steps o (scan_from o p) ≡ all.0.records =
    steps_of (decoded o (scan_from o p)) count all.0 refl all.1 in
    let long : length (settled_steps o (scan_from o p)) ≡ count =
    ap length there ∙ length-records (hart_step o.header.split) (decoded o (scan_from o p)) count all.0 all.1 in
    part_of _ _ _ _ (text_behind (window_lines a b) bytes o p begun)
    (text_behind (settled_by line_text) bytes o p begun)
    (part o.header.base a b (settled_steps o (scan_from o p)) within.0
    (enough a b o.header.base (scan_from o p).upto (length (settled_steps o (scan_from o p))) within.1.0 within.1.1
    long))
  where
    enough : (a b base end count : ℕ) → a < b → b ≤ end → count ≡ end - base → a - base ≤ count
    enough a b base end count some to long = omega (arith, some, to, long)

pub traced_part : (a b : ℕ) (bytes : List ℕ) → AreBytes bytes → (tracing_window a b).refusal bytes ≡ None
    → IsPartOf ((tracing_window a b).full bytes) (tracing.full bytes)
traced_part a b bytes are good =
    let both = judged_good (first_bad hart_step bytes) (there_of (λ o s. has_window (decoded o s) a b) bytes) good in
    let begun = good_is_begun bytes both.0 in
    part_behind a b bytes begun.0 begun.1 are begun.2 good
