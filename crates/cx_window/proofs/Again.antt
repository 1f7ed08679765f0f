-- The steps of a slice, run again.
use Rattle.std.proofs.Common.{◌≡◌, ℕ, ◌-◌, Bool, drop, Some, refl, sym, ap, subst, ◌∙◌, arith}
use Rattle.cx_hart.specs.HartStep.{hart_step}
use Rattle.cx_hart.specs.Reads.{read_indices}
use Rattle.cx_hart.specs.declared.record.StepRec.{StepRec}
use Rattle.cx_log.specs.Reading.{Opened}
use Rattle.cx_log.specs.Recording.{Recording}
use Rattle.cx_log.specs.Scan.{Scan, decoded}
use Rattle.cx_replay.specs.KeptRecords.{scan_of}
use Rattle.cx_replay.proofs.Standing.{bad_where}
use Rattle.cx_run.specs.FirstBad.{carried}
use Rattle.cx_run.specs.Run.{Run, run_of}
use Rattle.cx_run.specs.Window.{recorded_from, window_from}
use Rattle.cx_run.proofs.Again.{window_runs_again}
use Rattle.cx_run.proofs.BuiltSteps.{built_steps-whole}
use Rattle.cx_window.specs.Cut.{CutsOff, RunsAgain}
use Rattle.cx_window.specs.Slice.{Sliced, opened_of, written_of}

-- what a slice is as a recording with all of its memory
kept_recording : (R : Recording) (a b : ℕ) (before after : Run StepRec) (s : Sliced)
    → written_of s ≡ window_from read_indices R a b before after → s.memory ≡ before.machine.memory
    → decoded (opened_of s) (scan_of s.events s.to) ≡ recorded_from R a b before.machine
kept_recording R a b before after s is memory =
    ap (λ (W : Recording). record W { memory = s.memory }) is
    ∙ ap (λ m. record (recorded_from R a b before.machine) { memory = m }) memory

pub runs_again : (o : Opened) (whole : Scan) (a b : ℕ) (s : Sliced) → CutsOff o whole a b s → RunsAgain o whole a b s
runs_again o whole a b s cuts =
    let R : Recording = decoded o whole in
    let w = cuts.window in
    let step = hart_step R.split in
    let kept = kept_recording R a b w.before w.after s w.is cuts.memory in
    let from : s.header.base ≡ a = ap (λ (W : Recording). W.base) w.is in
    let to : s.to ≡ b = ap (λ (W : Recording). W.end) w.is in
    let split : s.header.split ≡ R.split = ap (λ (W : Recording). W.split) w.is in
    let some = w.some in
    let run = window_runs_again step R a b w.before w.after w.from (omega (arith, some)) w.up_to_a w.up_to_b in
    let last : Run StepRec = record { machine = w.after.machine; records = drop (a - R.base) w.after.records } in
    let again : run_of (hart_step s.header.split) (decoded (opened_of s) (scan_of s.events s.to)) (b - a) ≡ Some last =
    subst (λ (flag : Bool). run_of (hart_step flag) (decoded (opened_of s) (scan_of s.events s.to)) (b - a) ≡ Some last)
    (sym split) (subst (λ (W : Recording). run_of step W (b - a) ≡ Some last) (sym kept) run) in
    let long : s.to - s.header.base ≡ b - a = omega (arith, from, to) in
    let all : carried hart_step (decoded (opened_of s) (scan_of s.events s.to)) ≡ s.to - s.header.base =
    (built_steps-whole (hart_step s.header.split) (decoded (opened_of s) (scan_of s.events s.to))
    (s.to - s.header.base)).1 (rw (long, again) refl) in
    record {
      from = from;
      to = to;
      run = w.after;
      up_to_b = w.up_to_b;
      again = again;
      good = bad_where (opened_of s) (scan_of s.events s.to) all;
    }
