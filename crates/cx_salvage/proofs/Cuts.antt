-- A recording that is cut off at a step: its runs, and its windows.
use Rattle.std.proofs.Common.{◌≡◌, ◌↔◌, ℕ, ◌+◌, ◌-◌, ◌<◌, ◌≤◌, Bool, List, take, Some, IsSome, IsSomeAnd, refl, sym}
use Rattle.std.proofs.Common.{◌∙◌, arith}
use Rattle.cx_log.specs.Recording.{Recording}
use Rattle.cx_machine.specs.Step.{Step}
use Rattle.cx_run.specs.Events.{BeginAlike}
use Rattle.cx_run.specs.FirstBad.{carried}
use Rattle.cx_run.specs.Run.{Run, run_of}
use Rattle.cx_run.specs.Window.{IsWindow, window_from}
use Rattle.cx_run.proofs.BuiltSteps.{run_of-within, within_built_steps}
use Rattle.cx_run.proofs.Events.{due_at-events_between, events_between-inner}
use Rattle.cx_run.proofs.LaterEvents.{run_of-alike}
use Rattle.cx_run.proofs.Runs.{run_of-front}
use Rattle.cx_salvage.specs.Salvage.{cut_at}

cut_alike : (R : Recording) (m n : ℕ) → R.base + n ≤ m → BeginAlike R (cut_at m R) n
cut_alike R m n within = record {
  base = refl;
  start = refl;
  memory = refl;
  due = λ k below. due_at-events_between R.base m (R.base + k) R.events (omega arith) (omega (arith, within, below));
}

pub cut_runs : {Rec : Type 0} (step : Step Rec) (R : Recording) (m n : ℕ) → R.base + n ≤ m
    → run_of step (cut_at m R) n ≡ run_of step R n
cut_runs step R m n within = run_of-alike step R (cut_at m R) n (cut_alike R m n within)

pub cut_front : {Rec : Type 0} (step : Step Rec) (R : Recording) (m : ℕ) (after : Run Rec) → R.base ≤ m → m ≤ R.end
    → run_of step R (R.end - R.base) ≡ Some after
    → IsSomeAnd (run_of step (cut_at m R) (m - R.base)) (λ run. run.records ≡ take (m - R.base) after.records)
cut_front {Rec} step R m after from to there =
    let front = run_of-front step R (m - R.base) (R.end - R.base) after (omega (arith, to)) there in
    rw (cut_runs step R m (m - R.base) (omega (arith, from))) front

pub cut_is_known : {Rec : Type 0} (steps : Bool → Step Rec) (R : Recording) (m : ℕ) → R.base ≤ m → m ≤ R.end
    → (m ≤ R.base + carried steps R) ↔ IsSome (run_of (steps R.split) (cut_at m R) (m - R.base))
cut_is_known steps R m from to =
    let same = cut_runs (steps R.split) R m (m - R.base) (omega (arith, from)) in (
      λ within. rw same (run_of-within (steps R.split) R (m - R.base) (R.end - R.base) (omega (arith, within, from))),
      λ is.
          let built = within_built_steps (steps R.split) R (m - R.base) (R.end - R.base) (omega (arith, to))
          (rw same at is) in
          omega (arith, built, from),
    )

-- ---- windows

same_window : {Rec : Type 0} (reads : Rec → List ℕ) (R : Recording) (a b m : ℕ) (before after : Run Rec) → R.base ≤ a
    → b ≤ m → window_from reads (cut_at m R) a b before after ≡ window_from reads R a b before after
same_window reads R a b m before after from to = rw (events_between-inner R.base m a b R.events from to) refl

pub window_out : {Rec : Type 0} (step : Step Rec) (reads : Rec → List ℕ) (R W : Recording) (a b m : ℕ) → m ≤ R.end
    → IsWindow step reads (cut_at m R) a b W → IsWindow step reads R a b W
window_out step reads R W a b m within w =
    let from : R.base ≤ a = w.from in
    let some : a < b = w.some in
    let to : b ≤ m = w.to in
    record {
      from = from;
      some = some;
      to = omega (arith, to, within);
      before = w.before;
      up_to_a = sym (cut_runs step R m (a - R.base) (omega (arith, from, some, to))) ∙ w.up_to_a;
      after = w.after;
      up_to_b = sym (cut_runs step R m (b - R.base) (omega (arith, from, some, to))) ∙ w.up_to_b;
      is = w.is ∙ same_window reads R a b m w.before w.after from to;
    }

pub window_into : {Rec : Type 0} (step : Step Rec) (reads : Rec → List ℕ) (R W : Recording) (a b m : ℕ) → b ≤ m
    → IsWindow step reads R a b W → IsWindow step reads (cut_at m R) a b W
window_into step reads R W a b m to w =
    let from : R.base ≤ a = w.from in
    let some : a < b = w.some in
    record {
      from = from;
      some = some;
      to = to;
      before = w.before;
      up_to_a = cut_runs step R m (a - R.base) (omega (arith, from, some, to)) ∙ w.up_to_a;
      after = w.after;
      up_to_b = cut_runs step R m (b - R.base) (omega (arith, from, some, to)) ∙ w.up_to_b;
      is = w.is ∙ sym (same_window reads R a b m w.before w.after from to);
    }
