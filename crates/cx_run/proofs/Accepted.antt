-- A window keeps the rules of the format, and is accepted.
use Rattle.std.proofs.Common.{◌≡◌, ℕ, zero, suc, ◌+◌, ◌-◌, ◌^◌, ◌<◌, ◌≤◌, List, [], drop, Some, IsSome, is_some, refl}
use Rattle.std.proofs.Common.{sym, ap, add-suc, arith}
use Rattle.cx_log.specs.Recording.{Recording}
use Rattle.cx_log.specs.Order.{MayEnd, InOrder, at_start, next_mark, KeepsRules}
use Rattle.cx_run.specs.Due.{due_at}
use Rattle.cx_machine.specs.Step.{Step, IsFramed, KeepsMachine, SetsLines}
use Rattle.cx_run.specs.Run.{Run, run_of, Accepts}
use Rattle.cx_machine.specs.Machine.{IsMachine}
use Rattle.cx_run.specs.Window.{is_read, events_between, window_from, IsWindow}
use Rattle.cx_run.proofs.Runs.{run_of-before, run_of-last}
use Rattle.cx_run.proofs.Dues.{rules-well}
use Rattle.cx_run.proofs.KeptPages.{IsMemory-kept_pages}
use Rattle.cx_run.proofs.Alone.{window_runs_alone}
use Rattle.cx_run.proofs.StandingLines.{lines_before, lines_before-none, lines_before-more}
use Rattle.cx_run.proofs.Shorter.{window_is_shorter}
use Rattle.cx_run.proofs.WindowOrder.{order_ends, InOrder-events_between}

-- Each machine of a run keeps the rules, where the steps keep them.
pub run_keeps_machine : {Rec : Type 0} (step : Step Rec) (R : Recording) (n : ℕ) (run : Run Rec) → KeepsMachine step
    → KeepsRules R → run_of step R n ≡ Some run → IsMachine R.pages run.machine
run_keeps_machine step R zero run keeps rules is =
    let same : run.machine ≡ record { state = R.start; memory = R.memory } = cc in
    let start : IsMachine R.pages (record { state = R.start; memory = R.memory }) =
    record { state = rules.start; memory = rules.memory } in
    rw same start
run_keeps_machine step R (suc n) run keeps rules is =
    let before = run_of-before step R n run is in
    let last = run_of-last step R n before.0 run before.1 is in
    rw last.leaves
    (keeps R.pages before.0.machine (due_at R.events (R.base + n)) last.stepped last.goes
    (run_keeps_machine step R n before.0 keeps rules before.1)
    (rules-well R (R.base + n) rules))

-- The lines in a machine of a run are those that the events of the steps before it set last.
pub run_has_lines : {Rec : Type 0} (step : Step Rec) (R : Recording) (n : ℕ) (run : Run Rec) → SetsLines step
    → KeepsRules R → run_of step R n ≡ Some run
    → run.machine.state.lines ≡ lines_before (R.base + n) R.events R.start.lines
run_has_lines step R zero run sets rules is =
    let same : run.machine ≡ record { state = R.start; memory = R.memory } = cc in
    rw same (sym (lines_before-none R.pages (R.base + 0) (at_start R.base R.start) R.events R.end R.start.lines
    rules.events (omega arith)))
run_has_lines step R (suc n) run sets rules is =
    let before = run_of-before step R n run is in
    let last = run_of-last step R n before.0 run before.1 is in
    let now = sets before.0.machine (due_at R.events (R.base + n)) last.stepped last.goes in
    let so_far = run_has_lines step R n before.0 sets rules before.1 in
    rw (last.leaves, now, so_far, add-suc)
    (sym (lines_before-more R.pages (R.base + n) (at_start R.base R.start) R.events R.end R.start.lines
    rules.events))

-- The rules of a window, given those of its events.
window_rules : {Rec : Type 0} (step : Step Rec) (reads : Rec → List ℕ) (R W : Recording) (a b : ℕ) → KeepsMachine step
    → KeepsRules R → (w : IsWindow step reads R a b W)
    → InOrder R.pages (at_start a w.before.machine.state) (events_between a b R.events) b → KeepsRules W
window_rules step reads R W a b keeps rules w order =
    let machine : IsMachine R.pages w.before.machine = run_keeps_machine step R (a - R.base) w.before keeps rules
    w.up_to_a in
    let small : R.end ≤ 2 ^ 48 = (order_ends R.pages (at_start R.base R.start) R.events R.end rules.events).0 in
    let some : a < b = w.some in
    let to : b ≤ R.end = w.to in
    let shorter = window_is_shorter R.pages a b R.base R.end R.start R.events rules.events w.from some to in
    let kept : KeepsRules (window_from reads R a b w.before w.after) = record {
      version = rules.version;
      pages = rules.pages;
      base = omega arith;
      start = machine.state;
      memory = IsMemory-kept_pages (is_read reads (drop (a - R.base) w.after.records)) w.before.machine.memory R.pages
          machine.memory;
      events = order;
      size = omega (arith, rules.size, shorter);
    } in
    rw w.is kept

whole_window : {Rec : Type 0} (step : Step Rec) (reads : Rec → List ℕ) (R W : Recording) (a b : ℕ) → IsFramed step reads
    → KeepsRules R → IsWindow step reads R a b W → IsSome (run_of step W (W.end - W.base))
whole_window step reads R W a b frame rules w =
    let alone = window_runs_alone step reads R W a b (b - a) frame rules w (omega arith) in
    let ends : W.end - W.base ≡ b - a = rw w.is refl in
    rw ends (ap is_some alone.alone)

-- The window of a recording without events.
pub eventless_window_is_accepted : {Rec : Type 0} (step : Step Rec) (reads : Rec → List ℕ) (R W : Recording) (a b : ℕ)
    → IsFramed step reads → KeepsMachine step → KeepsRules R → R.events ≡ []
    → IsWindow step reads R a b W → Accepts step W
eventless_window_is_accepted step reads R W a b frame keeps rules none w =
    record {
      rules = window_rules step reads R W a b keeps rules w (rw none last);
      unbroken =
          whole_window step reads R W a b frame rules w;
    }
  where
    ends : MayEnd (at_start R.base R.start) R.end
    ends = rw none at rules.events

    last : MayEnd (at_start a w.before.machine.state) b
    last =
        let small : R.end ≤ 2 ^ 48 = ends.small in
        let marks : R.end ≤ next_mark R.base = ends.marks in
        let from : R.base ≤ a = w.from in
        let some : a < b = w.some in
        let to : b ≤ R.end = w.to in
        record { small = omega arith; above = some; marks = omega arith }

-- The window of any recording, where the steps take the lines that are due to them.
pub window_is_accepted : {Rec : Type 0} (step : Step Rec) (reads : Rec → List ℕ) (R W : Recording) (a b : ℕ)
    → IsFramed step reads → KeepsMachine step → SetsLines step → KeepsRules R
    → IsWindow step reads R a b W → Accepts step W
window_is_accepted step reads R W a b frame keeps sets rules w =
    record {
      rules = window_rules step reads R W a b keeps rules w order;
      unbroken =
          whole_window step reads R W a b frame rules w;
    }
  where
    place : R.base + (a - R.base) ≡ a
    place = let from : R.base ≤ a = w.from in omega arith

    standing : w.before.machine.state.lines ≡ lines_before a R.events R.start.lines
    standing = rw place at (run_has_lines step R (a - R.base) w.before sets rules w.up_to_a)

    order : InOrder R.pages (at_start a w.before.machine.state) (events_between a b R.events) b
    order = rw standing (InOrder-events_between R.pages a b (at_start R.base R.start) R.events R.end rules.events w.from
        w.some w.to refl)
