-- The recording of a run that was driven by what fits its machine is accepted.
use Rattle.std.proofs.Common.{◌≡◌, ℕ, ◌+◌, ◌-◌, ◌<◌, ◌≤◌, Bool, List, length, Some, is_some, ap}
use Rattle.std.proofs.Common.{subst, ◌∙◌, arith}
use Rattle.std.proofs.lemmas.List.{take_all}
use Rattle.cx_log.specs.Order.{InOrder, IsVersion, at_start}
use Rattle.cx_log.specs.declared.limits.TheConstants.{MOST_TEXT, STEP_LIMIT}
use Rattle.cx_log.specs.Text.{records_text}
use Rattle.cx_machine.specs.Due.{Due}
use Rattle.cx_machine.specs.Machine.{IsMachine, MachineState}
use Rattle.cx_machine.specs.Step.{Step}
use Rattle.cx_map.specs.Map.{IsPageCount}
use Rattle.cx_run.specs.Driven.{CanTape, at_first, driven, events_from, taped}
use Rattle.cx_run.specs.Run.{Accepts, Run, run_of}
use Rattle.cx_run.proofs.TapedOrder.{events_in_order, ready_first_is}
use Rattle.cx_run.proofs.TapedRuns.{taped_runs}

pub taped_is_accepted : {Rec : Type 0} (step : Step Rec) (version : ℕ) (split : Bool) (pages : ℕ) (start : MachineState)
    (dues : List Due) (run : Run Rec) → IsVersion version split → IsPageCount pages → IsMachine pages start
    → 0 < length dues → length dues ≤ STEP_LIMIT
    → length (records_text 0 (events_from 0 dues) (length dues)) ≤ MOST_TEXT
    → CanTape pages start.state.lines dues → driven step (Some (at_first start)) dues ≡ Some run
    → Accepts step (taped version split pages start dues)
taped_is_accepted step version split pages start dues run is_version is_count machine some small short can is =
    record {
      rules = record {
        version = is_version;
        pages = is_count;
        base = omega arith;
        start = machine.state;
        memory = machine.memory;
        events = order;
        size = short;
      };
      unbroken = ap is_some there;
    }
  where
    place : 0 + length dues ≡ length dues
    place = omega arith

    order : InOrder pages (at_start 0 start.state) (events_from 0 dues) (length dues)
    order = subst (λ (end : ℕ). InOrder pages (at_start 0 start.state) (events_from 0 dues) end) place
        (events_in_order pages 0 (at_start 0 start.state) dues (omega (arith, small)) (ready_first_is start.state)
        (omega (arith, some)) can)

    steps : length dues - 0 ≡ length dues
    steps = omega arith

    there : run_of step (taped version split pages start dues) (length dues - 0) ≡ Some run
    there = ap (λ (n : ℕ). run_of step (taped version split pages start dues) n) steps
        ∙ taped_runs step version split pages start dues (length dues) (omega arith)
        ∙ ap (λ (ds : List Due). driven step (Some (at_first start)) ds) (take_all (length dues) dues (omega arith)) ∙ is
