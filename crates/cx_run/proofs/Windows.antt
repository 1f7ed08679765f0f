-- Where there is a window, and that there is one alone.
use Rattle.std.proofs.Common.{◌≡◌, ℕ, ◌-◌, ◌<◌, ◌≤◌, List, IsSome, refl, sym, ap, ◌∙◌, arith}
use Rattle.std.proofs.lemmas.Option.{same_Some}
use Rattle.cx_log.specs.Recording.{Recording}
use Rattle.cx_machine.specs.Step.{Step}
use Rattle.cx_run.specs.Run.{run_of}
use Rattle.cx_run.specs.Window.{window_from, IsWindow}
use Rattle.cx_run.proofs.Runs.{some_run, BeginsWith, run_of-begins}

pub window_is_there : {Rec : Type 0} (step : Step Rec) (reads : Rec → List ℕ) (R : Recording) (a b : ℕ)
    → IsSome (run_of step R (R.end - R.base)) → R.base ≤ a → a < b → b ≤ R.end → (W : Recording)
    × IsWindow step reads R a b W
window_is_there step reads R a b unbroken from some to =
    let whole = some_run (run_of step R (R.end - R.base)) unbroken in
    let after : BeginsWith step R (b - R.base) whole.0 = run_of-begins step R (b - R.base) (R.end - R.base) whole.0
    (omega arith) whole.1 in
    let before : BeginsWith step R (a - R.base) whole.0 = run_of-begins step R (a - R.base) (R.end - R.base) whole.0
    (omega arith) whole.1 in (
      window_from reads R a b before.run after.run,
      record {
        from = from;
        some = some;
        to = to;
        before =
            before.run;
        up_to_a = before.is;
        after = after.run;
        up_to_b = after.is;
        is = refl;
      },
    )

pub window_is_one : {Rec : Type 0} (step : Step Rec) (reads : Rec → List ℕ) (R W V : Recording) (a b : ℕ)
    → IsWindow step reads R a b W → IsWindow step reads R a b V → W ≡ V
window_is_one step reads R W V a b w v =
    let before : w.before ≡ v.before = same_Some w.before v.before (sym w.up_to_a ∙ v.up_to_a) in
    let after : w.after ≡ v.after = same_Some w.after v.after (sym w.up_to_b ∙ v.up_to_b) in
    w.is ∙ (ap (λ p. window_from reads R a b p w.after) before ∙ ap (λ q. window_from reads R a b v.before q) after)
    ∙ sym v.is
