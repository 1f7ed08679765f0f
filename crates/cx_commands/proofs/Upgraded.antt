-- What `upgrade` writes runs as its input does.
use Rattle.std.proofs.Common.{◌≡◌, ℕ, zero, suc, ◌+◌, ◌-◌, List, Option, None, IsSome, true, inr, refl, ap, sym, subst}
use Rattle.std.proofs.Common.{◌∙◌}
use Rattle.cx_hart.specs.HartStep.{hart_step}
use Rattle.cx_hart.specs.declared.record.StepRec.{StepRec}
use Rattle.cx_log.specs.Order.{KeepsRules}
use Rattle.cx_log.specs.Recording.{Recording}
use Rattle.cx_log.specs.Scan.{decoded}
use Rattle.cx_log.specs.Text.{recording_text}
use Rattle.cx_machine.specs.Step.{Step}
use Rattle.cx_map.specs.Bytes.{AreBytes}
use Rattle.cx_run.specs.Due.{due_at}
use Rattle.cx_run.specs.FirstBad.{first_bad}
use Rattle.cx_run.specs.Run.{Accepts, Run, next_run, run_of}
use Rattle.cx_run.proofs.GoodInputs.{text_is_good}
use Rattle.cx_commands.specs.Doing.{there_of}
use Rattle.cx_commands.specs.Opening.{scan_from}
use Rattle.cx_commands.specs.Upgrade.{IsUpgraded, upgrade_full, upgraded, upgrading}
use Rattle.cx_commands.specs.Window.{IsTextOf}
use Rattle.cx_commands.proofs.Answering.{judged_good}
use Rattle.cx_commands.proofs.Doings.{text_behind}
use Rattle.cx_commands.proofs.Judging.{good_is_begun, text_of_begun}
use Rattle.cx_commands.proofs.Judging.{bad_of_begun}

same_run : (step : Step StepRec) (R : Recording) (n : ℕ) → run_of step (upgraded R) n ≡ run_of step R n
same_run step R zero = refl
same_run step R (suc n) = ap (next_run step (due_at R.events (R.base + n))) (same_run step R n)

keeps_rules : (R : Recording) → KeepsRules R → KeepsRules (upgraded R)
keeps_rules R rules = record {
  version = inr refl;
  pages = rules.pages;
  base = rules.base;
  start = rules.start;
  memory = rules.memory;
  events = rules.events;
  size = rules.size;
}

accepts : (R : Recording) → Accepts (hart_step R.split) R → Accepts (hart_step R.split) (upgraded R)
accepts R accepted = record {
  rules = keeps_rules R accepted.rules;
  unbroken = subst (λ (r : Option (Run StepRec)). IsSome r) (sym (same_run (hart_step R.split) R (R.end - R.base)))
      accepted.unbroken;
}

same_text : (R : Recording) → R.version ≡ 2 → recording_text (upgraded R) ≡ recording_text R
same_text R two = ap (λ (v : ℕ). recording_text (record R { version = v })) (sym two)

is_upgraded : (bytes : List ℕ) (R : Recording) → IsTextOf R bytes → upgrading.full bytes ≡ recording_text (upgraded R)
    → IsUpgraded bytes R
is_upgraded bytes R is text = record {
  is = is;
  text = text;
  accepted = accepts R is.accepted;
  good = ap (first_bad hart_step) text ∙ text_is_good hart_step (upgraded R) (accepts R is.accepted);
  same_run = same_run (hart_step R.split) R;
  same = λ two. text ∙ same_text R two ∙ sym is.text;
}

pub good_is_upgraded : (bytes : List ℕ) → AreBytes bytes → upgrading.refusal bytes ≡ None
    → (R : Recording) × IsUpgraded bytes R
good_is_upgraded bytes are good =
    let bad = (judged_good (first_bad hart_step bytes) (there_of (λ o s. true) bytes) good).0 in
    let begun = good_is_begun bytes bad in
    let R : Recording = decoded begun.0 (scan_from begun.0 begun.1) in
    let is = text_of_begun bytes begun.0 begun.1 are begun.2 (sym (bad_of_begun bytes begun.0 begun.1 begun.2) ∙ bad) in
    (R, is_upgraded bytes R is (text_behind upgrade_full bytes begun.0 begun.1 begun.2))
