-- What `window` makes of what `window` wrote.
use Rattle.std.proofs.Common.{◌≡◌, ℕ, ◌<◌, ◌≤◌, Bool, true, List, Option, None, Some, arith, refl, ap, sym, subst, ◌∙◌}
use Rattle.std.proofs.lemmas.Bool.{le-leb, lt-ltb}
use Rattle.cx_hart.specs.HartStep.{hart_step}
use Rattle.cx_hart.specs.Reads.{read_indices}
use Rattle.cx_hart.specs.declared.record.StepRec.{StepRec}
use Rattle.cx_hart.proofs.SameStep.{is_framed}
use Rattle.cx_log.specs.Recording.{Recording}
use Rattle.cx_log.specs.Scan.{decoded}
use Rattle.cx_log.specs.Text.{recording_text}
use Rattle.cx_log.proofs.Recordings.{same_recording}
use Rattle.cx_machine.specs.Step.{Step}
use Rattle.cx_map.specs.Bytes.{AreBytes}
use Rattle.cx_run.specs.FirstBad.{bad_behind, first_bad}
use Rattle.cx_run.specs.Run.{Run}
use Rattle.cx_run.specs.Window.{IsWindow, has_window, window_from}
use Rattle.cx_run.proofs.GoodInputs.{text_is_good}
use Rattle.cx_run.proofs.WindowOfWindow.{window_of_window}
use Rattle.cx_commands.specs.Doing.{Answers, Doing, Leaves}
use Rattle.cx_commands.specs.Opening.{scan_from}
use Rattle.cx_commands.specs.Window.{DoneAs, IsTextOf, WritesAlike, windowed}
use Rattle.cx_commands.specs.declared.status.Status.{Status}
use Rattle.cx_commands.specs.declared.status.Status.TheVariants as status
use Rattle.cx_commands.proofs.Completeness.{lasting_so}
use Rattle.cx_commands.proofs.Answering.{good_is_written}
use Rattle.cx_commands.proofs.Doings.{refusal_behind}
use Rattle.cx_commands.proofs.Judging.{bad_of_begun, good_is_begun, text_of_begun}

-- an input is the text of one recording
one_text : (R S : Recording) (bytes : List ℕ) → IsTextOf R bytes → IsTextOf S bytes → R ≡ S
one_text R S bytes r s = same_recording R S r.accepted.rules s.accepted.rules (sym r.text ∙ s.text)

one_run : (xs ys : Run StepRec) (o : Option (Run StepRec)) → o ≡ Some xs → o ≡ Some ys → xs ≡ ys
one_run xs ys o first second = cc

-- there is one window of a recording from one step up to another
one_window : (step : Step StepRec) (R V W : Recording) (a b : ℕ) → IsWindow step read_indices R a b V
    → IsWindow step read_indices R a b W → V ≡ W
one_window step R V W a b v w =
    let before = one_run v.before w.before _ v.up_to_a w.up_to_a in
    let after = one_run v.after w.after _ v.up_to_b w.up_to_b in
    v.is ∙ ap (λ (x : Run StepRec). window_from read_indices R a b x v.after) before
    ∙ ap (λ (x : Run StepRec). window_from read_indices R a b w.before x) after ∙ sym w.is

-- the text of a recording that has the window isn't refused
has_text : (a b : ℕ) (bytes : List ℕ) (R : Recording) → AreBytes bytes → IsTextOf R bytes → R.base ≤ a → a < b
    → b ≤ R.end → (windowed a b).refusal bytes ≡ None
has_text a b bytes R are is from some to =
    let begun = good_is_begun bytes is.good in
    let o = begun.0 in
    let p = begun.1 in
    let good : bad_behind hart_step o (scan_from o p) ≡ None = sym (bad_of_begun bytes o p begun.2) ∙ is.good in
    let same : decoded o (scan_from o p) ≡ R =
    one_text (decoded o (scan_from o p)) R bytes (text_of_begun bytes o p are begun.2 good) is in
    let there : has_window R a b ≡ true = rw (le-leb R.base a from, lt-ltb a b some, le-leb b R.end to) refl in
    let has : has_window (decoded o (scan_from o p)) a b ≡ true =
    ap (λ (S : Recording). has_window S a b) same ∙ there in
    refusal_behind (λ o s. has_window (decoded o s) a b) bytes o p begun.2 ∙ rw (good, has) refl

pub window_alike : (a b c d : ℕ) (bytes text : List ℕ) → AreBytes bytes → AreBytes text
    → (windowed a b).refusal bytes ≡ None → text ≡ (windowed a b).full bytes → a ≤ c → c < d → d ≤ b
    → WritesAlike (windowed c d) text bytes
window_alike a b c d bytes text are are_text good written from some to =
    let first = good_is_written a b bytes are good in
    let W : Recording = first.0 in
    let w = first.1.0 in
    let R : Recording = w.of in
    let spelled : text ≡ recording_text W = written ∙ first.1.1 in
    let base : W.base ≡ a = ap (λ (S : Recording). S.base) w.window.is in
    let end : W.end ≡ b = ap (λ (S : Recording). S.end) w.window.is in
    let split : W.split ≡ R.split = ap (λ (S : Recording). S.split) w.window.is in
    let is_text : IsTextOf W text = record {
      text = spelled;
      accepted = w.accepted;
      good = ap (first_bad hart_step) spelled ∙ text_is_good hart_step W w.accepted;
    } in
    let good_text = has_text c d text W are_text is_text (omega (arith, base, from)) some (omega (arith, end, to)) in
    let good_bytes = has_text c d bytes R are w.is (omega (arith, w.window.from, from)) some
    (omega (arith, w.window.to, to)) in
    let second = good_is_written c d text are_text good_text in
    let third = good_is_written c d bytes are good_bytes in
    let V : Recording = second.0 in
    let in_w : IsWindow (hart_step W.split) read_indices W c d V =
    subst (λ (S : Recording). IsWindow (hart_step S.split) read_indices S c d V)
    (one_text second.1.0.of W text second.1.0.is is_text) second.1.0.window in
    let in_w_by_r : IsWindow (hart_step R.split) read_indices W c d V =
    subst (λ (flag : Bool). IsWindow (hart_step flag) read_indices W c d V) split in_w in
    let in_r : IsWindow (hart_step R.split) read_indices R c d V =
    window_of_window (hart_step R.split) read_indices R W V a b c d (is_framed R.split) w.is.accepted.rules w.window
    in_w_by_r in
    let other : IsWindow (hart_step R.split) read_indices R c d third.0 =
    subst (λ (S : Recording). IsWindow (hart_step S.split) read_indices S c d third.0)
    (one_text third.1.0.of R bytes third.1.0.is w.is) third.1.0.window in
    record {
      good = good_text;
      other_good = good_bytes;
      same = second.1.1 ∙ ap recording_text (one_window (hart_step R.split) R V third.0 c d in_r other)
          ∙ sym third.1.1;
    }

-- a call on the one input ends as one on the other does
pub done_as : (d : Doing) (one other : List ℕ) (whole cut : Type 0) (held now : Option (List ℕ)) (answer : Status)
    → WritesAlike d one other → whole → Answers d one whole cut answer → Leaves d one whole cut answer held now
    → DoneAs d other held now answer
done_as d one other whole cut held now status.Done alike h answers leaves = rw alike.same at (leaves h)
done_as d one other whole cut held now status.NoMemory alike h answers leaves = tt
done_as d one other whole cut held now status.ReadFault alike h answers leaves = tt
done_as d one other whole cut held now status.WriteFault alike h answers leaves = tt
done_as d one other whole cut held now status.NotThere alike h answers leaves =
    let never = sym alike.good ∙ answers h in cc
done_as d one other whole cut held now (status.Format o) alike h answers leaves =
    let never = sym alike.good ∙ answers h in cc
done_as d one other whole cut held now (status.Broken n) alike h answers leaves =
    let never = sym alike.good ∙ lasting_so (d.lasts one) whole _ h answers in cc
done_as d one other whole cut held now (status.NotBuilt n) alike h answers leaves =
    let never = sym alike.good ∙ answers in cc
done_as d one other whole cut held now status.Usage alike h answers leaves = let never = sym alike.good ∙ answers in cc
done_as d one other whole cut held now status.WorldFault alike h answers leaves = tt
