-- An input has no bad place exactly where it is the text of an accepted recording.
use Rattle.std.proofs.Common.{◌≡◌, ◌≢◌, ℕ, ◌+◌, ◌-◌, ◌==◌, ◌++◌, Bool, true, false, List, [], ◌∷◌, length, Option, None, Some, Result, Ok, Err, if◌then◌else◌, eqb, arith, refl, ap, sym, ◌∙◌}
use Rattle.std.specs.Option.{option_map}
use Rattle.std.proofs.lemmas.Bool.{eq-eqb, eqb-true, ne_eqb}
use Rattle.std.proofs.lemmas.List.{append-nil}
use Rattle.cx_codec.specs.Place.{Place, Takes}
use Rattle.cx_codec.proofs.Composing.{bound}
use Rattle.cx_log.specs.Order.{KeepsRules}
use Rattle.cx_log.specs.Reading.{Opened, opened_at, start_of}
use Rattle.cx_log.specs.Recording.{Recording}
use Rattle.cx_codec.specs.Checks.{close_at, fault_of}
use Rattle.cx_log.specs.Scan.{bad_field, decoded, recording_at, records_at, scan_behind}
use Rattle.cx_log.specs.Text.{recording_text}
use Rattle.cx_log.proofs.RecordingSizes.{recording_size}
use Rattle.cx_log.proofs.Recordings.{recording_again, recording_once, whole_of}
use Rattle.cx_machine.specs.Step.{Step}
use Rattle.cx_map.specs.Bytes.{AreBytes}
use Rattle.cx_run.specs.FirstBad.{Broken, Format, bad_behind, bad_in, carried, first_bad, refusal, settled, settled_in}
use Rattle.cx_run.specs.Run.{Accepts}
use Rattle.cx_run.proofs.BuiltSteps.{built_steps-whole}
use Rattle.cx_run.proofs.WindowOrder.{order_ends}

-- ---- a refusal by its parts

pub bad_step : (R : Recording) (n k : ℕ) (field : Option ℕ) → n ≢ R.end - R.base → k ≡ R.base + n
    → refusal R n field ≡ Some (Broken k)
bad_step R n k field less at = rw (ne_eqb n (R.end - R.base) less, at) refl

pub no_bad_step : (R : Recording) (n : ℕ) (field : Option ℕ) → n ≡ R.end - R.base
    → refusal R n field ≡ option_map Format field
no_bad_step R n field all = rw (eq-eqb n (R.end - R.base) all) refl

no_field : (field : Option ℕ) → option_map Format field ≡ None → field ≡ None
no_field None e = refl
no_field (Some o) e = cc

no_refusal : (R : Recording) (n : ℕ) (field : Option ℕ) → refusal R n field ≡ None
    → (n ≡ R.end - R.base) × (field ≡ None)
no_refusal R n field none = by_test (n == R.end - R.base) refl none
  where
    by_test : (t : Bool) → (n == R.end - R.base) ≡ t
        → (if t then option_map Format field else Some (Broken (R.base + n))) ≡ None
        → (n ≡ R.end - R.base) × (field ≡ None)
    by_test true same e = (eqb-true n (R.end - R.base) same, no_field field e)
    by_test false other e = cc

-- ---- an input that is read as a recording

pub bad_of_read : {Rec : Type 0} (steps : Bool → Step Rec) (bytes : List ℕ) (R : Recording) (end : Place)
    → recording_at (start_of bytes) ≡ Ok (R, end)
    → first_bad steps bytes ≡ refusal R (carried steps R) (fault_of (close_at end))
unfolding recording_at first_bad
bad_of_read steps bytes R end read =
    let opened = bound (opened_at (start_of bytes)) records_at (R, end) read in
    let s = scan_behind opened.value opened.mid in
    let whole = whole_of opened.value s R end s.stop refl opened.then in
    ap (bad_in steps) opened.read
    ∙ ap (λ (D : Recording). refusal D (carried steps D) (bad_field s.stop)) whole.1
    ∙ ap (λ (stop : Result Place ℕ). refusal R (carried steps R) (bad_field stop)) whole.0

pub settled_of_read : {Rec : Type 0} (steps : Bool → Step Rec) (bytes : List ℕ) (R : Recording) (end : Place)
    → recording_at (start_of bytes) ≡ Ok (R, end) → settled steps bytes ≡ Some (R.base + carried steps R)
unfolding recording_at settled
settled_of_read steps bytes R end read =
    let opened = bound (opened_at (start_of bytes)) records_at (R, end) read in
    let s = scan_behind opened.value opened.mid in
    let whole = whole_of opened.value s R end s.stop refl opened.then in
    ap (settled_in steps) opened.read ∙ ap (λ (D : Recording). Some (D.base + carried steps D)) whole.1

pub nothing_behind : (end : Place) → fault_of (close_at end) ≡ None → end.ahead ≡ []
nothing_behind end none = by_bytes end.ahead none
  where
    by_bytes : (ahead : List ℕ) → fault_of (if length ahead == 0 then Ok (tt {0}, end) else Err end.at) ≡ None
        → ahead ≡ []
    by_bytes [] e = refl
    by_bytes (x ∷ xs) e =
        let some : eqb (length (x ∷ xs)) 0 ≡ false = ne_eqb (length (x ∷ xs)) 0 (λ wrong. absurd (omega (arith, wrong)))
        in
        let wrong : ◌≡◌ {A = Option ℕ} (Some end.at) None = rw some at e in
        cc

pub ends_there : (end : Place) → end.ahead ≡ [] → fault_of (close_at end) ≡ None
ends_there end none = rw none refl

-- An input without a bad place.
pub record IsGood {Rec : Type 0} (steps : Bool → Step Rec) (R : Recording) (bytes : List ℕ) : Type 0 where
  pub accepted : Accepts (steps R.split) R
  pub text : bytes ≡ recording_text R

pub good_of_read : {Rec : Type 0} (steps : Bool → Step Rec) (bytes : List ℕ) (R : Recording) (end : Place)
    → AreBytes bytes → recording_at (start_of bytes) ≡ Ok (R, end) → first_bad steps bytes ≡ None
    → IsGood steps R bytes
good_of_read steps bytes R end are read good =
    let stood = recording_once R (start_of bytes) end are read in
    let none = no_refusal R (carried steps R) (fault_of (close_at end)) (sym (bad_of_read steps bytes R end read)
    ∙ good) in
    record {
      accepted = record {
        rules = stood.rules;
        unbroken = (built_steps-whole (steps R.split) R (R.end - R.base)).0 none.0;
      };
      text = stood.text ∙ ap (λ (xs : List ℕ). recording_text R ++ xs) (nothing_behind end none.1)
          ∙ append-nil (recording_text R);
    }

-- ---- the law

read_of_good : {Rec : Type 0} (steps : Bool → Step Rec) (bytes : List ℕ) → first_bad steps bytes ≡ None
    → (R : Recording) × (end : Place) × (recording_at (start_of bytes) ≡ Ok (R, end))
unfolding recording_at first_bad
read_of_good steps bytes good = by_opening (opened_at (start_of bytes)) refl good
  where
    by_stop : (o : Opened) (mid : Place) (stop : Result Place ℕ) → (scan_behind o mid).stop ≡ stop
        → opened_at (start_of bytes) ≡ Ok (o, mid)
        → refusal (decoded o (scan_behind o mid)) (carried steps (decoded o (scan_behind o mid))) (bad_field stop)
        ≡ None
        → (R : Recording) × (end : Place) × (recording_at (start_of bytes) ≡ Ok (R, end))
    by_stop o mid (Err x) stop opened e =
        let none = no_refusal (decoded o (scan_behind o mid)) _ (Some x) e in
        cc
    by_stop o mid (Ok end) stop opened e = (decoded o (scan_behind o mid), end, rw (opened, stop) refl)

    by_opening : (r : Result (Opened × Place) ℕ) → opened_at (start_of bytes) ≡ r → bad_in steps r ≡ None
        → (R : Recording) × (end : Place) × (recording_at (start_of bytes) ≡ Ok (R, end))
    by_opening (Err x) opened e = cc
    by_opening (Ok x) opened e = by_stop x.0 x.1 (scan_behind x.0 x.1).stop refl opened e

-- the records behind a header and pages, where nothing is bad
pub good_behind : {Rec : Type 0} (steps : Bool → Step Rec) (bytes : List ℕ) (o : Opened) (mid : Place) → AreBytes bytes
    → opened_at (start_of bytes) ≡ Ok (o, mid) → bad_behind steps o (scan_behind o mid) ≡ None
    → IsGood steps (decoded o (scan_behind o mid)) bytes
unfolding recording_at first_bad
good_behind steps bytes o mid are opened good = by_stop (scan_behind o mid).stop refl good
  where
    whole : first_bad steps bytes ≡ None
    whole = ap (bad_in steps) opened ∙ good

    by_stop : (stop : Result Place ℕ) → (scan_behind o mid).stop ≡ stop
        → refusal (decoded o (scan_behind o mid)) (carried steps (decoded o (scan_behind o mid))) (bad_field stop)
        ≡ None
        → IsGood steps (decoded o (scan_behind o mid)) bytes
    by_stop (Err x) stop e =
        let none = no_refusal (decoded o (scan_behind o mid)) _ (Some x) e in
        cc
    by_stop (Ok end) stop e = good_of_read steps bytes _ end are (rw (opened, stop) refl) whole

pub good_input : {Rec : Type 0} (steps : Bool → Step Rec) (bytes : List ℕ) → AreBytes bytes
    → first_bad steps bytes ≡ None → (R : Recording) × IsGood steps R bytes
good_input steps bytes are good =
    let read = read_of_good steps bytes good in
    (read.0, good_of_read steps bytes read.0 read.1 are read.2 good)

-- the text of a recording, from its start
whole : (R : Recording) → KeepsRules R
    → (end : Place) × (recording_at (start_of (recording_text R)) ≡ Ok (R, end)) × (end.ahead ≡ [])
whole R rules =
    let text : List ℕ = recording_text R in
    let after : Place = record (start_of text) { at = length text; ahead = [] } in
    let takes : Takes (start_of text) text after = record {
      ahead = sym (append-nil text);
      there = omega arith;
      limit = refl;
      within = omega (arith, recording_size R rules);
    } in
    let read = recording_again R (start_of text) after rules takes in
    (read.0, read.1, read.3)

pub text_is_good : {Rec : Type 0} (steps : Bool → Step Rec) (R : Recording) → Accepts (steps R.split) R
    → first_bad steps (recording_text R) ≡ None
text_is_good steps R accepted =
    let read = whole R accepted.rules in
    let all = (built_steps-whole (steps R.split) R (R.end - R.base)).1 accepted.unbroken in
    bad_of_read steps (recording_text R) R read.0 read.1 ∙ no_bad_step R (carried steps R) _ all
    ∙ ap (option_map Format) (ends_there read.0 read.2)

pub text_is_settled : {Rec : Type 0} (steps : Bool → Step Rec) (R : Recording) → Accepts (steps R.split) R
    → settled steps (recording_text R) ≡ Some R.end
text_is_settled steps R accepted =
    let read = whole R accepted.rules in
    let all = (built_steps-whole (steps R.split) R (R.end - R.base)).1 accepted.unbroken in
    let ends = order_ends _ _ _ _ accepted.rules.events in
    let end : R.base + carried steps R ≡ R.end = omega (arith, all, ends.1) in
    settled_of_read steps (recording_text R) R read.0 read.1 ∙ ap (λ (n : ℕ). Some n) end
