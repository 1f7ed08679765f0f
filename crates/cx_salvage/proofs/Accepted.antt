-- What is saved is accepted.
use Rattle.std.proofs.Common.{◌≡◌, ℕ, ◌+◌, ◌-◌, ◌<◌, ◌≤◌, Bool, true, List, [], length, Option, None, Some, unwrap_or}
use Rattle.std.proofs.Common.{Result, Ok, Err, inl, inr, refl, ap, sym, arith}
use Rattle.std.specs.Option.{option_map}
use Rattle.cx_codec.specs.Place.{Place}
use Rattle.cx_codec.proofs.Texts.{bytes_behind}
use Rattle.cx_log.specs.Order.{InOrder, at_start, next_mark}
use Rattle.cx_log.specs.declared.limits.TheConstants.{MOST_TEXT}
use Rattle.cx_log.specs.Reading.{Opened, opened_at, start_of}
use Rattle.cx_log.specs.Recording.{Recording}
use Rattle.cx_log.specs.Scan.{Scan, begin_records, decoded, scan, scan_behind}
use Rattle.cx_log.specs.Text.{recording_text, records_text}
use Rattle.cx_log.proofs.Recordings.{opened_once, opened_text}
use Rattle.cx_machine.specs.Step.{Step}
use Rattle.cx_map.specs.Bytes.{AreBytes}
use Rattle.cx_run.specs.FirstBad.{Refusal, bad_behind, carried}
use Rattle.cx_run.specs.Run.{Accepts}
use Rattle.cx_run.specs.StepEvents.{has_mark}
use Rattle.cx_run.specs.Window.{events_between}
use Rattle.cx_run.proofs.BuiltSteps.{built_steps-le}
use Rattle.cx_run.proofs.GoodInputs.{good_behind}
use Rattle.cx_salvage.specs.Salvage.{cut_at, good_mark, salvage_in, salvage_of, saved_by}
use Rattle.cx_salvage.proofs.Cuts.{cut_is_known}
use Rattle.cx_salvage.proofs.Marks.{last_found}
use Rattle.cx_salvage.proofs.Sound.{Marked, below, between_is, scan_marked}

first_mark : (base : ℕ) → base < next_mark base
first_mark base = omega arith

behind_marked : (o : Opened) (p : Place) → AreBytes p.ahead
    → Marked o.header.pages (at_start o.header.base o.header.start) (begin_records p) (scan_behind o p)
unfolding scan
behind_marked o p are = scan_marked (length p.ahead) o.header.pages (at_start o.header.base o.header.start)
    (begin_records p) are (first_mark o.header.base)

pub cut_accepted : {Rec : Type 0} (steps : Bool → Step Rec) (bytes : List ℕ) (o : Opened) (p : Place) (m : ℕ)
    → AreBytes bytes → opened_at (start_of bytes) ≡ Ok (o, p) → has_mark m (scan_behind o p).events ≡ true
    → m ≤ o.header.base + carried steps (decoded o (scan_behind o p))
    → Accepts (steps o.header.split) (cut_at m (decoded o (scan_behind o p)))
cut_accepted steps bytes o p m are opened there within =
    let s : Scan = scan_behind o p in
    let base : ℕ = o.header.base in
    let stood = opened_once o (start_of bytes) p are opened in
    let marked = behind_marked o p (bytes_behind (start_of bytes) p (opened_text o) are stood.takes) in
    let first = first_mark base in
    let above = marked.marks m there in
    let events : events_between base m s.events ≡ below m s.events = between_is base m s.events marked.rises
    (λ k here. (let more = marked.marks k here in omega (arith, more, first))) in
    let order : InOrder o.header.pages (at_start base o.header.start) (events_between base m s.events) m =
    rw events (marked.order m there) in
    let room = marked.size m there in
    let size : length (records_text base (events_between base m s.events) m) ≤ MOST_TEXT =
    rw events (omega (arith, room)) in
    let built = built_steps-le (steps o.header.split) (decoded o s) (s.upto - base) in
    record {
      rules = record {
        version = stood.is.header.version;
        pages = stood.is.header.pages;
        base = stood.is.header.base;
        start = stood.is.header.start;
        memory = stood.is.memory;
        events = order;
        size = size;
      };
      unbroken = (cut_is_known steps (decoded o s) m (omega (arith, above, first))
          (omega (arith, above, first, built, within))).0 within;
    }

text_of : (a b : List ℕ) → ◌≡◌ {A = Option (List ℕ)} (Some a) (Some b) → a ≡ b
text_of a b e = ap (λ (x : Option (List ℕ)). unwrap_or x []) e

pub saved_accepted : {Rec : Type 0} (steps : Bool → Step Rec) (bytes text : List ℕ) → AreBytes bytes
    → salvage_of steps bytes ≡ Some text
    → (R : Recording) × Accepts (steps R.split) R × (text ≡ recording_text R)
unfolding salvage_of
saved_accepted {Rec} steps bytes text are is = by_opening (opened_at (start_of bytes)) refl is
  where
    by_mark : (o : Opened) (p : Place) (mark : Option ℕ) → opened_at (start_of bytes) ≡ Ok (o, p)
        → good_mark steps o (scan_behind o p) ≡ mark
        → option_map (λ (m : ℕ). recording_text (cut_at m (decoded o (scan_behind o p)))) mark ≡ Some text
        → (R : Recording) × Accepts (steps R.split) R × (text ≡ recording_text R)
    by_mark o p None opened good e = cc
    by_mark o p (Some m) opened good e = elim (last_found _ m (scan_behind o p).events None good) [
      | inl never ↦ cc
      | inr found ↦ (
        cut_at m (decoded o (scan_behind o p)),
        cut_accepted steps bytes o p m are opened found.0 found.1,
        sym (text_of (recording_text (cut_at m (decoded o (scan_behind o p)))) text e),
      )
    ]

    by_bad : (o : Opened) (p : Place) (bad : Option Refusal) → opened_at (start_of bytes) ≡ Ok (o, p)
        → bad_behind steps o (scan_behind o p) ≡ bad → saved_by steps o (scan_behind o p) bad ≡ Some text
        → (R : Recording) × Accepts (steps R.split) R × (text ≡ recording_text R)
    by_bad o p None opened good e = (
      decoded o (scan_behind o p),
      (good_behind steps bytes o p are opened good).accepted,
      sym (text_of (recording_text (decoded o (scan_behind o p))) text e),
    )
    by_bad o p (Some bad) opened is e = by_mark o p (good_mark steps o (scan_behind o p)) opened refl e

    by_opening : (r : Result (Opened × Place) ℕ) → opened_at (start_of bytes) ≡ r → salvage_in steps r ≡ Some text
        → (R : Recording) × Accepts (steps R.split) R × (text ≡ recording_text R)
    by_opening (Err offset) opened e = cc
    by_opening (Ok x) opened e = by_bad x.0 x.1 (bad_behind steps x.0 (scan_behind x.0 x.1)) opened refl e
