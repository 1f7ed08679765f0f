-- What a record that is read says of an input, and how it settles a step.
use Rattle.std.proofs.Common.{◌≡◌, inl, inr, ℕ, suc, ◌+◌, ◌-◌, ◌≤◌, ◌<◌, ◌==◌, Bool, true, false}
use Rattle.std.proofs.Common.{List, [], ◌∷◌, ◌++◌, length, Option, None, Some, unwrap_or, Result, Ok, Err}
use Rattle.std.proofs.Common.{append_assoc, eqb-true, if◌then◌else◌, refl, sym, ap, subst, ◌∙◌, arith}
use Rattle.cx_slices.proofs.Small.{same_Ok}
use Rattle.cx_codec.specs.Checks.{close_at}
use Rattle.cx_codec.specs.Place.{Place, done, end_of, read_on}
use Rattle.cx_codec.proofs.Texts.{bytes_behind}
use Rattle.cx_map.specs.Bytes.{AreBytes}
use Rattle.cx_alone.specs.Replaying.{IsFormedUpTo}
use Rattle.cx_callfmt.specs.Engine.{IsLastEnd}
use Rattle.cx_callfmt.specs.Reading.{closed_call, next_record_at, record_at}
use Rattle.cx_callfmt.specs.Rules.{Behind, CallEntry, EndsAt, RecordOf}
use Rattle.cx_callfmt.specs.Scan.{CallScan, by_call_end, call_ends, call_stops, scan_records}
use Rattle.cx_callfmt.specs.Text.{call_end_text, record_text}
use Rattle.cx_callfmt.proofs.Entries.{once_record}
use Rattle.cx_callfmt.proofs.Scans.{scan_bad, scan_ends, scan_put}
use Rattle.cx_placing.specs.Records.{Record}
use Rattle.cx_call_alone.specs.Ahead.{record_held}
use Rattle.cx_call_alone.specs.Settling.{IsCutOffCalls, IsReadCall}
use Rattle.cx_call_alone.specs.declared.items.Told.{Told}

pub read_one : (behind : Behind) (index : ℕ) (t : Told) (p q : Place) (left : Option (List ℕ)) → AreBytes p.ahead
    → record_at behind p ≡ Ok (RecordOf (record_held index t), q)
    → IsReadCall (scan_records behind p) behind index (Some t) q left
read_one behind index t p q left are read =
    let stood = once_record behind p q are (RecordOf (record_held index t)) read in
    record {
      is = scan_put behind (record_held index t) p q are read;
      stands = stood.0;
      bytes = bytes_behind p q (record_text behind.index (record_held index t)) are stood.1;
      spent = λ none. cc;
    }

-- nothing stands behind an end that is the last entry
pub record Closes (behind : Behind) (count : ℕ) (p after : Place) : Type 0 where
  pub read : record_at behind p ≡ Ok (EndsAt count, after)
  pub ends : close_at after ≡ Ok (tt, after)
  pub none : after.ahead ≡ []

nothing_left : (l : List ℕ) → (length l == 0) ≡ true → l ≡ []
nothing_left [] is = refl
nothing_left (x ∷ l) is = absurd (omega (arith, eqb-true (suc (length l)) 0 is))

closes_at : (behind : Behind) (n count : ℕ) (p q after : Place) → n ≡ count → q ≡ after → (length q.ahead == 0) ≡ true
    → record_at behind p ≡ Ok (EndsAt n, q) → Closes behind count p after
closes_at behind n count p q after same here test read =
    let none : after.ahead ≡ [] = ap (λ (r : Place). r.ahead) (sym here) ∙ nothing_left q.ahead test in
    record {
      read = read ∙ (ap (λ (m : ℕ). Ok (EndsAt m, q)) same ∙ ap (λ (r : Place). Ok (EndsAt count, r)) here);
      ends = ap (λ (l : List ℕ). if length l == 0 then Ok (tt, after) else Err after.at) none;
      none = none;
    }

same_count : (n count : ℕ) → EndsAt n ≡ EndsAt count → n ≡ count
same_count n count is = cc

closed_record : {P : Type 0} (r : Record) (q after : Place) (count : ℕ)
    → ◌≡◌ {A = Result (CallEntry × Place) ℕ} (Ok (RecordOf r, q)) (Ok (EndsAt count, after)) → P
closed_record {P} r q after count is = other r count
    (ap (λ (x : CallEntry × Place). x.0) (same_Ok {E = ℕ} (RecordOf r, q) (EndsAt count, after) is))
  where
    other : (r : Record) (count : ℕ) → RecordOf r ≡ EndsAt count → P
    other r count is = cc

closes_by : (behind : Behind) (count : ℕ) (p after : Place) (r : Result (CallEntry × Place) ℕ)
    → record_at behind p ≡ r → read_on r closed_call ≡ Ok (EndsAt count, after) → Closes behind count p after
closes_by behind count p after (Err o) read is = absurd (cc)
closes_by behind count p after (Ok x) read is = by_entry x.0 x.1 read is
  where
    by_close : (n : ℕ) (q : Place) (t : Bool) → (length q.ahead == 0) ≡ t → record_at behind p ≡ Ok (EndsAt n, q)
        → read_on {A = Unit {0}} (if t then Ok (tt, q) else Err q.at) (λ nothing. done (EndsAt n)) ≡ Ok
        (EndsAt count, after)
        → Closes behind count p after
    by_close n q true test read is =
        let both : ◌≡◌ {A = CallEntry × Place} (EndsAt n, q) (EndsAt count, after)
        = same_Ok {E = ℕ} (EndsAt n, q) (EndsAt count, after) is in
        closes_at behind n count p q after (same_count n count (ap (λ (x : CallEntry × Place). x.0) both))
        (ap (λ (x : CallEntry × Place). x.1) both) test read
    by_close n q false test read is = absurd (cc)

    by_entry : (e : CallEntry) (q : Place) → record_at behind p ≡ Ok (e, q)
        → closed_call e q ≡ Ok (EndsAt count, after) → Closes behind count p after
    by_entry (RecordOf r) q read is = closed_record r q after count is
    by_entry (EndsAt n) q read is = by_close n q (length q.ahead == 0) refl read is

pub closes : (behind : Behind) (count : ℕ) (p after : Place) → next_record_at behind p ≡ Ok (EndsAt count, after)
    → Closes behind count p after
unfolding next_record_at
closes behind count p after is = closes_by behind count p after (record_at behind p) refl is

scan_closed : (behind : Behind) (count : ℕ) (p after : Place) → Closes behind count p after
    → scan_records behind p ≡ call_ends count
scan_closed behind count p after closing =
    scan_ends behind count p after closing.read ∙ ap (by_call_end behind count) closing.ends

pub read_end : (behind : Behind) (count : ℕ) (p after : Place) (left : Option (List ℕ)) → AreBytes p.ahead
    → next_record_at behind p ≡ Ok (EndsAt count, after) → unwrap_or left [] ≡ []
    → IsReadCall (scan_records behind p) behind count None after left
read_end behind count p after left are is spent =
    let closing : Closes behind count p after = closes behind count p after is in
    let stood = once_record behind p after are (EndsAt count) closing.read in
    record {
      is = scan_closed behind count p after closing;
      stands = stood.0;
      bytes = bytes_behind p after (call_end_text behind.index count) are stood.1;
      spent = λ none. spent;
    }

pub cut_inside : (behind : Behind) (end : ℕ) (p : Place) → end ≡ end_of p → record_at behind p ≡ Err (end_of p)
    → IsCutOffCalls (scan_records behind p) end
cut_inside behind end p is read =
    let stops : scan_records behind p ≡ call_stops behind (end_of p) = scan_bad behind (end_of p) p read in
    record {
      records = ap (λ (s : CallScan). s.records) stops;
      bad = inr (ap (λ (s : CallScan). s.bad) stops ∙ ap {B = Option ℕ} Some (sym is));
    }

pub cut_behind : (behind : Behind) (end : ℕ) (p after : Place) → IsLastEnd behind p after
    → IsCutOffCalls (scan_records behind p) end
cut_behind behind end p after last =
    let ends : scan_records behind p ≡ call_ends last.count
    = scan_closed behind last.count p after (closes behind last.count p after last.read) in
    record {
      records = ap (λ (s : CallScan). s.records) ends;
      bad = inl (ap (λ (s : CallScan). s.bad) ends);
    }
