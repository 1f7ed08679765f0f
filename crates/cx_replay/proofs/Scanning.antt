-- The records of a recording's text, as its reader gives them one by one.
use Rattle.std.proofs.Common.{◌≡◌, ℕ, zero, suc, ◌≤◌, Bool, true, false, cond, eqb, List}
use Rattle.std.proofs.Common.{length, Option, Result, Ok, Err, IfOk, arith, refl, ap, subst, ◌∙◌}
use Rattle.cx_codec.specs.Place.{Place, end_of}
use Rattle.cx_codec.specs.Reads.{Begins, Ends, Reads, always, over}
use Rattle.cx_codec.proofs.Following.{end_stays}
use Rattle.cx_codec.proofs.Texts.{bytes_behind}
use Rattle.cx_log.specs.declared.item.Item.{Item}
use Rattle.cx_log.specs.declared.item.What.{What}
use Rattle.cx_log.specs.declared.item.What.TheVariants as what
use Rattle.cx_log.specs.declared.order.Behind.{Behind}
use Rattle.cx_log.specs.declared.fault.LogFault.{LogFault}
use Rattle.cx_log.specs.declared.fault.LogFault.TheVariants.{Format, ReadFault, NoMemory}
use Rattle.cx_log.specs.Engine.{Gave, Reading, SameRecording}
use Rattle.cx_log.specs.Fault.{log_met}
use Rattle.cx_log.specs.Item.{MayStand, behind_entry, entry_of, entry_with, is_end}
use Rattle.cx_log.specs.Order.{behind_it}
use Rattle.cx_log.specs.Records.{Ends as ends, Entry, Put, record_at}
use Rattle.cx_codec.specs.Checks.{close_at, fault_of}
use Rattle.cx_log.specs.Scan.{Scan, bad_field, scan, scan_on, scan_within}
use Rattle.cx_log.specs.Text.{record_text}
use Rattle.cx_log.proofs.RecordOnce.{record_once}
use Rattle.cx_log.proofs.Scans.{scan_bad, scan_ends, scan_put}
use Rattle.cx_map.specs.Bytes.{AreBytes}
use Rattle.cx_run.proofs.LaterEvents.{none_below_less}
use Rattle.cx_run.proofs.StandingLines.{order_rises}
use Rattle.cx_replay.specs.LogRecords.{HasAhead, place_of}
use Rattle.cx_replay.specs.Records.{Fits, GaveEntry, IsClosed, IsNext, MayBeWhole, ReadsRecord, RisesFrom, SeesEnd}
use Rattle.cx_replay.specs.Records.{stopped}

-- ---- a scan doesn't go back

rises_less : (m n : ℕ) (s : Scan) → m ≤ n → RisesFrom n s → RisesFrom m s
rises_less m n s less rises = record {
  events = none_below_less m n s.events less rises.events;
  upto = let u =
      rises.upto in omega arith;
}

-- scans of so many records at most
Rising : ℕ → ℕ → Type 0
Rising fuel pages = (behind : Behind) (p : Place) → AreBytes p.ahead
    → RisesFrom behind.step (scan_within fuel pages behind p)

rises_entry : (fuel pages : ℕ) (behind : Behind) (p q : Place) (e : Entry) → Rising fuel pages → AreBytes p.ahead
    → record_at pages behind p ≡ Ok (e, q) → RisesFrom behind.step (scan_on (scan_within fuel pages) behind (Ok (e, q)))
unfolding Rising
rises_entry fuel pages behind p q (ends end) later are read =
    let above = (record_once pages behind p q (ends end) are read).may.above in
    record { events = tt; upto = omega arith }
rises_entry fuel pages behind p q (Put r) later are read =
    let stood = record_once pages behind p q (Put r) are read in
    let rises : behind.step ≤ r.step = order_rises pages behind r stood.may in
    let rest = later (behind_it behind r) q (bytes_behind p q (record_text behind.step r) are stood.takes) in
    let upto = rest.upto in
    record { events = (rises, none_below_less behind.step r.step _ rises rest.events); upto = omega arith }

rises_on : (fuel pages : ℕ) (behind : Behind) (p : Place) (r : Result (Entry × Place) ℕ) → Rising fuel pages
    → AreBytes p.ahead
    → record_at pages behind p ≡ r → RisesFrom behind.step (scan_on (scan_within fuel pages) behind r)
rises_on fuel pages behind p (Err o) later are read = record { events = tt; upto = omega arith }
rises_on fuel pages behind p (Ok x) later are read = rises_entry fuel pages behind p x.1 x.0 later are read

rises_within : (fuel pages : ℕ) → Rising fuel pages
unfolding Rising
rises_within zero pages behind p are = record { events = tt; upto = omega arith }
rises_within (suc fuel) pages behind p are = rises_on fuel pages behind p (record_at pages behind p)
    (rises_within fuel pages) are refl

pub scan_rises : (pages : ℕ) (behind : Behind) (p : Place) → AreBytes p.ahead
    → RisesFrom behind.step (scan pages behind p)
unfolding scan Rising
scan_rises pages behind p are = rises_within (length p.ahead) pages behind p are

-- ---- what holds of an item that may stand

pub fits_of : (pages step : ℕ) (behind : Behind) (bytes : List ℕ) (w : What)
    → MayStand pages behind (entry_with bytes step w) → Fits pages bytes w
fits_of pages step behind bytes (what.Dma place) stands = stands.holds
fits_of pages step behind bytes (what.Lines lines) stands = stands.holds.0
fits_of pages step behind bytes (what.Value v) stands = stands.holds
fits_of pages step behind bytes what.Mark stands = tt
fits_of pages step behind bytes what.End stands = tt

pub next_of : (pages step : ℕ) (behind now : Behind) (bytes : List ℕ) (w : What)
    → MayStand pages behind (entry_with bytes step w)
    → now ≡ behind_entry behind (entry_with bytes step w) → IsNext behind.step now.step step (is_end w)
next_of pages step behind now bytes (what.Dma place) stands is =
    (order_rises pages behind _ stands, ap (λ (b : Behind). b.step) is)
next_of pages step behind now bytes (what.Lines lines) stands is =
    (order_rises pages behind _ stands, ap (λ (b : Behind). b.step) is)
next_of pages step behind now bytes (what.Value v) stands is =
    (order_rises pages behind _ stands, ap (λ (b : Behind). b.step) is)
next_of pages step behind now bytes what.Mark stands is =
    (order_rises pages behind _ stands, ap (λ (b : Behind). b.step) is)
next_of pages step behind now bytes what.End stands is = stands.above

-- ---- the next record

unfoldable pub is_ends : Entry → Bool
is_ends (Put r) = false
is_ends (ends end) = true

pub ends_where : (bytes : List ℕ) (step : ℕ) (w : What) → is_end w ≡ is_ends (entry_with bytes step w)
unfolding is_ends
ends_where bytes step (what.Dma place) = refl
ends_where bytes step (what.Lines lines) = refl
ends_where bytes step (what.Value v) = refl
ends_where bytes step what.Mark = refl
ends_where bytes step what.End = refl

pub rest_of : (r : Reading) (given input : List ℕ) (end : ℕ) (rest : Scan) → r.ended ≡ false
    → HasAhead r given input end rest
    → rest ≡ scan r.header.pages r.behind (place_of r given input)
rest_of r given input end rest more has = rw more at has.is

gave_by : (old new : Reading) (given given' input : List ℕ) (end : ℕ) (rest : Scan) (e : Entry) → old.ended ≡ false
    → new.header ≡ old.header → new.behind ≡ behind_entry old.behind e → new.ended ≡ is_ends e
    → end_of (place_of old given input) ≡ end_of (place_of new given' input) → HasAhead old given input end rest
    → record_at old.header.pages old.behind (place_of old given input) ≡ Ok (e, place_of new given' input)
    → GaveEntry (HasAhead new given' input end) rest e
unfolding is_ends
gave_by old new given given' input end rest (Put r) more header behind ended stays has read =
    let p = place_of old given input in
    let q = place_of new given' input in
    let stood = record_once old.header.pages old.behind p q (Put r) has.bytes read in
    let are : AreBytes q.ahead = bytes_behind p q (record_text old.behind.step r) has.bytes stood.takes in
    record {
      behind = scan old.header.pages (behind_it old.behind r) q;
      here = record { bytes = are; ends = has.ends ∙ stays; is = rw (ended, header, behind) refl };
      parts = rest_of old given input end rest more has ∙ scan_put old.header.pages old.behind r p q has.bytes read;
      rises = scan_rises old.header.pages (behind_it old.behind r) q are;
    }
gave_by old new given given' input end rest (ends step) more header behind ended stays has read =
    let p = place_of old given input in
    let q = place_of new given' input in
    let stood = record_once old.header.pages old.behind p q (ends step) has.bytes read in
    let are : AreBytes q.ahead = bytes_behind p q _ has.bytes stood.takes in
    let scanned = rest_of old given input end rest more has ∙ scan_ends old.header.pages old.behind step p q has.bytes
    read in
    record {
      here = record { bytes = are; ends = has.ends ∙ stays; is = rw (ended, scanned) (refl, refl) };
      none = ap (λ (s : Scan). s.events) scanned;
      upto = ap (λ (s : Scan). s.upto) scanned;
    }

pub gave_entry : (old new : Reading) (given given' input : List ℕ) (end : ℕ) (rest : Scan) (item : Item)
    → old.ended ≡ false
    → SameRecording old new → Gave old new item
    → end_of (place_of old given input) ≡ end_of (place_of new given' input) → HasAhead old given input end rest
    → record_at old.header.pages old.behind (place_of old given input) ≡ Ok (
      entry_of new.bytes item,
      place_of new given' input,
    )
    → GaveEntry (HasAhead new given' input end) rest (entry_of new.bytes item)
gave_entry old new given given' input end rest item more same gave stays has read =
    gave_by old new given given' input end rest (entry_of new.bytes item) more same.header gave.behind
    (gave.ended ∙ ends_where new.bytes item.step item.what) stays has read

pub gave_bad : (r : Reading) (given input : List ℕ) (end : ℕ) (rest : Scan) (o : ℕ) → r.ended ≡ false
    → HasAhead r given input end rest
    → record_at r.header.pages r.behind (place_of r given input) ≡ Err o → rest ≡ stopped r.behind.step o
gave_bad r given input end rest o more has bad = rest_of r given input end rest more has
    ∙ scan_bad r.header.pages r.behind o (place_of r given input) bad

pub reads_record : (old new : Reading) (left left' : Option (List ℕ)) (given given' input : List ℕ) (end : ℕ)
    (rest : Scan)
    (result : Result Item LogFault) → old.ended ≡ false → SameRecording old new → IfOk result (Gave old new)
    → Reads log_met (entry_of new.bytes) (record_at old.header.pages old.behind) (over old.input left given)
    (over new.input left' given') result
    → Begins given' input → HasAhead old given input end rest
    → ReadsRecord old.behind.step new.bytes (HasAhead new given' input end) rest end (MayBeWhole left' given' input)
    (input ≡ given') result
reads_record old new left left' given given' input end rest (Ok item) more same gave read begins has =
    gave_entry old new given given' input end rest item more same gave (end_stays read.follows input begins) has
    (read.reads input begins)
reads_record old new left left' given given' input end rest (Err (Format o)) more same gave read begins has =
    λ may. gave_bad old given input end rest o more has (read.reads input begins may)
reads_record old new left left' given given' input end rest (Err ReadFault) more same gave read begins has =
    λ cut. rw has.ends (gave_bad old given input _ rest _ more (rw has.ends at has) (read.reads input begins cut))
reads_record old new left left' given given' input end rest (Err NoMemory) more same gave read begins has = tt

-- ---- the end

closed_by : (b : Bool) (p q : Place) (o : ℕ) → cond {A = Result (Unit {0} × Place) ℕ} b (Ok (tt, p)) (Err o)
    ≡ Ok (tt, q) → p ≡ q
closed_by true p q o read =
    let both : ◌≡◌ {A = Unit {0} × Place} (tt, p) (tt, q) = cc in
    ap (λ (x : Unit {0} × Place). x.1) both
closed_by false p q o read = cc

close_stays : (p q : Place) → close_at p ≡ Ok (tt, q) → p ≡ q
close_stays p q read = closed_by (eqb (length p.ahead) 0) p q p.at read

pub stop_of : (r : Reading) (given input : List ℕ) (end : ℕ) (rest : Scan) → r.ended ≡ true
    → HasAhead r given input end rest
    → bad_field rest.stop ≡ fault_of (close_at (place_of r given input))
stop_of r given input end rest ended has = ap bad_field (rw ended at has.is).1

pub closed_here : (old new : Reading) (given given' input : List ℕ) (end : ℕ) (rest : Scan) → old.ended ≡ true
    → new.ended ≡ true
    → HasAhead old given input end rest → close_at (place_of old given input) ≡ Ok (tt, place_of new given' input)
    → IsClosed (HasAhead new given' input end) rest
closed_here old new given given' input end rest ended still has read =
    let same = close_stays (place_of old given input) (place_of new given' input) read in
    record {
      good = stop_of old given input end rest ended has ∙ rw read refl;
      here = record {
        bytes = subst (λ (q : Place). AreBytes q.ahead) same has.bytes;
        ends = has.ends ∙ ap end_of same;
        is = rw still ((rw ended at has.is).0, (rw ended at has.is).1 ∙ ap (λ (q : Place). Ok q) same);
      };
    }

pub sees_end : (old new : Reading) (left left' : Option (List ℕ)) (given given' input : List ℕ) (end : ℕ) (rest : Scan)
    (result : Result (Unit {0}) LogFault) → old.ended ≡ true → new.ended ≡ true
    → Ends log_met (always {X = Unit {0}} tt) tt close_at (over old.input left given) (over new.input left' given')
    result
    → Begins given' input → HasAhead old given input end rest
    → SeesEnd (HasAhead new given' input end) rest (MayBeWhole left' given' input) (input ≡ given') result
sees_end old new left left' given given' input end rest (Ok u) ended still read begins has =
    λ may. closed_here old new given given' input end rest ended still has (read.ends input begins may)
sees_end old new left left' given given' input end rest (Err (Format o)) ended still read begins has =
    λ may. stop_of old given input end rest ended has ∙ rw (read.ends input begins may) refl
sees_end old new left left' given given' input end rest (Err ReadFault) ended still read begins has =
    λ cut. stop_of old given input end rest ended has ∙ rw (read.ends input begins cut) refl
sees_end old new left left' given given' input end rest (Err NoMemory) ended still read begins has = tt
