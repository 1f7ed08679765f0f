-- The records of an input are in order, also where a field behind them is bad.
use Rattle.std.proofs.Common.{◌≡◌, ℕ, zero, suc, ◌+◌, ◌<◌, ◌≤◌, List, [], length, Result, Ok, Err, arith, refl}
use Rattle.cx_codec.specs.Place.{Place}
use Rattle.cx_codec.proofs.Texts.{bytes_behind}
use Rattle.cx_log.specs.declared.order.Behind.{Behind}
use Rattle.cx_log.specs.Order.{InOrder, MarkRule, at_start, behind_it, next_mark}
use Rattle.cx_log.specs.Reading.{Opened, start_of}
use Rattle.cx_log.specs.Recording.{Event, Mark, Dma, Lines, Value}
use Rattle.cx_log.specs.Records.{Entry, Put, Ends, record_at}
use Rattle.cx_log.specs.Scan.{Scan, scan, scan_on, scan_within}
use Rattle.cx_log.specs.Text.{record_text}
use Rattle.cx_log.specs.declared.limits.TheConstants.{STEP_LIMIT}
use Rattle.cx_log.proofs.Recordings.{opened_once}
use Rattle.cx_log.proofs.RecordOnce.{record_once}
use Rattle.cx_map.specs.Bytes.{AreBytes}
use Rattle.cx_commands.specs.Opening.{begun_at, scan_from}
use Rattle.cx_commands.specs.Streaming.{IsOrdered}
use Rattle.cx_commands.proofs.Judging.{begun_mid, bytes_of_begun}

record Ordered (pages : ℕ) (behind : Behind) (s : Scan) : Type 0 where
  pub end : ℕ
  pub order : InOrder pages behind s.events end
  pub upto : s.upto ≤ end

Ordering : ℕ → ℕ → Type 0
Ordering fuel pages = (behind : Behind) (p : Place) → AreBytes p.ahead → behind.step < STEP_LIMIT
    → behind.step < behind.mark → Ordered pages behind (scan_within fuel pages behind p)

-- End may stand behind the last record.
stopped : (pages : ℕ) (behind : Behind) (stop : Result Place ℕ) → behind.step < STEP_LIMIT
    → behind.step < behind.mark → Ordered pages behind (record { events = []; upto = behind.step; stop = stop })
stopped pages behind stop small below = record {
  end = behind.step + 1;
  order = record { small = omega (arith, small); above = omega arith; marks = omega (arith, below) };
  upto = omega arith;
}

mark_above : (behind : Behind) (step : ℕ) (event : Event) → MarkRule behind.mark step event
    → step < (behind_it behind (record { step = step; event = event })).mark
mark_above behind step Mark rule = omega (arith, rule)
mark_above behind step (Dma t) rule = rule
mark_above behind step (Lines set) rule = rule
mark_above behind step (Value v) rule = rule

found : (fuel pages : ℕ) (behind : Behind) (p q : Place) (e : Entry) → Ordering fuel pages → AreBytes p.ahead
    → record_at pages behind p ≡ Ok (e, q) → Ordered pages behind (scan_on (scan_within fuel pages) behind (Ok (e, q)))
unfolding Ordering
found fuel pages behind p q (Ends end) later are read =
    let stood = record_once pages behind p q (Ends end) are read in
    record { end = end; order = stood.may; upto = omega arith }
found fuel pages behind p q (Put r) later are read =
    let stood = record_once pages behind p q (Put r) are read in
    let rest = later (behind_it behind r) q (bytes_behind p q (record_text behind.step r) are stood.takes)
    stood.may.small (mark_above behind r.step r.event stood.may.marks) in
    record { end = rest.end; order = (stood.may, rest.order); upto = rest.upto }

one_more : (fuel pages : ℕ) (behind : Behind) (p : Place) (r : Result (Entry × Place) ℕ) → Ordering fuel pages
    → AreBytes p.ahead → behind.step < STEP_LIMIT → behind.step < behind.mark → record_at pages behind p ≡ r
    → Ordered pages behind (scan_on (scan_within fuel pages) behind r)
one_more fuel pages behind p (Err o) later are small below read = stopped pages behind (Err o) small below
one_more fuel pages behind p (Ok x) later are small below read = found fuel pages behind p x.1 x.0 later are read

ordered : (fuel pages : ℕ) → Ordering fuel pages
unfolding Ordering
ordered zero pages behind p are small below = stopped pages behind (Err p.at) small below
ordered (suc fuel) pages behind p are small below =
    one_more fuel pages behind p (record_at pages behind p) (ordered fuel pages) are small below refl

first_mark : (base : ℕ) → base < next_mark base
first_mark base = omega arith

pub ordered_behind : (bytes : List ℕ) (o : Opened) (p : Place) → AreBytes bytes → begun_at (start_of bytes) ≡ Ok (o, p)
    → IsOrdered o (scan_from o p)
unfolding scan Ordering
ordered_behind bytes o p are begun =
    let mid = begun_mid bytes o p begun in
    let header = (opened_once o (start_of bytes) mid.mid are mid.opened).is.header in
    let all = ordered (length p.ahead) o.header.pages (at_start o.header.base o.header.start) p
    (bytes_of_begun bytes o p are begun) header.base (first_mark o.header.base) in
    record { end = all.end; order = all.order; upto = all.upto }
