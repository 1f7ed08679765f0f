-- Records in order are scanned whole, what was scanned whole is records in order, and a scan goes record by record.
use Rattle.std.proofs.Common.{◌≡◌, ℕ, zero, suc, ◌+◌, ◌<◌, ◌≤◌, List, [], ◌∷◌, ◌++◌, length, arith, refl, ap, sym, ◌∙◌}
use Rattle.std.proofs.Common.{Result, Ok, Err, length-append}
use Rattle.cx_map.specs.Bytes.{AreBytes}
use Rattle.cx_map.specs.Map.{IsPageCount}
use Rattle.cx_codec.specs.Place.{behind_text, Place, Takes, room}
use Rattle.cx_codec.specs.Fields.{byte_at, bytes_at}
use Rattle.cx_log.specs.Order.{Behind, InOrder, behind_it}
use Rattle.cx_log.specs.Recording.{Recorded}
use Rattle.cx_log.specs.Records.{Entry, Put, Ends, kind_at, record_at}
use Rattle.cx_log.specs.Scan.{Scan, scan_on, scan_within, scan, with_record}
use Rattle.cx_log.specs.Text.{record_text, records_text, end_text}
use Rattle.cx_codec.proofs.Texts.{takes_first, takes_second, takes_both, bytes_behind}
use Rattle.cx_log.proofs.RecordAgain.{record_again, end_again}
use Rattle.cx_log.proofs.RecordOnce.{record_once}
use Rattle.cx_log.specs.Item.{entry_text}

-- a record takes a byte at least
record_some : (before : ℕ) (r : Recorded) → 1 ≤ length (record_text before r)
unfolding record_text
record_some before r = omega arith

end_some : (before end : ℕ) → 1 ≤ length (end_text before end)
unfolding end_text
end_some before end = omega arith

entry_some : (before : ℕ) (e : Entry) → 1 ≤ length (entry_text before e)
entry_some before (Put r) = record_some before r
entry_some before (Ends end) = end_some before end

shorter : (p after : Place) (text : List ℕ) → Takes p text after → 1 ≤ length text → length after.ahead < length p.ahead
shorter p after text takes some = omega (arith, ap length takes.ahead, length-append text after.ahead, some)

records_some : (before : ℕ) (events : List Recorded) (end : ℕ) → 1 ≤ length (records_text before events end)
records_some before [] end = end_some before end
records_some before (r ∷ events) end =
    omega (arith, length-append (record_text before r) (records_text r.step events end), record_some before r)

scan_again : (fuel pages : ℕ) (behind : Behind) (events : List Recorded) (end : ℕ) (p after : Place)
    → IsPageCount pages → InOrder pages behind events end
    → Takes p (records_text behind.step events end) after → length p.ahead ≤ fuel
    → scan_within fuel pages behind p ≡ record { events = events; upto = end; stop = Ok after }
scan_again zero pages behind events end p after count order takes enough =
    let less = shorter p after (records_text behind.step events end) takes (records_some behind.step events end) in
    absurd (omega (arith, less, enough))
scan_again (suc fuel) pages behind [] end p after count order takes enough =
    rw (end_again pages behind end p after order takes) refl
scan_again (suc fuel) pages behind (r ∷ events) end p after count order takes enough =
    let front : List ℕ = record_text behind.step r in
    let rest : List ℕ = records_text r.step events end in
    let q : Place = behind_text p front (rest ++ after.ahead) in
    let first = takes_first p after front rest takes in
    let less = shorter p q front first (record_some behind.step r) in
    rw (
      record_again pages behind r p q count order.0 first,
      scan_again fuel pages (behind_it behind r) events end q after count order.1
          (takes_second p after front rest takes) (omega (arith, less, enough)),
    ) refl

pub records_again : (pages : ℕ) (behind : Behind) (events : List Recorded) (end : ℕ) (p after : Place)
    → IsPageCount pages → InOrder pages behind events end
    → Takes p (records_text behind.step events end) after
    → scan pages behind p ≡ record { events = events; upto = end; stop = Ok after }
unfolding scan
records_again pages behind events end p after count order takes =
    scan_again (length p.ahead) pages behind events end p after count order takes (omega arith)

-- What was scanned to End stands there, and is in order.
pub record Scanned (pages : ℕ) (behind : Behind) (p : Place) (s : Scan) (after : Place) : Type 0 where
  pub order : InOrder pages behind s.events s.upto
  pub takes : Takes p (records_text behind.step s.events s.upto) after

-- the scan of what stands behind, for any number of records
Later : ℕ → ℕ → Type 0
Later fuel pages = (behind : Behind) (p after : Place) → AreBytes p.ahead
    → (scan_within fuel pages behind p).stop ≡ Ok after → Scanned pages behind p (scan_within fuel pages behind p) after

found_once : (fuel pages : ℕ) (behind : Behind) (p q after : Place) (e : Entry) → Later fuel pages → AreBytes p.ahead
    → record_at pages behind p ≡ Ok (e, q)
    → (scan_on (scan_within fuel pages) behind (Ok (e, q))).stop ≡ Ok after
    → Scanned pages behind p (scan_on (scan_within fuel pages) behind (Ok (e, q))) after
unfolding Later
found_once fuel pages behind p q after (Ends end) later are read stop =
    let stood = record_once pages behind p q (Ends end) are read in
    let same : q ≡ after = cc in
    rw (← same) (record { order = stood.may; takes = stood.takes })
found_once fuel pages behind p q after (Put r) later are read stop =
    let stood = record_once pages behind p q (Put r) are read in
    let rest = later (behind_it behind r) q after (bytes_behind p q (record_text behind.step r) are stood.takes) stop in
    record {
      order = (stood.may, rest.order);
      takes = takes_both p q after
          (record_text behind.step r) _ stood.takes rest.takes;
    }

one_once : (fuel pages : ℕ) (behind : Behind) (p after : Place) (r : Result (Entry × Place) ℕ) → Later fuel pages
    → AreBytes p.ahead → record_at pages behind p ≡ r
    → (scan_on (scan_within fuel pages) behind r).stop ≡ Ok after
    → Scanned pages behind p (scan_on (scan_within fuel pages) behind r) after
one_once fuel pages behind p after (Err o) later are read stop = cc
one_once fuel pages behind p after (Ok x) later are read stop =
    found_once fuel pages behind p x.1 after x.0 later are read stop

scan_once : (fuel pages : ℕ) → Later fuel pages
unfolding Later
scan_once zero pages behind p after are stop = cc
scan_once (suc fuel) pages behind p after are stop = one_once fuel pages behind p after (record_at pages behind p)
    (scan_once fuel pages) are refl stop

pub records_once : (pages : ℕ) (behind : Behind) (p after : Place) → AreBytes p.ahead
    → (scan pages behind p).stop ≡ Ok after → Scanned pages behind p (scan pages behind p) after
unfolding scan Later
records_once pages behind p after are stop = scan_once (length p.ahead) pages behind p after are stop

-- where no byte is there no record is
nothing_read : (pages : ℕ) (behind : Behind) (p : Place) → length p.ahead ≡ 0 → record_at pages behind p ≡ Err p.at
unfolding record_at kind_at byte_at bytes_at
nothing_read pages behind p none =
    let full : room p ≡ 0 = omega (arith, none) in
    let at : p.at + 0 ≡ p.at = omega arith in
    rw (full, at) refl

scan_none : (fuel pages : ℕ) (behind : Behind) (p : Place) → length p.ahead ≡ 0
    → scan_within fuel pages behind p ≡ record { events = []; upto = behind.step; stop = Err p.at }
scan_none zero pages behind p none = refl
scan_none (suc fuel) pages behind p none = rw (nothing_read pages behind p none) refl

-- Any number of records that is as many as the bytes gives the same.
Enough : ℕ → ℕ → ℕ → Type 0
Enough m n pages = (behind : Behind) (p : Place) → AreBytes p.ahead → length p.ahead ≤ m → length p.ahead ≤ n
    → scan_within m pages behind p ≡ scan_within n pages behind p

found_enough : (m n pages : ℕ) (behind : Behind) (p q : Place) (e : Entry) → Enough m n pages → AreBytes p.ahead
    → length p.ahead ≤ suc m → length p.ahead ≤ suc n → record_at pages behind p ≡ Ok (e, q)
    → scan_on (scan_within m pages) behind (Ok (e, q)) ≡ scan_on (scan_within n pages) behind (Ok (e, q))
unfolding Enough
found_enough m n pages behind p q (Ends end) later are first second read = refl
found_enough m n pages behind p q (Put r) later are first second read =
    let stood = record_once pages behind p q (Put r) are read in
    let less = shorter p q (record_text behind.step r) stood.takes (record_some behind.step r) in
    ap (with_record r) (later (behind_it behind r) q (bytes_behind p q (record_text behind.step r) are stood.takes)
    (omega (arith, less, first)) (omega (arith, less, second)))

one_enough : (m n pages : ℕ) (behind : Behind) (p : Place) (r : Result (Entry × Place) ℕ) → Enough m n pages
    → AreBytes p.ahead → length p.ahead ≤ suc m → length p.ahead ≤ suc n → record_at pages behind p ≡ r
    → scan_on (scan_within m pages) behind r ≡ scan_on (scan_within n pages) behind r
one_enough m n pages behind p (Err o) later are first second read = refl
one_enough m n pages behind p (Ok x) later are first second read =
    found_enough m n pages behind p x.1 x.0 later are first second read

scan_enough : (m n pages : ℕ) → Enough m n pages
unfolding Enough
scan_enough zero n pages behind p are first second = sym (scan_none n pages behind p (omega (arith, first)))
scan_enough (suc m) zero pages behind p are first second = scan_none (suc m) pages behind p (omega (arith, second))
scan_enough (suc m) (suc n) pages behind p are first second = one_enough m n pages behind p (record_at pages behind p)
    (scan_enough m n pages) are first second refl

-- record by record
pub scan_put : (pages : ℕ) (behind : Behind) (r : Recorded) (p q : Place) → AreBytes p.ahead
    → record_at pages behind p ≡ Ok (Put r, q) → scan pages behind p ≡ with_record r (scan pages (behind_it behind r) q)
unfolding scan Enough
scan_put pages behind r p q are read =
    let stood = record_once pages behind p q (Put r) are read in
    let less = shorter p q (record_text behind.step r) stood.takes (record_some behind.step r) in
    scan_enough (length p.ahead) (suc (length p.ahead)) pages behind p are (omega arith) (omega arith)
    ∙ rw read (ap (with_record r) (scan_enough (length p.ahead) (length q.ahead) pages (behind_it behind r) q
    (bytes_behind p q (record_text behind.step r) are stood.takes) (omega (arith, less)) (omega arith)))

pub scan_ends : (pages : ℕ) (behind : Behind) (end : ℕ) (p q : Place) → AreBytes p.ahead
    → record_at pages behind p ≡ Ok (Ends end, q)
    → scan pages behind p ≡ record { events = []; upto = end; stop = Ok q }
unfolding scan Enough
scan_ends pages behind end p q are read = scan_enough (length p.ahead) (suc (length p.ahead)) pages behind p are
    (omega arith) (omega arith) ∙ rw read refl

bad_within : (fuel pages : ℕ) (behind : Behind) (o : ℕ) (p : Place) → length p.ahead ≤ fuel
    → record_at pages behind p ≡ Err o
    → scan_within fuel pages behind p ≡ record { events = []; upto = behind.step; stop = Err o }
bad_within zero pages behind o p enough read =
    let here : ◌≡◌ {A = Result (Entry × Place) ℕ} (Err p.at) (Err o) = sym
    (nothing_read pages behind p (omega (arith, enough))) ∙ read in
    let same : p.at ≡ o = cc in
    rw same refl
bad_within (suc fuel) pages behind o p enough read = rw read refl

pub scan_bad : (pages : ℕ) (behind : Behind) (o : ℕ) (p : Place) → record_at pages behind p ≡ Err o
    → scan pages behind p ≡ record { events = []; upto = behind.step; stop = Err o }
unfolding scan
scan_bad pages behind o p read = bad_within (length p.ahead) pages behind o p (omega arith) read
