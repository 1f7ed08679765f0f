-- Scans: records that can be spelled are scanned whole, what was scanned whole are such records, none are a front of
-- others, and a scan goes record by record.
use Rattle.std.proofs.Common.{◌≡◌, ℕ, zero, suc, ◌+◌, ◌<◌, ◌≤◌, arith, refl, ap, sym, ◌∙◌, eqb, cond}
use Rattle.std.proofs.Common.{List, [], ◌∷◌, ◌++◌, length, Bool, true, false, Result, Ok, Err, None, Some, ⊎_elim}
use Rattle.std.proofs.Common.{length-append, eqb-true}
use Rattle.std.proofs.lemmas.Bool.{cases_lt}
use Rattle.std.proofs.lemmas.List.{append-nil}
use Rattle.cx_map.specs.Bytes.{AreBytes}
use Rattle.cx_codec.specs.Again.{IsCut}
use Rattle.cx_codec.specs.Checks.{close_at}
use Rattle.cx_codec.specs.Place.{Place, Takes, behind_text, end_of, done, read_on}
use Rattle.cx_codec.proofs.Again.{first_cut, second_cut}
use Rattle.cx_codec.proofs.Composing.{done_same}
use Rattle.cx_codec.proofs.Texts.{bytes_behind, takes_both, takes_first, takes_second}
use Rattle.cx_placing.specs.Records.{Record}
use Rattle.cx_callfmt.specs.Reading.{closed_call, next_record_at, record_at}
use Rattle.cx_callfmt.specs.Rules.{AreRecords, Behind, CallEntry, EndsAt, RecordOf, behind_record, rank}
use Rattle.cx_callfmt.specs.Scan.{
  CallScan,
  IsWholeCallScan,
  RecordsRise,
  by_call_end,
  call_ends,
  call_scan_by,
  call_scan_of,
  call_stops,
  call_whole,
  records_within,
  scan_records,
  with_record,
}
use Rattle.cx_callfmt.specs.Text.{call_end_text, call_entry_text, ended_records_text, record_text}
use Rattle.cx_callfmt.proofs.Entries.{comes, once_record, reads_last, reads_record}

-- an entry takes a byte at least
pub record_some : (behind : Behind) (g : Record) → 1 ≤ length (record_text behind.index g)
unfolding record_text
record_some behind g = omega arith

end_some : (behind : Behind) (count : ℕ) → 1 ≤ length (call_end_text behind.index count)
unfolding call_end_text
end_some behind count = omega arith

entry_some : (behind : Behind) (e : CallEntry) → 1 ≤ length (call_entry_text behind.index e)
entry_some behind (RecordOf g) = record_some behind g
entry_some behind (EndsAt count) = end_some behind count

ended_some : (behind : Behind) (gs : List Record) (count : ℕ) → 1 ≤ length (ended_records_text behind.index gs count)
ended_some behind [] count = end_some behind count
ended_some behind (g ∷ gs) count =
    omega (arith, length-append (record_text behind.index g) (ended_records_text g.index gs count), record_some behind g)

pub shorter : (p after : Place) (text : List ℕ) → Takes p text after → 1 ≤ length text → length after.ahead < length p.ahead
shorter p after text takes some = omega (arith, ap length takes.ahead, length-append text after.ahead, some)

-- ---- records that can be spelled are scanned

pub scan_again : (most : ℕ) (behind : Behind) (gs : List Record) (count : ℕ) (p after : Place)
    → AreRecords behind gs count → Takes p (ended_records_text behind.index gs count) after
    → length p.ahead < most → records_within most behind p ≡ call_scan_of behind gs count (close_at after)
scan_again zero behind gs count p after are takes enough = absurd (omega (arith, enough))
scan_again (suc most) behind [] count p after are takes enough =
    rw ((reads_last behind count are).again p after takes) refl
scan_again (suc most) behind (g ∷ gs) count p after are takes enough =
    let front : List ℕ = record_text behind.index g in
    let rest : List ℕ = ended_records_text g.index gs count in
    let q : Place = behind_text p front (rest ++ after.ahead) in
    let first = takes_first p after front rest takes in
    let less = shorter p q front first (record_some behind g) in
    rw (
      (reads_record behind g are.0).again p q first,
      scan_again most (behind_record g) gs count q after are.1 (takes_second p after front rest takes)
          (omega (arith, less, enough)),
    ) refl

pub scan_well : (behind : Behind) (gs : List Record) (count : ℕ) (x : Unit {0} × Place)
    → call_scan_of behind gs count (Ok x) ≡ call_whole gs count
scan_well behind [] count x = refl
scan_well behind (g ∷ gs) count x = ap (with_record g) (scan_well (behind_record g) gs count x)

-- An input that ends inside a slice is bad at its end.
pub scan_cut : (most : ℕ) (behind : Behind) (gs : List Record) (count : ℕ) (p : Place) → AreRecords behind gs count
    → IsCut p (ended_records_text behind.index gs count) → length p.ahead < most
    → (records_within most behind p).bad ≡ Some (end_of p)
scan_cut zero behind gs count p are cut enough = absurd (omega (arith, enough))
scan_cut (suc most) behind [] count p are cut enough = rw ((reads_last behind count are).cut p cut) refl
scan_cut (suc most) behind (g ∷ gs) count p are cut enough =
    let front : List ℕ = record_text behind.index g in
    let rest : List ℕ = ended_records_text g.index gs count in
    ⊎_elim (λ (inside : length p.ahead < length front).
    rw ((reads_record behind g are.0).cut p (first_cut p front rest cut inside)) refl)
    (λ (whole : length front ≤ length p.ahead).
    let later = second_cut p front rest cut whole in
    let less = shorter p later.after front later.first (record_some behind g) in
    rw ((reads_record behind g are.0).again p later.after later.first)
    (scan_cut most (behind_record g) gs count later.after are.1 later.then (omega (arith, less, enough))
    ∙ ap (λ (n : ℕ). Some n) later.end))
    (cases_lt (length p.ahead) (length front))

-- ---- what was scanned whole

closed_none : (q : Place) (r : Result (Unit {0} × Place) ℕ) (behind : Behind) (count : ℕ) → close_at q ≡ r
    → (by_call_end behind count r).bad ≡ None → (q.ahead ≡ []) × ((by_call_end behind count r) ≡ call_ends count)
closed_none q (Err o) behind count is good = cc
closed_none q (Ok x) behind count is good = (nothing_left q.ahead (eqb (length q.ahead) 0) refl (there q x is), refl)
  where
    nothing_left : (xs : List ℕ) (t : Bool) → eqb (length xs) 0 ≡ t → t ≡ true → xs ≡ []
    nothing_left [] t is good = refl
    nothing_left (x ∷ xs) t is good = let e : suc (length xs) ≡ 0 = eqb-true (suc (length xs)) 0 (is ∙ good) in
        absurd (omega (arith, e))

    by_test : (q : Place) (x : Unit {0} × Place) (t : Bool)
        → cond {A = Result (Unit {0} × Place) ℕ} t (Ok (tt, q)) (Err q.at) ≡ Ok x → t ≡ true
    by_test q x true is = refl
    by_test q x false is = cc

    there : (q : Place) (x : Unit {0} × Place) → close_at q ≡ Ok x → eqb (length q.ahead) 0 ≡ true
    there q x is = by_test q x (eqb (length q.ahead) 0) is

Later : ℕ → Type 0
Later most = (behind : Behind) (p : Place) → AreBytes p.ahead → (records_within most behind p).bad ≡ None
    → IsWholeCallScan behind p (records_within most behind p)

found_once : (most : ℕ) (behind : Behind) (p q : Place) (e : CallEntry) → Later most → AreBytes p.ahead
    → record_at behind p ≡ Ok (e, q) → (call_scan_by (records_within most) behind (Ok (e, q))).bad ≡ None
    → IsWholeCallScan behind p (call_scan_by (records_within most) behind (Ok (e, q)))
unfolding Later
found_once most behind p q (RecordOf g) later are read good =
    let stood = once_record behind p q are (RecordOf g) read in
    let rest = later (behind_record g) q (bytes_behind p q (record_text behind.index g) are stood.1) good in
    record {
      after = rest.after;
      ended = rest.ended;
      spelled = (stood.0, rest.spelled);
      takes = takes_both p q rest.after (record_text behind.index g) _ stood.1 rest.takes;
      none = rest.none;
    }
found_once most behind p q (EndsAt count) later are read good =
    let stood = once_record behind p q are (EndsAt count) read in
    let last = closed_none q (close_at q) behind count refl good in
    rw last.1 (record { after = q; ended = refl; spelled = stood.0; takes = stood.1; none = last.0 })

one_once : (most : ℕ) (behind : Behind) (p : Place) (r : Result (CallEntry × Place) ℕ) → Later most
    → AreBytes p.ahead → record_at behind p ≡ r → (call_scan_by (records_within most) behind r).bad ≡ None
    → IsWholeCallScan behind p (call_scan_by (records_within most) behind r)
one_once most behind p (Err o) later are read good = cc
one_once most behind p (Ok x) later are read good = found_once most behind p x.1 x.0 later are read good

scan_later : (most : ℕ) → Later most
unfolding Later
scan_later zero behind p are good = cc
scan_later (suc most) behind p are good = one_once most behind p (record_at behind p) (scan_later most) are
    refl good

pub scan_once : (most : ℕ) (behind : Behind) (p : Place) → AreBytes p.ahead
    → (records_within most behind p).bad ≡ None → IsWholeCallScan behind p (records_within most behind p)
unfolding Later
scan_once most behind p are good = scan_later most behind p are good

-- ---- no slice is a front of another

alone : List ℕ → List ℕ → Place
alone text more = record { at = 0; limit = length text; ahead = text ++ more }

behind_alone : List ℕ → List ℕ → Place
behind_alone text more = record { at = length text; limit = length text; ahead = more }

alone_takes : (text more : List ℕ) → Takes (alone text more) text (behind_alone text more)
unfolding alone behind_alone
alone_takes text more = record { ahead = refl; there = omega arith; limit = refl; within = omega arith }

same_scan : (s t : CallScan) → s ≡ t → (s.records ≡ t.records) × (s.upto ≡ t.upto)
same_scan s t same = (ap (λ (s : CallScan). s.records) same, ap (λ (s : CallScan). s.upto) same)

record IsFrontOf (more : List ℕ) (gs hs : List Record) (m n : ℕ) : Type 0 where
  records : gs ≡ hs
  counts : m ≡ n
  none : more ≡ []

no_front_by : (behind : Behind) (gs hs : List Record) (m n : ℕ) (more : List ℕ) → AreRecords behind gs m
    → AreRecords behind hs n → (p q r : Place) → Takes p (ended_records_text behind.index gs m) q → q.ahead ≡ more
    → Takes p (ended_records_text behind.index hs n) r
    → r.ahead ≡ [] → IsFrontOf more gs hs m n
no_front_by behind [] [] m n more are are' p q r first rest second none =
    let one = (reads_last behind m are).again p q first in
    let two = (reads_last behind n are').again p r second in
    let same = same_pair (EndsAt m) (EndsAt n) q r (sym one ∙ two) in
    record { records = refl; counts = same_end m n same.0; none = sym rest ∙ ap (λ (x : Place). x.ahead) same.1 ∙ none }
  where
    same_end : (m n : ℕ) → EndsAt m ≡ EndsAt n → m ≡ n
    same_end m n same = cc

    same_pair : (d e : CallEntry) (q r : Place) → ◌≡◌ {A = Result (CallEntry × Place) ℕ} (Ok (d, q)) (Ok (e, r))
        → (d ≡ e) × (q ≡ r)
    same_pair d e q r same = done_same d e q r same
no_front_by behind [] (h ∷ hs) m n more are are' p q r first rest second none =
    let front : List ℕ = record_text behind.index h in
    let back : List ℕ = ended_records_text h.index hs n in
    let mid : Place = behind_text p front (back ++ r.ahead) in
    let one = (reads_last behind m are).again p q first in
    let two = (reads_record behind h are'.0).again p mid (takes_first p r front back second) in
    let same = done_same (EndsAt m) (RecordOf h) q mid (sym one ∙ two) in
    absurd (other m h same.0)
  where
    other : (m : ℕ) (h : Record) → EndsAt m ≡ RecordOf h → ⊥
    other m h same = cc
no_front_by behind (g ∷ gs) [] m n more are are' p q r first rest second none =
    let front : List ℕ = record_text behind.index g in
    let back : List ℕ = ended_records_text g.index gs m in
    let mid : Place = behind_text p front (back ++ q.ahead) in
    let one = (reads_last behind n are').again p r second in
    let two = (reads_record behind g are.0).again p mid (takes_first p q front back first) in
    let same = done_same (EndsAt n) (RecordOf g) r mid (sym one ∙ two) in
    absurd (other n g same.0)
  where
    other : (m : ℕ) (h : Record) → EndsAt m ≡ RecordOf h → ⊥
    other m h same = cc
no_front_by behind (g ∷ gs) (h ∷ hs) m n more are are' p q r first rest second none =
    let front : List ℕ = record_text behind.index g in
    let back : List ℕ = ended_records_text g.index gs m in
    let mid : Place = behind_text p front (back ++ q.ahead) in
    let front' : List ℕ = record_text behind.index h in
    let back' : List ℕ = ended_records_text h.index hs n in
    let mid' : Place = behind_text p front' (back' ++ r.ahead) in
    let one = (reads_record behind g are.0).again p mid (takes_first p q front back first) in
    let two = (reads_record behind h are'.0).again p mid' (takes_first p r front' back' second) in
    let same = done_same (RecordOf g) (RecordOf h) mid mid' (sym one ∙ two) in
    let group : g ≡ h = same_group g h same.0 in
    let are_h : AreRecords (behind_record h) gs m = rw (← group) are.1 in
    let takes_h : Takes mid' (ended_records_text h.index gs m) q =
    rw (← same.1, ← group) (takes_second p q front back first) in
    let later = no_front_by (behind_record h) gs hs m n more are_h are'.1 mid' q r takes_h rest
    (takes_second p r front' back' second) none in
    record { records = rw (group, later.records) refl; counts = later.counts; none = later.none }
  where
    same_group : (g h : Record) → RecordOf g ≡ RecordOf h → g ≡ h
    same_group g h same = cc

-- ---- a scan goes record by record

Enough : ℕ → ℕ → Type 0
Enough m n = (behind : Behind) (p : Place) → AreBytes p.ahead → length p.ahead < m → length p.ahead < n
    → records_within m behind p ≡ records_within n behind p

found_enough : (m n : ℕ) (behind : Behind) (p q : Place) (e : CallEntry) → Enough m n → AreBytes p.ahead
    → length p.ahead < suc m → length p.ahead < suc n → record_at behind p ≡ Ok (e, q)
    → call_scan_by (records_within m) behind (Ok (e, q)) ≡ call_scan_by (records_within n) behind (Ok (e, q))
unfolding Enough
found_enough m n behind p q (EndsAt count) later are first second read = refl
found_enough m n behind p q (RecordOf g) later are first second read =
    let stood = once_record behind p q are (RecordOf g) read in
    let less = shorter p q (record_text behind.index g) stood.1 (record_some behind g) in
    ap (with_record g) (later (behind_record g) q (bytes_behind p q (record_text behind.index g) are stood.1)
    (omega (arith, less, first)) (omega (arith, less, second)))

one_enough : (m n : ℕ) (behind : Behind) (p : Place) (r : Result (CallEntry × Place) ℕ) → Enough m n
    → AreBytes p.ahead → length p.ahead < suc m → length p.ahead < suc n → record_at behind p ≡ r
    → call_scan_by (records_within m) behind r ≡ call_scan_by (records_within n) behind r
one_enough m n behind p (Err o) later are first second read = refl
one_enough m n behind p (Ok x) later are first second read =
    found_enough m n behind p x.1 x.0 later are first second read

scan_enough : (m n : ℕ) → Enough m n
unfolding Enough
scan_enough zero n behind p are first second = absurd (omega (arith, first))
scan_enough (suc m) zero behind p are first second = absurd (omega (arith, second))
scan_enough (suc m) (suc n) behind p are first second = one_enough m n behind p (record_at behind p)
    (scan_enough m n) are first second refl

pub scan_put : (behind : Behind) (g : Record) (p q : Place) → AreBytes p.ahead
    → record_at behind p ≡ Ok (RecordOf g, q)
    → scan_records behind p ≡ with_record g (scan_records (behind_record g) q)
unfolding scan_records Enough
scan_put behind g p q are read =
    let stood = once_record behind p q are (RecordOf g) read in
    let less = shorter p q (record_text behind.index g) stood.1 (record_some behind g) in
    rw read (ap (with_record g) (scan_enough (length p.ahead) (suc (length q.ahead)) (behind_record g) q
    (bytes_behind p q (record_text behind.index g) are stood.1) less (omega arith)))

pub scan_ends : (behind : Behind) (count : ℕ) (p q : Place) → record_at behind p ≡ Ok (EndsAt count, q)
    → scan_records behind p ≡ by_call_end behind count (close_at q)
unfolding scan_records
scan_ends behind count p q read = rw read refl

pub scan_bad : (behind : Behind) (o : ℕ) (p : Place) → record_at behind p ≡ Err o
    → scan_records behind p ≡ call_stops behind o
unfolding scan_records
scan_bad behind o p read = rw read refl

-- ---- the indices rise

pub record Rises (behind : Behind) (s : CallScan) : Type 0 where
  pub records : RecordsRise behind.index s.records
  pub upto : behind.index ≤ s.upto

rises_later : ℕ → Type 0
rises_later most = (behind : Behind) (p : Place) → AreBytes p.ahead → Rises behind (records_within most behind p)

end_rises : (behind : Behind) (count : ℕ) (r : Result (Unit {0} × Place) ℕ) → behind.index < count
    → Rises behind (by_call_end behind count r)
end_rises behind count (Ok x) low = record { records = tt; upto = omega (arith, low) }
end_rises behind count (Err o) low = record { records = tt; upto = omega arith }

found_rises : (most : ℕ) (behind : Behind) (p q : Place) (e : CallEntry) → rises_later most → AreBytes p.ahead
    → record_at behind p ≡ Ok (e, q) → Rises behind (call_scan_by (records_within most) behind (Ok (e, q)))
unfolding rises_later
found_rises most behind p q (RecordOf g) later are read =
    let stood = once_record behind p q are (RecordOf g) read in
    let rest = later (behind_record g) q (bytes_behind p q (record_text behind.index g) are stood.1) in
    let low = (comes behind (rank g.what) g.index stood.0.comes).from in
    record { records = (low, rest.records); upto = omega (arith, low, rest.upto) }
found_rises most behind p q (EndsAt count) later are read =
    end_rises behind count (close_at q) (once_record behind p q are (EndsAt count) read).0.above

one_rises : (most : ℕ) (behind : Behind) (p : Place) (r : Result (CallEntry × Place) ℕ) → rises_later most
    → AreBytes p.ahead → record_at behind p ≡ r → Rises behind (call_scan_by (records_within most) behind r)
one_rises most behind p (Err o) later are read = record { records = tt; upto = omega arith }
one_rises most behind p (Ok x) later are read = found_rises most behind p x.1 x.0 later are read

all_rise : (most : ℕ) → rises_later most
unfolding rises_later
all_rise zero behind p are = record { records = tt; upto = omega arith }
all_rise (suc most) behind p are = one_rises most behind p (record_at behind p) (all_rise most) are refl

pub scan_rises : (behind : Behind) (p : Place) → AreBytes p.ahead → Rises behind (scan_records behind p)
unfolding scan_records rises_later
scan_rises behind p are = all_rise (suc (length p.ahead)) behind p are

-- ---- the next entry, with nothing behind an end

next_by : (behind : Behind) (o : ℕ) (p : Place) (r : Result (CallEntry × Place) ℕ) → record_at behind p ≡ r
    → read_on r closed_call ≡ Err o → scan_records behind p ≡ call_stops behind o
next_by behind o p (Err o') read bad = scan_bad behind o' p read ∙ let same : o' ≡ o = cc in rw same refl
next_by behind o p (Ok x) read bad = by_entry x.0 x.1 read bad
  where
    by_close : (count : ℕ) (q : Place) (r : Result (Unit {0} × Place) ℕ)
        → read_on r (λ nothing. done (EndsAt count)) ≡ Err o → by_call_end behind count r ≡ call_stops behind o
    by_close count q (Ok y) bad = cc
    by_close count q (Err o') bad = let same : o' ≡ o = cc in rw same refl

    by_entry : (e : CallEntry) (q : Place) → record_at behind p ≡ Ok (e, q) → closed_call e q ≡ Err o
        → scan_records behind p ≡ call_stops behind o
    by_entry (RecordOf g) q read bad = cc
    by_entry (EndsAt count) q read bad = scan_ends behind count p q read ∙ by_close count q (close_at q) bad

pub next_bad : (behind : Behind) (o : ℕ) (p : Place) → next_record_at behind p ≡ Err o
    → scan_records behind p ≡ call_stops behind o
unfolding next_record_at
next_bad behind o p bad = next_by behind o p (record_at behind p) refl bad

pub no_front : (behind : Behind) (gs hs : List Record) (m n : ℕ) (more : List ℕ) → AreRecords behind gs m
    → AreRecords behind hs n → ended_records_text behind.index gs m ++ more ≡ ended_records_text behind.index hs n
    → (gs ≡ hs) × (m ≡ n) × (more ≡ [])
unfolding alone behind_alone
no_front behind gs hs m n more are are' same =
    let long : List ℕ = ended_records_text behind.index hs n in
    let p : Place = alone long [] in
    let size : length long ≡ length (ended_records_text behind.index gs m) + length more = ap length (sym same)
    ∙ length-append (ended_records_text behind.index gs m) more in
    let first : Takes p (ended_records_text behind.index gs m) (record {
      at = length (ended_records_text behind.index gs m);
      limit = length long;
      ahead = more;
    }) = record {
      ahead = append-nil long ∙ sym same;
      there = omega arith;
      limit = refl;
      within = omega (arith, size);
    } in
    let is = no_front_by behind gs hs m n more are are' p _ _ first refl (alone_takes long []) refl in
    (is.records, is.counts, is.none)
