-- A step between the first of its records and the first of a later one.
use Rattle.std.proofs.Common.{◌≡◌, inl, inr, ℕ, suc, ◌+◌, ◌-◌, ◌≤◌, ◌<◌}
use Rattle.std.proofs.Common.{◌^◌, ◌==◌, nat_lt, nat_le, ◌&&◌, ◌||◌, Bool, true, false}
use Rattle.std.proofs.Common.{List, [], ◌∷◌, ◌++◌, length, Option, None, Some, unwrap_or, Result, Ok, Err}
use Rattle.std.proofs.Common.{append_assoc, eqb-true, if◌then◌else◌, refl, sym, ap, subst, ◌∙◌, arith, eq-eqb, ne_eqb}
use Rattle.std.proofs.Common.{leb-false, leb-true, ltb-true}
use Rattle.std.proofs.lemmas.Bool.{and_parts, eqb-false}
use Rattle.std.proofs.lemmas.List.{append-nil}
use Rattle.cx_codec.specs.Place.{Place, end_of}
use Rattle.cx_map.specs.Bytes.{AreBytes}
use Rattle.cx_alone.specs.Replaying.{IsFormedUpTo}
use Rattle.cx_replay.specs.declared.fault.ReplayFault.{ReplayFault}
use Rattle.cx_replay.specs.declared.fault.ReplayFault.TheVariants as fault
use Rattle.cx_callfmt.specs.Rules.{Behind, CallStands, EndsAt, IsWhat}
use Rattle.cx_callfmt.specs.Rules.{MayFollow, RecordOf, behind_record, may_come, rank}
use Rattle.cx_callfmt.specs.Scan.{CallScan, RecordsRise, call_stops, scan_records, with_record}
use Rattle.cx_callfmt.specs.Text.{last_index}
use Rattle.cx_callfmt.specs.Engine.{CallReading}
use Rattle.cx_callfmt.proofs.Entries.{Comes, comes}
use Rattle.cx_callfmt.proofs.Scans.{scan_rises}
use Rattle.cx_placing.specs.Placing.{Placed}
use Rattle.cx_placing.specs.Records.{Async, Calls, Record, Value, What}
use Rattle.cx_call_alone.specs.Ahead.{
  AreTaken,
  GoesOnCalls,
  IsAheadCalls,
  IsMidway,
  IsWhatWaits,
  behind_taken,
  entry_held,
  is_over,
  left_at,
  record_held,
  step_held,
  untaken_records,
  what_held,
}
use Rattle.cx_call_alone.specs.Placed.{RecordsBelow, RecordsFrom, nothing_placed, placed_of, placed_with, told}
use Rattle.cx_call_alone.specs.Settling.{EndIsDue, IsCutOffCalls, IsReadCall, ReadsOnCalls, SettlesNoCall, StepIsDue}
use Rattle.cx_call_alone.specs.Stepping.{RisesIn}
use Rattle.cx_call_alone.specs.declared.items.StepItems.{StepItems}
use Rattle.cx_call_alone.specs.declared.items.Told.{Told}
use Rattle.cx_call_alone.proofs.Placed.{below_more, from_less, with_both, with_here, with_later, with_past}

-- ---- what is ahead comes later

rise_from : (k : ℕ) (rs : List Record) → RecordsRise k rs → RecordsFrom k rs
rise_from k [] rises = tt
rise_from k (r ∷ rs) rises = (rises.0, from_less k r.index rs rises.0 (rise_from r.index rs rises.1))

record Later (upto : ℕ) (s : CallScan) : Type 0 where
  from : RecordsFrom upto s.records
  reach : upto ≤ s.upto

untaken_later : (upto : ℕ) (waiting : Option Told) (p : Place) → AreBytes p.ahead
    → Later upto (untaken_records upto waiting p)
untaken_later upto None p are = record { from = tt; reach = omega arith }
untaken_later upto (Some t) p are =
    let rises = scan_rises (behind_record (record_held upto t)) p are in
    record {
      from = (omega arith, rise_from upto (scan_records (behind_record (record_held upto t)) p).records rises.records);
      reach = rises.upto;
    }

-- ---- the parts of a scan

below_push : (n : ℕ) (rs : List Record) (r : Record) → RecordsBelow n rs → r.index < n → RecordsBelow n (rs ++ r ∷ [])
below_push n [] r below is = (is, tt)
below_push n (h ∷ rs) r below is = (below.0, below_push n rs r below.1 is)

last_push : (before : ℕ) (rs : List Record) (r : Record) → last_index before (rs ++ r ∷ []) ≡ r.index
last_push before [] r = refl
last_push before (h ∷ rs) r = last_push h.index rs r

-- ---- how many may wait

rank_most : (w : What) → rank w ≤ 2
rank_most (Async h) = omega arith
rank_most (Value v) = omega arith
rank_most (Calls n h) = omega arith

left_by : (at upto : ℕ) (t : Told) (same : Bool) → (upto == at) ≡ same
    → left_at at upto (Some t) ≡ (if same then 3 - rank (what_held t) else 0)
left_by at upto t same is = ap (λ (b : Bool). if b then 3 - rank (what_held t) else 0) is

pub at_most_three : (at upto : ℕ) (waiting : Option Told) → left_at at upto waiting ≤ 3
at_most_three at upto None = omega arith
at_most_three at upto (Some t) = by_test (upto == at)
  where
    by_test : (b : Bool) → (if b then 3 - rank (what_held t) else 0) ≤ 3
    by_test true = omega arith
    by_test false = omega arith

none_at : (at upto most : ℕ) (waiting : Option Told) → at < upto → left_at at upto waiting ≤ most
none_at at upto most None less = omega arith
none_at at upto most (Some t) less =
    omega (arith, left_by at upto t false (ne_eqb upto at (λ is. omega (arith, is, less))))

-- With none left the step is behind.
pub gone_by : (at upto : ℕ) (waiting : Option Told) → left_at at upto waiting ≤ 0 → at ≤ upto
    → (waiting ≡ None → at < upto) → at < upto
gone_by at upto None few within above = above refl
gone_by at upto (Some t) few within above = by_test (upto == at) refl
  where
    by_test : (b : Bool) → (upto == at) ≡ b → at < upto
    by_test true is = absurd (omega (arith, few, left_by at upto t true is, rank_most (what_held t)))
    by_test false is = other (cases upto at is)
      where
        cases : (m n : ℕ) → (m == n) ≡ false → m ≡ n → ⊥
        cases m n differ = eqb-false m n differ

        other : (upto ≡ at → ⊥) → at < upto
        other differ = grind (arith, within)

-- A record at the same index has a greater rank.
rank_above : (at index least place : ℕ) → may_come (record { index = at; least = least }) place index ≡ true
    → index ≡ at → least ≤ place
rank_above at index least place may is =
    let parts = and_parts (nat_lt index (2 ^ 48)) _ may in
    by_order (nat_lt at index) (at == index) (nat_le least place) refl refl parts.1
  where
    by_order : (l e b : Bool) → nat_lt at index ≡ l → nat_le least place ≡ b → (l || (e && b)) ≡ true → least ≤ place
    by_order true e b less test or = absurd (omega (arith, is, ltb-true at index less))
    by_order false true true less test or = leb-true least place test
    by_order false true false less test or = cc
    by_order false false b less test or = cc

few_left : (at upto next most : ℕ) (t : Told) (waiting : Option Told) → upto ≡ at
    → left_at at upto (Some t) ≤ suc most → CallStands (behind_record (record_held upto t)) (entry_held next waiting)
    → left_at at next waiting ≤ most
few_left at upto next most t None here few stands = omega arith
few_left at upto next most t (Some v) here few stands = by_test (next == at) refl
  where
    same : next ≡ at → suc (rank (what_held t)) ≤ rank (what_held v)
    same is = rank_above upto next (suc (rank (what_held t))) (rank (what_held v)) stands.comes (is ∙ sym here)

    by_test : (b : Bool) → (next == at) ≡ b → left_at at next (Some v) ≤ most
    by_test true is = omega (
      arith,
      few,
      left_by at upto t true (eq-eqb upto at here),
      left_by at next v true is,
      same (eqb-true next at is),
      rank_most (what_held v),
    )
    by_test false is = omega (arith, left_by at next v false is)

-- ---- the step before and behind one of its records

pub started_by : (whole : CallScan) (end at upto : ℕ) (waiting : Option Told) (p : Place) (left : Option (List ℕ))
    (step : StepItems) → IsAheadCalls whole end at upto waiting p left → step_held step ≡ nothing_placed 32
    → RisesIn step.call → (waiting ≡ None → at < upto) → IsMidway whole end at 3 step upto waiting p left
started_by whole end at upto waiting p left step is none rises above = record {
  taken = record {
    head = is.taken.head;
    past = is.taken.past;
    parts = is.taken.parts;
    below = below_more at (suc at) is.taken.past (omega arith) is.taken.below;
    what = is.taken.what;
    most = is.taken.most;
    bytes = is.taken.bytes;
    ends = is.taken.ends;
    spent = is.taken.spent;
  };
  within = is.within;
  tells = ap (placed_with at (nothing_placed 32)) (sym (append-nil is.taken.past))
      ∙ (with_past at (nothing_placed 32) is.taken.past [] is.taken.below ∙ sym none);
  rises = rises;
  few = at_most_three at upto waiting;
  above = above;
}

pub nothing_here : (whole : CallScan) (end at most upto : ℕ) (waiting : Option Told) (p : Place)
    (left : Option (List ℕ)) (step : StepItems) → IsMidway whole end at (suc most) step upto waiting p left
    → at < upto → IsMidway whole end at most step upto waiting p left
nothing_here whole end at most upto waiting p left step is less = record {
  taken = is.taken;
  within = is.within;
  tells = is.tells;
  rises = is.rises;
  few = none_at at upto most waiting less;
  above = is.above;
}

what_waits : (whole : CallScan) (end at most upto : ℕ) (waiting : Option Told) (t : Told) (p : Place)
    (left : Option (List ℕ)) (step : StepItems) → waiting ≡ Some t → IsMidway whole end at most step upto waiting p left
    → IsMidway whole end at most step upto (Some t) p left
what_waits whole end at most upto waiting t p left step is mid =
    subst (λ w. IsMidway whole end at most step upto w p left) is mid

next_above : (at upto next : ℕ) (t : Told) (waiting : Option Told) → upto ≡ at
    → CallStands (behind_record (record_held upto t)) (entry_held next waiting)
    → (at ≤ next) × (next ≤ 2 ^ 48) × (waiting ≡ None → at < next)
next_above at upto next t None here stands = (
  omega (arith, here, stands.above),
  stands.most,
  λ is. omega (arith, here, stands.above),
)
next_above at upto next t (Some v) here stands =
    let there = comes (behind_record (record_held upto t)) (rank (what_held v)) next stands.comes in
    (omega (arith, here, there.from), omega (arith, there.below), λ is. cc)

what_stands : (behind : Behind) (next : ℕ) (waiting : Option Told) → CallStands behind (entry_held next waiting)
    → IsWhatWaits waiting
what_stands behind next None stands = tt
what_stands behind next (Some v) stands = stands.what

pub one_taken : (whole : CallScan) (end at most upto next : ℕ) (t : Told) (waiting : Option Told) (p q : Place)
    (left left_now : Option (List ℕ)) (step new : StepItems)
    → IsMidway whole end at (suc most) step upto (Some t) p left → upto ≤ at
    → IsReadCall (scan_records (behind_record (record_held upto t)) p) (behind_record (record_held upto t)) next
    waiting q left_now
    → end_of p ≡ end_of q → step_held new ≡ told (step_held step) (what_held t)
    → (RisesIn step.call → IsWhat (what_held t) → RisesIn new.call)
    → IsMidway whole end at most new next waiting q left_now
one_taken whole end at most upto next t waiting p q left left_now step new is over read stays tells rises =
    let here : upto ≡ at = omega (arith, over, is.within) in
    let r : Record = record_held upto t in
    let above = next_above at upto next t waiting here read.stands in
    record {
      taken = record {
        head = is.taken.head;
        past = is.taken.past ++ r ∷ [];
        parts = is.taken.parts
            ∙ (ap (λ (s : CallScan). behind_taken is.taken.head is.taken.past (with_record r s)) read.is
            ∙ ap (λ (rs : List Record). record {
              head = is.taken.head;
              records = rs;
              upto = (untaken_records next waiting q).upto;
              ended = (untaken_records next waiting q).ended;
              bad = (untaken_records next waiting q).bad;
            }) (sym (append_assoc is.taken.past (r ∷ []) (untaken_records next waiting q).records)));
        below = below_push (suc at) is.taken.past r is.taken.below (omega (arith, here));
        what = what_stands (behind_record r) next waiting read.stands;
        most = above.1;
        bytes = read.bytes;
        ends = is.taken.ends ∙ stays;
        spent = read.spent;
      };
      within = above.0;
      tells = with_both at (nothing_placed 32) is.taken.past (r ∷ [])
          ∙ (with_here at (placed_of 32 at is.taken.past) r [] here
          ∙ (ap (λ (s : Placed ℕ). told s (what_held t)) is.tells ∙ sym tells));
      rises = rises is.rises is.taken.what;
      few = few_left at upto next most t waiting here is.few read.stands;
      above = above.2;
    }

-- ---- a refusal behind one of its records

either_way : (bad rest : Option ℕ) (end : ℕ) → bad ≡ rest → IsFormedUpTo end rest → IsFormedUpTo end bad
either_way bad rest end is (inl none) = inl (is ∙ none)
either_way bad rest end is (inr some) = inr (is ∙ some)

pub not_taken : (whole : CallScan) (end at most upto : ℕ) (t : Told) (p q : Place) (left left_now : Option (List ℕ))
    (step : StepItems) (cut : Type 0) (e : ReplayFault) → IsMidway whole end at most step upto (Some t) p left
    → upto ≤ at → ReadsOnCalls (scan_records (behind_record (record_held upto t)) p)
    (behind_record (record_held upto t))
    (end_of p) q left_now cut (Err e)
    → SettlesNoCall whole end at cut e
not_taken whole end at most upto t p q left left_now step cut (fault.Format o) is over stops =
    let here : upto ≡ at = omega (arith, over, is.within) in (
      ap (λ (t : CallScan). t.upto) is.taken.parts ∙ (ap (λ (s : CallScan). s.upto) stops ∙ here),
      ap (λ (t : CallScan). t.ended) is.taken.parts ∙ ap (λ (s : CallScan). s.ended) stops,
      ap (λ (t : CallScan). t.bad) is.taken.parts ∙ ap (λ (s : CallScan). s.bad) stops,
    )
not_taken whole end at most upto t p q left left_now step cut (fault.Broken n) is over stops = stops
not_taken whole end at most upto t p q left left_now step cut fault.ReadFault is over stops = λ gone.
    let here : upto ≡ at = omega (arith, over, is.within) in
    let off = stops gone in (
      ap (last_index 0) (ap (λ (t : CallScan). t.records) is.taken.parts
          ∙ ap (λ (rs : List Record). is.taken.past ++ record_held upto t ∷ rs) off.records)
          ∙ (last_push 0 is.taken.past (record_held upto t) ∙ here),
      either_way whole.bad (scan_records (behind_record (record_held upto t)) p).bad end
          (ap (λ (t : CallScan). t.bad) is.taken.parts)
          (subst (λ (n : ℕ). IsFormedUpTo n (scan_records (behind_record (record_held upto t)) p).bad)
          (sym is.taken.ends) off.bad),
    )
not_taken whole end at most upto t p q left left_now step cut fault.NoMemory is over stops = stops

-- ---- the step behind its last record

pub step_settled : (whole : CallScan) (end at upto : ℕ) (waiting : Option Told) (p : Place) (left : Option (List ℕ))
    (step : StepItems) → IsMidway whole end at 0 step upto waiting p left
    → StepIsDue whole at (λ (n : ℕ). IsAheadCalls whole end n upto waiting p left) step
step_settled whole end at upto waiting p left step is =
    let less : at < upto = gone_by at upto waiting is.few is.within is.above in
    let later : Later upto (untaken_records upto waiting p) = untaken_later upto waiting p is.taken.bytes in
    let reach : whole.upto ≡ (untaken_records upto waiting p).upto = ap (λ (t : CallScan). t.upto) is.taken.parts in
    let next : suc at ≡ at + 1 = omega arith in
    record {
      is = sym (ap (placed_of 32 at) (ap (λ (t : CallScan). t.records) is.taken.parts)
          ∙ (with_both at (nothing_placed 32) is.taken.past (untaken_records upto waiting p).records
          ∙ (with_later at (placed_of 32 at is.taken.past) (untaken_records upto waiting p).records
          (from_less (suc at) upto (untaken_records upto waiting p).records (omega (arith, less)) later.from)
          ∙ is.tells)));
      rises = is.rises;
      within = omega (arith, less, later.reach, reach);
      ahead = record {
        taken = subst (λ (n : ℕ). AreTaken whole end n upto waiting p left) next is.taken;
        within = omega (arith, less);
      };
    }

-- ---- the end

pub not_over : (at upto : ℕ) (waiting : Option Told) → is_over at upto waiting ≡ false → waiting ≡ None → at < upto
not_over at upto None more none = leb-false upto at more
not_over at upto (Some t) more none = cc

pub over_none : (at upto : ℕ) (waiting : Option Told) → is_over at upto waiting ≡ true → waiting ≡ None
over_none at upto None over = refl
over_none at upto (Some t) over = cc

pub end_due : (whole : CallScan) (end at upto : ℕ) (waiting : Option Told) (p : Place) (left : Option (List ℕ))
    → is_over at upto waiting ≡ true → IsAheadCalls whole end at upto waiting p left
    → EndIsDue whole at (λ (n : ℕ). IsAheadCalls whole end n upto waiting p left)
end_due whole end at upto None p left over is =
    let reach : whole.upto ≡ upto = ap (λ (t : CallScan). t.upto) is.taken.parts in
    record {
      all = omega (arith, leb-true upto at over, is.within, reach);
      ended = ap (λ (t : CallScan). t.ended) is.taken.parts;
      good = ap (λ (t : CallScan). t.bad) is.taken.parts;
      ahead = is;
    }
end_due whole end at upto (Some t) p left over is = cc

-- ---- by what waited

pub take_by : (whole : CallScan) (end at most upto next : ℕ) (waits : Option Told) (t : Told) (waiting : Option Told)
    (r : CallReading) (p q : Place) (left left_now : Option (List ℕ)) (step new : StepItems) → waits ≡ Some t
    → GoesOnCalls upto waits r → IsMidway whole end at (suc most) step upto waits p left → upto ≤ at
    → IsReadCall (scan_records r.behind p) r.behind next waiting q left_now
    → end_of p ≡ end_of q → step_held new ≡ told (step_held step) (what_held t)
    → (RisesIn step.call → IsWhat (what_held t) → RisesIn new.call)
    → IsMidway whole end at most new next waiting q left_now
take_by whole end at most upto next waits t waiting r p q left left_now step new is goes mid over read stays tells
    rises =
    one_taken whole end at most upto next t waiting p q left left_now step new
    (what_waits whole end at (suc most) upto waits t p left step is mid) over
    (subst (λ (b : Behind). IsReadCall (scan_records b p) b next waiting q left_now)
    (subst (λ w. GoesOnCalls upto w r) is goes).3 read) stays tells rises

pub refuse_by : (whole : CallScan) (end at most upto : ℕ) (waits : Option Told) (t : Told) (r : CallReading)
    (p q : Place) (left left_now : Option (List ℕ)) (step : StepItems) (cut : Type 0) (e : ReplayFault)
    → waits ≡ Some t → GoesOnCalls upto waits r → IsMidway whole end at most step upto waits p left → upto ≤ at
    → ReadsOnCalls (scan_records r.behind p) r.behind (end_of p) q left_now cut (Err e)
    → SettlesNoCall whole end at cut e
refuse_by whole end at most upto waits t r p q left left_now step cut e is goes mid over read =
    not_taken whole end at most upto t p q left left_now step cut e
    (what_waits whole end at most upto waits t p left step is mid) over
    (subst (λ (b : Behind). ReadsOnCalls (scan_records b p) b (end_of p) q left_now cut (Err e))
    (subst (λ w. GoesOnCalls upto w r) is goes).3 read)
