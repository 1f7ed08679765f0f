-- What the answers of the reader say of an input.
use Rattle.std.proofs.Common.{◌≡◌, ◌⊎◌, inl, inr, ℕ, ◌^◌, List, []}
use Rattle.std.proofs.Common.{◌++◌, Option, None, Some, unwrap_or, Result, Ok, Err}
use Rattle.std.proofs.Common.{refl, sym, ap, subst, ◌∙◌}
use Rattle.std.proofs.lemmas.List.{append-nil}
use Rattle.cx_codec.specs.Place.{Place, done, end_of, read_on}
use Rattle.cx_codec.specs.Reads.{Begins, Follows, Reads, Standing, place_in}
use Rattle.cx_codec.proofs.Following.{begins_on, begins_self, end_stays}
use Rattle.cx_map.specs.Bytes.{AreBytes}
use Rattle.cx_alone.specs.Ahead.{MayBeInput}
use Rattle.cx_alone.specs.Faults.{replay_fault_of}
use Rattle.cx_alone.proofs.Inputs.{nothing_is_left}
use Rattle.cx_replay.specs.declared.fault.ReplayFault.{ReplayFault}
use Rattle.cx_replay.specs.declared.fault.ReplayFault.TheVariants as fault
use Rattle.cx_slices.specs.Bytes.{Byte}
use Rattle.cx_slicefmt.specs.Rules.{Head}
use Rattle.cx_slicefmt.specs.declared.fault.SliceFault.{SliceFault}
use Rattle.cx_slicefmt.specs.declared.fault.SliceFault.TheVariants as slice_fault
use Rattle.cx_placing.specs.Records.{Async, Calls, Record, Value, What}
use Rattle.cx_callfmt.specs.Beginning.{Begun, BegunValue, HeadBegun, begun_at, begun_behind, head_behind}
use Rattle.cx_callfmt.specs.Engine.{CallNexts, IsLastEnd, head_in}
use Rattle.cx_callfmt.specs.Gathering.{bytes_onto, call_met}
use Rattle.cx_callfmt.specs.Handing.{before_runs, rest_at}
use Rattle.cx_callfmt.specs.Reading.{record_at}
use Rattle.cx_callfmt.specs.Rules.{Behind, CallEntry, RecordOf}
use Rattle.cx_callfmt.specs.Scan.{scan_records}
use Rattle.cx_callfmt.specs.declared.fault.CallFault.{CallFault}
use Rattle.cx_callfmt.specs.declared.fault.CallFault.TheVariants as call_fault
use Rattle.cx_callfmt.specs.declared.found.CallFound.{CallFound}
use Rattle.cx_callfmt.specs.declared.found.CallFound.TheVariants as found
use Rattle.cx_callfmt.specs.declared.found.HeadFound.{HeadFound}
use Rattle.cx_callfmt.proofs.Begins.{records_begin}
use Rattle.cx_callfmt.proofs.Scans.{next_bad, scan_bad}
use Rattle.cx_call_alone.specs.Ahead.{record_held, what_held}
use Rattle.cx_call_alone.specs.Settling.{IsCutOffCalls, IsNotBroken, IsReadCall}
use Rattle.cx_call_alone.specs.Settling.{ReadsOnCalls, replay_met, replay_of_call}
use Rattle.cx_call_alone.specs.Standing.{head_held}
use Rattle.cx_call_alone.specs.declared.items.CallItems.{CallItems}
use Rattle.cx_call_alone.specs.declared.items.HeadItems.{HeadItems}
use Rattle.cx_call_alone.specs.declared.items.Told.{Told}
use Rattle.cx_call_alone.specs.declared.items.Told.TheVariants as told
use Rattle.cx_call_alone.proofs.Entries.{Closes, closes, cut_behind, cut_inside, read_end, read_one}

-- ---- a head

abbrev pub with_words : HeadBegun → ℕ → List Byte → Place → Result (Head × Place) ℕ
with_words b at bytes = done (record { words = b.words; bytes = bytes })

pub head_gathered : (b : HeadBegun) (p : Place)
    → head_behind b p ≡ read_on (bytes_onto [] (before_runs b.runs) p) (with_words b p.at)
unfolding bytes_onto
head_gathered b p = by_rest (rest_at (2 ^ 32) (before_runs b.runs) p)
  where
    by_rest : (r : Result (List Byte × Place) ℕ)
        → ◌≡◌ {A = Result (Head × Place) ℕ} (read_on r (λ bytes. done (record { words = b.words; bytes = bytes })))
        (read_on (read_on r (λ bytes. done ([] ++ bytes))) (with_words b p.at))
    by_rest (Ok x) = refl
    by_rest (Err o) = refl

-- ---- a record with a head

abbrev pub on_head : ℕ → (Head → What) → Head → Place → Result (CallEntry × Place) ℕ
on_head index part head = done (RecordOf (record { index = index; what = part head }))

pub record Headed (behind : Behind) (index : ℕ) (part : Head → What) (b : HeadBegun) (old mid : Standing) : Type 0 where
  pub follows : Follows old mid
  pub reads : (input : List ℕ) → Begins mid.given input → record_at behind (place_in old input)
      ≡ read_on (head_behind b (place_in mid input)) (on_head index part)

pub items_begin : (behind : Behind) (index : ℕ) (h : HeadFound) (e : CallFound) (old mid : Standing)
    → e ≡ found.Items index h → CallNexts behind old mid (Ok e) → Headed behind index Async (head_in h) old mid
items_begin behind index h e old mid is nexts =
    let next : CallNexts behind old mid (Ok (found.Items index h))
    = subst (λ (x : CallFound). CallNexts behind old mid (Ok x)) is nexts in
    record {
      follows = next.follows;
      reads = λ input begins. records_begin behind (place_in old input)
          ∙ ap (λ (r : Result (Begun × Place) ℕ). read_on r begun_behind) (next.next input begins);
    }

pub call_begins : (behind : Behind) (index number : ℕ) (h : HeadFound) (e : CallFound) (old mid : Standing)
    → e ≡ found.Call index number h → CallNexts behind old mid (Ok e)
    → Headed behind index (Calls number) (head_in h) old mid
call_begins behind index number h e old mid is nexts =
    let next : CallNexts behind old mid (Ok (found.Call index number h))
    = subst (λ (x : CallFound). CallNexts behind old mid (Ok x)) is nexts in
    record {
      follows = next.follows;
      reads = λ input begins. records_begin behind (place_in old input)
          ∙ ap (λ (r : Result (Begun × Place) ℕ). read_on r begun_behind) (next.next input begins);
    }

pub headed_comes : (behind : Behind) (index : ℕ) (part : Head → What) (b : HeadBegun) (old mid new : Standing)
    (items : HeadItems) (t : Told) (input : List ℕ) → Headed behind index part b old mid
    → Reads replay_met head_held (head_behind b) mid new (Ok items) → part (head_held items) ≡ what_held t
    → Begins new.given input → AreBytes (place_in old input).ahead
    → IsReadCall (scan_records behind (place_in old input)) behind index (Some t) (place_in new input) new.left
headed_comes behind index part b old mid new items t input headed reads is begins are =
    read_one behind index t (place_in old input) (place_in new input) new.left are
    (headed.reads input (begins_on reads.follows.grows begins)
    ∙ (ap (λ (r : Result (Head × Place) ℕ). read_on r (on_head index part)) (reads.reads input begins)
    ∙ ap (λ (w : What). Ok (RecordOf (record { index = index; what = w }), place_in new input)) is))

headed_bad : (behind : Behind) (index o : ℕ) (part : Head → What) (b : HeadBegun) (old mid : Standing)
    (input : List ℕ) → Headed behind index part b old mid → Begins mid.given input
    → head_behind b (place_in mid input) ≡ Err o → record_at behind (place_in old input) ≡ Err o
headed_bad behind index o part b old mid input headed begins bad =
    headed.reads input begins ∙ ap (λ (r : Result (Head × Place) ℕ). read_on r (on_head index part)) bad

pub headed_fails : (behind : Behind) (index : ℕ) (part : Head → What) (b : HeadBegun) (old mid new : Standing)
    (e : ReplayFault) (input : List ℕ) → Headed behind index part b old mid
    → Reads {X = HeadItems} replay_met head_held (head_behind b) mid new (Err e) → IsNotBroken e
    → MayBeInput new.left new.given input
    → ReadsOnCalls (scan_records behind (place_in old input)) behind (end_of (place_in old input)) (place_in new input)
    new.left (input ≡ new.given) (Err e)
headed_fails behind index part b old mid new (fault.Format o) input headed reads kind may =
    scan_bad behind o (place_in old input) (headed_bad behind index o part b old mid input headed
    (begins_on reads.follows.grows may.begins) (reads.reads input may.begins may.whole))
headed_fails behind index part b old mid new (fault.Broken n) input headed reads kind may = kind
headed_fails behind index part b old mid new fault.ReadFault input headed reads kind may = λ cut.
    let begins : Begins mid.given input = begins_on reads.follows.grows may.begins in
    let same : end_of (place_in old input) ≡ end_of (place_in mid input) = end_stays headed.follows input begins in
    cut_inside behind (end_of (place_in old input)) (place_in old input) refl
    (headed_bad behind index (end_of (place_in old input)) part b old mid input headed begins
    (reads.reads input may.begins cut ∙ ap (λ (n : ℕ). Err n) (sym same)))
headed_fails behind index part b old mid new fault.NoMemory input headed reads kind may = tt

-- ---- a value, the end, and a fault in front of them

pub value_comes : (behind : Behind) (index word : ℕ) (e : CallFound) (old new : Standing) (t : Told) (input : List ℕ)
    → e ≡ found.Value index word → CallNexts behind old new (Ok e) → t ≡ told.Value word → Begins new.given input
    → AreBytes (place_in old input).ahead
    → IsReadCall (scan_records behind (place_in old input)) behind index (Some t) (place_in new input) new.left
value_comes behind index word e old new t input is nexts it begins are =
    let next : CallNexts behind old new (Ok (found.Value index word))
    = subst (λ (x : CallFound). CallNexts behind old new (Ok x)) is nexts in
    read_one behind index t (place_in old input) (place_in new input) new.left are
    (records_begin behind (place_in old input)
    ∙ (ap (λ (r : Result (Begun × Place) ℕ). read_on r begun_behind) (next.next input begins)
    ∙ ap (λ (v : Told). Ok (RecordOf (record_held index v), place_in new input)) (sym it)))

pub end_is_last : (behind : Behind) (count : ℕ) (e : CallFound) (old new : Standing) → e ≡ found.End count
    → CallNexts behind old new (Ok e) → unwrap_or new.left [] ≡ []
end_is_last behind count e old new is nexts =
    let next : CallNexts behind old new (Ok (found.End count))
    = subst (λ (x : CallFound). CallNexts behind old new (Ok x)) is nexts in
    let all : List ℕ = new.given ++ unwrap_or new.left [] in
    let whole : unwrap_or new.left [] ≡ [] → new.given ++ unwrap_or new.left [] ≡ new.given
    = λ none. ap (λ (l : List ℕ). new.given ++ l) none ∙ append-nil new.given in
    let closing : Closes behind count (place_in old (new.given ++ unwrap_or new.left []))
    (place_in new (new.given ++ unwrap_or new.left []))
    = closes behind count (place_in old (new.given ++ unwrap_or new.left []))
    (place_in new (new.given ++ unwrap_or new.left []))
    ((next.next (new.given ++ unwrap_or new.left []) (begins_self new.given (unwrap_or new.left []))).1 whole) in
    nothing_is_left new.hand.ahead new.given (unwrap_or new.left []) closing.none

pub end_comes : (behind : Behind) (count : ℕ) (e : CallFound) (old new : Standing) (input : List ℕ)
    → e ≡ found.End count → CallNexts behind old new (Ok e) → MayBeInput new.left new.given input
    → AreBytes (place_in old input).ahead
    → IsReadCall (scan_records behind (place_in old input)) behind count None (place_in new input) new.left
end_comes behind count e old new input is nexts may are =
    let next : CallNexts behind old new (Ok (found.End count))
    = subst (λ (x : CallFound). CallNexts behind old new (Ok x)) is nexts in
    read_end behind count (place_in old input) (place_in new input) new.left are
    ((next.next input may.begins).1 may.whole) (end_is_last behind count e old new is nexts)

by_fault : (behind : Behind) (e : SliceFault) (old new : Standing) (input : List ℕ) → CallNexts behind old new (Err e)
    → MayBeInput new.left new.given input
    → ReadsOnCalls (scan_records behind (place_in old input)) behind (end_of (place_in old input)) (place_in new input)
    new.left (input ≡ new.given) (Err (replay_fault_of e))
by_fault behind (slice_fault.Format o) old new input nexts may =
    next_bad behind o (place_in old input) ((nexts.next input may.begins) may.whole)
by_fault behind slice_fault.ReadFault old new input nexts may = λ cut. by_cut ((nexts.next input may.begins) cut)
  where
    by_cut : (record_at behind (place_in old input) ≡ Err (end_of (place_in old input)))
        ⊎ IsLastEnd behind (place_in old input) (place_in new input)
        → IsCutOffCalls (scan_records behind (place_in old input)) (end_of (place_in old input))
    by_cut (inl inside) = cut_inside behind (end_of (place_in old input)) (place_in old input) refl inside
    by_cut (inr last) = cut_behind behind (end_of (place_in old input)) (place_in old input) (place_in new input) last

pub fault_comes : (behind : Behind) (e : SliceFault) (f : ReplayFault) (old new : Standing) (input : List ℕ)
    → f ≡ replay_fault_of e → CallNexts behind old new (Err e) → MayBeInput new.left new.given input
    → ReadsOnCalls (scan_records behind (place_in old input)) behind (end_of (place_in old input)) (place_in new input)
    new.left (input ≡ new.given) (Err f)
fault_comes behind e f old new input is nexts may =
    subst (λ (x : ReplayFault). ReadsOnCalls (scan_records behind (place_in old input)) behind
    (end_of (place_in old input)) (place_in new input) new.left (input ≡ new.given) (Err x)) (sym is)
    (by_fault behind e old new input nexts may)

-- ---- the fault of gathering

pub call_met_same : (e : CallFault) (f : ReplayFault) → f ≡ replay_of_call e → replay_met f ≡ call_met e
call_met_same e f is = ap replay_met is ∙ by_kind e
  where
    by_kind : (e : CallFault) → replay_met (replay_of_call e) ≡ call_met e
    by_kind (call_fault.Format o) = refl
    by_kind call_fault.ReadFault = refl
    by_kind call_fault.NoMemory = refl
