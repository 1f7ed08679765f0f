-- What a call that opens a slice says of an input.
use Rattle.std.proofs.Common.{◌≡◌, inl, inr, ℕ, ◌≤◌, ◌^◌, false, List}
use Rattle.std.proofs.Common.{[], ◌++◌, Option, None, Some, unwrap_or, Result, Ok, Err}
use Rattle.std.proofs.Common.{refl, sym, ap, subst, ◌∙◌, arith}
use Rattle.cx_codec.specs.Place.{Place, end_of, read_on}
use Rattle.cx_codec.specs.Reads.{Follows, Reads, Standing, place_in}
use Rattle.cx_codec.proofs.Composing.{fails, goes}
use Rattle.cx_codec.proofs.Following.{begins_on, end_stays}
use Rattle.cx_codec.proofs.Texts.{bytes_behind}
use Rattle.cx_map.specs.Bytes.{AreBytes}
use Rattle.cx_alone.specs.Ahead.{MayBeInput}
use Rattle.cx_alone.specs.Faults.{replay_fault_of}
use Rattle.cx_alone.specs.Replaying.{IsFormedUpTo}
use Rattle.cx_observe.specs.User.{user}
use Rattle.cx_calls.specs.Calling.{called}
use Rattle.cx_replay.specs.Records.{GaveMore}
use Rattle.cx_replay.specs.declared.fault.ReplayFault.{ReplayFault}
use Rattle.cx_replay.specs.declared.fault.ReplayFault.TheVariants as fault
use Rattle.cx_slices.specs.Bytes.{BytesRise}
use Rattle.cx_program.specs.Knowing.{known_by}
use Rattle.cx_slices.specs.Items.{Known, start}
use Rattle.cx_slicefmt.specs.Fault.{slice_met}
use Rattle.cx_slicefmt.specs.Reading.{head_at}
use Rattle.cx_slicefmt.specs.Rules.{Head, IsHead}
use Rattle.cx_slicefmt.specs.Text.{head_text}
use Rattle.cx_slicefmt.specs.declared.fault.SliceFault.{SliceFault}
use Rattle.cx_slicefmt.specs.declared.fault.SliceFault.TheVariants as slice_fault
use Rattle.cx_slicefmt.proofs.Heads.{once_head}
use Rattle.cx_callfmt.specs.Beginning.{head_begun_at, head_behind}
use Rattle.cx_callfmt.specs.Engine.{head_in}
use Rattle.cx_callfmt.specs.Rules.{behind_start, calls, EndsAt, RecordOf, CallStands}
use Rattle.cx_callfmt.specs.Scan.{CallScan, call_stops, scan_behind_head, scan_records, with_head}
use Rattle.cx_callfmt.specs.Text.{last_index}
use Rattle.cx_callfmt.specs.declared.found.HeadFound.{HeadFound}
use Rattle.cx_callfmt.proofs.Begins.{head_parts}
use Rattle.cx_callfmt.proofs.Entries.{comes}
use Rattle.cx_callfmt.specs.Rules.{Behind, rank}
use Rattle.cx_placing.specs.Called.{CallStanding, handed}
use Rattle.cx_call_alone.specs.Ahead.{IsAheadCalls, IsWhatWaits, entry_held, what_held}
use Rattle.cx_call_alone.specs.Running.{HasCalled}
use Rattle.cx_call_alone.specs.Settled.{started}
use Rattle.cx_call_alone.specs.Settling.{IsNotBroken, IsReadCall, ReadsOnCalls, SettlesNoCall, replay_met}
use Rattle.cx_call_alone.specs.Standing.{IsStanding, head_held}
use Rattle.cx_call_alone.specs.declared.called.Called.{Called}
use Rattle.cx_call_alone.specs.declared.items.HeadItems.{HeadItems}
use Rattle.cx_call_alone.specs.declared.items.Told.{Told}
use Rattle.cx_call_alone.proofs.Runs.{begun}

met_same : (e : SliceFault) → replay_met (replay_fault_of e) ≡ slice_met e
met_same (slice_fault.Format o) = refl
met_same slice_fault.ReadFault = refl

pub not_broken : (e : SliceFault) (f : ReplayFault) → f ≡ replay_fault_of e → IsNotBroken f
not_broken e f is = subst IsNotBroken (sym is) (by_kind e)
  where
    by_kind : (e : SliceFault) → IsNotBroken (replay_fault_of e)
    by_kind (slice_fault.Format o) = tt
    by_kind slice_fault.ReadFault = tt

pub gave_on : (old mid : Standing) (left : Option (List ℕ)) (given : List ℕ) → Follows old mid
    → GaveMore mid.left mid.given left given → GaveMore old.left old.given left given
gave_on old mid left given first then = record {
  told = then.told;
  same = then.same ∙ first.same;
  grows = begins_on first.grows then.grows;
}

-- ---- the start's head

pub head_fails : (e : SliceFault) (f : ReplayFault) (old new : Standing) → f ≡ replay_fault_of e
    → Reads {X = HeadFound} slice_met head_in (head_begun_at false) old new (Err e)
    → Reads {X = HeadItems} replay_met head_held (head_at calls false) old new (Err f)
head_fails e f old new is reads =
    fails (λ at. head_behind) (head_parts false) (ap replay_met is ∙ met_same e) reads

pub head_goes : (h : HeadFound) (old mid new : Standing) (result : Result HeadItems ReplayFault)
    → Reads slice_met head_in (head_begun_at false) old mid (Ok h)
    → Reads replay_met head_held (head_behind (head_in h)) mid new result
    → Reads replay_met head_held (head_at calls false) old new result
head_goes h old mid new result first then = goes (λ at. head_behind) (head_parts false) first then

pub head_refused : (e : ReplayFault) (old new : Standing) (input : List ℕ)
    → Reads {X = HeadItems} replay_met head_held (head_at calls false) old new (Err e) → IsNotBroken e
    → MayBeInput new.left new.given input
    → SettlesNoCall (scan_behind_head (head_at calls false (place_in old input))) (end_of (place_in old input)) 0
    (input ≡ new.given) e
head_refused (fault.Format o) old new input reads kind may =
    let stops : scan_behind_head (head_at calls false (place_in old input)) ≡ call_stops behind_start o
    = ap scan_behind_head (reads.reads input may.begins may.whole) in
    (ap (λ (s : CallScan). s.upto) stops, ap (λ (s : CallScan). s.ended) stops, ap (λ (s : CallScan). s.bad) stops)
head_refused (fault.Broken n) old new input reads kind may = kind
head_refused fault.ReadFault old new input reads kind may = λ cut.
    let stops : scan_behind_head (head_at calls false (place_in old input))
    ≡ call_stops behind_start (end_of (place_in old input))
    = ap scan_behind_head (reads.reads input may.begins cut) in
    (ap (λ (s : CallScan). last_index 0 s.records) stops, inr (ap (λ (s : CallScan). s.bad) stops))
head_refused fault.NoMemory old new input reads kind may = tt

-- ---- behind it

pub record HeadRead (h : Head) (p q : Place) : Type 0 where
  pub scan : scan_behind_head (head_at calls false p) ≡ with_head h (scan_records behind_start q)
  pub is : IsHead calls h
  pub bytes : AreBytes q.ahead
  pub ends : end_of p ≡ end_of q

pub head_read : (h : HeadItems) (old mid : Standing) (input : List ℕ)
    → Reads replay_met head_held (head_at calls false) old mid (Ok h) → AreBytes (place_in old input).ahead
    → MayBeInput mid.left mid.given input → HeadRead (head_held h) (place_in old input) (place_in mid input)
head_read h old mid input reads are may =
    let read = reads.reads input may.begins in
    let stood = once_head calls false (place_in old input) (place_in mid input) are (head_held h) read in
    record {
      scan = ap scan_behind_head read;
      is = stood.0.0;
      bytes = bytes_behind (place_in old input) (place_in mid input) (head_text (head_held h)) are stood.1;
      ends = end_stays reads.follows input may.begins;
    }

pub first_refused : (h : Head) (whole : CallScan) (p q : Place) (end : ℕ) (left : Option (List ℕ)) (cut : Type 0)
    (e : ReplayFault) → whole ≡ with_head h (scan_records behind_start p) → end ≡ end_of p
    → ReadsOnCalls (scan_records behind_start p) behind_start (end_of p) q left cut (Err e)
    → SettlesNoCall whole end 0 cut e
first_refused h whole p q end left cut (fault.Format o) is ends stops = (
  ap (λ (s : CallScan). s.upto) is ∙ ap (λ (s : CallScan). s.upto) stops,
  ap (λ (s : CallScan). s.ended) is ∙ ap (λ (s : CallScan). s.ended) stops,
  ap (λ (s : CallScan). s.bad) is ∙ ap (λ (s : CallScan). s.bad) stops,
)
first_refused h whole p q end left cut (fault.Broken n) is ends stops = stops
first_refused h whole p q end left cut fault.ReadFault is ends stops = λ gone.
    let off = stops gone in (
      ap (λ (s : CallScan). last_index 0 s.records) is ∙ ap (last_index 0) off.records,
      subst (λ (s : CallScan). IsFormedUpTo end s.bad) (sym is)
          (subst (λ (n : ℕ). IsFormedUpTo n (scan_records behind_start p).bad) (sym ends) off.bad),
    )
first_refused h whole p q end left cut fault.NoMemory is ends stops = tt

pub first_refused_by : (behind : Behind) (h : Head) (whole : CallScan) (p q : Place) (end : ℕ) (left : Option (List ℕ))
    (cut : Type 0) (e : ReplayFault) → behind ≡ behind_start → whole ≡ with_head h (scan_records behind_start p)
    → end ≡ end_of p → ReadsOnCalls (scan_records behind p) behind (end_of p) q left cut (Err e)
    → SettlesNoCall whole end 0 cut e
first_refused_by behind h whole p q end left cut e first is ends stops =
    first_refused h whole p q end left cut e is ends
    (subst (λ (b : Behind). ReadsOnCalls (scan_records b p) b (end_of p) q left cut (Err e)) first stops)

record AtFirst (upto : ℕ) (waiting : Option Told) : Type 0 where
  what : IsWhatWaits waiting
  most : upto ≤ 2 ^ 48

at_first : (behind : Behind) (upto : ℕ) (waiting : Option Told) → CallStands behind (entry_held upto waiting)
    → AtFirst upto waiting
at_first behind upto None stands = record { what = tt; most = stands.most }
at_first behind upto (Some t) stands = record {
  what = stands.what;
  most = omega (arith, (comes behind (rank (what_held t)) upto stands.comes).below);
}

pub first_read : (h : Head) (whole : CallScan) (p q : Place) (end upto : ℕ) (waiting : Option Told)
    (left : Option (List ℕ)) → whole ≡ with_head h (scan_records behind_start p) → end ≡ end_of p → end_of p ≡ end_of q
    → IsReadCall (scan_records behind_start p) behind_start upto waiting q left
    → IsAheadCalls whole end 0 upto waiting q left
first_read h whole p q end upto waiting left is ends stays read =
    let first = at_first behind_start upto waiting read.stands in
    record {
      taken = record {
        head = Some h;
        past = [];
        parts = is ∙ ap (with_head h) read.is;
        below = tt;
        what = first.what;
        most = first.most;
        bytes = read.bytes;
        ends = ends ∙ stays;
        spent = read.spent;
      };
      within = omega arith;
    }

pub first_read_by : (behind : Behind) (h : Head) (whole : CallScan) (p q : Place) (end upto : ℕ) (waiting : Option Told)
    (left : Option (List ℕ)) → behind ≡ behind_start → whole ≡ with_head h (scan_records behind_start p)
    → end ≡ end_of p → end_of p ≡ end_of q → IsReadCall (scan_records behind p) behind upto waiting q left
    → IsAheadCalls whole end 0 upto waiting q left
first_read_by behind h whole p q end upto waiting left first is ends stays read =
    first_read h whole p q end upto waiting left is ends stays
    (subst (λ (b : Behind). IsReadCall (scan_records b p) b upto waiting q left) first read)

-- what stands at the start, behind its head
pub stands_first : (h : Head) (whole : CallScan) (p : Place) → whole ≡ with_head h (scan_records behind_start p)
    → HasCalled user called whole [] 0 (handed h (start user))
stands_first h whole p is = begun user called whole (handed h (start user))
    (sym (ap (λ (s : CallScan). started user s) is))

pub stands_new : (h : HeadItems) (old new : Called) (w : Known) → known_by old.standing ≡ w
    → IsStanding (handed (head_held h) (known_by old.standing)) new → IsStanding (handed (head_held h) w) new
stands_new h old new w is stands = subst (λ (k : Known). IsStanding (handed (head_held h) k) new) is stands

pub before_first : (whole : CallScan) → HasCalled user called whole [] 0 (started user whole)
before_first whole = begun user called whole (started user whole) refl
