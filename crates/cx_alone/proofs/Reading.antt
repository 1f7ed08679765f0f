-- What the reader's answers say of an input.
use Rattle.std.proofs.Common.{◌≡◌, ◌⊎◌, inl, inr, ℕ, suc, ◌≤◌, List, [], ◌++◌, Option, None, Some, unwrap_or, Ok, Err}
use Rattle.std.proofs.Common.{refl, sym, ap, subst, ◌∙◌}
use Rattle.std.proofs.lemmas.List.{append-nil}
use Rattle.cx_codec.specs.Place.{Buffered, Place, end_of}
use Rattle.cx_codec.specs.Reads.{Begins, Standing, over, place_in}
use Rattle.cx_codec.proofs.Following.{begins_self}
use Rattle.cx_map.specs.Bytes.{AreBytes}
use Rattle.cx_replay.specs.declared.fault.ReplayFault.{ReplayFault}
use Rattle.cx_replay.specs.declared.fault.ReplayFault.TheVariants as fault
use Rattle.cx_slicefmt.specs.Engine.{IsLast, Nexts, SliceReading}
use Rattle.cx_slicefmt.specs.Reading.{entry_at}
use Rattle.cx_slicefmt.specs.Rules.{process}
use Rattle.cx_slicefmt.specs.Scan.{scan_groups}
use Rattle.cx_slicefmt.specs.declared.fault.SliceFault.{SliceFault}
use Rattle.cx_slicefmt.specs.declared.fault.SliceFault.TheVariants as slice_fault
use Rattle.cx_slicefmt.specs.declared.items.Either.{Either}
use Rattle.cx_slicefmt.specs.declared.items.Either.TheVariants.{Group, End}
use Rattle.cx_slicefmt.specs.declared.items.GroupItems.{GroupItems}
use Rattle.cx_slicefmt.proofs.Scans.{next_bad}
use Rattle.cx_slices.specs.Settled.{SliceScan}
use Rattle.cx_alone.specs.Ahead.{GoesOn, IsAhead, MayBeInput, place_of}
use Rattle.cx_alone.specs.Faults.{replay_fault_of}
use Rattle.cx_alone.specs.Settling.{IsCutOff, IsRead, ReadsOn, SettlesNone}
use Rattle.cx_alone.proofs.Entries.{
  Closes,
  CutOff,
  Handed,
  Stopped,
  bad_behind,
  closes,
  cut_at_start,
  cut_behind,
  cut_inside,
  cut_off,
  not_opened,
  read_end,
  read_group,
  settled,
}
use Rattle.cx_alone.proofs.Inputs.{nothing_is_left}

pub group_comes : (old new : Standing) (least index : ℕ) (items : GroupItems) (e : Either) (input : List ℕ)
    → e ≡ Group index items → Nexts least old new (Ok e) → Begins new.given input → AreBytes (place_in old input).ahead
    → IsRead (scan_groups process least (place_in old input)) least index (Some items) (place_in new input) new.left
group_comes old new least index items e input is nexts begins are =
    let next : Nexts least old new (Ok (Group index items)) = subst (λ (x : Either). Nexts least old new (Ok x)) is nexts in
    read_group least index items (place_in old input) (place_in new input) new.left are (next.next input begins)

pub end_is_last : (old new : Standing) (least count : ℕ) (e : Either) → e ≡ End count → Nexts least old new (Ok e)
    → unwrap_or new.left [] ≡ []
end_is_last old new least count e is nexts =
    let next : Nexts least old new (Ok (End count)) = subst (λ (x : Either). Nexts least old new (Ok x)) is nexts in
    let whole : unwrap_or new.left [] ≡ [] → new.given ++ unwrap_or new.left [] ≡ new.given
    = λ none. ap (λ (l : List ℕ). new.given ++ l) none ∙ append-nil new.given in
    let closing : Closes least count (place_in old (new.given ++ unwrap_or new.left []))
    (place_in new (new.given ++ unwrap_or new.left []))
    = closes least count (place_in old (new.given ++ unwrap_or new.left []))
    (place_in new (new.given ++ unwrap_or new.left []))
    ((next.next (new.given ++ unwrap_or new.left []) (begins_self new.given (unwrap_or new.left []))).1 whole) in
    nothing_is_left new.hand.ahead new.given (unwrap_or new.left []) closing.none

pub end_comes : (old new : Standing) (least count : ℕ) (e : Either) (input : List ℕ)
    → e ≡ End count → Nexts least old new (Ok e) → MayBeInput new.left new.given input
    → AreBytes (place_in old input).ahead
    → IsRead (scan_groups process least (place_in old input)) least count None (place_in new input) new.left
end_comes old new least count e input is nexts may are =
    let next : Nexts least old new (Ok (End count)) = subst (λ (x : Either). Nexts least old new (Ok x)) is nexts in
    read_end least count (place_in old input) (place_in new input) new.left are
    ((next.next input may.begins).1 may.whole) (end_is_last old new least count e is nexts)

by_fault : (old new : Standing) (least : ℕ) (e : SliceFault) (input : List ℕ) → Nexts least old new (Err e)
    → MayBeInput new.left new.given input
    → ReadsOn (scan_groups process least (place_in old input)) least (end_of (place_in old input)) (place_in new input)
    new.left (input ≡ new.given) (Err (replay_fault_of e))
by_fault old new least (slice_fault.Format o) input nexts may =
    next_bad process least o (place_in old input) ((nexts.next input may.begins) may.whole)
by_fault old new least slice_fault.ReadFault input nexts may = λ cut. by_cut ((nexts.next input may.begins) cut)
  where
    by_cut : (entry_at process least (place_in old input) ≡ Err (end_of (place_in old input)))
        ⊎ IsLast least (place_in old input) (place_in new input)
        → IsCutOff (scan_groups process least (place_in old input)) (end_of (place_in old input))
    by_cut (inl inside) = cut_inside least (end_of (place_in old input)) (place_in old input) refl inside
    by_cut (inr last) = cut_behind least (end_of (place_in old input)) (place_in old input) (place_in new input) last

pub fault_comes : (old new : Standing) (least : ℕ) (e : SliceFault) (f : ReplayFault) (input : List ℕ)
    → f ≡ replay_fault_of e → Nexts least old new (Err e) → MayBeInput new.left new.given input
    → ReadsOn (scan_groups process least (place_in old input)) least (end_of (place_in old input)) (place_in new input)
    new.left (input ≡ new.given) (Err f)
fault_comes old new least e f input is nexts may =
    subst (λ (x : ReplayFault). ReadsOn (scan_groups process least (place_in old input)) least
    (end_of (place_in old input)) (place_in new input) new.left (input ≡ new.given) (Err x)) (sym is)
    (by_fault old new least e input nexts may)

-- ---- behind a group that waits

least_is : (upto : ℕ) (waiting : Option GroupItems) (items : GroupItems) (r : SliceReading) → waiting ≡ Some items
    → GoesOn upto waiting r → r.least ≡ suc upto
least_is upto waiting items r is goes = (subst (λ w. GoesOn upto w r) is goes).2

waits_so : (whole : SliceScan ℕ) (end at upto : ℕ) (waiting : Option GroupItems) (items : GroupItems) (p : Place)
    (left : Option (List ℕ)) → waiting ≡ Some items → IsAhead whole end at upto waiting p left
    → IsAhead whole end at upto (Some items) p left
waits_so whole end at upto waiting items p left is ahead = subst (λ w. IsAhead whole end at upto w p left) is ahead

pub step_settled : (whole : SliceScan ℕ) (end at upto next : ℕ) (items : GroupItems) (waiting ahead : Option GroupItems)
    (r : SliceReading) (p q : Place) (left left_now : Option (List ℕ)) → waiting ≡ Some items → GoesOn upto waiting r
    → upto ≤ at → IsAhead whole end at upto waiting p left
    → IsRead (scan_groups process r.least p) r.least next ahead q left_now → end_of p ≡ end_of q
    → Handed whole end at next ahead q left_now items
step_settled whole end at upto next items waiting ahead r p q left left_now is goes over stands read stays =
    settled whole end at upto next items ahead p q left left_now (waits_so whole end at upto waiting items p left is stands)
    over (subst (λ (n : ℕ). IsRead (scan_groups process n p) n next ahead q left_now)
    (least_is upto waiting items r is goes) read) stays

pub step_stopped : (whole : SliceScan ℕ) (end at upto : ℕ) (items : GroupItems) (waiting : Option GroupItems)
    (r : SliceReading) (p q : Place) (left left_now : Option (List ℕ)) (cut : Type 0) (e : ReplayFault)
    → waiting ≡ Some items → GoesOn upto waiting r → upto ≤ at → IsAhead whole end at upto waiting p left
    → ReadsOn (scan_groups process r.least p) r.least (end_of p) q left_now cut (Err e)
    → SettlesNone whole end at cut e
step_stopped whole end at upto items waiting r p q left left_now cut e is goes over stands read =
    by_kind e (subst (λ (n : ℕ). ReadsOn (scan_groups process n p) n (end_of p) q left_now cut (Err e))
    (least_is upto waiting items r is goes) read)
  where
    stood : IsAhead whole end at upto (Some items) p left
    stood = waits_so whole end at upto waiting items p left is stands

    by_kind : (e : ReplayFault) → ReadsOn (scan_groups process (suc upto) p) (suc upto) (end_of p) q left_now cut (Err e)
        → SettlesNone whole end at cut e
    by_kind (fault.Format o) stops =
        let there : Stopped whole at o = bad_behind whole end at upto o items p left stood over stops in
        (there.upto, there.bad)
    by_kind (fault.Broken n) stops = stops
    by_kind fault.ReadFault stops = λ is.
        let there : CutOff whole end at = cut_off whole end at upto items p left stood over (stops is) in
        (there.last, there.bad)
    by_kind fault.NoMemory stops = stops

-- ---- at the start

pub start_stopped : (p q : Place) (left : Option (List ℕ)) (cut : Type 0) (e : ReplayFault)
    → ReadsOn (scan_groups process 0 p) 0 (end_of p) q left cut (Err e)
    → SettlesNone (scan_groups process 0 p) (end_of p) 0 cut e
start_stopped p q left cut (fault.Format o) stops =
    let there : Stopped (scan_groups process 0 p) 0 o = not_opened p o stops in (there.upto, there.bad)
start_stopped p q left cut (fault.Broken n) stops = stops
start_stopped p q left cut fault.ReadFault stops = λ is.
    let there : CutOff (scan_groups process 0 p) (end_of p) 0 = cut_at_start p (stops is) in (there.last, there.bad)
start_stopped p q left cut fault.NoMemory stops = stops

pub start_refused : (bytes : Buffered) (r : SliceReading) (given input : List ℕ) (q : Place) (left : Option (List ℕ))
    (cut : Type 0) (e : ReplayFault) → r ≡ record { input = bytes; least = 0; ended = None }
    → (AreBytes (place_of r given input).ahead → ReadsOn (scan_groups process r.least (place_of r given input)) r.least
    (end_of (place_of r given input)) q left cut (Err e))
    → AreBytes (place_in (over bytes None given) input).ahead
    → SettlesNone (scan_groups process 0 (place_in (over bytes None given) input))
    (end_of (place_in (over bytes None given) input)) 0 cut e
start_refused bytes r given input q left cut e is reads are =
    start_stopped (place_in (over bytes None given) input) q left cut e
    (subst (λ (x : SliceReading). ReadsOn (scan_groups process x.least (place_of x given input)) x.least
    (end_of (place_of x given input)) q left cut (Err e)) is
    (reads (subst (λ (x : SliceReading). AreBytes (place_of x given input).ahead) (sym is) are)))
