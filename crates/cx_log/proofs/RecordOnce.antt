-- A record that was read stands at its place, and may stand behind those before it.
use Rattle.std.proofs.Common.{◌≡◌, ℕ, zero, suc, ◌+◌, ◌-◌, ◌<◌, ◌≤◌, List, [], ◌∷◌, ◌++◌, get_or, min, ltb, leb, eqb}
use Rattle.std.proofs.Common.{not, arith, refl, ap, sym, ◌∙◌, inl, inr, ⊎_elim, ◌⊎◌, Bool, true, ◌&&◌, ◌||◌, Ok}
use Rattle.std.proofs.lemmas.Bool.{ltb-true, leb-true, eqb-true, eqb-false, and_parts, or_cases, not-true}
use Rattle.std.proofs.lemmas.List.{append-nil}
use Rattle.std.specs.Int.RustNames.{bit_and}
use Rattle.cx_map.specs.Bytes.{AreBytes}
use Rattle.cx_map.specs.Map.{size_of_pages}
use Rattle.cx_map.specs.declared.TheConstants.{PAGE_SIZE, RAM_START}
use Rattle.cx_csr.specs.declared.interrupts.TheConstants.{LINE_INTERRUPTS}
use Rattle.cx_csr.specs.declared.lines.Lines as lines
use Rattle.cx_codec.specs.Place.{Place, Reader, Takes, done}
use Rattle.cx_codec.specs.Fields.{byte_at, word_at, varint_at}
use Rattle.cx_codec.specs.Varint.{varint}
use Rattle.cx_codec.proofs.ReadBack.{varint_once}
use Rattle.cx_log.specs.declared.limits.TheConstants.{STEP_LIMIT}
use Rattle.cx_log.specs.declared.kind.Kind.{Kind}
use Rattle.cx_log.specs.declared.kind.Kind.TheVariants as kind
use Rattle.cx_log.specs.Item.{MayStand, entry_text}
use Rattle.cx_log.specs.Kind.{kind_of, kinds, tag_of}
use Rattle.cx_log.specs.Order.{Behind, HoldsWell, MayFollow, MayEnd, rank}
use Rattle.cx_log.specs.Recording.{Event, Mark, Dma, Lines, Value}
use Rattle.cx_log.specs.Records.{Entry, Put, Ends, may_stand, kind_at, step_at, dma_at, lines_at, asked_value_at}
use Rattle.cx_log.specs.Records.{put_at, entry_at, record_at}
use Rattle.cx_log.specs.Text.{payload, record_text, end_text}
use Rattle.cx_codec.proofs.Composing.{bound}
use Rattle.cx_codec.proofs.ReadOnce.{byte_once, bytes_once, word_once}
use Rattle.cx_codec.proofs.Texts.{takes_both, takes_along, takes_nothing, bytes_behind, bytes_taken}
use Rattle.cx_log.proofs.Done.{done_pair}
use Rattle.cx_log.proofs.FieldTests.{checked_once, between_once}

tag_back : (t : ℕ) → t < 5 → tag_of (get_or kinds t kind.End) ≡ t
tag_back zero few = refl
tag_back (suc zero) few = refl
tag_back (suc (suc zero)) few = refl
tag_back (suc (suc (suc zero))) few = refl
tag_back (suc (suc (suc (suc zero)))) few = refl
tag_back (suc (suc (suc (suc (suc t))))) few = absurd (omega arith)

kind_once : (p after : Place) (k : Kind) → kind_at p ≡ Ok (k, after) → Takes p (tag_of k ∷ []) after
unfolding kind_at
kind_once p after k e =
    let parts = bound _ (λ tag. done (get_or kinds tag kind.End)) (k, after) e in
    let passed = checked_once (λ t. ltb t 5) byte_at p parts.mid parts.value parts.read in
    let same = done_pair (get_or kinds parts.value kind.End) k parts.mid after parts.then in
    let tag : parts.value ≡ tag_of k = sym (tag_back parts.value (ltb-true parts.value 5 passed.good)) ∙ ap
    (λ (x : Kind × Place). tag_of x.0) same in
    takes_along p parts.mid after (parts.value ∷ []) (tag_of k ∷ []) (ap (λ (t : ℕ). t ∷ []) tag)
    (ap (λ (x : Kind × Place). x.1) same) (byte_once p parts.mid parts.value passed.read)

record StepStood (behind : Behind) (k : Kind) (p : Place) (step : ℕ) (after : Place) : Type 0 where
  takes : Takes p (varint (step - behind.step)) after
  stands : may_stand behind k step ≡ true

step_once : (p after : Place) (behind : Behind) (k : Kind) (step : ℕ) → AreBytes p.ahead
    → step_at behind k p ≡ Ok (step, after) → StepStood behind k p step after
unfolding step_at
step_once p after behind k step bytes e =
    let parts = bound _ (λ distance. done (behind.step + distance)) (step, after) e in
    let passed = checked_once (λ d. may_stand behind k
    (behind.step + d)) varint_at p parts.mid parts.value parts.read in
    let same = done_pair (behind.step + parts.value) step parts.mid after parts.then in
    let sum : behind.step + parts.value ≡ step = ap (λ (x : ℕ × Place). x.0) same in
    let distance : parts.value ≡ step - behind.step = omega (arith, sum) in
    record {
      takes = takes_along p parts.mid after (varint parts.value) (varint (step - behind.step)) (ap varint distance)
          (ap (λ (x : ℕ × Place). x.1) same) (varint_once p parts.mid parts.value bytes passed.read);
      stands = rw sum at passed.good;
    }

-- An event of this kind stands there, and holds well.
record Held (pages : ℕ) (standing : lines.Lines) (k : Kind) (p : Place) (event : Event) (after : Place) : Type 0 where
  kind : kind_of event ≡ k
  takes : Takes p (payload event) after
  well : HoldsWell pages standing event

held_along : (pages : ℕ) (standing : lines.Lines) (k : Kind) (p : Place) (x y : Event × Place)
    → Held pages standing k p x.0 x.1 → x ≡ y → Held pages standing k p y.0 y.1
held_along pages standing k p x y held same = rw (← same) held

dma_once : (pages : ℕ) (standing : lines.Lines) (p after : Place) (event : Event) → AreBytes p.ahead
    → dma_at pages p ≡ Ok (event, after) → Held pages standing kind.Dma p event after
unfolding dma_at
dma_once pages standing p after event are e =
    let first = bound _ _ (event, after) e in
    let place = first.value in
    let inside = checked_once (λ w. leb RAM_START w && ltb w
    (RAM_START + size_of_pages pages)) word_at p first.mid place first.read in
    let bounds = and_parts (leb RAM_START place) (ltb place (RAM_START + size_of_pages pages)) inside.good in
    let word = word_once p first.mid place are inside.read in
    let are_more : AreBytes first.mid.ahead = bytes_behind p first.mid _ are word.0 in
    let second = bound _ _ (event, after) first.then in
    let size = between_once first.mid second.mid 1 (min PAGE_SIZE
    (RAM_START + size_of_pages pages - place)) second.value are_more second.read in
    let third = bound _ _ (event, after) second.then in
    let stood = bytes_once second.value second.mid third.mid third.value third.read in
    let are_last : AreBytes second.mid.ahead = bytes_behind first.mid second.mid _ are_more size.takes in
    let low : RAM_START ≤ place = leb-true RAM_START place bounds.0 in
    let below : place < RAM_START + size_of_pages pages = ltb-true place (RAM_START + size_of_pages pages) bounds.1 in
    held_along pages standing kind.Dma p (Dma (record { place = place; bytes = third.value }), third.mid)
    (event, after) (record {
      kind = refl;
      takes = takes_both p first.mid third.mid _ _ word.0
          (takes_both first.mid second.mid third.mid _ _ (rw stood.count size.takes) stood.stand);
      well = record {
        some = omega (arith, stood.count, size.low);
        most = omega (arith, stood.count, size.high);
        ram = record { low = low; high = omega (arith, stood.count, size.high, below) };
        bytes = bytes_taken second.mid third.mid third.value are_last stood.stand;
      };
    }) (done_pair _ event third.mid after third.then)

lines_once : (pages : ℕ) (standing : lines.Lines) (p after : Place) (event : Event) → AreBytes p.ahead
    → lines_at standing p ≡ Ok (event, after) → Held pages standing kind.Lines p event after
unfolding lines_at
lines_once pages standing p after event are e =
    let first = bound _ _ (event, after) e in
    let mask = first.value in
    let passed = checked_once (λ w. eqb (bit_and w LINE_INTERRUPTS) w && not
    (eqb w standing.0)) word_at p first.mid mask first.read in
    let tests = and_parts (eqb (bit_and mask LINE_INTERRUPTS) mask) (not (eqb mask standing.0)) passed.good in
    let word = word_once p first.mid mask are passed.read in
    let other : mask ≡ standing.0 → ⊥ = eqb-false mask standing.0 (not-true (eqb mask standing.0) tests.1) in
    held_along pages standing kind.Lines p (Lines (record { 0 = mask }), first.mid) (event, after) (record {
      kind = refl;
      takes = word.0;
      well = (
        eqb-true (bit_and mask LINE_INTERRUPTS) mask tests.0,
        λ same. other
            (ap (λ (up : lines.Lines). up.0) same),
      );
    }) (done_pair _ event first.mid after first.then)

value_once : (pages : ℕ) (standing : lines.Lines) (p after : Place) (event : Event) → AreBytes p.ahead
    → asked_value_at p ≡ Ok (event, after) → Held pages standing kind.Value p event after
unfolding asked_value_at
value_once pages standing p after event are e =
    let first = bound _ _ (event, after) e in
    let word = word_once p first.mid first.value are first.read in
    held_along pages standing kind.Value p (Value first.value, first.mid) (event, after)
    (record { kind = refl; takes = word.0; well = word.1 }) (done_pair _ event first.mid after first.then)

mark_once : (pages : ℕ) (standing : lines.Lines) (p after : Place) (event : Event) → done Mark p ≡ Ok (event, after)
    → Held pages standing kind.Mark p event after
mark_once pages standing p after event e = held_along pages standing kind.Mark p (Mark, p) (event, after)
    (record { kind = refl; takes = takes_nothing p; well = tt }) (done_pair Mark event p after e)

-- What passes the test may follow.
and_three : (a b c : Bool) → (a && (b && c)) ≡ true → (a ≡ true) × (b ≡ true) × (c ≡ true)
and_three a b c all =
    let first = and_parts a (b && c) all in
    let rest = and_parts b c first.1 in
    (first.0, rest.0, rest.1)

in_order : (behind : Behind) (step rank : ℕ)
    → (ltb behind.step step || (eqb behind.step step && leb behind.least rank)) ≡ true
    → (behind.step < step) ⊎ ((behind.step ≡ step) × (behind.least ≤ rank))
in_order behind step rank passed = ⊎_elim
    (λ (later : ltb behind.step step ≡ true). inl (ltb-true behind.step step later))
    (λ (same : (eqb behind.step step && leb behind.least rank) ≡ true).
    let parts = and_parts (eqb behind.step step) (leb behind.least rank) same in
    inr (eqb-true behind.step step parts.0, leb-true behind.least rank parts.1))
    (or_cases _ _ passed)

pub stands_once : (pages : ℕ) (behind : Behind) (step : ℕ) (event : Event) → may_stand behind (kind_of event) step
    ≡ true
    → HoldsWell pages behind.lines event → MayFollow pages behind (record { step = step; event = event })
stands_once pages behind step Mark stands well =
    let tests = and_three _ _ _ stands in
    record {
      small = ltb-true step STEP_LIMIT tests.0;
      order = in_order behind step 0 tests.1;
      marks =
          eqb-true step behind.mark tests.2;
      holds = well;
    }
stands_once pages behind step (Dma t) stands well =
    let tests = and_three _ _ _ stands in
    record {
      small = ltb-true step STEP_LIMIT tests.0;
      order = in_order behind step 1 tests.1;
      marks =
          ltb-true step behind.mark tests.2;
      holds = well;
    }
stands_once pages behind step (Lines up) stands well =
    let tests = and_three _ _ _ stands in
    record {
      small = ltb-true step STEP_LIMIT tests.0;
      order = in_order behind step 2 tests.1;
      marks =
          ltb-true step behind.mark tests.2;
      holds = well;
    }
stands_once pages behind step (Value v) stands well =
    let tests = and_three _ _ _ stands in
    record {
      small = ltb-true step STEP_LIMIT tests.0;
      order = in_order behind step 3 tests.1;
      marks =
          ltb-true step behind.mark tests.2;
      holds = well;
    }

pub end_stands_once : (behind : Behind) (end : ℕ) → may_stand behind kind.End end ≡ true → MayEnd behind end
end_stands_once behind end stands =
    let tests = and_three _ _ _ stands in
    record {
      small = leb-true end STEP_LIMIT tests.0;
      above = ltb-true behind.step end tests.1;
      marks =
          leb-true end behind.mark tests.2;
    }

-- What stands behind the distance of a record of this kind.
record Came (pages : ℕ) (behind : Behind) (k : Kind) (step : ℕ) (p : Place) (e : Entry) (after : Place) : Type 0 where
  rest : List ℕ
  takes : Takes p rest after
  text : tag_of k ∷ (varint (step - behind.step) ++ rest) ≡ entry_text behind.step e
  may : MayStand pages behind e

came_along : (pages : ℕ) (behind : Behind) (k : Kind) (step : ℕ) (p : Place) (x y : Entry × Place)
    → Came pages behind k step p x.0 x.1 → x ≡ y → Came pages behind k step p y.0 y.1
came_along pages behind k step p x y came same = rw (← same) came

came_put : (pages : ℕ) (behind : Behind) (k : Kind) (step : ℕ) (p after : Place) (event : Event)
    → may_stand behind k step ≡ true → Held pages behind.lines k p event after
    → Came pages behind k step p (Put (record { step = step; event = event })) after
unfolding record_text
came_put pages behind k step p after event stands held = record {
  rest = payload event;
  takes = held.takes;
  text = rw (← held.kind) refl;
  may = stands_once pages behind step event (rw held.kind stands) held.well;
}

put_once : (pages : ℕ) (behind : Behind) (k : Kind) (step : ℕ) (field : Reader Event) (p after : Place) (e : Entry)
    → may_stand behind k step ≡ true
    → ((q : Place) (event : Event) → field p ≡ Ok (event, q) → Held pages behind.lines k p event q)
    → put_at step field p ≡ Ok (e, after) → Came pages behind k step p e after
put_once pages behind k step field p after e stands held read =
    let parts = bound _ _ (e, after) read in
    came_along pages behind k step p (Put (record { step = step; event = parts.value }), parts.mid) (e, after)
    (came_put pages behind k step p parts.mid parts.value stands (held parts.mid parts.value parts.read))
    (done_pair _ e parts.mid after parts.then)

ends_once : (pages : ℕ) (behind : Behind) (step : ℕ) (p after : Place) (e : Entry)
    → may_stand behind kind.End step ≡ true → done (Ends step) p ≡ Ok (e, after)
    → Came pages behind kind.End step p e after
unfolding end_text
ends_once pages behind step p after e stands read = came_along pages behind kind.End step p (Ends step, p) (e, after)
    (record {
      rest = [];
      takes = takes_nothing p;
      text = ap (λ (xs : List ℕ). 0 ∷ xs) (append-nil (varint (step - behind.step)));
      may = end_stands_once behind step stands;
    }) (done_pair (Ends step) e p after read)

entry_once : (pages : ℕ) (behind : Behind) (step : ℕ) (k : Kind) (p after : Place) (e : Entry) → AreBytes p.ahead
    → may_stand behind k step ≡ true → entry_at pages behind step k p ≡ Ok (e, after)
    → Came pages behind k step p e after
entry_once pages behind step kind.End p after e are stands read = ends_once pages behind step p after e stands read
entry_once pages behind step kind.Dma p after e are stands read =
    put_once pages behind kind.Dma step (dma_at pages) p after e stands
    (λ q event. dma_once pages behind.lines p q event are) read
entry_once pages behind step kind.Lines p after e are stands read =
    put_once pages behind kind.Lines step (lines_at behind.lines) p after e stands
    (λ q event. lines_once pages behind.lines p q event are) read
entry_once pages behind step kind.Value p after e are stands read =
    put_once pages behind kind.Value step asked_value_at p after e stands
    (λ q event. value_once pages behind.lines p q event are) read
entry_once pages behind step kind.Mark p after e are stands read =
    put_once pages behind kind.Mark step (done Mark) p after e stands
    (λ q event. mark_once pages behind.lines p q event) read

-- An entry that was read stands there, and keeps its rule.
pub record EntryStood (pages : ℕ) (behind : Behind) (p : Place) (e : Entry) (after : Place) : Type 0 where
  pub takes : Takes p (entry_text behind.step e) after
  pub may : MayStand pages behind e

pub record_once : (pages : ℕ) (behind : Behind) (p after : Place) (e : Entry) → AreBytes p.ahead
    → record_at pages behind p ≡ Ok (e, after) → EntryStood pages behind p e after
unfolding record_at
record_once pages behind p after e are read =
    let first = bound _ _ (e, after) read in
    let tag = kind_once p first.mid first.value first.read in
    let are_more : AreBytes first.mid.ahead = bytes_behind p first.mid _ are tag in
    let second = bound _ _ (e, after) first.then in
    let step = step_once first.mid second.mid behind first.value second.value are_more second.read in
    let are_last : AreBytes second.mid.ahead = bytes_behind first.mid second.mid _ are_more step.takes in
    let came = entry_once pages behind second.value first.value second.mid after e are_last step.stands second.then in
    let distance : List ℕ = varint (second.value - behind.step) in
    let whole = takes_both p first.mid after (tag_of first.value ∷ []) (distance ++ came.rest) tag
    (takes_both first.mid second.mid after distance came.rest step.takes came.takes) in
    record {
      takes = takes_along p after after (tag_of first.value ∷ (distance ++ came.rest)) (entry_text behind.step e)
          came.text refl whole;
      may = came.may;
    }
