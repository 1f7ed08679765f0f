-- A record that may stand behind others is read back from its text.
use Rattle.std.proofs.Common.{◌≡◌, ◌≢◌, ℕ, ◌+◌, ◌-◌, ◌^◌, ◌<◌, ◌≤◌, List, [], ◌∷◌, ◌++◌, length, get_or, min, ltb, leb}
use Rattle.std.proofs.Common.{eqb, not, arith, refl, ap, sym, ⊎_elim, ◌⊎◌, Bool, true, false, ◌&&◌, ◌||◌, Ok}
use Rattle.std.proofs.lemmas.Bool.{lt-ltb, le-leb, eq-eqb, ne_eqb, and_from, or_left, or_right, not_from_false}
use Rattle.std.proofs.lemmas.List.{append-nil}
use Rattle.std.proofs.lemmas.Nat.{and_le_r}
use Rattle.std.specs.Int.{w32, to_le_bytes}
use Rattle.std.specs.Int.RustNames.{bit_and}
use Rattle.cx_map.specs.Map.{IsPageCount, size_of_pages}
use Rattle.cx_map.specs.declared.TheConstants.{PAGE_SIZE, RAM_START}
use Rattle.cx_csr.specs.declared.interrupts.TheConstants.{LINE_INTERRUPTS}
use Rattle.cx_csr.specs.declared.lines.Lines as lines
use Rattle.cx_codec.specs.Place.{behind_text, Place, Takes}
use Rattle.cx_codec.specs.Fields.{byte_at, word_at, varint_at}
use Rattle.cx_codec.specs.Varint.{varint}
use Rattle.cx_codec.proofs.ReadBack.{byte_again, bytes_again, word_again, varint_again}
use Rattle.cx_machine.specs.Transfers.{IsTransfer, Transfer}
use Rattle.cx_machine.specs.Due.{AreLines}
use Rattle.cx_log.specs.declared.limits.TheConstants.{STEP_LIMIT}
use Rattle.cx_log.specs.declared.kind.Kind.{Kind}
use Rattle.cx_log.specs.declared.kind.Kind.TheVariants as kind
use Rattle.cx_log.specs.Kind.{kind_of, kinds, tag_of}
use Rattle.cx_log.specs.Order.{Behind, HoldsWell, MayFollow, MayEnd}
use Rattle.cx_log.specs.Recording.{Event, Mark, Dma, Lines, Value, Recorded}
use Rattle.cx_log.specs.Records.{Entry, Put, Ends, may_stand, kind_at, step_at, dma_at, lines_at, asked_value_at}
use Rattle.cx_log.specs.Records.{entry_at, record_at}
use Rattle.cx_log.specs.Text.{payload, record_text, end_text}
use Rattle.cx_codec.proofs.Texts.{takes_first, takes_second, takes_along}
use Rattle.cx_log.proofs.Done.{nothing_taken}
use Rattle.cx_log.proofs.FieldTests.{checked_again, between_again}

few_tags : (k : Kind) → ltb (tag_of k) 5 ≡ true
few_tags kind.End = refl
few_tags kind.Dma = refl
few_tags kind.Lines = refl
few_tags kind.Value = refl
few_tags kind.Mark = refl

by_tag : (k : Kind) → get_or kinds (tag_of k) kind.End ≡ k
by_tag kind.End = refl
by_tag kind.Dma = refl
by_tag kind.Lines = refl
by_tag kind.Value = refl
by_tag kind.Mark = refl

kind_again : (p after : Place) (k : Kind) → Takes p (tag_of k ∷ []) after → kind_at p ≡ Ok (k, after)
unfolding kind_at
kind_again p after k takes =
    let tag = checked_again (λ t. ltb t 5) byte_at p after (tag_of k) (byte_again p after (tag_of k) takes)
    (few_tags k) in
    rw (tag, by_tag k) refl

step_again : (p after : Place) (behind : Behind) (k : Kind) (step : ℕ) → may_stand behind k step ≡ true
    → behind.step ≤ step → step ≤ STEP_LIMIT → Takes p (varint (step - behind.step)) after
    → step_at behind k p ≡ Ok (step, after)
unfolding step_at
step_again p after behind k step stands on small takes =
    let same : behind.step + (step - behind.step) ≡ step = omega arith in
    let distance = checked_again (λ d. may_stand behind k (behind.step + d)) varint_at p after (step - behind.step)
    (varint_again p after (step - behind.step) (omega arith) takes) (rw same stands) in
    rw (distance, same) refl

-- the three parts of a record
parts_again : (pages : ℕ) (behind : Behind) (k : Kind) (step : ℕ) (rest : List ℕ) (e : Entry) (p after : Place)
    → may_stand behind k step ≡ true → behind.step ≤ step → step ≤ STEP_LIMIT
    → ((q : Place) → Takes q rest after → entry_at pages behind step k q ≡ Ok (e, after))
    → Takes p (tag_of k ∷ (varint (step - behind.step) ++ rest)) after → record_at pages behind p ≡ Ok (e, after)
unfolding record_at
parts_again pages behind k step rest e p after stands on small held takes =
    let tag : List ℕ = tag_of k ∷ [] in
    let distance : List ℕ = varint (step - behind.step) in
    let q = behind_text p tag ((distance ++ rest) ++ after.ahead) in
    let more = takes_second p after tag (distance ++ rest) takes in
    rw (
      kind_again p q k (takes_first p after tag (distance ++ rest) takes),
      step_again q (behind_text q distance (rest ++ after.ahead)) behind k step stands on small
          (takes_first q after distance rest more),
    )
    (held (behind_text q distance (rest ++ after.ahead)) (takes_second q after distance rest more))

-- what may follow passes the test
and_three : (a b c : Bool) → a ≡ true → b ≡ true → c ≡ true → (a && (b && c)) ≡ true
and_three a b c p q r = rw (p, q, r) refl

in_order : (behind : Behind) (step least : ℕ) → (behind.step < step) ⊎ ((behind.step ≡ step) × (behind.least ≤ least))
    → (ltb behind.step step || (eqb behind.step step && leb behind.least least)) ≡ true
in_order behind step least = ⊎_elim
    (λ (later : behind.step < step). or_left _ _ (lt-ltb behind.step step later))
    (λ (same : (behind.step ≡ step) × (behind.least ≤ least)). or_right _ _
    (and_from _ _ (eq-eqb behind.step step same.0) (le-leb behind.least least same.1)))

pub event_stands : (pages step : ℕ) (behind : Behind) (event : Event)
    → MayFollow pages behind (record { step = step; event = event }) → may_stand behind (kind_of event) step ≡ true
event_stands pages step behind Mark follows = and_three _ _ _ (lt-ltb step STEP_LIMIT follows.small)
    (in_order behind step 0 follows.order) (eq-eqb step behind.mark follows.marks)
event_stands pages step behind (Dma t) follows = and_three _ _ _ (lt-ltb step STEP_LIMIT follows.small)
    (in_order behind step 1 follows.order) (lt-ltb step behind.mark follows.marks)
event_stands pages step behind (Lines up) follows = and_three _ _ _ (lt-ltb step STEP_LIMIT follows.small)
    (in_order behind step 2 follows.order) (lt-ltb step behind.mark follows.marks)
event_stands pages step behind (Value v) follows = and_three _ _ _ (lt-ltb step STEP_LIMIT follows.small)
    (in_order behind step 3 follows.order) (lt-ltb step behind.mark follows.marks)

not_before : (a b : ℕ) (P : Type 0) → (a < b) ⊎ ((a ≡ b) × P) → a ≤ b
not_before a b P = ⊎_elim (λ (less : a < b). omega arith) (λ (same : (a ≡ b) × P). omega (arith, same.0))

-- what an event holds
dma_again : (pages : ℕ) (t : Transfer) (p after : Place) → IsPageCount pages → IsTransfer (size_of_pages pages) t
    → Takes p (payload (Dma t)) after → dma_at pages p ≡ Ok (Dma t, after)
unfolding dma_at
dma_again pages t p after count fits takes =
    let place : List ℕ = to_le_bytes w32 t.place in
    let size : List ℕ = varint (length t.bytes) in
    let q = behind_text p place ((size ++ t.bytes) ++ after.ahead) in
    let r = behind_text q size (t.bytes ++ after.ahead) in
    let more = takes_second p after place (size ++ t.bytes) takes in
    let low : RAM_START ≤ t.place = fits.ram.low in
    let high : t.place + length t.bytes ≤ RAM_START + size_of_pages pages = fits.ram.high in
    let word = checked_again (λ w. leb RAM_START w && ltb w (RAM_START + size_of_pages pages)) word_at p q t.place
    (word_again p q t.place (omega (arith, low, high, count.most, fits.some))
    (takes_first p after place (size ++ t.bytes) takes))
    (and_from _ _ (le-leb RAM_START t.place low) (lt-ltb t.place (RAM_START + size_of_pages pages)
    (omega (arith, high, fits.some)))) in
    let long = between_again q r 1 (min PAGE_SIZE (RAM_START + size_of_pages pages - t.place))
    (length t.bytes) fits.some (omega (arith, high, fits.most)) (omega (arith, fits.most))
    (takes_first q after size t.bytes more) in
    rw (word, long, bytes_again r after t.bytes (takes_second q after size t.bytes more)) refl

pub same_lines : (a b : lines.Lines) → a.0 ≡ b.0 → a ≡ b
same_lines a b e = ap (λ (mask : ℕ). let up : lines.Lines = record { 0 = mask } in up) e

lines_again : (standing up : lines.Lines) (p after : Place) → AreLines up → up ≢ standing
    → Takes p (payload (Lines up)) after → lines_at standing p ≡ Ok (Lines up, after)
unfolding lines_at
lines_again standing up p after are other takes =
    let other_mask : eqb up.0 standing.0 ≡ false = ne_eqb up.0 standing.0 (λ e. other (same_lines up standing e)) in
    let mask = checked_again (λ w. eqb (bit_and w LINE_INTERRUPTS) w && not (eqb w standing.0)) word_at p after up.0
    (word_again p after up.0 (omega (arith, and_le_r up.0 LINE_INTERRUPTS, are)) takes)
    (and_from _ _ (eq-eqb (bit_and up.0 LINE_INTERRUPTS) up.0 are) (not_from_false (eqb up.0 standing.0) other_mask)) in
    rw mask refl

value_again : (v : ℕ) (p after : Place) → v < 2 ^ 32 → Takes p (payload (Value v)) after
    → asked_value_at p ≡ Ok (Value v, after)
unfolding asked_value_at
value_again v p after small takes = rw (word_again p after v small takes) refl

entry_again : (pages : ℕ) (behind : Behind) (step : ℕ) (event : Event) (p after : Place) → IsPageCount pages
    → HoldsWell pages behind.lines event → Takes p (payload event) after
    → entry_at pages behind step (kind_of event) p ≡ Ok (Put (record { step = step; event = event }), after)
entry_again pages behind step Mark p after count well takes = rw (nothing_taken p after takes) refl
entry_again pages behind step (Dma t) p after count well takes = rw (dma_again pages t p after count well takes) refl
entry_again pages behind step (Lines up) p after count well takes =
    rw (lines_again behind.lines up p after well.0 well.1 takes) refl
entry_again pages behind step (Value v) p after count well takes = rw (value_again v p after well takes) refl

pub record_again : (pages : ℕ) (behind : Behind) (r : Recorded) (p after : Place) → IsPageCount pages
    → MayFollow pages behind r → Takes p (record_text behind.step r) after
    → record_at pages behind p ≡ Ok (Put r, after)
unfolding record_text
record_again pages behind r p after count follows takes =
    parts_again pages behind (kind_of r.event) r.step (payload r.event) (Put r) p after
    (event_stands pages r.step behind r.event follows)
    (not_before behind.step r.step _ follows.order) (omega (arith, follows.small))
    (λ q. entry_again pages behind r.step r.event q after count follows.holds) takes

pub end_stands : (behind : Behind) (end : ℕ) → MayEnd behind end → may_stand behind kind.End end ≡ true
end_stands behind end ends = and_three _ _ _ (le-leb end STEP_LIMIT ends.small) (lt-ltb behind.step end ends.above)
    (le-leb end behind.mark ends.marks)

pub end_again : (pages : ℕ) (behind : Behind) (end : ℕ) (p after : Place) → MayEnd behind end
    → Takes p (end_text behind.step end) after → record_at pages behind p ≡ Ok (Ends end, after)
unfolding end_text
end_again pages behind end p after ends takes =
    let text : 0 ∷ varint (end - behind.step) ≡ 0 ∷ (varint (end - behind.step) ++ []) = ap (λ (xs : List ℕ). 0 ∷ xs)
    (sym (append-nil (varint (end - behind.step)))) in
    parts_again pages behind kind.End end [] (Ends end) p after (end_stands behind end ends)
    (omega (arith, ends.above)) ends.small
    (λ q nothing. rw (nothing_taken q after nothing) refl) (takes_along p after after _ _ text refl takes)
