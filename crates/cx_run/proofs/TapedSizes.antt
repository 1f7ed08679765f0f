-- How many bytes the records of a run that is taped take at most.
use Rattle.std.proofs.Common.{◌≡◌, ℕ, suc, ◌+◌, ◌-◌, ◌*◌, ◌/◌, ◌%◌, ◌^◌, ◌<◌, ◌≤◌, Bool, true, false, List, [], ◌∷◌}
use Rattle.std.proofs.Common.{◌++◌, length, Option, None, Some, ltb, cond, nat_lt, arith, length-append}
use Rattle.std.proofs.lemmas.Bool.Decides.{nat_tests}
use Rattle.std.proofs.lemmas.List.Elements.{All-head, All-tail}
use Rattle.std.specs.Int.{w32, to_le_bytes}
use Rattle.cx_codec.specs.Varint.{varint, varint_within}
use Rattle.cx_csr.specs.declared.lines.Lines as lines
use Rattle.cx_log.specs.Recording.{Dma, Event, Lines, Mark, Recorded, Value}
use Rattle.cx_log.specs.Text.{end_text, record_text, records_text}
use Rattle.cx_machine.specs.Due.{Due, IsDue}
use Rattle.cx_machine.specs.Transfers.{AreTransfers, IsTransfer, Transfer}
use Rattle.cx_map.specs.Map.{size_of_pages}
use Rattle.std.proofs.Common.{unwrap_or}
use Rattle.cx_run.specs.Driven.{CanTape, FewTransfers, events_from, is_marked}
use Rattle.cx_run.specs.StepEvents.{line_events, mark_events, step_events, transfer_events, value_events}

-- ---- varints

last_digit : (most n : ℕ) → n < 128 → length (varint_within (suc most) n) ≤ 1
last_digit most n small = let is : nat_lt n 128 ≡ true = grind (arith, nat_tests) in rw is (omega arith)

digit_more : (most n k : ℕ) → length (varint_within most (n / 128)) ≤ k → length (varint_within (suc most) n) ≤ suc k
digit_more most n k few = by_test (ltb n 128) few
  where
    by_test : (t : Bool) → length (varint_within most (n / 128)) ≤ k
        → length (cond t (n ∷ []) ((128 + n % 128) ∷ varint_within most (n / 128))) ≤ suc k
    by_test true few = omega arith
    by_test false few = omega (arith, few)

two_digits : (n : ℕ) → n < 2 ^ 14 → length (varint n) ≤ 2
unfolding varint
two_digits n small = digit_more 9 n 1 (last_digit 8 (n / 128) (omega (arith, small)))

four_digits : (n : ℕ) → n < 2 ^ 28 → length (varint n) ≤ 4
unfolding varint
four_digits n small =
    digit_more 9 n 3 (digit_more 8 (n / 128) 2 (digit_more 7 (n / 128 / 128) 1
    (last_digit 6 (n / 128 / 128 / 128) (omega (arith, small)))))

-- ---- records

cost : Event → ℕ
cost Mark = 5
cost (Dma t) = 11 + length t.bytes
cost (Lines set) = 9
cost (Value v) = 9

costs : List Recorded → ℕ
costs [] = 0
costs (r ∷ events) = cost r.event + costs events

IsBrief : Event → Type 0
IsBrief Mark = Unit {0}
IsBrief (Dma t) = length t.bytes ≤ 4096
IsBrief (Lines set) = Unit {0}
IsBrief (Value v) = Unit {0}

AreBrief : List Recorded → Type 0
AreBrief [] = Unit {0}
AreBrief (r ∷ events) = (r.step < 2 ^ 28) × IsBrief r.event × AreBrief events

event_cost : (before step : ℕ) (event : Event) → step < 2 ^ 28 → IsBrief event
    → length (record_text before (record { step = step; event = event })) ≤ cost event
unfolding record_text cost IsBrief
event_cost before step Mark small brief =
    omega (arith, length-append (varint (step - before)) [], four_digits (step - before) (omega (arith, small)))
event_cost before step (Dma t) small brief =
    let tail : List ℕ = varint (length t.bytes) ++ t.bytes in
    omega (
      arith,
      length-append (varint (step - before)) (to_le_bytes w32 t.place ++ tail),
      length-append (to_le_bytes w32 t.place) tail,
      length-append (varint (length t.bytes)) t.bytes,
      four_digits (step - before) (omega (arith, small)),
      two_digits (length t.bytes) (omega (arith, brief)),
    )
event_cost before step (Lines set) small brief =
    omega (
      arith,
      length-append (varint (step - before)) (to_le_bytes w32 set.0),
      four_digits (step - before) (omega (arith, small)),
    )
event_cost before step (Value v) small brief =
    omega (
      arith,
      length-append (varint (step - before)) (to_le_bytes w32 v),
      four_digits (step - before) (omega (arith, small)),
    )

end_cost : (before end : ℕ) → end < 2 ^ 28 → length (end_text before end) ≤ 5
unfolding end_text
end_cost before end small = omega (arith, four_digits (end - before) (omega (arith, small)))

records_cost : (before : ℕ) (events : List Recorded) (end : ℕ) → AreBrief events → end < 2 ^ 28
    → length (records_text before events end) ≤ costs events + 5
unfolding costs AreBrief
records_cost before [] end brief small = omega (arith, end_cost before end small)
records_cost before (r ∷ events) end brief small =
    let first : length (record_text before r) ≤ cost r.event = event_cost before r.step r.event brief.0 brief.1 in
    omega (
      arith,
      length-append (record_text before r) (records_text r.step events end),
      first,
      records_cost r.step events end brief.2 small,
    )

costs_append : (xs ys : List Recorded) → costs (xs ++ ys) ≡ costs xs + costs ys
unfolding costs
costs_append [] ys = omega arith
costs_append (r ∷ xs) ys = omega (arith, costs_append xs ys)

brief_append : (xs ys : List Recorded) → AreBrief xs → AreBrief ys → AreBrief (xs ++ ys)
unfolding AreBrief
brief_append [] ys here there = there
brief_append (r ∷ xs) ys here there = (here.0, here.1, brief_append xs ys here.2 there)

-- ---- a step's

mark_cost : (n : ℕ) (marked : Bool) → costs (mark_events n marked) ≤ 5
unfolding costs cost
mark_cost n true = omega arith
mark_cost n false = omega arith

transfers_cost : (pages n : ℕ) (ts : List Transfer) → AreTransfers (size_of_pages pages) ts → length ts ≤ 1
    → costs (transfer_events n ts) ≤ 4107
unfolding costs cost
transfers_cost pages n [] fit few = omega arith
transfers_cost pages n (t ∷ []) fit few =
    let most : length t.bytes ≤ 4096 = (All-head (IsTransfer (size_of_pages pages)) t [] fit).most in
    omega (arith, most)
transfers_cost pages n (t ∷ u ∷ ts) fit few = absurd (omega (arith, few))

lines_cost : (n : ℕ) (set : Option lines.Lines) → costs (line_events n set) ≤ 9
unfolding costs cost
lines_cost n None = omega arith
lines_cost n (Some set) = omega arith

value_cost : (n : ℕ) (value : Option ℕ) → costs (value_events n value) ≤ 9
unfolding costs cost
value_cost n None = omega arith
value_cost n (Some v) = omega arith

step_cost : (pages n : ℕ) (marked : Bool) (due : Due) → IsDue pages due → length due.transfers ≤ 1
    → costs (step_events n marked due) ≤ 4130
step_cost pages n marked due fits few =
    let ts = transfer_events n due.transfers in
    let ls = line_events n due.lines in
    let vs = value_events n due.value in
    omega (
      arith,
      costs_append (mark_events n marked) (ts ++ (ls ++ vs)),
      costs_append ts (ls ++ vs),
      costs_append ls vs,
      mark_cost n marked,
      transfers_cost pages n due.transfers fits.transfers few,
      lines_cost n due.lines,
      value_cost n due.value,
    )

mark_brief : (n : ℕ) (marked : Bool) → n < 2 ^ 28 → AreBrief (mark_events n marked)
unfolding AreBrief IsBrief
mark_brief n true small = (small, tt, tt)
mark_brief n false small = tt

transfers_brief : (pages n : ℕ) (ts : List Transfer) → n < 2 ^ 28 → AreTransfers (size_of_pages pages) ts
    → AreBrief (transfer_events n ts)
unfolding AreBrief IsBrief
transfers_brief pages n [] small fit = tt
transfers_brief pages n (t ∷ ts) small fit = (
  small,
  (All-head (IsTransfer (size_of_pages pages)) t ts fit).most,
  transfers_brief pages n ts small (All-tail (IsTransfer (size_of_pages pages)) t ts fit),
)

lines_brief : (n : ℕ) (set : Option lines.Lines) → n < 2 ^ 28 → AreBrief (line_events n set)
unfolding AreBrief IsBrief
lines_brief n None small = tt
lines_brief n (Some set) small = (small, tt, tt)

value_brief : (n : ℕ) (value : Option ℕ) → n < 2 ^ 28 → AreBrief (value_events n value)
unfolding AreBrief IsBrief
value_brief n None small = tt
value_brief n (Some v) small = (small, tt, tt)

step_brief : (pages n : ℕ) (marked : Bool) (due : Due) → n < 2 ^ 28 → IsDue pages due
    → AreBrief (step_events n marked due)
step_brief pages n marked due small fits =
    brief_append (mark_events n marked) _ (mark_brief n marked small)
    (brief_append (transfer_events n due.transfers) _ (transfers_brief pages n due.transfers small fits.transfers)
    (brief_append (line_events n due.lines) _ (lines_brief n due.lines small) (value_brief n due.value small)))

-- ---- all of them

all_cost : (pages n : ℕ) (standing : lines.Lines) (dues : List Due) → CanTape pages standing dues → FewTransfers dues
    → costs (events_from n dues) ≤ 4130 * length dues
unfolding costs
all_cost pages n standing [] can few = omega arith
all_cost pages n standing (due ∷ dues) can few =
    let first = step_cost pages n (is_marked n) due can.0 (All-head (λ (d : Due). length d.transfers ≤ 1) due dues few) in
    let rest = all_cost pages (suc n) (unwrap_or due.lines standing) dues can.1.1
    (All-tail (λ (d : Due). length d.transfers ≤ 1) due dues few) in
    omega (
      arith,
      costs_append (step_events n (is_marked n) due) (events_from (suc n) dues),
      first,
      rest,
    )

all_brief : (pages n : ℕ) (standing : lines.Lines) (dues : List Due) → CanTape pages standing dues
    → n + length dues ≤ 2 ^ 27 → AreBrief (events_from n dues)
unfolding AreBrief
all_brief pages n standing [] can small = tt
all_brief pages n standing (due ∷ dues) can small =
    brief_append (step_events n (is_marked n) due) (events_from (suc n) dues)
    (step_brief pages n (is_marked n) due (omega (arith, small)) can.0)
    (all_brief pages (suc n) (unwrap_or due.lines standing) dues can.1.1 (omega (arith, small)))

pub records_are_short : (pages : ℕ) (standing : lines.Lines) (dues : List Due) → CanTape pages standing dues
    → FewTransfers dues → length dues ≤ 2 ^ 27
    → length (records_text 0 (events_from 0 dues) (length dues)) ≤ 4130 * length dues + 5
records_are_short pages standing dues can few small =
    let brief = all_brief pages 0 standing dues can (omega (arith, small)) in
    let most = records_cost 0 (events_from 0 dues) (length dues) brief (omega (arith, small)) in
    let all = all_cost pages 0 standing dues can few in
    omega (arith, most, all)
