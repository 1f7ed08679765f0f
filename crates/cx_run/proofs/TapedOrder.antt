-- The records of a run that is taped may stand one behind another.
use Rattle.std.proofs.Common.{◌≡◌, ◌≢◌, ℕ, suc, ◌+◌, ◌-◌, ◌%◌, ◌^◌, ◌<◌, ◌≤◌, ◌⊎◌, inl, inr, Bool, true, false}
use Rattle.std.proofs.Common.{List, [], ◌∷◌, ◌++◌, length, Option, None, Some, IfSome, unwrap_or, nat_lt, ◌==◌, ◌&&◌}
use Rattle.std.proofs.Common.{refl, sym, ap, subst, ◌∙◌, arith}
use Rattle.std.proofs.lemmas.Bool.Decides.{nat_tests}
use Rattle.std.proofs.lemmas.List.Elements.{All-head, All-tail}
use Rattle.cx_csr.specs.declared.lines.Lines as lines
use Rattle.cx_csr.specs.declared.state.State.{State}
use Rattle.cx_log.specs.Order.{InOrder, MayEnd, MayFollow, at_start, behind_it, next_mark}
use Rattle.cx_log.specs.declared.limits.TheConstants.{STEP_LIMIT}
use Rattle.cx_log.specs.declared.order.Behind.{Behind}
use Rattle.cx_log.specs.Recording.{Dma, Lines, Mark, Recorded, Value}
use Rattle.cx_machine.specs.Due.{AreLines, Due, IsDue}
use Rattle.cx_machine.specs.Transfers.{AreTransfers, IsTransfer, Transfer}
use Rattle.cx_map.specs.Map.{size_of_pages}
use Rattle.cx_run.specs.Driven.{CanTape, events_from, is_marked}
use Rattle.cx_run.specs.StepEvents.{line_events, mark_events, step_events, transfer_events, value_events}
use Rattle.cx_run.specs.Taping.{Ready, Within}
use Rattle.cx_run.proofs.TapedEvents.{parts_of_step}

-- ---- marks

pub record Marked (step : ℕ) : Type 0 where
  pub some : 0 < step
  pub whole : step % 65536 ≡ 0

marked : (step : ℕ) → is_marked step ≡ true → Marked step
marked step is = record { some = grind (arith, nat_tests); whole = grind (arith, nat_tests) }

mark_here : (step : ℕ) → Marked step → next_mark (step - 1) ≡ step
mark_here step is = let some : 0 < step = is.some in let whole : step % 65536 ≡ 0 = is.whole in omega arith

mark_behind_here : (step : ℕ) → Marked step → step + 65536 ≡ next_mark step
mark_behind_here step is = let whole : step % 65536 ≡ 0 = is.whole in omega arith

unmarked : (step : ℕ) → is_marked step ≡ false → (step ≡ 0) ⊎ (0 < step % 65536)
unmarked step is = by_tests (nat_lt 0 step) (step % 65536 == 0) refl refl is
  where
    by_tests : (s t : Bool) → nat_lt 0 step ≡ s → (step % 65536 == 0) ≡ t → (s && t) ≡ false
        → (step ≡ 0) ⊎ (0 < step % 65536)
    by_tests true true a b both = absurd (cc)
    by_tests true false a b both = inr (grind (arith, nat_tests))
    by_tests false t a b both = inl (grind (arith, nat_tests))

same_mark : (step : ℕ) → is_marked step ≡ false → next_mark (step - 1) ≡ next_mark step
same_mark step is = elim (unmarked step is) [
  | inl zero ↦ omega (arith, zero)
  | inr some ↦ omega (arith, some)
]

below_mark : (step : ℕ) → step < next_mark step
below_mark step = omega arith

-- ---- one record

-- a record may follow, and those behind it
pub record Follows (pages step least : ℕ) (behind : Behind) (r : Recorded) : Type 0 where
  pub may : MayFollow pages behind r
  pub within : Within step least (behind_it behind r)

ready_first : (start : State) → Ready 0 (at_start 0 start)
ready_first start = record { order = inr (refl, refl); mark = refl }

wider_order : (step least most : ℕ) (behind : Behind) → least ≤ most
    → (behind.step < step) ⊎ ((behind.step ≡ step) × (behind.least ≤ least))
    → (behind.step < step) ⊎ ((behind.step ≡ step) × (behind.least ≤ most))
wider_order step least most behind more (inl below) = inl below
wider_order step least most behind more (inr here) = inr (here.0, omega (arith, more, here.1))

pub wider : (step least most : ℕ) (behind : Behind) → least ≤ most → Within step least behind → Within step most behind
wider step least most behind more w = record {
  order = wider_order step least most behind more w.order;
  mark = w.mark;
}

ready_order : (step rank : ℕ) (behind : Behind) → (behind.step < step) ⊎ ((behind.step ≡ step) × (behind.least ≡ 0))
    → (behind.step < step) ⊎ ((behind.step ≡ step) × (behind.least ≤ rank))
ready_order step rank behind (inl below) = inl below
ready_order step rank behind (inr here) = inr (here.0, omega (arith, here.1))

pub no_mark_puts : (step : ℕ) (behind : Behind) → Ready step behind → is_marked step ≡ false → Within step 1 behind
no_mark_puts step behind ready is = record {
  order = ready_order step 1 behind ready.order;
  mark = ready.mark ∙ same_mark step is;
}

pub mark_puts : (pages step : ℕ) (behind : Behind) → Ready step behind → is_marked step ≡ true → step < STEP_LIMIT
    → MayFollow pages behind (record { step = step; event = Mark })
    × Within step 1 (behind_it behind (record { step = step; event = Mark }))
mark_puts pages step behind ready is small =
    let is_marked = marked step is in
    let here : behind.mark ≡ step = ready.mark ∙ mark_here step is_marked in (
      record { small = small; order = ready_order step 0 behind ready.order; marks = sym here; holds = tt },
      record {
        order = inr (refl, omega arith);
        mark = ap (λ (n : ℕ). n + 65536) here ∙ mark_behind_here step is_marked;
      },
    )

pub transfer_puts : (pages step : ℕ) (behind : Behind) (t : Transfer) → Within step 1 behind → step < STEP_LIMIT
    → IsTransfer (size_of_pages pages) t
    → MayFollow pages behind (record { step = step; event = Dma t })
    × Within step 1 (behind_it behind (record { step = step; event = Dma t }))
transfer_puts pages step behind t w small fits = (
  record { small = small; order = w.order; marks = omega (arith, w.mark, below_mark step); holds = fits },
  record { order = inr (refl, omega arith); mark = w.mark },
)

pub lines_put : (pages step : ℕ) (behind : Behind) (set : lines.Lines) → Within step 2 behind → step < STEP_LIMIT
    → AreLines set → set ≢ behind.lines
    → MayFollow pages behind (record { step = step; event = Lines set })
    × Within step 3 (behind_it behind (record { step = step; event = Lines set }))
lines_put pages step behind set w small fits change = (
  record { small = small; order = w.order; marks = omega (arith, w.mark, below_mark step); holds = (fits, change) },
  record { order = inr (refl, omega arith); mark = w.mark },
)

pub value_puts : (pages step v : ℕ) (behind : Behind) → Within step 3 behind → step < STEP_LIMIT → v < 2 ^ 32
    → MayFollow pages behind (record { step = step; event = Value v })
    × Within step 4 (behind_it behind (record { step = step; event = Value v }))
value_puts pages step v behind w small fits = (
  record { small = small; order = w.order; marks = omega (arith, w.mark, below_mark step); holds = fits },
  record { order = inr (refl, omega arith); mark = w.mark },
)

pub step_is_done : (step : ℕ) (behind : Behind) → Within step 4 behind → Ready (suc step) behind
step_is_done step behind w = record {
  order = inl (elim w.order [ inl below ↦ omega (arith, below) | inr here ↦ omega (arith, here.0) ]);
  mark = w.mark ∙ ap next_mark (let e : step ≡ suc step - 1 = omega arith in e);
}

pub ready_first_is : (start : State) → Ready 0 (at_start 0 start)
ready_first_is = ready_first

pub may_end : (step : ℕ) (behind : Behind) → Ready step behind → behind.step < step → step ≤ STEP_LIMIT
    → MayEnd behind step
may_end step behind ready above small =
    let mark : behind.mark ≡ next_mark (step - 1) = ready.mark in
    record { small = small; above = above; marks = let some : 0 < step = omega (arith, above) in omega (arith, mark) }

-- ---- all of them

end_of_events : (pages n : ℕ) (behind : Behind) → n ≤ STEP_LIMIT → Ready n behind → behind.step < n
    → InOrder pages behind [] n
end_of_events pages n behind small ready above = may_end n behind ready above small

mark_in_order : (pages n : ℕ) (marked : Bool) (behind : Behind) (rest : List Recorded) (end : ℕ) → n < STEP_LIMIT
    → is_marked n ≡ marked → Ready n behind
    → ((b : Behind) → Within n 1 b → b.lines ≡ behind.lines → InOrder pages b rest end)
    → InOrder pages behind (mark_events n marked ++ rest) end
mark_in_order pages n true behind rest end small is ready on =
    let put = mark_puts pages n behind ready is small in
    (put.0, on (behind_it behind (record { step = n; event = Mark })) put.1 refl)
mark_in_order pages n false behind rest end small is ready on = on behind (no_mark_puts n behind ready is) refl

transfers_in_order : (pages n : ℕ) (ts : List Transfer) (behind : Behind) (rest : List Recorded) (end : ℕ)
    → n < STEP_LIMIT → AreTransfers (size_of_pages pages) ts → Within n 1 behind
    → ((b : Behind) → Within n 1 b → b.lines ≡ behind.lines → InOrder pages b rest end)
    → InOrder pages behind (transfer_events n ts ++ rest) end
transfers_in_order pages n [] behind rest end small fit w on = on behind w refl
transfers_in_order pages n (t ∷ ts) behind rest end small fit w on =
    let first = All-head (IsTransfer (size_of_pages pages)) t ts fit in
    let others = All-tail (IsTransfer (size_of_pages pages)) t ts fit in
    let put = transfer_puts pages n behind t w small first in (
      put.0,
      transfers_in_order pages n ts (behind_it behind (record { step = n; event = Dma t })) rest end small others put.1 on,
    )

lines_in_order : (pages n : ℕ) (set : Option lines.Lines) (behind : Behind) (rest : List Recorded) (end : ℕ)
    → n < STEP_LIMIT → IfSome set AreLines → IfSome set (λ (to : lines.Lines). to ≢ behind.lines) → Within n 1 behind
    → ((b : Behind) → Within n 3 b → b.lines ≡ unwrap_or set behind.lines → InOrder pages b rest end)
    → InOrder pages behind (line_events n set ++ rest) end
lines_in_order pages n None behind rest end small fit change w on = on behind (wider n 1 3 behind (omega arith) w) refl
lines_in_order pages n (Some set) behind rest end small fit change w on =
    let put = lines_put pages n behind set (wider n 1 2 behind (omega arith) w) small fit change in
    (put.0, on (behind_it behind (record { step = n; event = Lines set })) put.1 refl)

value_in_order : (pages n : ℕ) (value : Option ℕ) (behind : Behind) (rest : List Recorded) (end : ℕ)
    → n < STEP_LIMIT → IfSome value (λ (v : ℕ). v < 2 ^ 32) → Within n 3 behind
    → ((b : Behind) → Within n 4 b → b.lines ≡ behind.lines → InOrder pages b rest end)
    → InOrder pages behind (value_events n value ++ rest) end
value_in_order pages n None behind rest end small fit w on = on behind (wider n 3 4 behind (omega arith) w) refl
value_in_order pages n (Some v) behind rest end small fit w on =
    let put = value_puts pages n v behind w small fit in
    (put.0, on (behind_it behind (record { step = n; event = Value v })) put.1 refl)

step_in_order : (pages n : ℕ) (due : Due) (behind : Behind) (rest : List Recorded) (end : ℕ) → n < STEP_LIMIT
    → IsDue pages due → IfSome due.lines (λ (to : lines.Lines). to ≢ behind.lines) → Ready n behind
    → ((b : Behind) → Within n 4 b → b.lines ≡ unwrap_or due.lines behind.lines → InOrder pages b rest end)
    → InOrder pages behind (step_events n (is_marked n) due ++ rest) end
step_in_order pages n due behind rest end small fit change ready on =
    subst (λ (events : List Recorded). InOrder pages behind events end)
    (sym (parts_of_step n (is_marked n) due rest))
    (mark_in_order pages n (is_marked n) behind _ end small refl ready
    (λ b1 w1 l1. transfers_in_order pages n due.transfers b1 _ end small fit.transfers w1
    (λ b2 w2 l2. lines_in_order pages n due.lines b2 _ end small fit.lines
    (subst (λ (standing : lines.Lines). IfSome due.lines (λ (to : lines.Lines). to ≢ standing)) (sym (l2 ∙ l1)) change) w2
    (λ b3 w3 l3. value_in_order pages n due.value b3 rest end small fit.value w3
    (λ b4 w4 l4. on b4 w4 (l4 ∙ l3 ∙ ap (unwrap_or due.lines) (l2 ∙ l1)))))))

within_above : (n : ℕ) (b : Behind) → Within n 4 b → b.step < suc n
within_above n b w = elim w.order [ inl below ↦ omega (arith, below) | inr here ↦ omega (arith, here.0) ]

pub events_in_order : (pages n : ℕ) (behind : Behind) (dues : List Due) → n + length dues ≤ STEP_LIMIT → Ready n behind
    → behind.step < n + length dues → CanTape pages behind.lines dues
    → InOrder pages behind (events_from n dues) (n + length dues)
events_in_order pages n behind [] small ready above can =
    let place : n + 0 ≡ n = omega arith in
    subst (λ (end : ℕ). InOrder pages behind [] end) (sym place)
    (end_of_events pages n behind (omega (arith, small)) ready (omega (arith, above)))
events_in_order pages n behind (due ∷ dues) small ready above can =
    let place : suc n + length dues ≡ n + suc (length dues) = omega arith in
    step_in_order pages n due behind (events_from (suc n) dues) (n + suc (length dues)) (omega (arith, small)) can.0 can.1.0
    ready (λ b w l. subst (λ (end : ℕ). InOrder pages b (events_from (suc n) dues) end) place
    (events_in_order pages (suc n) b dues (omega (arith, small)) (step_is_done n b w)
    (let above' = within_above n b w in omega (arith, above'))
    (subst (λ (standing : lines.Lines). CanTape pages standing dues) (sym l) can.1.1)))
