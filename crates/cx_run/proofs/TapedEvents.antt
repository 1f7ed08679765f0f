-- The events of a run that is taped are what is due to its steps.
use Rattle.std.proofs.Common.{◌≡◌, ◌≢◌, ℕ, suc, ◌≤◌, Bool, true, false, List, [], ◌∷◌, ◌++◌, Option, None, Some}
use Rattle.std.proofs.Common.{refl, sym, ap, ◌∙◌, append_assoc, arith}
use Rattle.std.proofs.lemmas.Bool.{eq-eqb, ne_eqb}
use Rattle.cx_csr.specs.declared.lines.Lines as lines
use Rattle.cx_log.specs.Recording.{Recorded}
use Rattle.cx_machine.specs.Due.{Due, nothing_due}
use Rattle.cx_machine.specs.Transfers.{Transfer}
use Rattle.cx_run.specs.Driven.{events_from, is_marked}
use Rattle.cx_run.specs.Due.{due_at}
use Rattle.cx_run.specs.Events.{NoneBelow}
use Rattle.cx_run.specs.StepEvents.{line_events, mark_events, step_events, transfer_events, value_events}
use Rattle.cx_run.proofs.LaterEvents.{due_at-later, none_below_less}

-- ---- by parts

pub parts_of_step : (n : ℕ) (marked : Bool) (due : Due) (rest : List Recorded)
    → step_events n marked due ++ rest
    ≡ mark_events n marked
    ++ (transfer_events n due.transfers ++ (line_events n due.lines ++ (value_events n due.value ++ rest)))
parts_of_step n marked due rest =
    let ts = transfer_events n due.transfers in
    let ls = line_events n due.lines in
    let vs = value_events n due.value in
    append_assoc (mark_events n marked) (ts ++ (ls ++ vs)) rest
    ∙ ap (λ (xs : List Recorded). mark_events n marked ++ xs) (append_assoc ts (ls ++ vs) rest
    ∙ ap (λ (xs : List Recorded). ts ++ xs) (append_assoc ls vs rest))

-- each is an event of the step
pub AllAt : ℕ → List Recorded → Type 0
AllAt n [] = Unit {0}
AllAt n (r ∷ events) = (r.step ≡ n) × AllAt n events

at_append : (n : ℕ) (xs ys : List Recorded) → AllAt n xs → AllAt n ys → AllAt n (xs ++ ys)
unfolding AllAt
at_append n [] ys here there = there
at_append n (r ∷ xs) ys here there = (here.0, at_append n xs ys here.1 there)

at_mark : (n : ℕ) (marked : Bool) → AllAt n (mark_events n marked)
unfolding AllAt
at_mark n true = (refl, tt)
at_mark n false = tt

at_transfers : (n : ℕ) (ts : List Transfer) → AllAt n (transfer_events n ts)
unfolding AllAt
at_transfers n [] = tt
at_transfers n (t ∷ ts) = (refl, at_transfers n ts)

at_lines : (n : ℕ) (lines : Option lines.Lines) → AllAt n (line_events n lines)
unfolding AllAt
at_lines n None = tt
at_lines n (Some set) = (refl, tt)

at_value : (n : ℕ) (value : Option ℕ) → AllAt n (value_events n value)
unfolding AllAt
at_value n None = tt
at_value n (Some v) = (refl, tt)

pub at_its_step : (n : ℕ) (marked : Bool) (due : Due) → AllAt n (step_events n marked due)
at_its_step n marked due =
    at_append n (mark_events n marked) _ (at_mark n marked)
    (at_append n (transfer_events n due.transfers) _ (at_transfers n due.transfers)
    (at_append n (line_events n due.lines) _ (at_lines n due.lines) (at_value n due.value)))

-- ---- what is due

none_below_front : (m n : ℕ) (xs ys : List Recorded) → m ≤ n → AllAt n xs → NoneBelow m ys → NoneBelow m (xs ++ ys)
unfolding AllAt
none_below_front m n [] ys least here there = there
none_below_front m n (r ∷ xs) ys least here there =
    (omega (arith, least, here.0), none_below_front m n xs ys least here.1 there)

pub none_below : (n : ℕ) (dues : List Due) → NoneBelow n (events_from n dues)
none_below n [] = tt
none_below n (due ∷ dues) =
    none_below_front n n (step_events n (is_marked n) due) (events_from (suc n) dues) (omega arith)
    (at_its_step n (is_marked n) due)
    (none_below_less n (suc n) (events_from (suc n) dues) (omega arith) (none_below (suc n) dues))

not_there : (m n : ℕ) (xs ys : List Recorded) → n ≢ m → AllAt n xs → due_at (xs ++ ys) m ≡ due_at ys m
unfolding AllAt
not_there m n [] ys other here = refl
not_there m n (r ∷ xs) ys other here =
    rw (ne_eqb r.step m (λ same. other (sym here.0 ∙ same))) (not_there m n xs ys other here.1)

-- A later step has nothing of this one's.
pub step_else : (m n : ℕ) (due : Due) (dues : List Due) → n ≢ m
    → due_at (events_from n (due ∷ dues)) m ≡ due_at (events_from (suc n) dues) m
step_else m n due dues other =
    not_there m n (step_events n (is_marked n) due) (events_from (suc n) dues) other (at_its_step n (is_marked n) due)

with_mark : (n : ℕ) (marked : Bool) (rest : List Recorded) (due : Due) → due_at rest n ≡ due
    → due_at (mark_events n marked ++ rest) n ≡ due
with_mark n true rest due is = rw (eq-eqb n n refl) is
with_mark n false rest due is = is

with_transfers : (n : ℕ) (ts : List Transfer) (rest : List Recorded) (lines : Option lines.Lines) (value : Option ℕ)
    → due_at rest n ≡ record { transfers = []; lines = lines; value = value }
    → due_at (transfer_events n ts ++ rest) n ≡ record { transfers = ts; lines = lines; value = value }
with_transfers n [] rest lines value is = is
with_transfers n (t ∷ ts) rest lines value is =
    rw (eq-eqb n n refl, with_transfers n ts rest lines value is) refl

with_lines_due : (n : ℕ) (lines : Option lines.Lines) (rest : List Recorded) (value : Option ℕ)
    → due_at rest n ≡ record { transfers = []; lines = None; value = value }
    → due_at (line_events n lines ++ rest) n ≡ record { transfers = []; lines = lines; value = value }
with_lines_due n None rest value is = is
with_lines_due n (Some set) rest value is = rw (eq-eqb n n refl, is) refl

with_value : (n : ℕ) (value : Option ℕ) (rest : List Recorded) → due_at rest n ≡ nothing_due
    → due_at (value_events n value ++ rest) n ≡ record { transfers = []; lines = None; value = value }
with_value n None rest is = is
with_value n (Some v) rest is = rw (eq-eqb n n refl, is) refl

-- To the first step just this is due.
pub due_here : (n : ℕ) (due : Due) (dues : List Due) → due_at (events_from n (due ∷ dues)) n ≡ due
due_here n due dues =
    let rest = events_from (suc n) dues in
    ap (λ (xs : List Recorded). due_at xs n) (parts_of_step n (is_marked n) due rest)
    ∙ with_mark n (is_marked n)
    (transfer_events n due.transfers ++ (line_events n due.lines ++ (value_events n due.value ++ rest))) due
    (with_transfers n due.transfers (line_events n due.lines ++ (value_events n due.value ++ rest)) due.lines due.value
    (with_lines_due n due.lines (value_events n due.value ++ rest) due.value
    (with_value n due.value rest (due_at-later rest n (none_below (suc n) dues)))))
