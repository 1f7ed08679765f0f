-- What events hand to a step, one behind another, and the last mark among them.
use Rattle.std.proofs.Common.{◌≡◌, ℕ, ◌<◌, ◌≤◌, ◌==◌, List, [], ◌∷◌, ◌++◌, Bool, true, false, if◌then◌else◌}
use Rattle.std.proofs.Common.{Option, None, refl, arith}
use Rattle.std.proofs.lemmas.Bool.{eq-eqb, ne_eqb}
use Rattle.cx_log.specs.Recording.{Event, Mark, Dma, Lines, Value, Recorded}
use Rattle.cx_machine.specs.Due.{Due, nothing_due}
use Rattle.cx_run.specs.Due.{due_at, with_event}
use Rattle.cx_run.specs.Events.{AllBelow}
use Rattle.cx_replay.specs.Handing.{handed, last_mark, last_mark_behind, marked_by_record}

-- one event in front and one behind
between : (first last : Event) (due : Due) → with_event first (handed last due) ≡ handed last (with_event first due)
between Mark last due = refl
between (Dma t) Mark due = refl
between (Dma t) (Dma u) due = refl
between (Dma t) (Lines lines) due = refl
between (Dma t) (Value v) due = refl
between (Lines lines) Mark due = refl
between (Lines lines) (Dma u) due = refl
between (Lines lines) (Lines more) due = refl
between (Lines lines) (Value v) due = refl
between (Value v) Mark due = refl
between (Value v) (Dma u) due = refl
between (Value v) (Lines lines) due = refl
between (Value v) (Value w) due = refl

between_if : (t : Bool) (first last : Event) (due : Due)
    → (if t then with_event first (handed last due) else handed last due) ≡ handed last
    (if t then with_event first due else due)
between_if true first last due = between first last due
between_if false first last due = refl

alone : (event : Event) → with_event event nothing_due ≡ handed event nothing_due
alone Mark = refl
alone (Dma t) = refl
alone (Lines lines) = refl
alone (Value v) = refl

-- An event of this step behind others is handed to it behind theirs.
pub due_at-push : (events : List Recorded) (r : Recorded) (n : ℕ) → r.step ≡ n
    → due_at (events ++ r ∷ []) n ≡ handed r.event (due_at events n)
due_at-push [] r n at = rw (eq-eqb r.step n at) (alone r.event)
due_at-push (s ∷ events) r n at =
    rw (due_at-push events r n at) (between_if (s.step == n) s.event r.event (due_at events n))

-- Events of earlier steps hand nothing to it.
pub due_at-past : (past events : List Recorded) (n : ℕ) → AllBelow n past → due_at (past ++ events) n ≡ due_at events n
due_at-past [] events n below = refl
due_at-past (r ∷ past) events n below = rw (ne_eqb r.step n (λ same. let less = below.0 in absurd (omega arith)))
    (due_at-past past events n below.1)

pub due_at-below : (past : List Recorded) (n : ℕ) → AllBelow n past → due_at past n ≡ nothing_due
due_at-below [] n below = refl
due_at-below (r ∷ past) n below = rw (ne_eqb r.step n (λ same. let less = below.0 in absurd (omega arith)))
    (due_at-below past n below.1)

-- ---- the last mark

mark_behind-push : (marked : Option ℕ) (events : List Recorded) (r : Recorded)
    → last_mark_behind marked (events ++ r ∷ []) ≡ marked_by_record r (last_mark_behind marked events)
mark_behind-push marked [] r = refl
mark_behind-push marked (s ∷ events) r = mark_behind-push (marked_by_record s marked) events r

pub last_mark-push : (events : List Recorded) (r : Recorded) → last_mark (events ++ r ∷ []) ≡ marked_by_record r
    (last_mark events)
last_mark-push events r = mark_behind-push None events r

-- ---- events by their steps

pub all_below_less : (m n : ℕ) (events : List Recorded) → m ≤ n → AllBelow m events → AllBelow n events
all_below_less m n [] less below = tt
all_below_less m n (r ∷ events) less below =
    (let first = below.0 in omega arith, all_below_less m n events less below.1)

pub all_below-push : (n : ℕ) (events : List Recorded) (r : Recorded) → AllBelow n events → r.step < n
    → AllBelow n (events ++ r ∷ [])
all_below-push n [] r below less = (less, tt)
all_below-push n (s ∷ events) r below less = (below.0, all_below-push n events r below.1 less)
