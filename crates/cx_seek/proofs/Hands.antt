-- What notes hand to the steps of a run, one by one.
use Rattle.std.proofs.Common.{◌≡◌, ℕ, zero, suc, ◌+◌, ◌<◌, ◌≤◌, ◌==◌, ◌&&◌, Bool, true, false, List, [], ◌∷◌, ◌++◌, drop}
use Rattle.std.proofs.Common.{length, if◌then◌else◌, Option, None, Some, is_none, inl, inr, refl, sym, ap, subst, ◌∙◌, arith, length-append}
use Rattle.std.specs.List.{slice_get}
use Rattle.std.proofs.lemmas.Bool.{cases_lt, eqb-false, eqb-true}
use Rattle.std.proofs.lemmas.List.{drop-append-le}
use Rattle.std.proofs.Math.Seq.{drop-length}
use Rattle.cx_csr.specs.declared.lines.Lines.{Lines}
use Rattle.cx_log.specs.Recording.{Recorded}
use Rattle.cx_machine.specs.Due.{Due, nothing_due}
use Rattle.cx_machine.specs.Transfers.{Transfer}
use Rattle.cx_run.specs.Due.{due_at}
use Rattle.cx_seek.specs.Dues.{Hands, NoneDue, Noted, due_by, due_in, index_behind, index_by, is_nothing, noted}

-- the note at an index, with those behind it
abbrev AtIndex : List Noted → ℕ → Option Noted → Type 0
AtIndex notes next None = drop next notes ≡ []
AtIndex notes next (Some note) = drop next notes ≡ note ∷ drop (suc next) notes

at_index : (notes : List Noted) (next : ℕ) → AtIndex notes next (slice_get notes next)
at_index [] zero = refl
at_index [] (suc next) = refl
at_index (note ∷ notes) zero = refl
at_index (note ∷ notes) (suc next) = on (slice_get notes next) (at_index notes next)
  where
    on : (here : Option Noted) → AtIndex notes next here → AtIndex (note ∷ notes) (suc next) here
    on None at = at
    on (Some n) at = at

-- ---- the step that comes next

none_later : (events : List Recorded) (n upto : ℕ) → NoneDue events n upto → NoneDue events (n + 1) upto
none_later events n upto none = λ k from below. none k (omega arith) below

hands_later : (events : List Recorded) (n upto : ℕ) (notes : List Noted) → Hands events n upto notes
    → ((note : Noted) (rest : List Noted) → notes ≡ note ∷ rest → (note.step ≡ n) → ⊥)
    → Hands events (n + 1) upto notes
hands_later events n upto [] hands other = none_later events n upto hands
hands_later events n upto (note ∷ notes) hands other =
    let later : n < note.step = grind (arith, other note notes refl, hands.0.from) in (
      record {
        from = omega (arith, later);
        below = hands.0.below;
        none = λ k from below. hands.0.none k (omega arith) below;
        is = hands.0.is;
      },
      hands.1,
    )

here_by : (events : List Recorded) (n upto next : ℕ) (notes : List Noted) (here : Option Noted)
    → AtIndex notes next here → Hands events n upto (drop next notes) → n < upto
    → (due_by n here ≡ due_at events n) × Hands events (n + 1) upto (drop (index_by next n here) notes)
here_by events n upto next notes None at hands below =
    let nothing : Hands events n upto [] = subst (Hands events n upto) at hands in (
      sym (nothing n (omega arith) below),
      subst (Hands events (n + 1) upto) (sym at) (none_later events n upto nothing),
    )
here_by events n upto next notes (Some note) at hands below =
    let parts : Hands events n upto (note ∷ drop (suc next) notes) = subst (Hands events n upto) at hands in
    by (note.step == n) refl parts
  where
    behind : suc next ≡ next + 1
    behind = omega arith

    by : (same : Bool) → (note.step == n) ≡ same → Hands events n upto (note ∷ drop (suc next) notes)
        → ((if same then note.due else nothing_due) ≡ due_at events n)
        × Hands events (n + 1) upto (drop (if same then next + 1 else next) notes)
    by true is parts =
        let at_n : note.step ≡ n = eqb-true note.step n is in (
          parts.0.is ∙ ap (due_at events) at_n,
          subst (λ (k : ℕ). Hands events (n + 1) upto (drop k notes)) behind
              (subst (λ (k : ℕ). Hands events (k + 1) upto (drop (suc next) notes)) at_n parts.1),
        )
    by false is parts =
        let other = eqb-false note.step n is in
        let later : n < note.step = grind (arith, other, parts.0.from) in (
          sym (parts.0.none n (omega arith) later),
          subst (Hands events (n + 1) upto) (sym at) (hands_later events n upto (note ∷ drop (suc next) notes) parts
              (λ first rest is same. other (ap (λ (xs : List Noted). step_of xs) is ∙ same))),
        )
      where
        step_of : List Noted → ℕ
        step_of [] = 0
        step_of (first ∷ rest) = first.step

-- what the notes hand to the step that comes next is what is due to it
pub hands_here : (events : List Recorded) (n upto next : ℕ) (notes : List Noted)
    → Hands events n upto (drop next notes) → n < upto → due_in notes next n ≡ due_at events n
hands_here events n upto next notes hands below =
    (here_by events n upto next notes (slice_get notes next) (at_index notes next) hands below).0

-- and the others hand what is due to the steps behind it
pub hands_on : (events : List Recorded) (n upto next : ℕ) (notes : List Noted) → Hands events n upto (drop next notes)
    → n < upto → Hands events (n + 1) upto (drop (index_behind notes next n) notes)
hands_on events n upto next notes hands below =
    (here_by events n upto next notes (slice_get notes next) (at_index notes next) hands below).1

-- at the end they hand nothing
pub hands_none : (events : List Recorded) (n next : ℕ) (notes : List Noted) → Hands events n n (drop next notes)
    → due_in notes next n ≡ nothing_due
hands_none events n next notes = by (slice_get notes next) (at_index notes next)
  where
    by : (here : Option Noted) → AtIndex notes next here → Hands events n n (drop next notes)
        → due_by n here ≡ nothing_due
    by None at hands = refl
    by (Some note) at hands =
        let parts : Hands events n n (note ∷ drop (suc next) notes) = subst (Hands events n n) at hands in
        absurd (omega (arith, parts.0.from, parts.0.below))

-- ---- a step more

too_many : (n : ℕ) (b c : Bool) → (suc n == 0 && b && c) ≡ true → ⊥
too_many n b c = by (suc n == 0) refl
  where
    by : (same : Bool) → (suc n == 0) ≡ same → (same && b && c) ≡ true → ⊥
    by true is e = let h = eqb-true (suc n) 0 is in omega (arith, h)
    by false is e = cc

nothing_is : (due : Due) → is_nothing due ≡ true → due ≡ nothing_due
nothing_is due is = by due.transfers due.lines due.value is
  where
    by : (transfers : List Transfer) (lines : Option Lines) (value : Option ℕ)
        → is_nothing (record { transfers = transfers; lines = lines; value = value }) ≡ true
        → record { transfers = transfers; lines = lines; value = value } ≡ nothing_due
    by [] None None e = refl
    by [] None (Some v) e = cc
    by [] (Some l) value e = cc
    by (t ∷ transfers) lines value e = absurd (too_many (length transfers) (is_none lines) (is_none value) e)

without : (events : List Recorded) (n at : ℕ) (notes : List Noted) → n ≤ at → Hands events n at notes
    → due_at events at ≡ nothing_due → Hands events n (at + 1) notes
without events n at [] le hands nothing = λ k from below. elim (cases_lt k at) [
  | inl less ↦ hands k from less
  | inr more ↦ (let e : k ≡ at = omega arith in rw e nothing)
]
without events n at (note ∷ notes) le hands nothing = (
  record {
    from = hands.0.from;
    below = let h = hands.0.below in omega arith;
    none = hands.0.none;
    is = hands.0.is;
  },
  without events (note.step + 1) at notes (let h = hands.0.below in omega arith) hands.1 nothing,
)

with_note : (events : List Recorded) (n at : ℕ) (notes : List Noted) (due : Due) → n ≤ at → Hands events n at notes
    → due ≡ due_at events at → Hands events n (at + 1) (notes ++ record { step = at; due = due } ∷ [])
with_note events n at [] due le hands is = (
  record { from = le; below = omega arith; none = hands; is = is },
  λ k from below. absurd (omega arith),
)
with_note events n at (note ∷ notes) due le hands is = (
  record {
    from = hands.0.from;
    below = let h = hands.0.below in omega arith;
    none = hands.0.none;
    is = hands.0.is;
  },
  with_note events (note.step + 1) at notes due (let h = hands.0.below in omega arith) hands.1 is,
)

-- the notes of the steps so far, once a step more was noted
pub hands_noted : (events : List Recorded) (n at next : ℕ) (notes : List Noted) (due : Due) → n ≤ at
    → next ≤ length notes → Hands events n at (drop next notes) → due ≡ due_at events at
    → Hands events n (at + 1) (drop next (noted at due notes))
hands_noted events n at next notes due le within hands is = by (is_nothing due) refl
  where
    by : (none : Bool) → is_nothing due ≡ none → Hands events n (at + 1)
        (drop next (if none then notes else notes ++ record { step = at; due = due } ∷ []))
    by true e = without events n at (drop next notes) le hands (sym is ∙ nothing_is due e)
    by false e = rw (drop-append-le next notes (record { step = at; due = due } ∷ []) within)
        (with_note events n at (drop next notes) due le hands is)

pub longer : (at : ℕ) (due : Due) (notes : List Noted) → length notes ≤ length (noted at due notes)
longer at due notes = by (is_nothing due)
  where
    by : (none : Bool) → length notes ≤ length (if none then notes else notes ++ record { step = at; due = due } ∷ [])
    by true = omega arith
    by false = rw (length-append notes (record { step = at; due = due } ∷ [])) (omega arith)

-- no step has come yet
pub hands_first : (events : List Recorded) (n : ℕ) (notes : List Noted) → Hands events n n (drop (length notes) notes)
hands_first events n notes = rw (drop-length notes) (λ k from below. absurd (omega arith))
