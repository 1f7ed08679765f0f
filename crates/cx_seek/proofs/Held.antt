-- Moments that a machine can be put back to: one more, and one fewer.
use Rattle.std.proofs.Common.{◌≡◌, ◌≢◌, ◌⊎◌, ℕ, zero, suc, ◌+◌, ◌<◌, ◌≤◌, List, [], ◌∷◌, ◌++◌, get_or, length}
use Rattle.std.proofs.Common.{Option, None, Some, IsSome, inl, inr, refl, sym, ap, subst, ◌∙◌, arith}
use Rattle.std.specs.List.{remove, slice_get}
use Rattle.std.specs.Option.{option_map}
use Rattle.std.proofs.lemmas.Bool.{cases_lt}
use Rattle.std.proofs.lemmas.List.Edits.{length-remove}
use Rattle.std.proofs.lemmas.Option.{slice_get_read, slice_get_within}
use Rattle.cx_hart.specs.Whole.{AtMoment, IsLive, machine_at}
use Rattle.cx_machine.specs.Machine.{MachineState}
use Rattle.cx_pages.specs.Memories.{SameOthers}
use Rattle.cx_ram.specs.PhysicalMemory.{SavedMemory}
use Rattle.cx_seek.specs.Checkpoints.{AreHeld, IsHeld, Saves}
use Rattle.cx_seek.specs.Thinned.{IsThinned, SameMoments}
use Rattle.cx_seek.specs.declared.checkpoint.Checkpoint.{Checkpoint}

-- ---- lists

pub get_pushed : {X : Type 0} (xs : List X) (x y : X) (j : ℕ) → slice_get (xs ++ x ∷ []) j ≡ Some y
    → (slice_get xs j ≡ Some y) ⊎ ((j ≡ length xs) × (y ≡ x))
get_pushed [] x y zero is = inr (refl, cc)
get_pushed [] x y (suc j) is = cc
get_pushed (z ∷ xs) x y zero is = inl is
get_pushed (z ∷ xs) x y (suc j) is = elim (get_pushed xs x y j is) [
  | inl there ↦ inl there
  | inr last ↦ inr (ap suc last.0, last.1)
]

get_kept : {X : Type 0} (xs : List X) (x : X) (j : ℕ) → j < length xs → slice_get (xs ++ x ∷ []) j ≡ slice_get xs j
get_kept [] x j below = absurd (omega arith)
get_kept (z ∷ xs) x zero below = refl
get_kept (z ∷ xs) x (suc j) below = get_kept xs x j (omega arith)

get_below : {X : Type 0} (xs : List X) (i j : ℕ) → i < length xs → j < i
    → slice_get (remove xs i) j ≡ slice_get xs j
get_below [] i j within below = absurd (omega arith)
get_below (x ∷ xs) zero j within below = absurd (omega arith)
get_below (x ∷ xs) (suc i) zero within below = refl
get_below (x ∷ xs) (suc i) (suc j) within below = get_below xs i j (omega arith) (omega arith)

get_above : {X : Type 0} (xs : List X) (i j : ℕ) → i < length xs → i ≤ j
    → slice_get (remove xs i) j ≡ slice_get xs (suc j)
get_above [] i j within above = absurd (omega arith)
get_above (x ∷ xs) zero j within above = refl
get_above (x ∷ xs) (suc i) zero within above = absurd (omega arith)
get_above (x ∷ xs) (suc i) (suc j) within above = get_above xs i j (omega arith) (omega arith)

-- ---- one of each two is taken out

pub nothing_thinned : {X : Type 0} (xs : List X) → IsThinned 0 xs xs
nothing_thinned xs = record {
  count = omega arith;
  below = λ j le. (let e : j ≡ 0 = omega arith in rw e refl);
  above = λ j more. ap (slice_get xs) (omega arith);
}

pub one_thinned : {X : Type 0} (removed : ℕ) (old now : List X) → IsThinned removed old now
    → suc removed < length now → IsThinned (removed + 1) old (remove now (suc removed))
one_thinned removed old now is within = record {
  count = let c = is.count in let l = length-remove now (suc removed) within in omega (arith, c, l);
  below = λ j le. elim (cases_lt j (suc removed)) [
    | inl less ↦ get_below now (suc removed) j within less ∙ is.below j (omega arith)
    | inr more ↦ (let e : j ≡ suc removed = omega arith in
        get_above now (suc removed) j within (omega arith) ∙ is.above (suc j) (omega arith)
        ∙ ap (slice_get old) (omega arith))
  ];
  above = λ j more. get_above now (suc removed) j within (omega arith) ∙ is.above (suc j) (omega arith)
      ∙ ap (slice_get old) (omega arith);
}

-- ---- one more

pub another_snap : (saved : List (Option SavedMemory)) (x y : AtMoment) → IsLive saved x → ¬ IsLive saved y → x.snap ≢ y.snap
another_snap saved x y live none = λ same. none (subst (λ (n : ℕ). IsSome (get_or saved n None)) same live)

still_live : (old new : List (Option SavedMemory)) (number : ℕ) (x : AtMoment) → SameOthers number old new
    → x.snap ≢ number → IsLive old x → IsLive new x
still_live old new number x others other live = subst IsSome (sym (others x.snap other)) live

-- the machine of another moment stays
pub same_moment : (old new : List (Option SavedMemory)) (number : ℕ) (x : AtMoment) → SameOthers number old new
    → x.snap ≢ number → machine_at new x ≡ machine_at old x
same_moment old new number x others other =
    ap (λ (o : Option SavedMemory). option_map (λ s. record { state = x.state; memory = s.memory }) o)
    (others x.snap other)

live_at : (saved : List (Option SavedMemory)) (x : AtMoment) (m : MachineState) → machine_at saved x ≡ Some m
    → IsLive saved x
live_at saved x m = by (get_or saved x.snap None)
  where
    by : (o : Option SavedMemory) → option_map (λ s. record { state = x.state; memory = s.memory }) o ≡ Some m
        → IsSome o
    by None is = cc
    by (Some s) is = refl

pub held_saved : (pages next : ℕ) (m : MachineState) (before now : List (Option SavedMemory))
    (old new : List Checkpoint) → Saves pages next m before now old new → AreHeld pages before old
    → AreHeld pages now new
held_saved pages next m before now old new saves held =
    subst (AreHeld pages now) (sym saves.more) (record { held = each; apart = apart })
  where
    fresh : Checkpoint
    fresh = record { moment = saves.moment; next = next }

    other : (c : Checkpoint) (j : ℕ) → slice_get old j ≡ Some c → c.moment.snap ≢ saves.moment.snap
    other c j is = another_snap before c.moment saves.moment (held.held j c is).live saves.fresh

    each : (j : ℕ) (c : Checkpoint) → slice_get (old ++ fresh ∷ []) j ≡ Some c → IsHeld pages now c.moment
    each j c is = elim (get_pushed old fresh c j is) [
      | inl there ↦ record {
        live = still_live before now saves.moment.snap c.moment saves.others (other c j there)
            (held.held j c there).live;
        keeps = (held.held j c there).keeps;
      }
      | inr last ↦ subst (λ (d : Checkpoint). IsHeld pages now d.moment) (sym last.1) (record {
        live = live_at now saves.moment m saves.is;
        keeps = saves.keeps;
      })
    ]

    apart : (i j : ℕ) (c d : Checkpoint) → slice_get (old ++ fresh ∷ []) i ≡ Some c
        → slice_get (old ++ fresh ∷ []) j ≡ Some d → c.moment.snap ≡ d.moment.snap → i ≡ j
    apart i j c d at_i at_j same = elim (get_pushed old fresh c i at_i) [
      | inl c_there ↦ elim (get_pushed old fresh d j at_j) [
        | inl d_there ↦ held.apart i j c d c_there d_there same
        | inr d_last ↦ absurd (other c i c_there (same ∙ ap (λ (e : Checkpoint). e.moment.snap) d_last.1))
      ]
      | inr c_last ↦ elim (get_pushed old fresh d j at_j) [
        | inl d_there ↦ absurd (other d j d_there (sym same ∙ ap (λ (e : Checkpoint). e.moment.snap) c_last.1))
        | inr d_last ↦ c_last.0 ∙ sym d_last.0
      ]
    ]

-- ---- one fewer

-- where an element of the list that is left stood
came_from : {X : Type 0} (xs : List X) (i j : ℕ) (x : X) → i < length xs → slice_get (remove xs i) j ≡ Some x
    → (k : ℕ) × ((slice_get xs k ≡ Some x) × ((k ≢ i) × ((j < i → k ≡ j) × (i ≤ j → k ≡ suc j))))
came_from xs i j x within is = elim (cases_lt j i) [
  | inl below ↦ (
    j,
    (
      sym (get_below xs i j within below) ∙ is,
      (
        λ e. absurd (omega arith),
        (λ less. refl, λ more. absurd (omega arith)),
      ),
    ),
  )
  | inr above ↦ (
    suc j,
    (
      sym (get_above xs i j within above) ∙ is,
      (
        λ e. absurd (omega arith),
        (λ less. absurd (omega arith), λ more. refl),
      ),
    ),
  )
]

same_index : (i j k l a : ℕ) → (k ≡ l) → ((j < i → k ≡ j) × (i ≤ j → k ≡ suc j))
    → ((a < i → l ≡ a) × (i ≤ a → l ≡ suc a)) → j ≡ a
same_index i j k l a same first second = elim (cases_lt j i) [
  | inl below ↦ elim (cases_lt a i) [
    | inl less ↦ (let e = first.0 below in let f = second.0 less in omega arith)
    | inr more ↦ (let e = first.0 below in let f = second.1 more in omega arith)
  ]
  | inr above ↦ elim (cases_lt a i) [
    | inl less ↦ (let e = first.1 above in let f = second.0 less in omega arith)
    | inr more ↦ (let e = first.1 above in let f = second.1 more in omega arith)
  ]
]

pub held_forgotten : (pages i : ℕ) (gone : Checkpoint) (before now : List (Option SavedMemory)) (old : List Checkpoint)
    → slice_get old i ≡ Some gone → SameOthers gone.moment.snap before now → AreHeld pages before old
    → AreHeld pages now (remove old i) × SameMoments before now (remove old i)
held_forgotten pages i gone before now old at others held = (record { held = each; apart = apart }, same)
  where
    within : i < length old
    within = slice_get_within old i gone at

    other : (k : ℕ) (c : Checkpoint) → slice_get old k ≡ Some c → k ≢ i → c.moment.snap ≢ gone.moment.snap
    other k c is apart = λ e. apart (held.apart k i c gone is at e)

    each : (j : ℕ) (c : Checkpoint) → slice_get (remove old i) j ≡ Some c → IsHeld pages now c.moment
    each j c is =
        let from = came_from old i j c within is in
        record {
          live = still_live before now gone.moment.snap c.moment others (other from.0 c from.1.0 from.1.1.0)
              (held.held from.0 c from.1.0).live;
          keeps = (held.held from.0 c from.1.0).keeps;
        }

    same : SameMoments before now (remove old i)
    same j c is =
        let from = came_from old i j c within is in
        same_moment before now gone.moment.snap c.moment others (other from.0 c from.1.0 from.1.1.0)

    apart : (a b : ℕ) (c d : Checkpoint) → slice_get (remove old i) a ≡ Some c → slice_get (remove old i) b ≡ Some d
        → c.moment.snap ≡ d.moment.snap → a ≡ b
    apart a b c d at_a at_b e =
        let x = came_from old i a c within at_a in
        let y = came_from old i b d within at_b in
        same_index i a x.0 y.0 b (held.apart x.0 y.0 c d x.1.0 y.1.0 e) x.1.1.1 y.1.1.1

pub same_moments_on : (i : ℕ) (first before now : List (Option SavedMemory)) (old : List Checkpoint) → i < length old
    → SameMoments first before old → SameMoments before now (remove old i) → SameMoments first now (remove old i)
same_moments_on i first before now old within earlier later = λ j c is.
    (let from = came_from old i j c within is in later j c is ∙ earlier from.0 c from.1.0)

-- a loop that forgets each second checkpoint goes on
pub thin_step : (pages removed i : ℕ) (gone : Checkpoint) (first before now : List (Option SavedMemory))
    (all old new : List Checkpoint) → i ≡ removed + 1 → i < length old → gone ≡ get_or old i gone → new ≡ remove old i
    → SameOthers gone.moment.snap before now → IsThinned removed all old → AreHeld pages before old
    → SameMoments first before old
    → IsThinned (removed + 1) all new × (AreHeld pages now new × SameMoments first now new)
thin_step pages removed i gone first before now all old new at within is made others thinned held same =
    let here : slice_get old i ≡ Some gone = slice_get_read old (length old) i gone refl within is in
    let gone_so = held_forgotten pages i gone before now old here others held in
    let index : i ≡ suc removed = omega arith in
    let thinner : IsThinned (removed + 1) all (remove old i) =
    subst (λ (k : ℕ). IsThinned (removed + 1) all (remove old k)) (sym index)
    (one_thinned removed all old thinned (omega (arith, within, index))) in (
      subst (IsThinned (removed + 1) all) (sym made) thinner,
      (
        subst (AreHeld pages now) (sym made) gone_so.0,
        subst (SameMoments first now) (sym made) (same_moments_on i first before now old within same gone_so.1),
      ),
    )
