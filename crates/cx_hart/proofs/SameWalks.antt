-- Two memories of one length that agree on the entries that a walk reads give the same walk, and the same looks at
-- them.
use Rattle.std.proofs.Common.{◌≡◌, ℕ, zero, suc, ◌+◌, ◌-◌, ◌/◌, ◌^◌, ◌<◌, ◌≤◌, Bool, true, false, cond, nat_lt, nat_le}
use Rattle.std.proofs.Common.{List, [], ◌∷◌, ◌++◌, length, map, take, Option, None, Some, Result, Ok, Err, IfOk, IsSome}
use Rattle.std.proofs.Common.{unwrap_or, refl, sym, ap, subst, ◌∙◌, arith, length-append}
use borrow.Author.Tests.{leb-false, leb-true, le-leb, ltb-false, ltb-true}
use Rattle.std.specs.Prelude.{slice_get, slice_index}
use Rattle.std.proofs.lemmas.List.{get_or-append-add, get_or-take, get_or_append_left, get_or_past, length-take}
use Rattle.std.proofs.lemmas.Option.{slice_get-get_or, slice_get_past}
use Rattle.cx_csr.specs.declared.state.State.{State}
use Rattle.cx_machine.specs.Machine.{pages_of}
use Rattle.cx_csr.specs.Rules.{is_in_ram}
use Rattle.cx_map.specs.Map.{IsInRam, ram_index, size_of_pages}
use Rattle.cx_map.specs.declared.TheConstants.{PAGE_SIZE, RAM_START}
use Rattle.cx_ram.proofs.LoadsAndWrites.{loaded-agree}
use Rattle.cx_walk.specs.Agreement.{AgreesOn}
use Rattle.cx_walk.specs.Bytes.{ram_bytes, word_in}
use Rattle.cx_walk.specs.Walks.{address_of, walk_answer, place_at, trail_of, walk_of}
use Rattle.cx_walk.specs.declared.kind.Kind.{Kind}
use Rattle.cx_walk.specs.declared.kind.Kind.TheVariants.{Fetch}
use Rattle.cx_walk.specs.declared.walk.Place.{Place}
use Rattle.cx_walk.specs.declared.walk.Walk.{Walk}
use Rattle.cx_walk.proofs.Branches.{both_true, either}
use Rattle.cx_walk.proofs.Listed.{places_inside}
use Rattle.cx_walk.proofs.SameTrail.{same_walk}
use Rattle.cx_hart.specs.Fetch.{entry_at, look_at, place_or_trap, translated, walk_in, walk_looks}
use Rattle.cx_hart.specs.Looks.{Entry, First, Look, Rest, Word}
use Rattle.cx_ram.specs.Agreement.{AgreeOn}
use Rattle.cx_hart.specs.Phases.{Phase}
use Rattle.cx_hart.specs.Reads.{indices, ram_indices}
use Rattle.cx_hart.specs.Surroundings.{Surroundings}
use Rattle.cx_hart.specs.Touches.{part_value}
use Rattle.cx_hart.specs.declared.findings.Part.{Part}
use Rattle.cx_hart.proofs.RamWords.{word_inside, word_outside}

-- the bytes of RAM that a look reads
abbrev pub look_indices : Look → List ℕ
look_indices (Entry place entry) = ram_indices place 4
look_indices (Word t) = ram_indices t.pa t.len
look_indices (First t) = ram_indices t.pa t.len
look_indices (Rest t) = ram_indices t.pa t.len

-- the two memories agree on all that these looks read
abbrev pub AgreeOnLooks : List ℕ → List ℕ → List Look → Type 0
AgreeOnLooks p q [] = Unit {0}
AgreeOnLooks p q (look ∷ looks) = AgreeOn (look_indices look) p q × AgreeOnLooks p q looks

-- ---- agreement on parts of a list of indices

module _ (p q : List ℕ) where
  pub agree_front : (xs ys : List ℕ) → AgreeOn (xs ++ ys) p q → AgreeOn xs p q
  agree_front xs ys agree k d below =
      let longer : k < length (xs ++ ys) = omega (arith, length-append xs ys) in
      subst (λ i. slice_index p i ≡ slice_index q i) (get_or_append_left xs ys d k below) (agree k d longer)

  pub agree_back : (xs ys : List ℕ) → AgreeOn (xs ++ ys) p q → AgreeOn ys p q
  agree_back xs ys agree k d below =
      let longer : length xs + k < length (xs ++ ys) = omega (arith, length-append xs ys) in
      subst (λ i. slice_index p i ≡ slice_index q i) (get_or-append-add xs ys k d) (agree (length xs + k) d longer)

  pub agree_indices : (i n : ℕ) → AgreeOn (indices i n) p q → (k : ℕ) → k < n
      → slice_index p (i + k) ≡ slice_index q (i + k)
  agree_indices i zero agree k below = absurd (omega arith)
  agree_indices i (suc n) agree zero below = let e : i + 0 ≡ i = omega arith in rw e (agree 0 0 (omega arith))
  agree_indices i (suc n) agree (suc k) below =
      let e : i + suc k ≡ i + 1 + k = omega arith in
      rw e (agree_indices (i + 1) n (λ j d less. agree (suc j) d (omega arith)) k (omega arith))

  pub agree_place : (place len : ℕ) → 2 ^ 31 ≤ place → AgreeOn (ram_indices place len) p q → (k : ℕ) → k < len
      → slice_index p (place - 2 ^ 31 + k) ≡ slice_index q (place - 2 ^ 31 + k)
  agree_place place len low agree =
      agree_indices (place - 2 ^ 31) len (subst (λ b. AgreeOn (cond b (indices (place - 2 ^ 31) len) []) p q)
      (le-leb _ _ low) agree)

  -- each of the entries
  agree_entry : (places : List ℕ) → AgreeOnLooks p q (map (look_at p) places) → (j : ℕ) → j < length places
      → AgreeOn (ram_indices (slice_index places j) 4) p q
  agree_entry [] agree j below = absurd (omega arith)
  agree_entry (place ∷ places) agree zero below = agree.0
  agree_entry (place ∷ places) agree (suc j) below = agree_entry places agree.1 j (omega arith)

  pub value_same : (part : Part) → 2 ^ 31 ≤ part.pa → AgreeOn (ram_indices part.pa part.len) p q
      → part_value q part ≡ part_value p part
  value_same part low agree =
      sym (loaded-agree p q (ram_index part.pa) part.len (agree_place part.pa part.len low agree))

-- ---- words of RAM

module _ (p q : List ℕ) (size : length q ≡ length p) where
  word_both : (place : ℕ) → IsInRam (length p) place 4 → AgreeOn (ram_indices place 4) p q
      → word_in (ram_bytes q) place ≡ word_in (ram_bytes p) place
  word_both place inside agree =
      let there : IsInRam (length q) place 4 = record { low = inside.low; high = omega (arith, inside.high) } in
      word_inside q place there
      ∙ (ap Some (sym (loaded-agree p q (ram_index place) 4 (agree_place p q place 4 inside.low agree)))
      ∙ sym (word_inside p place inside))

  word_neither : (place : ℕ) → ¬ (IsInRam (length p) place 4) → word_in (ram_bytes q) place ≡ word_in (ram_bytes p)
      place
  word_neither place outside =
      word_outside q place (λ inside. outside (record { low = inside.low; high = omega (arith, inside.high) }))
      ∙ sym (word_outside p place outside)

  word_by : (place : ℕ) (low high : Bool) → nat_le (2 ^ 31) place ≡ low → nat_le (place + 4) (2 ^ 31 + length p) ≡ high
      → AgreeOn (ram_indices place 4) p q → word_in (ram_bytes q) place ≡ word_in (ram_bytes p) place
  word_by place true true one two agree = word_both place (record { low = leb-true _ _ one; high = leb-true _ _ two })
      agree
  word_by place true false one two agree = let past : 2 ^ 31 + length p < place + 4 = leb-false _ _ two in
      word_neither place (λ inside. omega (arith, inside.high))
  word_by place false high one two agree = let below : place < 2 ^ 31 = leb-false _ _ one in
      word_neither place (λ inside. omega (arith, inside.low))

  pub entry_same : (place : ℕ) → AgreeOn (ram_indices place 4) p q → entry_at q place ≡ entry_at p place
  entry_same place agree =
      ap (λ o. unwrap_or o 0) (word_by place (nat_le (2 ^ 31) place) (nat_le (place + 4) (2 ^ 31 + length p)) refl refl
      agree)

  looks_same : (places : List ℕ) → AgreeOnLooks p q (map (look_at p) places)
      → map (look_at q) places ≡ map (look_at p) places
  looks_same [] agree = refl
  looks_same (place ∷ places) agree = ap (λ e. Entry place e ∷ map (look_at q) places) (entry_same place agree.0)
      ∙ ap (λ l. look_at p place ∷ l) (looks_same places agree.1)

  -- ---- the view of a walk

  byte_same : (place k : ℕ) → IsInRam (length p) place 4 → AgreeOn (ram_indices place 4) p q → k < 4
      → ram_bytes q (place + k) ≡ ram_bytes p (place + k)
  unfolding ram_bytes
  byte_same place k inside agree below =
      let low : 2 ^ 31 ≤ place = inside.low in
      let here : 2 ^ 31 ≤ place + k = omega arith in
      let at : place + k - 2 ^ 31 ≡ place - 2 ^ 31 + k = omega arith in
      let within : place - 2 ^ 31 + k < length p = omega (arith, inside.high) in
      let same : slice_index p (place - 2 ^ 31 + k) ≡ slice_index q (place - 2 ^ 31 + k) =
      agree_place p q place 4 low agree k below in
      rw (le-leb _ _ here, at)
      (slice_get-get_or q (place - 2 ^ 31 + k) 0 (omega arith)
      ∙ (ap Some (sym same) ∙ sym (slice_get-get_or p (place - 2 ^ 31 + k) 0 within)))

  none_past : (j : ℕ) (b : Bool) → nat_lt j (length p) ≡ b → slice_get p j ≡ None → slice_get q j ≡ None
  none_past j true e none = absurd (let some = slice_get-get_or p j 0 (ltb-true _ _ e) in cc)
  none_past j false e none = let past : length p ≤ j = ltb-false _ _ e in slice_get_past q j (omega arith)

  none_by : (place : ℕ) (b : Bool) → cond b (slice_get p (place - 2 ^ 31)) None ≡ None
      → cond b (slice_get q (place - 2 ^ 31)) None ≡ None
  none_by place true none = none_past (place - 2 ^ 31) (nat_lt (place - 2 ^ 31) (length p)) refl none
  none_by place false none = refl

  none_same : (place : ℕ) → ram_bytes p place ≡ None → ram_bytes q place ≡ None
  unfolding ram_bytes
  none_same place = none_by place (nat_le (2 ^ 31) place)

  some_inside : (place : ℕ) (low high : Bool) → nat_le (2 ^ 31) place ≡ low → nat_le (place + 4) (2 ^ 31 + length p)
      ≡ high → IsSome (word_in (ram_bytes p) place) → IsInRam (length p) place 4
  some_inside place true true one two some = record { low = leb-true _ _ one; high = leb-true _ _ two }
  some_inside place true false one two some =
      let past : 2 ^ 31 + length p < place + 4 = leb-false _ _ two in
      absurd (let none = word_outside p place (λ inside. omega (arith, inside.high)) in let wrong = rw none at some in
      cc)
  some_inside place false high one two some =
      let below : place < 2 ^ 31 = leb-false _ _ one in
      absurd (let none = word_outside p place (λ inside. omega (arith, inside.low)) in let wrong = rw none at some in
      cc)

  inside_of : (place : ℕ) → IsSome (word_in (ram_bytes p) place) → IsInRam (length p) place 4
  inside_of place some = some_inside place (nat_le (2 ^ 31) place) (nat_le (place + 4) (2 ^ 31 + length p)) refl refl
      some

  -- a place of a walk is one of those that it lists
  listed : (walk : Walk) (j : ℕ) → j < walk.count → IsSome (word_in (ram_bytes p) (slice_index walk.places j))
      → AgreeOnLooks p q (walk_looks p walk) → AgreeOn (ram_indices (slice_index walk.places j) 4) p q
  listed walk j below some agree = by (nat_lt j (length walk.places)) refl
    where
      by : (b : Bool) → nat_lt j (length walk.places) ≡ b → AgreeOn (ram_indices (slice_index walk.places j) 4) p q
      by true e =
          let here : j < length walk.places = ltb-true _ _ e in
          let less : j < length (take walk.count walk.places) = omega (arith, length-take walk.count walk.places) in
          subst (λ place. AgreeOn (ram_indices place 4) p q) (get_or-take walk.count walk.places j 0 below)
          (agree_entry p q (take walk.count walk.places) agree j less)
      by false e =
          let past : length walk.places ≤ j = ltb-false _ _ e in
          let zero_place : slice_index walk.places j ≡ 0 = get_or_past walk.places j 0 past in
          let inside = inside_of (slice_index walk.places j) some in
          absurd (omega (arith, inside.low))

  module _ (split : Bool) (given : Option ℕ) (s : State) where
    -- the same surroundings over a memory
    abbrev pub over : List ℕ → Surroundings
    over memory = record { split = split; given = given; memory = memory; state = s }

    walk_same : (kind : Kind) (va len : ℕ) → AgreeOnLooks p q (walk_looks p (walk_in (over p) kind va len))
        → walk_in (over q) kind va len ≡ walk_in (over p) kind va len
    unfolding walk_in
    walk_same kind va len agree =
        let walk : Walk = walk_of (word_in (ram_bytes p)) (pages_of p) s kind va len in
        let agrees : AgreesOn (ram_bytes p) (ram_bytes q) walk = record {
          places = λ j below k less.
              let some = places_inside (word_in (ram_bytes p)) (pages_of p) s kind va len j below in
              byte_same (slice_index walk.places j) k (inside_of (slice_index walk.places j) some)
              (listed walk j below some agree) less;
          outside = none_same;
        } in
        ap (λ n. walk_of (word_in (ram_bytes q)) (n / PAGE_SIZE) s kind va len) size
        ∙ same_walk (ram_bytes p) (ram_bytes q) (pages_of p) s kind va len agrees

    pub translated_same : (kind : Kind) (va len : ℕ) → AgreeOnLooks p q (translated (over p) kind va len).looks
        → translated (over q) kind va len ≡ translated (over p) kind va len
    unfolding translated
    translated_same kind va len agree =
        let walk : Walk = walk_in (over p) kind va len in
        let By : List Look → Walk → Phase Place = λ looks w. record { looks = looks; end = place_or_trap va w.answer }
        in
        ap (λ (w : Walk). By (walk_looks q w) w) (walk_same kind va len agree)
        ∙ ap (λ l. By l walk) (looks_same (take walk.count walk.places) agree)

-- ---- a fetch is in RAM, whatever the address

fetch_low_at : (pages len address : ℕ) → IfOk (place_at pages Fetch len address) (λ place. 2 ^ 31 ≤ address_of place)
unfolding place_at
fetch_low_at pages len address =
    let P : Result Place ℕ → Type 0 = λ r. IfOk r (λ place. 2 ^ 31 ≤ address_of place) in
    either P (is_in_ram (size_of_pages pages) address len) _ _
    (λ inside. leb-true _ _ (both_true (nat_le RAM_START address)
    (nat_le (address + len) (RAM_START + size_of_pages pages)) inside).0) (λ outside. tt)

fetch_low_of : (pages len : ℕ) (outcome : Result ℕ ℕ)
    → IfOk (walk_answer pages Fetch len outcome) (λ place. 2 ^ 31 ≤ address_of place)
fetch_low_of pages len (Ok address) = fetch_low_at pages len address
fetch_low_of pages len (Err cause) = tt

fetch_low : (here : Surroundings) (va len : ℕ)
    → IfOk (walk_in here Fetch va len).answer (λ place. 2 ^ 31 ≤ address_of place)
unfolding walk_in walk_of
fetch_low here va len = fetch_low_of (pages_of here.memory) len (trail_of (word_in (ram_bytes here.memory)) here.state
    Fetch va).outcome

low_by : (va : ℕ) (r : Result Place ℕ) (place : Place) → IfOk r (λ place. 2 ^ 31 ≤ address_of place)
    → place_or_trap va r ≡ Ok place → 2 ^ 31 ≤ address_of place
low_by va (Ok other) place low e = let same : other ≡ place = cc in subst (λ (p : Place). 2 ^ 31 ≤ address_of p) same
    low
low_by va (Err cause) place low e = absurd cc

pub fetched_low : (here : Surroundings) (va len : ℕ) (place : Place) → (translated here Fetch va len).end ≡ Ok place
    → 2 ^ 31 ≤ address_of place
unfolding translated
fetched_low here va len place e = low_by va (walk_in here Fetch va len).answer place (fetch_low here va len) e
