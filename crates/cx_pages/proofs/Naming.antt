-- How often tables name a frame.
use Rattle.std.proofs.Common.{◌≡◌, ◌≢◌, ℕ, suc, ◌+◌, ◌-◌, ◌*◌, ◌<◌, ◌≤◌, List, [], ◌∷◌, ◌++◌, length, get_or, set, eqb}
use Rattle.std.proofs.Common.{take, refl, sym, ap, ◌∙◌, subst, inl, inr, arith, length-set}
use Rattle.std.proofs.lemmas.Bool.{cases_eq, cases_lt, ne_eqb, eq-eqb}
use Rattle.std.proofs.lemmas.List.{get_or-set_same, get_or-set_other}
use Rattle.std.proofs.lemmas.List.Sums.{sum_by-set, sum_by-cons, sum_by_more, sum_by-take-le, sum_by_push}
use Rattle.std.proofs.lemmas.List.Sums.{get_or-le-sum_by, count_by-le-length, sum_by-le}
use Rattle.std.specs.Prelude.{All}
use Rattle.cx_pages.specs.Tables.{is_frame, names, all_names, extra_names, AreAtHome}

pub is_frame-same : (f : ℕ) → is_frame f f ≡ 1
unfolding is_frame
is_frame-same f = rw (eq-eqb f f refl) refl

pub is_frame-other : (f g : ℕ) → g ≢ f → is_frame f g ≡ 0
unfolding is_frame
is_frame-other f g other = rw (ne_eqb g f other) refl

pub names-set : (f : ℕ) (table : List ℕ) (i g : ℕ) → i < length table
    → names f (set table i g) + is_frame f (get_or table i 0) ≡ names f table + is_frame f g
unfolding names
names-set f table i g here = sum_by-set (is_frame f) table i g 0 here

pub names-cons : (f g : ℕ) (table : List ℕ) → names f (g ∷ table) ≡ is_frame f g + names f table
unfolding names
names-cons f g table = sum_by-cons (is_frame f) g table

pub names-nil : (f : ℕ) → names f [] ≡ 0
unfolding names
names-nil f = refl

pub names_more : (f : ℕ) (table : List ℕ) (i : ℕ) → i < length table
    → names f (take (i + 1) table) ≡ names f (take i table) + is_frame f (get_or table i 0)
unfolding names
names_more f table i here = sum_by_more (is_frame f) table i 0 here

pub names_take : (f : ℕ) (table : List ℕ) (i : ℕ) → names f (take i table) ≤ names f table
unfolding names
names_take f table i = sum_by-take-le (is_frame f) table i

-- A table names the frame at each of its places.
pub names_here : (f : ℕ) (table : List ℕ) (i : ℕ) → i < length table → get_or table i 0 ≡ f → 1 ≤ names f table
unfolding names
names_here f table i here e = let one = is_frame-same f in let at : is_frame f (get_or table i 0) ≡ 1 = rw e one in
    let le = get_or-le-sum_by (is_frame f) table i 0 here in omega arith

-- Where a table names a frame, it does so at some place.
pub named_at : (f : ℕ) (table : List ℕ) → 1 ≤ names f table → (i : ℕ) × (i < length table) × (get_or table i 0 ≡ f)
named_at f [] some = let none = names-nil f in absurd (omega arith)
named_at f (g ∷ table) some = elim (cases_eq g f) [
  | inl e ↦ (0, omega arith, e)
  | inr other ↦ let c = names-cons f g table in let zero' = is_frame-other f g other in let rest =
      named_at f table (omega arith) in
      (suc rest.0, omega (arith, rest.1), rest.2)
]

-- A pass over a table that counts its names, one step on.
pub counted_more : (old counts table : List ℕ) (i g : ℕ) → i < length table → get_or table i 0 ≡ g → g < length counts
    → ((f : ℕ) → get_or counts f 0 ≡ get_or old f 0 + names f (take i table))
    → (f : ℕ) → get_or (set counts g (get_or counts g 0 + 1)) f 0 ≡ get_or old f 0 + names f (take (i + 1) table)
counted_more old counts table i g here e inside so_far f = elim (cases_eq f g) [
  | inl same ↦ let more = names_more f table i here in let one : is_frame f (get_or table i 0) ≡ 1 =
      rw (e, same) (is_frame-same g) in
      let at : get_or (set counts g (get_or counts g 0 + 1)) f 0 ≡ get_or counts f 0 + 1 =
      rw same (get_or-set_same counts g (get_or counts g 0 + 1) 0 inside) in
      omega (arith, so_far f)
  | inr other ↦ let more = names_more f table i here in let none : is_frame f (get_or table i 0) ≡ 0 =
      rw e (is_frame-other f g (λ q. other (sym q))) in
      let at = get_or-set_other counts g f (get_or counts g 0 + 1) 0 other in
      omega (arith, so_far f)
]

-- A pass over a table that takes its names away, one step on.
pub counted_less : (old counts table : List ℕ) (i g : ℕ) → i < length table → get_or table i 0 ≡ g → g < length counts
    → 1 ≤ get_or counts g 0
    → ((f : ℕ) → get_or counts f 0 + names f (take i table) ≡ get_or old f 0)
    → (f : ℕ) → get_or (set counts g (get_or counts g 0 - 1)) f 0 + names f (take (i + 1) table) ≡ get_or old f 0
counted_less old counts table i g here e inside some so_far f = elim (cases_eq f g) [
  | inl same ↦ let more = names_more f table i here in let one : is_frame f (get_or table i 0) ≡ 1 =
      rw (e, same) (is_frame-same g) in
      let at : get_or (set counts g (get_or counts g 0 - 1)) f 0 ≡ get_or counts f 0 - 1 =
      rw same (get_or-set_same counts g (get_or counts g 0 - 1) 0 inside) in
      let some' : 1 ≤ get_or counts f 0 = rw same some in
      omega (arith, so_far f)
  | inr other ↦ let more = names_more f table i here in let none : is_frame f (get_or table i 0) ≡ 0 =
      rw e (is_frame-other f g (λ q. other (sym q))) in
      let at = get_or-set_other counts g f (get_or counts g 0 - 1) 0 other in
      omega (arith, so_far f)
]

-- the whole table has as many names of a frame as its first places and the next one have
pub names_next : (f : ℕ) (table : List ℕ) (i : ℕ) → i < length table → get_or table i 0 ≡ f
    → names f (take i table) + 1 ≤ names f table
names_next f table i here e = let more = names_more f table i here in let one : is_frame f (get_or table i 0) ≡ 1 =
    rw e (is_frame-same f) in let le = names_take f table (i + 1) in omega arith

pub names-le-length : (f : ℕ) (table : List ℕ) → names f table ≤ length table
unfolding names is_frame
names-le-length f table = count_by-le-length (λ g. eqb g f) table

pub extra_names-zero : extra_names 0 ≡ 2
unfolding extra_names
extra_names-zero = refl

pub extra_names-other : (f : ℕ) → f ≢ 0 → extra_names f ≡ 0
unfolding extra_names
extra_names-other f other = rw (ne_eqb f 0 other) refl

-- One table is a part of all.
pub names-le-all : (f : ℕ) (tables : List (List ℕ)) (n : ℕ) → n < length tables
    → names f (get_or tables n []) ≤ all_names f tables
unfolding all_names
names-le-all f tables n here = get_or-le-sum_by (names f) tables n [] here

pub all_names-set : (f : ℕ) (tables : List (List ℕ)) (n : ℕ) (table : List ℕ) → n < length tables
    → all_names f (set tables n table) + names f (get_or tables n []) ≡ all_names f tables + names f table
unfolding all_names
all_names-set f tables n table here = sum_by-set (names f) tables n table [] here

pub all_names-cons : (f : ℕ) (table : List ℕ) (tables : List (List ℕ))
    → all_names f (table ∷ tables) ≡ names f table + all_names f tables
unfolding all_names
all_names-cons f table tables = sum_by-cons (names f) table tables

pub all_names-nil : (f : ℕ) → all_names f [] ≡ 0
unfolding all_names
all_names-nil f = refl

pub all_names-push : (f : ℕ) (tables : List (List ℕ)) (table : List ℕ) → all_names f (tables ++ table ∷ [])
    ≡ all_names f tables + names f table
unfolding all_names
all_names-push f tables table = sum_by_push (names f) tables table

-- No table has more names than the largest is long.
pub all_names-le : (f most : ℕ) (tables : List (List ℕ)) → All (λ table. length table ≤ most) tables
    → all_names f tables ≤ length tables * most
unfolding all_names
all_names-le f most tables short =
    sum_by-le (names f) most tables (λ k d here. let le = names-le-length f (get_or tables k d) in
    omega (arith, short k d here))

-- Where tables name a frame, one of them does so at some place.
pub all_named_at : (f : ℕ) (tables : List (List ℕ)) → 1 ≤ all_names f tables
    → (n : ℕ) × ((i : ℕ) × ((n < length tables) × (i < length (get_or tables n []))
    × (get_or (get_or tables n []) i 0 ≡ f)))
all_named_at f [] some = let none = all_names-nil f in absurd (omega arith)
all_named_at f (table ∷ tables) some = elim (cases_lt 0 (names f table)) [
  | inl named ↦ let at = named_at f table (omega arith) in (0, (at.0, (omega arith, at.1, at.2)))
  | inr none ↦ let c = all_names-cons f table tables in let rest = all_named_at f tables (omega arith) in
      (suc rest.0, (rest.1.0, (omega (arith, rest.1.1.0), rest.1.1.1, rest.1.1.2)))
]

-- A frame that is at home in a table stands there once.
pub names_once : (home : ℕ → ℕ) (table : List ℕ) (i f : ℕ) → AreAtHome home table → i < length table
    → get_or table i 0 ≡ f → f ≢ 0 → names f table ≡ 1
names_once home table i f at_home here e some =
    let s = names-set f table i 0 here in
    let one : is_frame f (get_or table i 0) ≡ 1 = rw e (is_frame-same f) in
    let zero' : is_frame f 0 ≡ 0 = is_frame-other f 0 (λ q. some (sym q)) in
    elim (cases_lt 0 (names f (set table i 0))) [
      | inl more ↦
          let at = named_at f (set table i 0) (omega arith) in
          let j : ℕ = at.0 in
          let other : j ≢ i = λ same. some (sym at.2 ∙ ap (λ (k : ℕ). get_or (set table i 0) k 0) same
          ∙ get_or-set_same table i 0 0 here) in
          let there : get_or table j 0 ≡ f = sym (get_or-set_other table i j 0 0 other) ∙ at.2 in
          let inside : j < length table = subst (λ (n : ℕ). j < n) (length-set table i 0) at.1 in
          let one' : home f ≡ j =
          subst (λ (g : ℕ). home g ≡ j) there (at_home j inside (λ none. some (sym there ∙ none))) in
          let two : home f ≡ i = subst (λ (g : ℕ). home g ≡ i) e (at_home i here (λ none. some (sym e ∙ none))) in
          absurd (other (sym one' ∙ two))
      | inr none ↦ omega arith
    ]
