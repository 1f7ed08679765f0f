-- The table of tables of pages, as it grows and as a page changes.
use Rattle.std.proofs.Common.{◌≡◌, ◌≢◌, ◌⊎◌, ℕ, zero, suc, ◌<◌, ◌≤◌, ◌/◌, ◌%◌, true, false, List, [], ◌∷◌, ◌++◌, length}
use Rattle.std.proofs.Common.{IfErr, Result, Ok, Err, Option, None, Some, is_some, refl, sym, ap, ◌∙◌, arith, inl, inr}
use Rattle.std.proofs.Common.{Bor}
use Rattle.std.specs.Global.{Box, Vec}
use Rattle.std.specs.Option.{option_and_then, option_copied, option_map}
use Rattle.std.specs.Prelude.{slice_get, slice_index_or, slice_set}
use Rattle.std.proofs.lemmas.Bool.{cases_eq}
use Rattle.cx_map.specs.declared.TheConstants.{PAGE_SIZE}
use Rattle.cx_shadow.specs.Cells.{byte_in, byte_of, is_held, page_numbered, page_in}
use Rattle.cx_shadow.specs.declared.page.Page.{Page}
use Rattle.cx_shadow.specs.declared.shadow.Shadow.{Shadow}

-- ---- lists

pub get_past : {X : Type 0} (xs : List X) (i : ℕ) → length xs ≤ i → slice_get xs i ≡ None
get_past [] i past = refl
get_past (x ∷ xs) zero past = absurd (omega (arith, past))
get_past (x ∷ xs) (suc i) past = get_past xs i (omega (arith, past))

-- with an element put behind
pub get_pushed : {X : Type 0} (xs : List X) (x : X) (i : ℕ)
    → (slice_get (xs ++ x ∷ []) i ≡ slice_get xs i) ⊎ ((slice_get (xs ++ x ∷ []) i ≡ Some x) × (slice_get xs i ≡ None))
get_pushed [] x zero = inr (refl, refl)
get_pushed [] x (suc i) = inl refl
get_pushed (y ∷ ys) x zero = inl refl
get_pushed (y ∷ ys) x (suc i) = get_pushed ys x i

pub get_set : {X : Type 0} (xs : List X) (i : ℕ) (x : X) → i < length xs → slice_get (slice_set xs i x) i ≡ Some x
get_set [] i x within = absurd (omega (arith, within))
get_set (y ∷ ys) zero x within = refl
get_set (y ∷ ys) (suc i) x within = get_set ys i x (omega (arith, within))

pub get_set_other : {X : Type 0} (xs : List X) (i j : ℕ) (x : X) → j ≢ i
    → slice_get (slice_set xs i x) j ≡ slice_get xs j
get_set_other [] i j x apart = refl
get_set_other (y ∷ ys) zero zero x apart = absurd (apart refl)
get_set_other (y ∷ ys) zero (suc j) x apart = refl
get_set_other (y ∷ ys) (suc i) zero x apart = refl
get_set_other (y ∷ ys) (suc i) (suc j) x apart = get_set_other ys i j x (λ e. apart (ap suc e))

-- ---- tables that grow

-- an empty place behind the others
pub place_pushed : (old new : Vec (Option (Box Page))) → new.items ≡ old.items ++ None ∷ [] → (i : ℕ)
    → page_in new i ≡ page_in old i
place_pushed old new pushed i = rw pushed (elim (get_pushed old.items None i) [
  | inl same ↦ rw same refl
  | inr fresh ↦ rw (fresh.0, fresh.1) refl
])

-- a region without a page behind the others
pub region_pushed : (old new : List (Vec (Option (Box Page)))) (region : Vec (Option (Box Page)))
    → new ≡ old ++ region ∷ [] → region.items ≡ [] → (n : ℕ) → page_numbered new n ≡ page_numbered old n
region_pushed old new region pushed blank n = rw pushed (elim (get_pushed old region (n / 1024)) [
  | inl same ↦ rw same refl
  | inr fresh ↦ rw (fresh.0, fresh.1, blank) refl
])

-- ---- what a shadow has, by its pages

pub no_page : (s : Shadow) (va : ℕ) (regions : List (Vec (Option (Box Page)))) → regions ≡ s.regions.items
    → page_numbered regions (va / PAGE_SIZE) ≡ None → byte_of s va ≡ None
unfolding byte_of
no_page s va regions is none = rw (sym is, none) refl

pub in_page : (s : Shadow) (va : ℕ) (regions : List (Vec (Option (Box Page)))) (p : Page)
    → regions ≡ s.regions.items → page_numbered regions (va / PAGE_SIZE) ≡ Some p
    → byte_of s va ≡ byte_in (va % PAGE_SIZE) p
unfolding byte_of
in_page s va regions p is some = rw (sym is, some) refl

pub held_by : (s : Shadow) (va : ℕ) (regions : List (Vec (Option (Box Page)))) → regions ≡ s.regions.items
    → is_held s va ≡ is_some (page_numbered regions (va / PAGE_SIZE))
unfolding is_held
held_by s va regions is = rw (sym is) refl

-- with the same pages it has the same bytes and the same room
pub same_bytes : (s t : Shadow) → ((n : ℕ) → page_numbered t.regions.items n ≡ page_numbered s.regions.items n) → (a : ℕ)
    → byte_of t a ≡ byte_of s a
unfolding byte_of
same_bytes s t same a = rw (same (a / PAGE_SIZE)) refl

pub same_room : (s t : Shadow) → ((n : ℕ) → page_numbered t.regions.items n ≡ page_numbered s.regions.items n) → (a : ℕ)
    → is_held t a ≡ is_held s a
unfolding is_held
same_room s t same a = rw (same (a / PAGE_SIZE)) refl

pub some_copied : {X : Type 0} (o : Option (Bor X)) → is_some (option_copied o) ≡ is_some o
some_copied None = refl
some_copied (Some r) = refl

-- ---- a page that is put in its place

pub get_is_index : {X : Type 0} (xs : List X) (i : ℕ) (d : X) → i < length xs
    → slice_get xs i ≡ Some (slice_index_or xs i d)
get_is_index [] i d within = absurd (omega (arith, within))
get_is_index (x ∷ xs) zero d within = refl
get_is_index (x ∷ xs) (suc i) d within = get_is_index xs i d (omega (arith, within))

pub refilled : (regions : List (Vec (Option (Box Page)))) (k : ℕ) (old region : Vec (Option (Box Page)))
    → k < length regions → old ≡ slice_index_or regions k old → ((i : ℕ) → page_in region i ≡ page_in old i)
    → (n : ℕ) → page_numbered (slice_set regions k region) n ≡ page_numbered regions n
refilled regions k old region within is same n = elim (cases_eq (n / 1024) k) [
  | inl here ↦ rw (here, get_set regions k region within, get_is_index regions k old within, sym is) (same (n % 1024))
  | inr other ↦ rw (get_set_other regions k (n / 1024) region other) refl
]

pub placed_here : (regions : List (Vec (Option (Box Page)))) (number : ℕ) (region new : Vec (Option (Box Page)))
    (slot : Option (Box Page)) → number / 1024 < length regions → number % 1024 < length region.items
    → new.items ≡ slice_set region.items (number % 1024) slot
    → page_numbered (slice_set regions (number / 1024) new) number ≡ option_map (λ b. b.value) slot
placed_here regions number region new slot within place is =
    rw (get_set regions (number / 1024) new within, is, get_set region.items (number % 1024) slot place) refl

pub placed_others : (regions : List (Vec (Option (Box Page)))) (number : ℕ)
    (old region new : Vec (Option (Box Page))) (slot : Option (Box Page))
    → number / 1024 < length regions → old ≡ slice_index_or regions (number / 1024) old
    → ((i : ℕ) → page_in region i ≡ page_in old i) → new.items ≡ slice_set region.items (number % 1024) slot
    → (n : ℕ) → n ≢ number → page_numbered (slice_set regions (number / 1024) new) n ≡ page_numbered regions n
placed_others regions number old region new slot within is same new_is n apart =
    elim (cases_eq (n / 1024) (number / 1024)) [
      | inl here ↦ rw (
        here,
        get_set regions (number / 1024) new within,
        get_is_index regions (number / 1024) old within,
        sym is,
        new_is,
        get_set_other region.items (number % 1024) (n % 1024) slot (λ e. apart (omega (arith, here, e))),
      ) (same (n % 1024))
      | inr other ↦ rw (get_set_other regions (number / 1024) (n / 1024) new other) refl
    ]

-- ---- what follows of bytes and room where one page is another

-- Only the page of this number may differ.
abbrev pub SameBut : ℕ → Shadow → Shadow → Type 0
SameBut number s t = (n : ℕ) → n ≢ number → page_numbered t.regions.items n ≡ page_numbered s.regions.items n

-- A page without a byte came where there was none.
pub came_bytes : (s t : Shadow) (number : ℕ) (p : Page) → SameBut number s t
    → page_numbered s.regions.items number ≡ None → page_numbered t.regions.items number ≡ Some p
    → ((i : ℕ) → byte_in i p ≡ None) → (a : ℕ) → byte_of t a ≡ byte_of s a
unfolding byte_of
came_bytes s t number p same none some blank a = elim (cases_eq (a / PAGE_SIZE) number) [
  | inl here ↦ rw (here, none, some) (blank (a % PAGE_SIZE))
  | inr other ↦ rw (same (a / PAGE_SIZE) other) refl
]

pub has_room : (t : Shadow) (number : ℕ) (p : Page) → page_numbered t.regions.items number ≡ Some p → (a : ℕ)
    → a / PAGE_SIZE ≡ number → is_held t a ≡ true
unfolding is_held
has_room t number p some a here = rw (here, some) refl

pub keeps_room : (s t : Shadow) (number : ℕ) (p : Page) → SameBut number s t
    → page_numbered t.regions.items number ≡ Some p → (a : ℕ) → is_held s a ≡ true → is_held t a ≡ true
unfolding is_held
keeps_room s t number p same some a held = elim (cases_eq (a / PAGE_SIZE) number) [
  | inl here ↦ rw (here, some) refl
  | inr other ↦ rw (same (a / PAGE_SIZE) other) held
]

pub alike : (s : Shadow) (va a : ℕ) → a / PAGE_SIZE ≡ va / PAGE_SIZE → is_held s a ≡ is_held s va
unfolding is_held
alike s va a here = rw here refl

none_of : {X : Type 0} (o : Option X) → is_some o ≡ false → o ≡ None
none_of None e = refl
none_of (Some x) e = absurd cc

pub none_held : (s : Shadow) (va : ℕ) → is_held s va ≡ false → page_numbered s.regions.items (va / PAGE_SIZE) ≡ None
unfolding is_held
none_held s va e = none_of (page_numbered s.regions.items (va / PAGE_SIZE)) e

-- ---- a byte that is put where there is room

pub page_held : (s : Shadow) (va : ℕ) → is_held s va ≡ true
    → is_some (page_numbered s.regions.items (va / PAGE_SIZE)) ≡ true
unfolding is_held
page_held s va held = held

region_there : {X : Type 0} (xs : List X) (k : ℕ) (then : X → Option Page)
    → is_some (option_and_then then (slice_get xs k)) ≡ true → k < length xs
region_there [] k then some = absurd cc
region_there (x ∷ xs) zero then some = omega arith
region_there (x ∷ xs) (suc k) then some = let below = region_there xs k then some in omega (arith, below)

pub region_within : (regions : List (Vec (Option (Box Page)))) (n : ℕ) → is_some (page_numbered regions n) ≡ true
    → n / 1024 < length regions
region_within regions n some = region_there regions (n / 1024) (λ r. page_in r (n % 1024)) some

place_there : (xs : List (Option (Box Page))) (i : ℕ)
    → is_some (option_and_then (option_map (λ b. b.value)) (slice_get xs i)) ≡ true → i < length xs
place_there xs i some = region_there xs i (option_map (λ b. b.value)) some

pub place_within : (regions : List (Vec (Option (Box Page)))) (n : ℕ) (region : Vec (Option (Box Page)))
    → region ≡ slice_index_or regions (n / 1024) region → is_some (page_numbered regions n) ≡ true
    → n % 1024 < length region.items
place_within regions n region is some =
    let within = region_within regions n some in
    place_there region.items (n % 1024) (rw (get_is_index regions (n / 1024) region within, sym is) at some)

-- the page at a place that is known
pub page_is : (regions : List (Vec (Option (Box Page)))) (n : ℕ) (region : Vec (Option (Box Page)))
    (slot : Option (Box Page)) → region ≡ slice_index_or regions (n / 1024) region
    → slot ≡ slice_index_or region.items (n % 1024) slot → n / 1024 < length regions → n % 1024 < length region.items
    → page_numbered regions n ≡ option_map (λ b. b.value) slot
page_is regions n region slot is slot_is within place = rw (
  get_is_index regions (n / 1024) region within,
  sym is,
  get_is_index region.items (n % 1024) slot place,
  sym slot_is,
) refl

-- On the page of an address, its byte was put and no other.
pub record PutsByte (s t : Shadow) (va byte : ℕ) : Type 0 where
  pub old : Page
  pub new : Page
  pub same : SameBut (va / PAGE_SIZE) s t
  pub was : page_numbered s.regions.items (va / PAGE_SIZE) ≡ Some old
  pub is : page_numbered t.regions.items (va / PAGE_SIZE) ≡ Some new
  pub here : byte_in (va % PAGE_SIZE) new ≡ Some byte
  pub others : (i : ℕ) → i ≢ va % PAGE_SIZE → byte_in i new ≡ byte_in i old

pub put_is_there : (s t : Shadow) (va byte : ℕ) → PutsByte s t va byte → byte_of t va ≡ Some byte
unfolding byte_of
put_is_there s t va byte puts = rw puts.is puts.here

pub put_leaves_others : (s t : Shadow) (va byte : ℕ) → PutsByte s t va byte → (a : ℕ) → a ≢ va
    → byte_of t a ≡ byte_of s a
unfolding byte_of
put_leaves_others s t va byte puts a apart = elim (cases_eq (a / PAGE_SIZE) (va / PAGE_SIZE)) [
  | inl here ↦ rw (here, puts.is, puts.was) (puts.others (a % PAGE_SIZE) (λ e. apart (omega (arith, here, e))))
  | inr other ↦ rw (puts.same (a / PAGE_SIZE) other) refl
]

pub put_leaves_room : (s t : Shadow) (va byte : ℕ) → PutsByte s t va byte → (a : ℕ) → is_held t a ≡ is_held s a
unfolding is_held
put_leaves_room s t va byte puts a = elim (cases_eq (a / PAGE_SIZE) (va / PAGE_SIZE)) [
  | inl here ↦ rw (here, puts.is, puts.was) refl
  | inr other ↦ rw (puts.same (a / PAGE_SIZE) other) refl
]

-- the page at a place of a region that holds the byte's address
pub held_place : (s : Shadow) (va : ℕ) (region : Vec (Option (Box Page))) (slot : Option (Box Page))
    → is_held s va ≡ true → region ≡ slice_index_or s.regions.items (va / PAGE_SIZE / 1024) region
    → slot ≡ slice_index_or region.items (va / PAGE_SIZE % 1024) slot
    → page_numbered s.regions.items (va / PAGE_SIZE) ≡ option_map (λ b. b.value) slot
held_place s va region slot held is slot_is =
    page_is s.regions.items (va / PAGE_SIZE) region slot is slot_is
    (region_within s.regions.items (va / PAGE_SIZE) (page_held s va held))
    (place_within s.regions.items (va / PAGE_SIZE) region is (page_held s va held))

pub held_slot : (s : Shadow) (va : ℕ) (region : Vec (Option (Box Page))) (slot : Option (Box Page))
    → is_held s va ≡ true → region ≡ slice_index_or s.regions.items (va / PAGE_SIZE / 1024) region
    → slot ≡ slice_index_or region.items (va / PAGE_SIZE % 1024) slot → ((b : Box Page) → slot ≡ Some b → ⊥) → ⊥
held_slot s va region None held is slot_is none =
    let never : is_some (page_numbered s.regions.items (va / PAGE_SIZE)) ≡ true = page_held s va held in
    let at = held_place s va region None held is slot_is in
    absurd (let e : false ≡ true = rw at at never in cc)
held_slot s va region (Some b) held is slot_is none = none b refl

-- the byte was put into the page that stands there
pub puts_byte : (s t : Shadow) (va byte : ℕ) (region new : Vec (Option (Box Page))) (box box_now : Box Page)
    → is_held s va ≡ true → region ≡ slice_index_or s.regions.items (va / PAGE_SIZE / 1024) region
    → Some box ≡ slice_index_or region.items (va / PAGE_SIZE % 1024) (Some box)
    → new.items ≡ slice_set region.items (va / PAGE_SIZE % 1024) (Some box_now)
    → t.regions.items ≡ slice_set s.regions.items (va / PAGE_SIZE / 1024) new
    → byte_in (va % PAGE_SIZE) box_now.value ≡ Some byte
    → ((i : ℕ) → i ≢ va % PAGE_SIZE → byte_in i box_now.value ≡ byte_in i box.value) → PutsByte s t va byte
puts_byte s t va byte region new box box_now held is slot_is new_is t_is here others =
    let within = region_within s.regions.items (va / PAGE_SIZE) (page_held s va held) in
    let place = place_within s.regions.items (va / PAGE_SIZE) region is (page_held s va held) in
    record {
      old = box.value;
      new = box_now.value;
      same = λ n apart. ap (λ rs. page_numbered rs n) t_is
          ∙ placed_others s.regions.items (va / PAGE_SIZE) region region new (Some box_now) within is (λ i. refl) new_is
          n
          apart;
      was = held_place s va region (Some box) held is slot_is;
      is = ap (λ rs. page_numbered rs (va / PAGE_SIZE)) t_is
          ∙ placed_here s.regions.items (va / PAGE_SIZE) region new (Some box_now) within place new_is;
      here = here;
      others = others;
    }

pub nothing_there : (s : Shadow) (va : ℕ) → s.regions.items ≡ [] → byte_of s va ≡ None
unfolding byte_of
nothing_there s va none = rw none refl

pub other_room : (s t : Shadow) (va : ℕ) → SameBut (va / PAGE_SIZE) s t → (a : ℕ)
    → a / PAGE_SIZE ≢ va / PAGE_SIZE → is_held t a ≡ is_held s a
unfolding is_held
other_room s t va same a apart = rw (same (a / PAGE_SIZE) apart) refl

pub on_refusal : {T E : Type 0} {P : Type 0} (r : Result T E) → P → IfErr r (λ e. P)
on_refusal (Ok x) p = tt
on_refusal (Err e) p = p
