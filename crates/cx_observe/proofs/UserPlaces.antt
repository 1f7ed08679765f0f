-- Where an address of user mode stands, whatever the kind of access.
use Rattle.std.proofs.Common.{◌≡◌, ℕ, zero, suc, ◌+◌, ◌-◌, ◌*◌, ◌/◌, ◌%◌, ◌^◌, ◌<◌, ◌≤◌, ◌==◌, ◌&&◌, not, Bool, true}
use Rattle.std.proofs.Common.{false, List, [], ◌∷◌, length, slice_get, slice_index, Option, None, Some, Result, Ok, Err, is_some}
use Rattle.std.proofs.Common.{if◌then◌else◌, refl, sym, ap, ◌∙◌, arith, le-leb}
use Rattle.std.proofs.lemmas.Bool.{lt-leb}
use Rattle.std.proofs.Math.Nat.{div-div-eq-div-mul}
use Rattle.cx_csr.specs.Bits.{is_set}
use Rattle.cx_csr.specs.declared.fields.TheConstants.{SATP_MODE}
use Rattle.cx_csr.specs.declared.modes.TheConstants.{MACHINE}
use Rattle.cx_csr.specs.declared.state.State.{State}
use Rattle.cx_csr.specs.Rules.{is_in_ram}
use Rattle.cx_exec.specs.Arithmetic.{wrapped}
use Rattle.cx_hart.specs.Fetch.{place_or_trap, translated, walk_in}
use Rattle.cx_hart.specs.Surroundings.{Surroundings}
use Rattle.cx_machine.specs.Machine.{pages_of}
use Rattle.cx_map.specs.Map.{size_of_pages}
use Rattle.cx_walk.specs.Bytes.{ram_bytes, word_in}
use Rattle.cx_walk.specs.Devices.{device_at}
use Rattle.cx_walk.specs.Entry.{first_place, is_pointer, page_number, second_place}
use Rattle.cx_walk.specs.Kinds.{access_fault}
use Rattle.cx_walk.specs.Mode.{is_bare}
use Rattle.cx_walk.specs.Walks.{address_of, address_through, from_first, from_second, is_for_devices, place_at}
use Rattle.cx_walk.specs.Walks.{trail_of, walk_answer, walk_of}
use Rattle.cx_walk.specs.declared.kind.Kind.{Kind}
use Rattle.cx_walk.specs.declared.walk.Place.{Place}
use Rattle.cx_walk.specs.declared.walk.Place.TheVariants.{Ram, Device}
use Rattle.cx_slices.specs.Bytes.{Map}

pub not_Ok : {P X E : Type 0} (e : E) (x : X) → ◌≡◌ {A = Result X E} (Err e) (Ok x) → P
not_Ok e x is = cc

pub same_Ok : {X E : Type 0} (x y : X) → ◌≡◌ {A = Result X E} (Ok x) (Ok y) → x ≡ y
same_Ok x y is = cc

-- ---- where an address stands

abbrev pub page_address : ℕ → ℕ → ℕ
page_address entry va = page_number entry * 4096 + va % 4096

abbrev pub megapage_address : ℕ → ℕ → ℕ
megapage_address entry va = page_number entry / 1024 * 4194304 + va % 4194304

abbrev pub by_second : ℕ → Option ℕ → Option ℕ
by_second va None = None
by_second va (Some entry) = Some (page_address entry va)

abbrev pub by_first : (ℕ → Option ℕ) → ℕ → Option ℕ → Option ℕ
by_first word va None = None
by_first word va (Some entry) =
    if is_pointer entry then by_second va (word (second_place entry va)) else Some (megapage_address entry va)

abbrev pub by_satp : (ℕ → Option ℕ) → ℕ → ℕ → Bool → Option ℕ
by_satp word satp va true = Some va
by_satp word satp va false = by_first word va (word (first_place satp va))

abbrev pub user_place : List ℕ → ℕ → ℕ → Option ℕ
user_place memory satp va = by_satp (word_in (ram_bytes memory)) satp va (not (is_set satp SATP_MODE))

-- ---- a walk in user mode leads there

second_through : (s : State) (kind : Kind) (va first second entry address : ℕ)
    → (from_second s kind va first second (Some entry)).outcome ≡ Ok address → page_address entry va ≡ address
unfolding address_through
second_through s kind va first second entry address is = grind arith

megapage_through : (word : ℕ → Option ℕ) (s : State) (kind : Kind) (va first entry address : ℕ)
    → is_pointer entry ≡ false → (from_first word s kind va first (Some entry)).outcome ≡ Ok address
    → megapage_address entry va ≡ address
unfolding address_through
megapage_through word s kind va first entry address leaf is = grind arith

second_leads : (s : State) (kind : Kind) (va first second : ℕ) (w : Option ℕ) (address : ℕ)
    → (from_second s kind va first second w).outcome ≡ Ok address → by_second va w ≡ Some address
second_leads s kind va first second None address is = not_Ok (access_fault kind) address is
second_leads s kind va first second (Some entry) address is =
    ap {B = Option ℕ} Some (second_through s kind va first second entry address is)

pointer_outcome : (word : ℕ → Option ℕ) (s : State) (kind : Kind) (va first entry : ℕ) → is_pointer entry ≡ true
    → (from_first word s kind va first (Some entry)).outcome
    ≡ (from_second s kind va first (second_place entry va) (word (second_place entry va))).outcome
pointer_outcome word s kind va first entry pointer = rw pointer refl

first_leads : (word : ℕ → Option ℕ) (s : State) (kind : Kind) (va first : ℕ) (w : Option ℕ) (address : ℕ)
    → (from_first word s kind va first w).outcome ≡ Ok address → by_first word va w ≡ Some address
first_leads word s kind va first None address is = not_Ok (access_fault kind) address is
first_leads word s kind va first (Some entry) address is = by_test (is_pointer entry) refl
  where
    by_test : (t : Bool) → is_pointer entry ≡ t
        → (if t then by_second va (word (second_place entry va)) else Some (megapage_address entry va)) ≡ Some address
    by_test true pointer = second_leads s kind va first (second_place entry va) (word (second_place entry va)) address
        (sym (pointer_outcome word s kind va first entry pointer) ∙ is)
    by_test false leaf = ap {B = Option ℕ} Some (megapage_through word s kind va first entry address leaf is)

not_machine : (s : State) → s.mode ≡ 0 → (s.mode == MACHINE) ≡ false
not_machine s user = ap (λ (n : ℕ). n == MACHINE) user

user_bare : (s : State) (kind : Kind) → s.mode ≡ 0 → is_bare s kind ≡ not (is_set s.csr.satp SATP_MODE)
user_bare s kind user = rw user refl

trail_leads : (word : ℕ → Option ℕ) (s : State) (kind : Kind) (va address : ℕ) → s.mode ≡ 0
    → (trail_of word s kind va).outcome ≡ Ok address
    → by_satp word s.csr.satp va (not (is_set s.csr.satp SATP_MODE)) ≡ Some address
unfolding trail_of
trail_leads word s kind va address user is =
    by_test (not (is_set s.csr.satp SATP_MODE)) (is_bare s kind) (user_bare s kind user) is
  where
    by_test : (t b : Bool) → b ≡ t
        → (if b then record { count = 0; places = 0 ∷ 0 ∷ []; outcome = Ok va }
        else from_first word s kind va (first_place s.csr.satp va) (word (first_place s.csr.satp va))).outcome
        ≡ Ok address → by_satp word s.csr.satp va t ≡ Some address
    by_test true true same went = ap {B = Option ℕ} Some (same_Ok va address went)
    by_test true false same went = absurd (cc)
    by_test false true same went = absurd (cc)
    by_test false false same went =
        first_leads word s kind va (first_place s.csr.satp va) (word (first_place s.csr.satp va)) address went

placed : (pages : ℕ) (kind : Kind) (len address : ℕ) (place : Place) → place_at pages kind len address ≡ Ok place
    → address_of place ≡ address
unfolding place_at
placed pages kind len address place is = by_ram (is_in_ram (size_of_pages pages) address len)
    (is_for_devices kind len && is_some (device_at address)) is
  where
    by_ram : (r d : Bool) → ◌≡◌ {A = Result Place ℕ} (if r then Ok (Ram address)
        else (if d then Ok (Device address) else Err (access_fault kind))) (Ok place) → address_of place ≡ address
    by_ram true d went = ap address_of (sym (same_Ok (Ram address) place went))
    by_ram false true went = ap address_of (sym (same_Ok (Device address) place went))
    by_ram false false went = not_Ok (access_fault kind) place went

answer_leads : (pages : ℕ) (kind : Kind) (len : ℕ) (outcome : Result ℕ ℕ) (place : Place)
    → walk_answer pages kind len outcome ≡ Ok place → outcome ≡ Ok (address_of place)
answer_leads pages kind len (Ok address) place is =
    ap {B = Result ℕ ℕ} Ok (sym (placed pages kind len address place is))
answer_leads pages kind len (Err cause) place is = not_Ok cause place is

pub walk_leads : (here : Surroundings) (kind : Kind) (va len : ℕ) (place : Place) → here.state.mode ≡ 0
    → (walk_in here kind va len).answer ≡ Ok place
    → user_place here.memory here.state.csr.satp va ≡ Some (address_of place)
unfolding walk_in walk_of
walk_leads here kind va len place user is = trail_leads (word_in (ram_bytes here.memory)) here.state kind va
    (address_of place) user
    (answer_leads (pages_of here.memory) kind len (trail_of (word_in (ram_bytes here.memory)) here.state kind va).outcome
    place is)

place_found : (va : ℕ) (r : Result Place ℕ) (place : Place) → place_or_trap va r ≡ Ok place → r ≡ Ok place
place_found va (Ok p) place is = ap {B = Result Place ℕ} Ok (same_Ok p place is)
place_found va (Err cause) place is = not_Ok _ place is

pub translated_leads : (here : Surroundings) (kind : Kind) (va len : ℕ) (place : Place) → here.state.mode ≡ 0
    → (translated here kind va len).end ≡ Ok place
    → user_place here.memory here.state.csr.satp va ≡ Some (address_of place)
unfolding translated
translated_leads here kind va len place user is = walk_leads here kind va len place user
    (place_found va (walk_in here kind va len).answer place is)

-- ---- within a page, places go on as addresses do

same_page : (va j : ℕ) → va % 4096 + j < 4096 → (va + j) / 4096 ≡ va / 4096
same_page va j inside = omega arith

same_region : (va j : ℕ) → va % 4096 + j < 4096 → (va + j) / 2 ^ 22 ≡ va / 2 ^ 22
same_region va j inside = sym (div-div-eq-div-mul (va + j) 4096 1024)
    ∙ (ap (λ (n : ℕ). n / 1024) (same_page va j inside) ∙ div-div-eq-div-mul va 4096 1024)

offset_on : (va j : ℕ) → va % 4096 + j < 4096 → (va + j) % 4096 ≡ va % 4096 + j
offset_on va j inside = omega arith

wide_offset_on : (va j : ℕ) → va % 4096 + j < 4096 → (va + j) % 2 ^ 22 ≡ va % 2 ^ 22 + j
wide_offset_on va j inside =
    let same : (va + j) / 4194304 ≡ va / 4194304 = same_region va j inside in
    omega arith

not_wrapped : (va j : ℕ) → va < 2 ^ 32 → va % 4096 + j < 4096 → wrapped (va + j) ≡ va + j
not_wrapped va j small inside = omega arith

first_on : (satp va j : ℕ) → va % 4096 + j < 4096 → first_place satp (va + j) ≡ first_place satp va
first_on satp va j inside = ap (λ (n : ℕ). satp % 2 ^ 22 * 4096 + n * 4) (same_region va j inside)

second_on : (entry va j : ℕ) → va % 4096 + j < 4096 → second_place entry (va + j) ≡ second_place entry va
second_on entry va j inside = ap (λ (n : ℕ). entry / 2 ^ 10 * 4096 + n % 2 ^ 10 * 4) (same_page va j inside)

page_on : (entry va j : ℕ) → va % 4096 + j < 4096
    → page_address entry (va + j) ≡ page_address entry va + j
page_on entry va j inside =
    let on : (va + j) % 4096 ≡ va % 4096 + j = offset_on va j inside in
    omega arith

megapage_on : (entry va j : ℕ) → va % 4096 + j < 4096
    → megapage_address entry (va + j) ≡ megapage_address entry va + j
megapage_on entry va j inside =
    let on : (va + j) % 4194304 ≡ va % 4194304 + j = wide_offset_on va j inside in
    omega arith

some_on : (p q j : ℕ) → Some p ≡ Some q → Some (p + j) ≡ Some (q + j)
some_on p q j is = let same : p ≡ q = cc in ap (λ (n : ℕ). Some (n + j)) same

second_goes_on : (va j : ℕ) (w : Option ℕ) (p : ℕ) → va % 4096 + j < 4096 → by_second va w ≡ Some p
    → by_second (va + j) w ≡ Some (p + j)
second_goes_on va j None p inside is = cc
second_goes_on va j (Some entry) p inside is = ap {B = Option ℕ} Some (page_on entry va j inside)
    ∙ some_on (page_address entry va) p j is

first_goes_on : (word : ℕ → Option ℕ) (va j : ℕ) (w : Option ℕ) (p : ℕ) → va % 4096 + j < 4096
    → by_first word va w ≡ Some p → by_first word (va + j) w ≡ Some (p + j)
first_goes_on word va j None p inside is = cc
first_goes_on word va j (Some entry) p inside is = by_test (is_pointer entry) is
  where
    by_test : (t : Bool)
        → (if t then by_second va (word (second_place entry va)) else Some (megapage_address entry va)) ≡ Some p
        → (if t then by_second (va + j) (word (second_place entry (va + j)))
        else Some (megapage_address entry (va + j))) ≡ Some (p + j)
    by_test true went = ap (λ (n : ℕ). by_second (va + j) (word n)) (second_on entry va j inside)
        ∙ second_goes_on va j (word (second_place entry va)) p inside went
    by_test false went = ap {B = Option ℕ} Some (megapage_on entry va j inside)
        ∙ some_on (megapage_address entry va) p j went

satp_goes_on : (word : ℕ → Option ℕ) (satp va j p : ℕ) (t : Bool) → va % 4096 + j < 4096
    → by_satp word satp va t ≡ Some p → by_satp word satp (va + j) t ≡ Some (p + j)
satp_goes_on word satp va j p true inside is = some_on va p j is
satp_goes_on word satp va j p false inside is =
    ap (λ (n : ℕ). by_first word (va + j) (word n)) (first_on satp va j inside)
    ∙ first_goes_on word va j (word (first_place satp va)) p inside is

pub place_in_page : (memory : List ℕ) (satp va p j : ℕ) → va < 2 ^ 32 → va % 4096 + j < 4096
    → user_place memory satp va ≡ Some p → user_place memory satp (wrapped (va + j)) ≡ Some (p + j)
place_in_page memory satp va p j small inside is = ap (user_place memory satp) (not_wrapped va j small inside)
    ∙ satp_goes_on (word_in (ram_bytes memory)) satp va j p (not (is_set satp SATP_MODE)) inside is

-- ---- what stands there

-- RAM, as user mode sees it
abbrev pub at_place : List ℕ → Option ℕ → Option ℕ
at_place memory None = None
at_place memory (Some place) = ram_bytes memory place

abbrev pub user_ram : List ℕ → ℕ → Map
user_ram memory satp va = at_place memory (user_place memory satp va)

slice_get-there : (memory : List ℕ) (i : ℕ) → i < length memory → slice_get memory i ≡ Some (slice_index memory i)
slice_get-there [] i inside = absurd (omega arith)
slice_get-there (b ∷ bs) zero inside = refl
slice_get-there (b ∷ bs) (suc i) inside = slice_get-there bs i (omega arith)

pub ram_there : (memory : List ℕ) (place : ℕ) → 2 ^ 31 ≤ place → place < 2 ^ 31 + length memory
    → ram_bytes memory place ≡ Some (slice_index memory (place - 2 ^ 31))
unfolding ram_bytes
ram_there memory place low high = rw (le-leb (2 ^ 31) place low)
    (slice_get-there memory (place - 2 ^ 31) (omega arith))

pub ram_not_there : (memory : List ℕ) (place : ℕ) → place < 2 ^ 31 → ram_bytes memory place ≡ None
unfolding ram_bytes
ram_not_there memory place below = rw (lt-leb (2 ^ 31) place below) refl
