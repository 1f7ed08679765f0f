-- Where a fetch and an access are found, their bytes lie in one page of RAM each, or are a word below it.
use Rattle.std.proofs.Common.{◌≡◌, ℕ, ◌+◌, ◌-◌, ◌%◌, ◌≤◌, ◌⊎◌, ◌≢◌, inl, inr, not, Bool, true, false, List, length}
use Rattle.std.proofs.Common.{Option, None, Some, Result, Ok, Err, IfOk, IfSome, refl, sym, subst, arith}
use borrow.Author.Tests.{eqb-true, eqb-false}
use Rattle.cx_exec.specs.declared.asks.Need.{Need}
use Rattle.cx_walk.specs.declared.kind.Kind.TheVariants.{Fetch}
use Rattle.cx_walk.specs.declared.walk.Place.{Place}
use Rattle.cx_walk.specs.declared.walk.Place.TheVariants.{Ram, Device}
use Rattle.cx_walk.specs.Walks.{IsFound, IsRamPlace, address_of}
use Rattle.cx_walk.proofs.Branches.{either}
use Rattle.cx_machine.specs.Machine.{pages_of}
use Rattle.cx_map.specs.declared.TheConstants.{PAGE_SIZE}
use Rattle.cx_hart.specs.Fetch.{place_or_trap, translated, walk_in}
use Rattle.cx_hart.specs.Ends.{End, found, ◌>>=◌}
use Rattle.cx_hart.specs.Reaching.{first_length, goes_on, is_naturally_aligned, is_split, kind_of, reached}
use Rattle.cx_hart.specs.Reaching.{reached_part, reached_rest, reached_split, reached_whole, second_address, target_at}
use Rattle.cx_ram.specs.PhysicalMemory.{IsAccessLength}
use Rattle.cx_hart.specs.Phases.{Phase}
use Rattle.cx_walk.specs.declared.kind.Kind.{Kind}
use Rattle.cx_hart.specs.Stretches.{IsOutside, IsPart, IsRest, IsSized, IsSizedRest, IsStretch, IsTarget}
use Rattle.cx_hart.specs.Surroundings.{Surroundings}
use Rattle.cx_hart.specs.declared.findings.Part.{Part}
use Rattle.cx_hart.specs.declared.findings.Target.{Target}
use Rattle.cx_hart.specs.declared.findings.Target.TheVariants.{Memory, Device as DeviceTarget}
use Rattle.cx_hart.proofs.WalkFacts.{SameOffset, device_below, walk_in_found, walk_in_offset}

-- an aligned access of 1, 2 or 4 bytes stays in its page
in_page : (len place : ℕ) → (len ≡ 1) ⊎ (len ≡ 2) ⊎ (len ≡ 4) → place % len ≡ 0 → place % PAGE_SIZE + len ≤ PAGE_SIZE
in_page len place (inl e) aligned = omega arith
in_page len place (inr (inl e)) aligned = let h : place % 2 ≡ 0 = subst (λ n. place % n ≡ 0) e aligned in omega arith
in_page len place (inr (inr e)) aligned = let h : place % 4 ≡ 0 = subst (λ n. place % n ≡ 0) e aligned in omega arith

some_bytes : (len : ℕ) → (len ≡ 1) ⊎ (len ≡ 2) ⊎ (len ≡ 4) → IsAccessLength len
some_bytes len (inl e) = (omega arith, omega arith)
some_bytes len (inr (inl e)) = (omega arith, omega arith)
some_bytes len (inr (inr e)) = (omega arith, omega arith)

not_true : (b : Bool) → not b ≡ true → b ≡ false
not_true true e = absurd cc
not_true false e = refl

ram_stretch : (memory : List ℕ) (len place : ℕ) → (len ≡ 1) ⊎ (len ≡ 2) ⊎ (len ≡ 4)
    → IsRamPlace (pages_of memory) len place → IsStretch (length memory) place len
ram_stretch memory len place lengths found = record {
  inside = record { low = found.inside.low; high = omega (arith, found.inside.high) };
  page = in_page len place lengths found.aligned;
  length = some_bytes len lengths;
}

-- the first byte of a part is in RAM, so all of it is, since RAM is whole pages
part_stretch : (memory : List ℕ) (va len place : ℕ) → 1 ≤ len → len ≤ 4 → va % PAGE_SIZE + len ≤ PAGE_SIZE
    → SameOffset va place → IsRamPlace (pages_of memory) 1 place → IsStretch (length memory) place len
part_stretch memory va len place some most page offset found = record {
  inside = record { low = found.inside.low; high = omega (arith, found.inside.high, found.inside.low) };
  page = omega arith;
  length = (some, most);
}

module _ (here : Surroundings) where
  fetch_inside : (r : Result Place ℕ) → IfOk r (IsFound (pages_of here.memory) Fetch 4)
      → IfOk (place_or_trap here.state.pc r) (λ place. IsStretch (length here.memory) (address_of place) 4)
  fetch_inside (Err cause) found = tt
  fetch_inside (Ok (Ram place)) found = ram_stretch here.memory 4 place (inr (inr refl)) found
  fetch_inside (Ok (Device place)) found = elim found.plain [ inl e ↦ absurd cc | inr e ↦ absurd cc ]

  pub fetched_inside : here.state.pc % 4 ≡ 0 → IfOk (translated here Fetch here.state.pc 4).end
      (λ place. IsStretch (length here.memory) (address_of place) 4)
  unfolding translated
  fetched_inside aligned = fetch_inside (walk_in here Fetch here.state.pc 4).answer
      (walk_in_found here Fetch here.state.pc 4 (inr (inr refl)) aligned)

  module _ (n : Need) (lengths : (n.len ≡ 1) ⊎ (n.len ≡ 2) ⊎ (n.len ≡ 4)) where
    target_inside : (r : Result Place ℕ) → IfOk r (IsFound (pages_of here.memory) (kind_of n.access) n.len)
        → IfOk (place_or_trap n.va r >>= λ place. found (target_at n place)) (IsTarget (length here.memory))
    target_inside (Err cause) found = tt
    target_inside (Ok (Ram place)) found = (ram_stretch here.memory n.len place lengths found, tt)
    target_inside (Ok (Device place)) found = record { below = device_below place found.word; whole = found.whole }

    whole_inside : n.va % n.len ≡ 0 → IfOk (reached_whole here n).end (IsTarget (length here.memory))
    unfolding reached_whole translated
    whole_inside aligned = target_inside (walk_in here (kind_of n.access) n.va n.len).answer
        (walk_in_found here (kind_of n.access) n.va n.len lengths aligned)

    part_inside_by : (va len : ℕ) → 1 ≤ len → len ≤ 4 → va % PAGE_SIZE + len ≤ PAGE_SIZE → (r : Result Place ℕ)
        → IfOk r (IsFound (pages_of here.memory) (kind_of n.access) 1)
        → IfOk r (λ place. SameOffset va (address_of place))
        → IfOk (place_or_trap va r >>= λ place. found (record { va = va; pa = address_of place; len = len }))
        (IsPart (length here.memory))
    part_inside_by va len some most page (Err cause) found offset = tt
    part_inside_by va len some most page (Ok (Ram place)) found offset =
        part_stretch here.memory va len place some most page offset found
    part_inside_by va len some most page (Ok (Device place)) found offset = absurd (omega (arith, found.whole))

    part_inside : (va len : ℕ) → 1 ≤ len → len ≤ 4 → va % PAGE_SIZE + len ≤ PAGE_SIZE
        → IfOk (reached_part here n va len).end (IsPart (length here.memory))
    unfolding translated
    part_inside va len some most page =
        part_inside_by va len some most page (walk_in here (kind_of n.access) va 1).answer
        (walk_in_found here (kind_of n.access) va 1 (inl refl) (omega arith)) (walk_in_offset here (kind_of n.access) va
        1)

    first_some : 1 ≤ first_length n
    first_some = let some : 1 ≤ n.len = (some_bytes n.len lengths).0 in omega arith

    first_most : first_length n ≤ 4
    first_most = let most : n.len ≤ 4 = (some_bytes n.len lengths).1 in omega arith

    rest_some : goes_on n ≡ true → 1 ≤ n.len - first_length n
    rest_some on = let apart : first_length n ≢ n.len = eqb-false _ _ (not_true _ on) in omega arith

    rest_most : n.len - first_length n ≤ 4
    rest_most = let most : n.len ≤ 4 = (some_bytes n.len lengths).1 in omega arith

    rest_page : goes_on n ≡ true → second_address n % PAGE_SIZE + (n.len - first_length n) ≤ PAGE_SIZE
    rest_page on =
        let apart : first_length n ≢ n.len = eqb-false _ _ (not_true _ on) in
        let most : n.len ≤ 4 = (some_bytes n.len lengths).1 in
        let start : (n.va + first_length n) % PAGE_SIZE ≡ 0 = omega arith in
        omega arith

    -- the rest is there where the first part ends its page
    abbrev Follows : Option Part → Type 0
    Follows more = IfSome more (λ part. IsPart (length here.memory) part × (first_length n + part.len ≤ 4))

    rest_whole : first_length n + (n.len - first_length n) ≤ 4
    rest_whole = let most : n.len ≤ 4 = (some_bytes n.len lengths).1 in omega arith

    second_inside_by : (va len : ℕ) → first_length n + len ≤ 4 → (r : Result Place ℕ)
        → IfOk (place_or_trap va r >>= λ place. found (record { va = va; pa = address_of place; len = len }))
        (IsPart (length here.memory))
        → IfOk ((place_or_trap va r >>= λ place. found (record { va = va; pa = address_of place; len = len })) >>=
        λ part. found (Some part)) Follows
    second_inside_by va len whole (Ok place) inside = (inside, whole)
    second_inside_by va len whole (Err stop) inside = tt

    rest_inside : IfOk (reached_rest here n).end Follows
    unfolding translated
    rest_inside =
        let P : Phase (Option Part) → Type 0 = λ p. IfOk p.end Follows in
        either P (goes_on n) _ _
        (λ on.
        second_inside_by (second_address n) (n.len - first_length n) rest_whole
        (walk_in here (kind_of n.access) (second_address n) 1).answer
        (part_inside (second_address n) (n.len - first_length n) (rest_some on) rest_most (rest_page on)))
        (λ ends. tt)

    follows : (first : Part) (more : Option Part) → first.len ≡ first_length n → Follows more
        → IfSome more (IsRest (length here.memory) first)
    follows first None e inside = tt
    follows first (Some part) e inside = record { inside = inside.0; whole = omega (arith, inside.1) }

    split_inside_by : (va len : ℕ) → len ≡ first_length n → (r : Result Place ℕ) (q : End (Option Part))
        → IfOk (place_or_trap va r >>= λ place. found (record { va = va; pa = address_of place; len = len }))
        (IsPart (length here.memory)) → IfOk q Follows
        → IfOk ((place_or_trap va r >>= λ place. found (record { va = va; pa = address_of place; len = len })) >>=
        λ first. q >>= λ more. found (Memory first more)) (IsTarget (length here.memory))
    split_inside_by va len e (Ok place) (Ok more) one two =
        (one, follows (record { va = va; pa = address_of place; len = len }) more e two)
    split_inside_by va len e (Ok place) (Err stop) one two = tt
    split_inside_by va len e (Err cause) q one two = tt

    split_inside : IfOk (reached_split here n).end (IsTarget (length here.memory))
    unfolding reached_split translated
    split_inside =
        split_inside_by n.va (first_length n) refl (walk_in here (kind_of n.access) n.va 1).answer
        (reached_rest here n).end
        (part_inside n.va (first_length n) first_some first_most (omega arith)) rest_inside

    pub reached_inside : IfOk (reached here n).end (IsTarget (length here.memory))
    unfolding reached
    reached_inside =
        let P : Phase Target → Type 0 = λ p. IfOk p.end (IsTarget (length here.memory)) in
        either P (is_naturally_aligned n) _ _ (λ aligned. whole_inside (eqb-true _ _ aligned))
        (λ apart. either P (is_split here.split n) _ _ (λ parts. split_inside) (λ traps. tt))

-- ---- the same of what was found

ram_part : (here : Surroundings) (kind : Kind) (va len place : ℕ) (r : Result Place ℕ) → (len ≡ 1) ⊎ (len ≡ 2)
    ⊎ (len ≡ 4) → IfOk r (IsFound (pages_of here.memory) kind len) → Ok (Ram place) ≡ place_or_trap va r
    → IsStretch (length here.memory) place len
ram_part here kind va len place (Err cause) lengths found e = absurd cc
ram_part here kind va len place (Ok (Device other)) lengths found e = absurd cc
ram_part here kind va len place (Ok (Ram other)) lengths found e =
    let same : other ≡ place = cc in
    subst (λ p. IsStretch (length here.memory) p len) same (ram_stretch here.memory len other lengths found)

device_part : (here : Surroundings) (kind : Kind) (va len place : ℕ) (r : Result Place ℕ)
    → IfOk r (IsFound (pages_of here.memory) kind len) → Ok (Device place) ≡ place_or_trap va r
    → IsOutside place len
device_part here kind va len place (Err cause) found e = absurd cc
device_part here kind va len place (Ok (Ram other)) found e = absurd cc
device_part here kind va len place (Ok (Device other)) found e =
    let same : other ≡ place = cc in
    subst (λ p. IsOutside p len) same (record { below = device_below other found.word; whole = found.whole })

pub translated_ram : (here : Surroundings) (kind : Kind) (va len place : ℕ) → (len ≡ 1) ⊎ (len ≡ 2) ⊎ (len ≡ 4)
    → va % len ≡ 0 → Ok (Ram place) ≡ (translated here kind va len).end → IsStretch (length here.memory) place len
unfolding translated
translated_ram here kind va len place lengths aligned e =
    ram_part here kind va len place (walk_in here kind va len).answer lengths
    (walk_in_found here kind va len lengths aligned) e

pub translated_device : (here : Surroundings) (kind : Kind) (va len place : ℕ) → (len ≡ 1) ⊎ (len ≡ 2) ⊎ (len ≡ 4)
    → va % len ≡ 0 → Ok (Device place) ≡ (translated here kind va len).end → IsOutside place len
unfolding translated
translated_device here kind va len place lengths aligned e =
    device_part here kind va len place (walk_in here kind va len).answer
    (walk_in_found here kind va len lengths aligned) e

pub fetched_part : (here there : Surroundings) (place : Place) (address : ℕ) → there ≡ here → here.state.pc % 4 ≡ 0
    → Ok place ≡ (translated here Fetch there.state.pc 4).end → address ≡ address_of place
    → IsStretch (length there.memory) address 4
fetched_part here there place address same aligned e at =
    let whole : Ok place ≡ (translated here Fetch here.state.pc 4).end =
    subst (λ (h : Surroundings). Ok place ≡ (translated here Fetch h.state.pc 4).end) same e in
    let inside = subst (λ p. IfOk p (λ place. IsStretch (length here.memory) (address_of place) 4)) (sym whole)
    (fetched_inside here aligned) in
    subst (λ (h : Surroundings). IsStretch (length h.memory) address 4) (sym same)
    (subst (λ a. IsStretch (length here.memory) a 4) (sym at) inside)

pub reached_target : (here : Surroundings) (n : Need) (target : Target) → (n.len ≡ 1) ⊎ (n.len ≡ 2) ⊎ (n.len ≡ 4)
    → Ok target ≡ (reached here n).end → IsTarget (length here.memory) target
reached_target here n target lengths e = subst (λ p. IfOk p (IsTarget (length here.memory))) (sym e)
    (reached_inside here n lengths)

sized_rest : (size : ℕ) (first : Part) (more : Option Part) → IfSome more (IsRest size first)
    → IfSome more (IsSizedRest first)
sized_rest size first None rest = tt
sized_rest size first (Some part) rest = record { some = rest.inside.length.0; whole = rest.whole }

target_sized : (size : ℕ) (target : Target) → IsTarget size target → IsSized target
target_sized size (Memory first more) inside = (inside.0.length, sized_rest size first more inside.1)
target_sized size (DeviceTarget part) inside = inside.whole

pub reached_sized : (here : Surroundings) (n : Need) (target : Target) → (n.len ≡ 1) ⊎ (n.len ≡ 2) ⊎ (n.len ≡ 4)
    → Ok target ≡ (reached here n).end → IsSized target
reached_sized here n target lengths e =
    target_sized (length here.memory) target (reached_target here n target lengths e)
