-- Where the bytes of an access in user mode stand.
use Rattle.std.proofs.Common.{◌≡◌, ℕ, ◌+◌, ◌-◌, ◌%◌, ◌^◌, ◌<◌, ◌==◌, ◌⊎◌, inl, inr, not, Bool, true, false, List}
use Rattle.std.proofs.Common.{length, Option, None, Some, Result, Ok, Err, IfOk, if◌then◌else◌, refl}
use Rattle.std.proofs.Common.{sym, ap, subst, ◌∙◌, arith, eqb-true}
use Rattle.cx_exec.specs.Arithmetic.{wrapped}
use Rattle.cx_exec.specs.declared.asks.Access.{Access}
use Rattle.cx_exec.specs.declared.asks.Access.TheVariants as access
use Rattle.cx_exec.specs.declared.asks.Need.{Need}
use Rattle.cx_hart.specs.Ends.{End}
use Rattle.cx_hart.specs.Fetch.{place_or_trap, translated, walk_in}
use Rattle.cx_hart.specs.Looks.{Look}
use Rattle.cx_hart.specs.Phases.{Phase, found, looks_behind, trap, ◌>>=◌}
use Rattle.cx_hart.specs.Reaching.{first_length, goes_on, is_naturally_aligned, is_plain, is_split, kind_of}
use Rattle.cx_hart.specs.Reaching.{misaligned_cause, reached, reached_part, reached_rest, reached_second, reached_split}
use Rattle.cx_hart.specs.Reaching.{reached_whole, second_address, target_at}
use Rattle.cx_hart.specs.Stretches.{IsStretch, IsTarget}
use Rattle.cx_hart.specs.Surroundings.{Surroundings}
use Rattle.cx_hart.specs.declared.findings.Part.{Part}
use Rattle.cx_hart.specs.declared.findings.Target.{Target}
use Rattle.cx_hart.specs.declared.findings.Target.TheVariants.{Memory, Device}
use Rattle.cx_hart.proofs.Found.{reached_target}
use Rattle.cx_hart.proofs.Needs.{IsLength}
use Rattle.cx_hart.proofs.WalkFacts.{walk_in_found, walk_in_offset}
use Rattle.cx_machine.specs.Machine.{pages_of}
use Rattle.cx_walk.specs.Walks.{IsFound, address_of}
use Rattle.cx_walk.specs.declared.kind.Kind.{Kind}
use Rattle.cx_walk.specs.declared.kind.Kind.TheVariants as kind
use Rattle.cx_walk.specs.declared.walk.Place.{Place}
use Rattle.cx_walk.specs.declared.walk.Place.TheVariants as place
use Rattle.cx_observe.proofs.UserBytes.{IsUserPart}
use Rattle.cx_observe.proofs.UserPlaces.{not_Ok, same_Ok, translated_leads, user_place}

-- ---- a phase that finds something

-- What a phase found, and how the next one goes on.
pub record WentOn {Y Z : Type 0} (p : Phase Y) (next : Y → Phase Z) (z : Z) : Type 0 where
  pub value : Y
  pub is : p.end ≡ Ok value
  pub goes : (next value).end ≡ Ok z
  pub looks : looks_behind p.end next ≡ (next value).looks

went_by : {Y Z : Type 0} (looks : List Look) (e : End Y) (next : Y → Phase Z) (z : Z)
    → (record { looks = looks; end = e } >>= next).end ≡ Ok z → WentOn (record { looks = looks; end = e }) next z
went_by looks (Ok y) next z is = record { value = y; is = refl; goes = is; looks = refl }
went_by looks (Err stop) next z is = not_Ok stop z is

pub went_on : {Y Z : Type 0} (p : Phase Y) (next : Y → Phase Z) (z : Z) → (p >>= next).end ≡ Ok z → WentOn p next z
went_on p next z is = went_by p.looks p.end next z is

-- ---- one part

found_place : (va : ℕ) (r : Result Place ℕ) (place : Place) → place_or_trap va r ≡ Ok place → r ≡ Ok place
found_place va (Ok p) place is = ap {B = Result Place ℕ} Ok (same_Ok p place is)
found_place va (Err cause) place is = not_Ok _ place is

answered : (here : Surroundings) (kind : Kind) (va len : ℕ) (place : Place) → (translated here kind va len).end ≡ Ok place
    → (walk_in here kind va len).answer ≡ Ok place
unfolding translated
answered here kind va len place is = found_place va (walk_in here kind va len).answer place is

same_offset : (here : Surroundings) (kind : Kind) (va len : ℕ) (place : Place)
    → (translated here kind va len).end ≡ Ok place → address_of place % 4096 ≡ va % 4096
same_offset here kind va len place is = subst (λ r. IfOk r (λ p. address_of p % 4096 ≡ va % 4096))
    (answered here kind va len place is) (walk_in_offset here kind va len)

pub user_part : (here : Surroundings) (kind : Kind) (va l len : ℕ) (place : Place) → here.state.mode ≡ 0 → va < 2 ^ 32
    → (translated here kind va l).end ≡ Ok place → IsStretch (length here.memory) (address_of place) len
    → IsUserPart here.memory here.state.csr.satp (record { va = va; pa = address_of place; len = len })
user_part here kind va l len place user small is stretch =
    let offset : address_of place % 4096 ≡ va % 4096 = same_offset here kind va l place is in
    record {
      place = translated_leads here kind va l place user is;
      small = small;
      page = omega (arith, offset, stretch.page);
      low = stretch.inside.low;
      high = stretch.inside.high;
    }

-- ---- a target

-- a word of a device
pub record IsUserDevice (memory : List ℕ) (satp : ℕ) (n : Need) (part : Part) : Type 0 where
  pub va : part.va ≡ n.va
  pub len : part.len ≡ 4
  pub size : n.len ≡ 4
  pub place : user_place memory satp part.va ≡ Some part.pa
  pub small : part.va < 2 ^ 32
  pub below : part.pa < 2 ^ 31
  pub aligned : part.va % 4 ≡ 0
  pub offset : part.pa % 4 ≡ 0
  pub plain : is_plain n.access ≡ true

pub record IsUserWhole (memory : List ℕ) (satp : ℕ) (n : Need) (first : Part) : Type 0 where
  pub part : IsUserPart memory satp first
  pub va : first.va ≡ n.va
  pub len : first.len ≡ n.len

pub record AreUserParts (memory : List ℕ) (satp : ℕ) (n : Need) (first more : Part) : Type 0 where
  pub first_part : IsUserPart memory satp first
  pub more_part : IsUserPart memory satp more
  pub va : first.va ≡ n.va
  pub len : first.len + more.len ≡ n.len
  pub next : wrapped more.va ≡ wrapped (first.va + first.len)

abbrev pub IsUserTarget : List ℕ → ℕ → Need → Target → Type 0
IsUserTarget memory satp n (Memory first None) = IsUserWhole memory satp n first
IsUserTarget memory satp n (Memory first (Some more)) = AreUserParts memory satp n first more
IsUserTarget memory satp n (Device part) = IsUserDevice memory satp n part

-- The target is found, and it is aligned where the access isn't plain.
pub record IsReached (memory : List ℕ) (satp : ℕ) (n : Need) (target : Target) : Type 0 where
  pub is : IsUserTarget memory satp n target
  pub aligned : is_plain n.access ≡ false → n.va % n.len ≡ 0

plain_kind : (a : Access) → (kind_of a ≡ kind.Load) ⊎ (kind_of a ≡ kind.Store) → is_plain a ≡ true
plain_kind access.Load is = refl
plain_kind access.Store is = refl
plain_kind access.Reserve (inl is) = absurd cc
plain_kind access.Reserve (inr is) = absurd cc
plain_kind access.Conditional (inl is) = absurd cc
plain_kind access.Conditional (inr is) = absurd cc
plain_kind access.Amo (inl is) = absurd cc
plain_kind access.Amo (inr is) = absurd cc

whole_by : (here : Surroundings) (n : Need) (p : Place) → here.state.mode ≡ 0 → n.va < 2 ^ 32 → IsLength n.len
    → n.va % n.len ≡ 0 → (translated here (kind_of n.access) n.va n.len).end ≡ Ok p
    → IsFound (pages_of here.memory) (kind_of n.access) n.len p → IsTarget (length here.memory) (target_at n p)
    → IsUserTarget here.memory here.state.csr.satp n (target_at n p)
whole_by here n (place.Ram pa) user small sizes aligned is found inside = record {
  part = user_part here (kind_of n.access) n.va n.len n.len (place.Ram pa) user small is inside.0;
  va = refl;
  len = refl;
}
whole_by here n (place.Device pa) user small sizes aligned is found inside =
    let offset : pa % 4096 ≡ n.va % 4096 = same_offset here (kind_of n.access) n.va n.len (place.Device pa) is in
    let by_four : n.va % 4 ≡ 0 = subst (λ (l : ℕ). n.va % l ≡ 0) inside.whole aligned in
    record {
      va = refl;
      len = inside.whole;
      size = inside.whole;
      place = translated_leads here (kind_of n.access) n.va n.len (place.Device pa) user is;
      small = small;
      below = inside.below;
      aligned = by_four;
      offset = omega (arith, offset, by_four);
      plain = plain_kind n.access found.plain;
    }

whole_reached : (here : Surroundings) (n : Need) (target : Target) → here.state.mode ≡ 0 → n.va < 2 ^ 32
    → IsLength n.len → n.va % n.len ≡ 0 → (reached_whole here n).end ≡ Ok target → IsTarget (length here.memory) target
    → IsUserTarget here.memory here.state.csr.satp n target
unfolding reached_whole
whole_reached here n target user small sizes aligned is inside =
    let went : WentOn (translated here (kind_of n.access) n.va n.len) (λ p. found (target_at n p)) target
    = went_on (translated here (kind_of n.access) n.va n.len) (λ p. found (target_at n p)) target is in
    let same : target_at n went.value ≡ target = same_Ok (target_at n went.value) target went.goes in
    subst (IsUserTarget here.memory here.state.csr.satp n) same
    (whole_by here n went.value user small sizes aligned went.is
    (subst (λ r. IfOk r (IsFound (pages_of here.memory) (kind_of n.access) n.len))
    (answered here (kind_of n.access) n.va n.len went.value went.is)
    (walk_in_found here (kind_of n.access) n.va n.len sizes aligned))
    (subst (IsTarget (length here.memory)) (sym same) inside))

-- ---- an access split by pages

-- a part by the place of its first byte
pub record IsPartAt (here : Surroundings) (n : Need) (va len : ℕ) (part : Part) : Type 0 where
  pub place : Place
  pub is : (translated here (kind_of n.access) va 1).end ≡ Ok place
  pub part_is : record { va = va; pa = address_of place; len = len } ≡ part

part_reached : (here : Surroundings) (n : Need) (va len : ℕ) (part : Part)
    → (reached_part here n va len).end ≡ Ok part → IsPartAt here n va len part
part_reached here n va len part is =
    let went : WentOn (translated here (kind_of n.access) va 1)
    (λ p. found (record { va = va; pa = address_of p; len = len })) part
    = went_on (translated here (kind_of n.access) va 1)
    (λ p. found (record { va = va; pa = address_of p; len = len })) part is in
    record {
      place = went.value;
      is = went.is;
      part_is = same_Ok (record { va = va; pa = address_of went.value; len = len }) part went.goes;
    }

-- The second part, which is there where the access goes on.
abbrev IsRestAt : Surroundings → Need → Bool → Option Part → Type 0
IsRestAt here n on None = on ≡ false
IsRestAt here n on (Some more) = IsPartAt here n (second_address n) (n.len - first_length n) more

second_reached : (here : Surroundings) (n : Need) (rest : Option Part) → (reached_second here n).end ≡ Ok rest
    → IsRestAt here n true rest
second_reached here n rest is =
    let went : WentOn (reached_part here n (second_address n) (n.len - first_length n)) (λ part. found (Some part)) rest
    = went_on (reached_part here n (second_address n) (n.len - first_length n)) (λ part. found (Some part)) rest is in
    subst (IsRestAt here n true) (same_Ok (Some went.value) rest went.goes)
    (part_reached here n (second_address n) (n.len - first_length n) went.value went.is)

rest_reached : (here : Surroundings) (n : Need) (rest : Option Part) (on : Bool)
    → (if on then reached_second here n else found None).end ≡ Ok rest → IsRestAt here n on rest
rest_reached here n rest true is = second_reached here n rest is
rest_reached here n rest false is = subst (IsRestAt here n false) (same_Ok None rest is) refl

not_false : (b : Bool) → not b ≡ false → b ≡ true
not_false true is = refl
not_false false is = cc

split_by : (here : Surroundings) (n : Need) (first : Part) (rest : Option Part) → here.state.mode ≡ 0 → n.va < 2 ^ 32
    → IsPartAt here n n.va (first_length n) first → IsRestAt here n (goes_on n) rest
    → IsTarget (length here.memory) (Memory first rest)
    → IsUserTarget here.memory here.state.csr.satp n (Memory first rest)
split_by here n first None user small one none inside =
    let size : first_length n ≡ n.len = eqb-true (first_length n) n.len (not_false (first_length n == n.len) none) in
    record {
      part = subst (IsUserPart here.memory here.state.csr.satp) one.part_is
          (user_part here (kind_of n.access) n.va 1 (first_length n) one.place user small one.is
          (subst (λ (p : Part). IsStretch (length here.memory) p.pa p.len) (sym one.part_is) inside.0));
      va = ap (λ (p : Part). p.va) (sym one.part_is);
      len = ap (λ (p : Part). p.len) (sym one.part_is) ∙ size;
    }
split_by here n first (Some more) user small one two inside =
    let va_is : first.va ≡ n.va = ap (λ (p : Part). p.va) (sym one.part_is) in
    let len_is : first.len ≡ first_length n = ap (λ (p : Part). p.len) (sym one.part_is) in
    let more_va : more.va ≡ second_address n = ap (λ (p : Part). p.va) (sym two.part_is) in
    let more_len : more.len ≡ n.len - first_length n = ap (λ (p : Part). p.len) (sym two.part_is) in
    record {
      first_part = subst (IsUserPart here.memory here.state.csr.satp) one.part_is
          (user_part here (kind_of n.access) n.va 1 (first_length n) one.place user small one.is
          (subst (λ (p : Part). IsStretch (length here.memory) p.pa p.len) (sym one.part_is) inside.0));
      more_part = subst (IsUserPart here.memory here.state.csr.satp) two.part_is
          (user_part here (kind_of n.access) (second_address n) 1 (n.len - first_length n) two.place user
          (second_small n) two.is
          (subst (λ (p : Part). IsStretch (length here.memory) p.pa p.len) (sym two.part_is) inside.1.inside));
      va = va_is;
      len = omega (arith, len_is, more_len);
      next = next_is first.va first.len n.va (first_length n) more.va va_is len_is more_va;
    }
  where
    second_small : (n : Need) → second_address n < 2 ^ 32
    second_small n = omega arith

    next_is : (a b va l w : ℕ) → a ≡ va → b ≡ l → w ≡ wrapped (va + l) → wrapped w ≡ wrapped (a + b)
    next_is a b va l w first second third = omega arith

split_reached : (here : Surroundings) (n : Need) (target : Target) → here.state.mode ≡ 0 → n.va < 2 ^ 32
    → (reached_split here n).end ≡ Ok target → IsTarget (length here.memory) target
    → IsUserTarget here.memory here.state.csr.satp n target
unfolding reached_split
split_reached here n target user small is inside =
    let one : WentOn (reached_part here n n.va (first_length n))
    (λ first. reached_rest here n >>= λ more. found (Memory first more)) target
    = went_on (reached_part here n n.va (first_length n))
    (λ first. reached_rest here n >>= λ more. found (Memory first more)) target is in
    let two : WentOn (reached_rest here n) (λ more. found (Memory one.value more)) target
    = went_on (reached_rest here n) (λ more. found (Memory one.value more)) target one.goes in
    let same : Memory one.value two.value ≡ target = same_Ok (Memory one.value two.value) target two.goes in
    subst (IsUserTarget here.memory here.state.csr.satp n) same
    (split_by here n one.value two.value user small (part_reached here n n.va (first_length n) one.value one.is)
    (rest_reached here n two.value (goes_on n) two.is)
    (subst (IsTarget (length here.memory)) (sym same) inside))

-- ---- any access

split_plain : (split : Bool) (n : Need) → is_split split n ≡ true → is_plain n.access ≡ true
split_plain true n is = is
split_plain false n is = cc

reached_by : (here : Surroundings) (n : Need) (target : Target) (aligned split : Bool) → here.state.mode ≡ 0
    → n.va < 2 ^ 32 → IsLength n.len → IsTarget (length here.memory) target → is_naturally_aligned n ≡ aligned
    → is_split here.split n ≡ split
    → (if aligned then reached_whole here n else if split then reached_split here n
    else trap (misaligned_cause n.access) n.va).end ≡ Ok target
    → IsReached here.memory here.state.csr.satp n target
reached_by here n target true split user small sizes inside aligned is_split_so is =
    let even : n.va % n.len ≡ 0 = eqb-true (n.va % n.len) 0 aligned in
    record { is = whole_reached here n target user small sizes even is inside; aligned = λ not_plain. even }
reached_by here n target false true user small sizes inside aligned is_split_so is = record {
  is = split_reached here n target user small is inside;
  aligned = λ not_plain. absurd (let plain : is_plain n.access ≡ true = split_plain here.split n is_split_so in cc);
}
reached_by here n target false false user small sizes inside aligned is_split_so is = not_Ok _ target is

pub user_reached : (here : Surroundings) (n : Need) (target : Target) → here.state.mode ≡ 0 → n.va < 2 ^ 32
    → IsLength n.len → (reached here n).end ≡ Ok target → IsReached here.memory here.state.csr.satp n target
unfolding reached
user_reached here n target user small sizes is = reached_by here n target (is_naturally_aligned n)
    (is_split here.split n) user small sizes (reached_target here n target sizes (sym is)) refl refl is
