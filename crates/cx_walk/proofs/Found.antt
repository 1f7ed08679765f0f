-- The address of a walk, and what stands there.
use Rattle.std.proofs.Common.{◌≡◌, ℕ, ◌+◌, ◌%◌, ◌⊎◌, true, nat_le, ◌&&◌, Option, None, Some, Result, Ok, Err, inl, inr}
use Rattle.std.proofs.Common.{is_some, IfOk, refl, sym, subst, arith}
use borrow.Author.Tests.{eqb-true, leb-true}
use Rattle.cx_walk.proofs.Branches.{either, both_true}
use Rattle.std.specs.Result.{result_ok}
use Rattle.cx_csr.specs.Rules.{is_in_ram}
use Rattle.cx_csr.specs.declared.state.State.{State}
use Rattle.cx_walk.specs.declared.kind.Kind.{Kind}
use Rattle.cx_walk.specs.declared.kind.Kind.TheVariants.{Fetch, Load, Store, Reserve, Atomic}
use Rattle.cx_walk.specs.declared.entry.Size.{Size}
use Rattle.cx_walk.specs.declared.entry.Size.TheVariants.{Page, Megapage}
use Rattle.cx_walk.specs.declared.walk.Place.{Place}
use Rattle.cx_walk.specs.declared.walk.Trail.{Trail}
use Rattle.cx_walk.specs.Devices.{device_at}
use Rattle.cx_walk.specs.Entry.{is_open, is_pointer, physical_address, first_place, second_place}
use Rattle.cx_walk.specs.Mode.{is_bare}
use Rattle.cx_walk.specs.Walks.{IsFound, address_of, address_through, walk_answer, from_first, from_second}
use Rattle.cx_walk.specs.Walks.{is_for_devices, place_at, trail_of, walk_of}
use Rattle.cx_map.specs.Map.{size_of_pages}
use Rattle.cx_map.specs.declared.TheConstants.{RAM_START}

-- a place stands at the address that it was found at
place_stands : (pages : ℕ) (kind : Kind) (len address : ℕ)
    → IfOk (place_at pages kind len address) (λ place. ◌≡◌ {A = Option ℕ} (Some address) (Some (address_of place)))
unfolding place_at
place_stands pages kind len address = grind arith

for_devices : (kind : Kind) (len : ℕ) → is_for_devices kind len ≡ true → (len ≡ 4) × ((kind ≡ Load) ⊎ (kind ≡ Store))
for_devices Load len e = (eqb-true len 4 e, inl refl)
for_devices Store len e = (eqb-true len 4 e, inr refl)
for_devices Fetch len e = cc
for_devices Reserve len e = cc
for_devices Atomic len e = cc

-- what stands at an aligned address is as an access of that length finds it
pub place_found : (pages : ℕ) (kind : Kind) (len address : ℕ) → address % len ≡ 0
    → IfOk (place_at pages kind len address) (IsFound pages kind len)
unfolding place_at
place_found pages kind len address aligned =
    let Fits : Result Place ℕ → Type 0 = λ r. IfOk r (IsFound pages kind len) in
    either Fits (is_in_ram (size_of_pages pages) address len) _ _
    (λ inside.
    let ends = both_true (nat_le RAM_START address) (nat_le (address + len) (RAM_START + size_of_pages pages)) inside in
    record { inside = record { low = leb-true _ _ ends.0; high = leb-true _ _ ends.1 }; aligned = aligned })
    (λ outside. either Fits (is_for_devices kind len && is_some (device_at address)) _ _
    (λ device.
    let parts = both_true (is_for_devices kind len) (is_some (device_at address)) device in
    let plain = for_devices kind len parts.0 in
    record { word = parts.1; whole = plain.0; plain = plain.1 })
    (λ none. tt))

-- the three lengths of accesses
by_length : (P : ℕ → Type 0) (len : ℕ) → (len ≡ 1) ⊎ (len ≡ 2) ⊎ (len ≡ 4) → P 1 → P 2 → P 4 → P len
by_length P len (inl e) one two four = subst P (sym e) one
by_length P len (inr (inl e)) one two four = subst P (sym e) two
by_length P len (inr (inr e)) one two four = subst P (sym e) four

-- the offset in a page keeps the alignment
pub address_aligned : (size : Size) (entry va len : ℕ) → (len ≡ 1) ⊎ (len ≡ 2) ⊎ (len ≡ 4) → va % len ≡ 0
    → physical_address size entry va % len ≡ 0
address_aligned Page entry va len lengths =
    by_length (λ n. va % n ≡ 0 → physical_address Page entry va % n ≡ 0) len lengths (λ h. omega arith)
    (λ h. omega arith) (λ h. omega arith)
address_aligned Megapage entry va len lengths =
    by_length (λ n. va % n ≡ 0 → physical_address Megapage entry va % n ≡ 0) len lengths (λ h. omega arith)
    (λ h. omega arith) (λ h. omega arith)

module _ (len : ℕ) where
  -- a walk's address is aligned, where it has one
  abbrev IsAlignedTrail : Trail → Type 0
  IsAlignedTrail trail = IfOk trail.outcome (λ address. address % len ≡ 0)

  module _ (s : State) (kind : Kind) (va : ℕ) (lengths : (len ≡ 1) ⊎ (len ≡ 2) ⊎ (len ≡ 4)) (aligned : va % len ≡ 0)
    where
      through_aligned : (size : Size) (entry : ℕ)
          → IfOk (address_through s kind va size entry) (λ address. address % len ≡ 0)
      unfolding address_through
      through_aligned size entry =
          let IsAligned : Result ℕ ℕ → Type 0 = λ r. IfOk r (λ address. address % len ≡ 0) in
          either IsAligned (is_open s kind size entry) _ _
          (λ open_. address_aligned size entry va len lengths aligned) (λ closed. tt)

      from_second_aligned : (first second : ℕ) (o : Option ℕ) → IsAlignedTrail (from_second s kind va first second o)
      from_second_aligned first second None = tt
      from_second_aligned first second (Some entry) = through_aligned Page entry

      from_first_aligned : (word : ℕ → Option ℕ) (first : ℕ) (o : Option ℕ)
          → IsAlignedTrail (from_first word s kind va first o)
      from_first_aligned word first None = tt
      from_first_aligned word first (Some entry) =
          either IsAlignedTrail (is_pointer entry) _ _
          (λ pointer. from_second_aligned first (second_place entry va) (word (second_place entry va)))
          (λ leaf. through_aligned Megapage entry)

      pub trail_aligned : (word : ℕ → Option ℕ) → IsAlignedTrail (trail_of word s kind va)
      unfolding trail_of
      trail_aligned word =
          either IsAlignedTrail (is_bare s kind) _ _ (λ bare. aligned)
          (λ translated. from_first_aligned word (first_place s.csr.satp va) (word (first_place s.csr.satp va)))

-- the answer stands at the address of the trail
answer_stands : (pages : ℕ) (kind : Kind) (len : ℕ) (outcome : Result ℕ ℕ)
    → IfOk (walk_answer pages kind len outcome) (λ place. result_ok outcome ≡ Some (address_of place))
answer_stands pages kind len (Ok address) = place_stands pages kind len address
answer_stands pages kind len (Err cause) = tt

answer_found : (pages : ℕ) (kind : Kind) (len : ℕ) (outcome : Result ℕ ℕ) → IfOk outcome (λ address. address % len ≡ 0)
    → IfOk (walk_answer pages kind len outcome) (IsFound pages kind len)
answer_found pages kind len (Ok address) aligned = place_found pages kind len address aligned
answer_found pages kind len (Err cause) aligned = tt

pub walk_stands : (word : ℕ → Option ℕ) (pages : ℕ) (s : State) (kind : Kind) (va len : ℕ)
    → IfOk (walk_of word pages s kind va len).answer (λ place. (walk_of word pages s kind va len).address
    ≡ Some (address_of place))
unfolding walk_of
walk_stands word pages s kind va len = answer_stands pages kind len (trail_of word s kind va).outcome

pub walk_found : (word : ℕ → Option ℕ) (pages : ℕ) (s : State) (kind : Kind) (va len : ℕ) → (len ≡ 1) ⊎ (len ≡ 2)
    ⊎ (len ≡ 4) → va % len ≡ 0 → IfOk (walk_of word pages s kind va len).answer (IsFound pages kind len)
unfolding walk_of
walk_found word pages s kind va len lengths aligned =
    answer_found pages kind len (trail_of word s kind va).outcome (trail_aligned len s kind va lengths aligned word)
