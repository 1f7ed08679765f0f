-- What a walk comes to: its address has the offset of the virtual one, and its fault is one of its kind of access.
use Rattle.std.proofs.Common.{◌≡◌, ℕ, ◌%◌, ◌&&◌, inl, inr, is_some, Option, None, Some, Result, Ok, Err, IfOk, IfErr}
use Rattle.std.proofs.Common.{refl, subst, arith}
use Rattle.std.specs.Result.{result_ok}
use Rattle.cx_csr.specs.Rules.{is_in_ram}
use Rattle.cx_csr.specs.declared.state.State.{State}
use Rattle.cx_walk.specs.declared.entry.Size.{Size}
use Rattle.cx_walk.specs.declared.entry.Size.TheVariants.{Page, Megapage}
use Rattle.cx_walk.specs.declared.kind.Kind.{Kind}
use Rattle.cx_walk.specs.declared.walk.Place.{Place}
use Rattle.cx_walk.specs.declared.walk.Trail.{Trail}
use Rattle.cx_walk.specs.Devices.{device_at}
use Rattle.cx_walk.specs.Entry.{first_place, is_open, is_pointer, physical_address, second_place}
use Rattle.cx_walk.specs.Kinds.{IsFault, page_fault}
use Rattle.cx_walk.specs.Mode.{is_bare}
use Rattle.cx_walk.specs.Walks.{address_of, address_through, walk_answer, from_first, from_second, is_for_devices}
use Rattle.cx_walk.specs.Walks.{place_at, trail_of, walk_of}
use Rattle.cx_walk.proofs.Branches.{either}
use Rattle.cx_walk.proofs.Found.{walk_stands}
use Rattle.cx_map.specs.Map.{size_of_pages}
use Rattle.cx_map.specs.declared.TheConstants.{PAGE_SIZE}

-- the same offset in a page
abbrev pub SameOffset : ℕ → ℕ → Type 0
SameOffset va address = address % PAGE_SIZE ≡ va % PAGE_SIZE

-- what is said of a walk's address where it has one, and of its cause where it has none
abbrev Comes : Kind → ℕ → Result ℕ ℕ → Type 0
Comes kind va (Ok address) = SameOffset va address
Comes kind va (Err cause) = IsFault kind cause

address_offset : (size : Size) (entry va : ℕ) → SameOffset va (physical_address size entry va)
address_offset Page entry va = omega arith
address_offset Megapage entry va = omega arith

module _ (s : State) (kind : Kind) (va : ℕ) where
  through_comes : (size : Size) (entry : ℕ) → Comes kind va (address_through s kind va size entry)
  unfolding address_through
  through_comes size entry =
      either (Comes kind va) (is_open s kind size entry) (Ok (physical_address size entry va)) (Err (page_fault kind))
      (λ open_. address_offset size entry va) (λ closed. inr refl)

  from_second_comes : (first second : ℕ) (o : Option ℕ) → Comes kind va (from_second s kind va first second o).outcome
  from_second_comes first second None = inl refl
  from_second_comes first second (Some entry) = through_comes Page entry

  from_first_comes : (word : ℕ → Option ℕ) (first : ℕ) (o : Option ℕ)
      → Comes kind va (from_first word s kind va first o).outcome
  from_first_comes word first None = inl refl
  from_first_comes word first (Some entry) =
      let P : Trail → Type 0 = λ t. Comes kind va t.outcome in
      either P (is_pointer entry) _ _
      (λ pointer. from_second_comes first (second_place entry va) (word (second_place entry va)))
      (λ leaf. through_comes Megapage entry)

  trail_comes : (word : ℕ → Option ℕ) → Comes kind va (trail_of word s kind va).outcome
  unfolding trail_of
  trail_comes word =
      let P : Trail → Type 0 = λ t. Comes kind va t.outcome in
      either P (is_bare s kind) _ _ (λ bare. refl)
      (λ translated. from_first_comes word (first_place s.csr.satp va) (word (first_place s.csr.satp va)))

  place_faults : (pages len address : ℕ) → IfErr (place_at pages kind len address) (IsFault kind)
  unfolding place_at
  place_faults pages len address =
      let P : Result Place ℕ → Type 0 = λ r. IfErr r (IsFault kind) in
      either P (is_in_ram (size_of_pages pages) address len) _ _ (λ inside. tt)
      (λ outside. either P (is_for_devices kind len && is_some (device_at address)) _ _ (λ device. tt)
      (λ none. inl refl))

  answer_faults : (pages len : ℕ) (outcome : Result ℕ ℕ) → Comes kind va outcome
      → IfErr (walk_answer pages kind len outcome) (IsFault kind)
  answer_faults pages len (Ok address) comes = place_faults pages len address
  answer_faults pages len (Err cause) comes = comes

  answer_offset : (outcome : Result ℕ ℕ) (answer : Result Place ℕ) → Comes kind va outcome
      → IfOk answer (λ place. result_ok outcome ≡ Some (address_of place))
      → IfOk answer (λ place. SameOffset va (address_of place))
  answer_offset outcome (Err cause) comes stands = tt
  answer_offset (Err cause) (Ok place) comes stands = absurd cc
  answer_offset (Ok address) (Ok place) comes stands = let e : address ≡ address_of place = cc in
      subst (SameOffset va) e comes

  module _ (word : ℕ → Option ℕ) (pages len : ℕ) where
    pub walk_faults : IfErr (walk_of word pages s kind va len).answer (IsFault kind)
    unfolding walk_of
    walk_faults = answer_faults pages len (trail_of word s kind va).outcome (trail_comes word)

    pub walk_offset : IfOk (walk_of word pages s kind va len).answer (λ place. address_of place % PAGE_SIZE
        ≡ va % PAGE_SIZE)
    unfolding walk_of
    walk_offset = answer_offset (trail_of word s kind va).outcome _ (trail_comes word)
        (walk_stands word pages s kind va len)
