-- What an access to memory comes to: the walk of the page table of Sv32 (Privileged 1.12, section 4.3.2; the numbers of
-- its steps stand at the lines), and the place of the address that it gives.
use Rattle.std.specs.Prelude.{◌≡◌, ℕ, ◌%◌, ◌⊎◌, IsSome, Bool, false, ◌&&◌, ◌==◌, if◌then◌else◌, is_some, [], ◌∷◌}
use Rattle.std.specs.Prelude.{Option, None, Some, Result, Ok, Err}
use Rattle.std.specs.Result.{result_ok}
use Rattle.cx_csr.specs.Rules.{is_in_ram}
use Rattle.cx_csr.specs.declared.state.State.{State}
use Rattle.cx_walk.specs.declared.kind.Kind.{Kind}
use Rattle.cx_walk.specs.declared.kind.Kind.TheVariants.{Fetch, Load, Store, Reserve, Atomic}
use Rattle.cx_walk.specs.declared.entry.Size.{Size}
use Rattle.cx_walk.specs.declared.entry.Size.TheVariants.{Page, Megapage}
use Rattle.cx_walk.specs.declared.walk.Place.{Place}
use Rattle.cx_walk.specs.declared.walk.Place.TheVariants.{Ram, Device}
use Rattle.cx_walk.specs.declared.walk.Walk.{Walk}
use Rattle.cx_walk.specs.declared.walk.Trail.{Trail}
use Rattle.cx_walk.specs.Devices.{device_at}
use Rattle.cx_walk.specs.Entry.{is_open, is_pointer, physical_address, first_place, second_place}
use Rattle.cx_walk.specs.Kinds.{access_fault, page_fault}
use Rattle.cx_walk.specs.Mode.{is_bare}
use Rattle.cx_map.specs.Map.{IsInRam, size_of_pages}

-- Loads and stores of a whole word alone reach a device, which is this machine's own choice, as the devices are.
abbrev pub is_for_devices : Kind → ℕ → Bool
is_for_devices Load len = len == 4
is_for_devices Store len = len == 4
is_for_devices Fetch len = false
is_for_devices Reserve len = false
is_for_devices Atomic len = false

-- What stands at a physical address, or the cause of the access fault.
unfoldable pub place_at : ℕ → Kind → ℕ → ℕ → Result Place ℕ
place_at pages kind len address =
    if is_in_ram (size_of_pages pages) address len then Ok (Ram address)
    else (if is_for_devices kind len && is_some (device_at address) then Ok (Device address) else Err
    (access_fault kind))

-- the same of the address that a walk gave, or of the cause that it gave instead
abbrev pub walk_answer : ℕ → Kind → ℕ → Result ℕ ℕ → Result Place ℕ
walk_answer pages kind len (Ok address) = place_at pages kind len address
walk_answer pages kind len (Err cause) = Err cause

-- Steps 3 to 8: the physical address that an entry gives, where it stands for a page of this size and is open to the
-- access. That an entry of level 0 is a leaf is step 4.
unfoldable pub address_through : State → Kind → ℕ → Size → ℕ → Result ℕ ℕ
address_through s kind va size entry =
    if is_open s kind size entry then Ok (physical_address size entry va) else Err (page_fault kind)

-- Steps 2 to 8 from the level-0 entry on. That an entry outside memory is an access fault (step 2) is this machine's
-- own choice of which addresses a walk may read: those of RAM.
abbrev pub from_second : State → Kind → ℕ → ℕ → ℕ → Option ℕ → Trail
from_second s kind va first second None =
    record { count = 1; places = first ∷ 0 ∷ []; outcome = Err (access_fault kind) }
from_second s kind va first second (Some entry) =
    record { count = 2; places = first ∷ second ∷ []; outcome = address_through s kind va Page entry }

-- Steps 2 to 8 from the level-1 entry on, with the same choice.
abbrev pub from_first : (ℕ → Option ℕ) → State → Kind → ℕ → ℕ → Option ℕ → Trail
from_first word s kind va first None =
    record { count = 0; places = 0 ∷ 0 ∷ []; outcome = Err (access_fault kind) }
from_first word s kind va first (Some entry) =
    if is_pointer entry
    then from_second s kind va first (second_place entry va) (word (second_place entry va))
    else record { count = 1; places = first ∷ 0 ∷ []; outcome = address_through s kind va Megapage entry }

-- Step 1 and what follows: the entries that are read, in order, and the physical address or the cause that they give.
-- Nothing is read where the address is not translated.
unfoldable pub trail_of : (ℕ → Option ℕ) → State → Kind → ℕ → Trail
trail_of word s kind va =
    if is_bare s kind
    then record { count = 0; places = 0 ∷ 0 ∷ []; outcome = Ok va }
    else from_first word s kind va (first_place s.csr.satp va) (word (first_place s.csr.satp va))

-- the walk that such a trail makes
abbrev pub walk_to : ℕ → Kind → ℕ → Trail → Walk
walk_to pages kind len trail =
    record {
      count = trail.count;
      places = trail.places;
      address = result_ok trail.outcome;
      answer = walk_answer pages kind len trail.outcome;
    }

-- The walk of an access of `len` bytes at the virtual address, over the words of memory and RAM of so many pages.
unfoldable pub walk_of : (ℕ → Option ℕ) → ℕ → State → Kind → ℕ → ℕ → Walk
walk_of word pages s kind va len = walk_to pages kind len (trail_of word s kind va)

-- the physical address that a place stands at
abbrev pub address_of : Place → ℕ
address_of (Ram place) = place
address_of (Device place) = place

-- Bytes of RAM, all in one page where they are 1, 2 or 4.
pub record IsRamPlace (pages len place : ℕ) : Type 0 where
  pub inside : IsInRam (size_of_pages pages) place len
  pub aligned : place % len ≡ 0

-- The word of a device, at a plain load or store.
pub record IsDevicePlace (kind : Kind) (len place : ℕ) : Type 0 where
  pub word : IsSome (device_at place)
  pub whole : len ≡ 4
  pub plain : (kind ≡ Load) ⊎ (kind ≡ Store)

-- What may be said of a place that an access of `len` bytes reaches.
abbrev pub IsFound : ℕ → Kind → ℕ → Place → Type 0
IsFound pages kind len (Ram place) = IsRamPlace pages len place
IsFound pages kind len (Device place) = IsDevicePlace kind len place
