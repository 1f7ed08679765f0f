-- The map that a shadow stands for.
use Rattle.std.specs.Prelude.{◌≡◌, ℕ, ◌+◌, ◌/◌, ◌%◌, ◌==◌, ◌&&◌, Bool, true, List, [], ◌∷◌, slice_get, slice_index, is_some}
use Rattle.std.specs.Prelude.{Option, None, Some, if◌then◌else◌}
use Rattle.std.specs.Int.{bit_at}
use Rattle.std.specs.Option.{option_and_then, option_map}
use Rattle.std.specs.Global.{Box, Vec}
use Rattle.cx_map.specs.declared.TheConstants.{PAGE_SIZE}
use Rattle.cx_slices.specs.Bytes.{Byte, Map, is_byte}
use Rattle.cx_shadow.specs.declared.page.Page.{Page}
use Rattle.cx_shadow.specs.declared.shadow.Shadow.{Shadow}
use Rattle.cx_shadow.specs.declared.shadow.TheConstants.{REGION_PAGES}

-- the byte at an offset in a page, where its mark is set: the marks are bits, eight to a byte, lowest first
unfoldable pub byte_in : ℕ → Page → Option ℕ
byte_in i p = if bit_at (slice_index p.marks (i / 8)) (i % 8) == 1 then Some (slice_index p.bytes i) else None

-- the page at a place of a region
abbrev pub page_in : Vec (Option (Box Page)) → ℕ → Option Page
page_in region i = option_and_then (option_map (λ b. b.value)) (slice_get region.items i)

abbrev pub page_within : ℕ → Vec (Option (Box Page)) → Option Page
page_within i region = page_in region i

-- the page of a number: regions of 1,024 pages each
abbrev pub page_numbered : List (Vec (Option (Box Page))) → ℕ → Option Page
page_numbered regions n = option_and_then (page_within (n % REGION_PAGES)) (slice_get regions (n / REGION_PAGES))

-- the byte at an address
unfoldable pub byte_of : Shadow → ℕ → Option ℕ
byte_of s va = option_and_then (byte_in (va % PAGE_SIZE)) (page_numbered s.regions.items (va / PAGE_SIZE))

-- whether there is room for a byte at an address
unfoldable pub is_held : Shadow → ℕ → Bool
is_held s va = is_some (page_numbered s.regions.items (va / PAGE_SIZE))

-- These bytes stand one behind another, from an address on.
abbrev pub are_at : Map → ℕ → List ℕ → Bool
are_at map va [] = true
are_at map va (b ∷ bs) = is_byte (map va) b && are_at map (va + 1) bs

-- the bytes of a page, by their offsets
abbrev pub bytes_of_page : Page → Map
bytes_of_page p i = byte_in i p

-- There is room at each of these addresses.
abbrev pub AreHeld : Shadow → List Byte → Type 0
AreHeld s [] = Unit {0}
AreHeld s (e ∷ es) = (is_held s e.0 ≡ true) × AreHeld s es
