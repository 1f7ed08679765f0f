-- The entries of a page table of Sv32 (Privileged 1.12, section 4.3.1), and what each step of a translation makes of
-- them (section 4.3.2; the numbers of the steps stand at the lines).
use Rattle.std.specs.Prelude.{ℕ, ◌+◌, ◌*◌, ◌/◌, ◌%◌, ◌^◌, Bool, true, not, ◌&&◌, ◌||◌, ◌==◌, if◌then◌else◌}
use Rattle.cx_csr.specs.Bits.{is_set}
use Rattle.cx_csr.specs.declared.state.State.{State}
use Rattle.cx_walk.specs.declared.kind.Kind.{Kind}
use Rattle.cx_walk.specs.declared.kind.Kind.TheVariants.{Fetch, Load, Store, Reserve, Atomic}
use Rattle.cx_walk.specs.declared.entry.Size.{Size}
use Rattle.cx_walk.specs.declared.entry.Size.TheVariants.{Page, Megapage}
use Rattle.cx_walk.specs.Kinds.{is_fetch, is_write}
use Rattle.cx_walk.specs.Mode.{effective_mode}
use Rattle.cx_csr.specs.declared.modes.TheConstants.{USER}
use Rattle.cx_csr.specs.declared.status.TheConstants.{SUM, MXR}
use Rattle.cx_map.specs.declared.TheConstants.{PAGE_SIZE}
use Rattle.cx_walk.specs.declared.entry.TheConstants.{PTE_V, PTE_R, PTE_W, PTE_X, PTE_U, PTE_A, PTE_D, PTE_PPN}
use Rattle.cx_walk.specs.declared.entry.TheConstants.{PTE_SIZE, MEGAPAGE_PAGES, MEGAPAGE_SIZE}

-- the page number that an entry holds
abbrev pub page_number : ℕ → ℕ
page_number entry = entry / 2 ^ PTE_PPN

-- Steps 1 and 2: the level-1 entry of an address. The root table's page number is bits 21:0 of satp, the entry's index
-- bits 31:22 of the address.
abbrev pub first_place : ℕ → ℕ → ℕ
first_place satp va = satp % 2 ^ 22 * PAGE_SIZE + va / 2 ^ 22 * PTE_SIZE

-- Step 3: V is set, and W isn't set without R.
abbrev pub is_valid : ℕ → Bool
is_valid entry = is_set entry PTE_V && (is_set entry PTE_R || not (is_set entry PTE_W))

-- Step 4: an entry with R or X is a leaf.
abbrev pub is_leaf : ℕ → Bool
is_leaf entry = is_set entry PTE_R || is_set entry PTE_X

-- Step 4: a valid entry that is no leaf points to the next table. A, D and U are reserved there, and software has to
-- leave them 0 (section 4.3.1). That an entry with one of them is no pointer, and so a page fault, is this hart's own
-- choice.
abbrev pub is_pointer : ℕ → Bool
is_pointer entry =
    is_valid entry && not (is_leaf entry) && not (is_set entry PTE_A || is_set entry PTE_D || is_set entry PTE_U)

-- Steps 4 and 2: the level-0 entry of an address. Its table's page number is that of the level-1 entry, its index bits
-- 21:12 of the address.
abbrev pub second_place : ℕ → ℕ → ℕ
second_place entry va = page_number entry * PAGE_SIZE + va / 2 ^ 12 % 2 ^ 10 * PTE_SIZE

-- Step 5: the leaf permits the kind of access. MXR lets loads read what may be executed (section 3.1.6.3).
abbrev pub is_permitted : ℕ → Kind → ℕ → Bool
is_permitted mstatus Fetch entry = is_set entry PTE_X
is_permitted mstatus Load entry = is_set entry PTE_R || (is_set entry PTE_X && is_set mstatus MXR)
is_permitted mstatus Reserve entry = is_set entry PTE_R || (is_set entry PTE_X && is_set mstatus MXR)
is_permitted mstatus Store entry = is_set entry PTE_W
is_permitted mstatus Atomic entry = is_set entry PTE_W

-- Step 5: user mode reaches the pages with U, and supervisor mode the others. SUM opens the data of the former to
-- supervisor mode (section 3.1.6.3).
abbrev pub is_reached : ℕ → Kind → ℕ → ℕ → Bool
is_reached mstatus kind mode entry =
    if mode == USER then is_set entry PTE_U
    else not (is_set entry PTE_U) || (not (is_fetch kind) && is_set mstatus SUM)

-- Step 6: the page number of a megapage is a multiple of its pages.
abbrev pub is_aligned_leaf : Size → ℕ → Bool
is_aligned_leaf Page entry = true
is_aligned_leaf Megapage entry = page_number entry % MEGAPAGE_PAGES == 0

-- Step 7: A is set, and D where the access writes. Of the two ways that the step leaves open, this hart faults, and
-- sets neither.
abbrev pub is_marked : Kind → ℕ → Bool
is_marked kind entry = is_set entry PTE_A && (not (is_write kind) || is_set entry PTE_D)

-- Steps 3 to 7: the entry is a leaf, and the access may go through it.
unfoldable pub is_open : State → Kind → Size → ℕ → Bool
is_open s kind size entry =
    (is_valid entry && is_leaf entry)
    && (is_permitted s.csr.mstatus kind entry && is_reached s.csr.mstatus kind (effective_mode s kind) entry)
    && (is_aligned_leaf size entry && is_marked kind entry)

-- Step 8: the page or the megapage of the leaf, and the offset in it.
abbrev pub physical_address : Size → ℕ → ℕ → ℕ
physical_address Page entry va = page_number entry * PAGE_SIZE + va % PAGE_SIZE
physical_address Megapage entry va = page_number entry / MEGAPAGE_PAGES * MEGAPAGE_SIZE + va % MEGAPAGE_SIZE
