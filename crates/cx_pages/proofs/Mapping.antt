-- What tables stand for where one frame changes.
use Rattle.std.proofs.Common.{◌≡◌, ◌≢◌, ℕ, zero, suc, ◌<◌, ◌≤◌, List, [], ◌∷◌, length, get_or, set, map, Some, None}
use Rattle.std.proofs.Common.{Option, refl, ap, arith}
use Rattle.cx_pages.specs.Frames.{frame_of}
use Rattle.cx_pages.specs.Memories.{Memory}
use Rattle.cx_pages.specs.Tables.{is_frame, names, all_names, memory_of, saved_of}
use Rattle.cx_pages.proofs.Naming.{is_frame-same, is_frame-other, names-cons, names_here, all_names-cons}

-- A table that doesn't name the frame.
pub map_other : (f : ℕ) (h h' : ℕ → List ℕ) (table : List ℕ) → names f table ≡ 0 → ((g : ℕ) → g ≢ f → h' g ≡ h g)
    → map h' table ≡ map h table
map_other f h h' [] none same = refl
map_other f h h' (g ∷ table) none same =
    let c = names-cons f g table in
    let other : g ≢ f = λ e. let one : is_frame f g ≡ 1 = rw e (is_frame-same f) in omega arith in
    let rest = map_other f h h' table (omega arith) same in
    rw (same g other, rest) refl

-- A table that names it once.
pub map_once : (f : ℕ) (h h' : ℕ → List ℕ) (table : List ℕ) (i : ℕ) → names f table ≡ 1 → i < length table
    → get_or table i 0 ≡ f
    → ((g : ℕ) → g ≢ f → h' g ≡ h g) → map h' table ≡ set (map h table) i (h' f)
map_once f h h' [] i once here e same = absurd (omega arith)
map_once f h h' (g ∷ table) zero once here e same =
    let c = names-cons f g table in
    let one : is_frame f g ≡ 1 = rw e (is_frame-same f) in
    let rest = map_other f h h' table (omega arith) same in
    rw (e, rest) refl
map_once f h h' (g ∷ table) (suc i) once here e same =
    let c = names-cons f g table in
    let some = names_here f table i (omega arith) e in
    let other : g ≢ f = λ q. let one : is_frame f g ≡ 1 = rw q (is_frame-same f) in omega arith in
    let none : is_frame f g ≡ 0 = is_frame-other f g other in
    let rest = map_once f h h' table i (omega arith) (omega arith) e same in
    rw (same g other, rest) refl

-- A saved table that doesn't name it.
pub saved_other : (f : ℕ) (old new : List (List ℕ)) (table : List ℕ) → names f table ≡ 0
    → ((g : ℕ) → g ≢ f → frame_of new g ≡ frame_of old g)
    → saved_of new table ≡ saved_of old table
saved_other f old new [] none same = refl
saved_other f old new (g ∷ table) none same =
    let some : List (List ℕ) → Option Memory = λ pages. Some (record { pages = pages; stamps = g ∷ table }) in
    ap some (map_other f (frame_of old) (frame_of new) (g ∷ table) none same)

-- Saved tables that don't name it.
pub all_saved_other : (f : ℕ) (old new : List (List ℕ)) (tables : List (List ℕ)) → all_names f tables ≡ 0
    → ((g : ℕ) → g ≢ f → frame_of new g ≡ frame_of old g)
    → map (saved_of new) tables ≡ map (saved_of old) tables
all_saved_other f old new [] none same = refl
all_saved_other f old new (table ∷ tables) none same =
    let c = all_names-cons f table tables in
    let first = saved_other f old new table (omega arith) same in
    let rest = all_saved_other f old new tables (omega arith) same in
    rw (first, rest) refl

-- Tables whose frames all stay.
pub map_kept : (h h' : ℕ → List ℕ) (table : List ℕ)
    → ((i : ℕ) → i < length table → h' (get_or table i 0) ≡ h (get_or table i 0)) → map h' table ≡ map h table
map_kept h h' [] same = refl
map_kept h h' (g ∷ table) same =
    let first : h' g ≡ h g = same 0 (omega arith) in
    let rest = map_kept h h' table (λ i here. same (suc i) (omega arith)) in
    rw (first, rest) refl

pub saved_kept : (old new : List (List ℕ)) (table : List ℕ)
    → ((i : ℕ) → i < length table → frame_of new (get_or table i 0) ≡ frame_of old (get_or table i 0))
    → saved_of new table ≡ saved_of old table
saved_kept old new [] same = refl
saved_kept old new (g ∷ table) same =
    let some : List (List ℕ) → Option Memory = λ pages. Some (record { pages = pages; stamps = g ∷ table }) in
    ap some (map_kept (frame_of old) (frame_of new) (g ∷ table) same)

pub all_saved_kept : (old new : List (List ℕ)) (tables : List (List ℕ))
    → ((n i : ℕ) → n < length tables → i < length (get_or tables n []) → frame_of new (get_or (get_or tables n []) i 0)
    ≡ frame_of old (get_or (get_or tables n []) i 0))
    → map (saved_of new) tables ≡ map (saved_of old) tables
all_saved_kept old new [] same = refl
all_saved_kept old new (table ∷ tables) same =
    let first = saved_kept old new table (λ i here. same 0 i (omega arith) here) in
    let rest = all_saved_kept old new tables (λ n i there here. same (suc n) i (omega arith) here) in
    rw (first, rest) refl

-- The memory under a number is that of the table under it.
pub saved_at-table : (frames : List (List ℕ)) (tables : List (List ℕ)) (n : ℕ)
    → get_or (map (saved_of frames) tables) n None ≡ saved_of frames (get_or tables n [])
saved_at-table frames [] n = refl
saved_at-table frames (table ∷ tables) zero = refl
saved_at-table frames (table ∷ tables) (suc n) = saved_at-table frames tables n

-- A table with a page stands for a memory.
pub saved_of-some : (frames : List (List ℕ)) (table : List ℕ) → 1 ≤ length table
    → saved_of frames table ≡ Some (memory_of frames table)
saved_of-some frames [] some = absurd (omega arith)
saved_of-some frames (f ∷ table) some = refl

-- A memory is that of its table.
pub saved_of-is : (frames : List (List ℕ)) (table : List ℕ) (memory : Memory)
    → saved_of frames table ≡ Some memory → (1 ≤ length table) × (memory_of frames table ≡ memory)
saved_of-is frames [] memory e = cc
saved_of-is frames (f ∷ table) memory e = (omega arith, cc)
