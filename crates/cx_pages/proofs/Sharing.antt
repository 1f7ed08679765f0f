-- A page is shared exactly where its frame's count isn't 1.
use Rattle.std.proofs.Common.{◌≡◌, ◌≢◌, ℕ, zero, suc, ◌<◌, ◌≤◌, List, [], ◌∷◌, length, get_or, map, Some, refl}
use Rattle.std.proofs.Common.{sym, ap, ◌∙◌, subst, inl, inr, arith}
use Rattle.std.specs.Prelude.{All, IsSome}
use Rattle.std.proofs.lemmas.Bool.{cases_eq, cases_lt, false≢true}
use Rattle.std.proofs.lemmas.List.{get_or-map, length-map}
use Rattle.std.proofs.lemmas.List.Elements.{All-get_or, All-from_get_or}
use Rattle.cx_pages.specs.Frames.{frame_of, IsWhole, AreFrames}
use Rattle.cx_pages.proofs.Framing.{frame_whole}
use Rattle.cx_pages.specs.Counts.{Tally, count_of}
use Rattle.cx_pages.specs.Memories.{Memory, Memories, IsShared, IsLive, saved_at, page_count, page_of, AreWhole}
use Rattle.cx_pages.specs.Memories.{AreSavedWhole}
use Rattle.cx_pages.specs.Tables.{all_names, extra_names, memory_of, saved_of, memories_of, AreAtHome, IsTable, IsPool}
use Rattle.cx_pages.proofs.Tallies.{count_inside}
use Rattle.cx_pages.proofs.Naming.{names_here, names_once, names-le-all, all_named_at, extra_names-zero}
use Rattle.cx_pages.proofs.Naming.{extra_names-other}
use Rattle.cx_pages.proofs.Mapping.{saved_at-table, saved_of-some, saved_of-is}

-- The frame of a page has a name.
pub entry_counted : (frames : List (List ℕ)) (tally : Tally) (current : List ℕ) (tables : List (List ℕ))
    (page : ℕ)
    → IsPool frames tally current tables → page < length current → 1 ≤ count_of tally.counts (get_or current page 0)
entry_counted frames tally current tables page p here =
    let f : ℕ = get_or current page 0 in
    let named = names_here f current page here refl in
    omega (arith, p.counted f)

-- So does that of a saved page.
pub saved_entry_counted : (frames : List (List ℕ)) (tally : Tally) (current : List ℕ) (tables : List (List ℕ))
    (n page : ℕ)
    → IsPool frames tally current tables → n < length tables → page < length (get_or tables n [])
    → 1 ≤ count_of tally.counts (get_or (get_or tables n []) page 0)
saved_entry_counted frames tally current tables n page p there here =
    let f : ℕ = get_or (get_or tables n []) page 0 in
    let named = names_here f (get_or tables n []) page here refl in
    let le = names-le-all f tables n there in
    omega (arith, p.counted f)

-- A frame with a name is in a chunk.
pub counted_inside : (frames : List (List ℕ)) (tally : Tally) (current : List ℕ) (tables : List (List ℕ)) (f : ℕ)
    → IsPool frames tally current tables → 1 ≤ count_of tally.counts f → f < length frames
counted_inside frames tally current tables f p some = let here = count_inside tally.counts f some in
    omega (arith, p.covered)

-- A table past the last is empty.
pub table_inside : (tables : List (List ℕ)) (n : ℕ) → 1 ≤ length (get_or tables n []) → n < length tables
table_inside [] n some = absurd (omega arith)
table_inside (table ∷ tables) zero some = omega arith
table_inside (table ∷ tables) (suc n) some = let rest = table_inside tables n some in omega arith

-- A table that stands for a memory is as long as the current one.
pub table_size : (current : List ℕ) (tables : List (List ℕ)) (n : ℕ) → All (IsTable (length current)) tables
    → n < length tables → 1 ≤ length (get_or tables n [])
    → length (get_or tables n []) ≡ length current
table_size current tables n sizes there some =
    let size : IsTable (length current) (get_or tables n []) = All-get_or (IsTable (length current)) tables n [] there
    sizes in
    elim size [
      | inl none ↦ let nil : length (get_or tables n []) ≡ 0 = rw none refl in
          absurd (omega arith)
      | inr same ↦ same
    ]

-- A page whose frame has another name than this one is shared.
pub shared_from_count : (frames : List (List ℕ)) (tally : Tally) (current : List ℕ) (tables : List (List ℕ))
    (page : ℕ)
    → IsPool frames tally current tables → page < length current → count_of tally.counts (get_or current page 0) ≢ 1
    → IsShared (memories_of frames tally current tables) page
shared_from_count frames tally current tables page p here more =
    let f : ℕ = get_or current page 0 in
    elim (cases_eq f 0) [
      | inl none ↦ inl none
      | inr some ↦
          let once = names_once p.homes.home current page f p.homes.here here refl some in
          let extra = extra_names-other f some in
          let counted = p.counted f in
          let at = all_named_at f tables (elim (cases_lt 0 (all_names f tables))
          [ inl named ↦ omega arith | inr none ↦ absurd (more (omega arith)) ]) in
          let n : ℕ = at.0 in
          let i : ℕ = at.1.0 in
          let table : List ℕ = get_or tables n [] in
          let at_home : AreAtHome p.homes.home table = All-get_or (AreAtHome p.homes.home) tables n [] at.1.1.0
          p.homes.saved in
          let e : get_or table i 0 ≡ f = at.1.1.2 in
          let one : p.homes.home f ≡ i =
          subst (λ (g : ℕ). p.homes.home g ≡ i) e (at_home i at.1.1.1 (λ none. some (sym e ∙ none))) in
          let two : p.homes.home f ≡ page = p.homes.here page here some in
          let same : i ≡ page = sym one ∙ two in
          inr (record {
            number = n;
            memory = memory_of frames table;
            live = saved_at-table frames tables n ∙ saved_of-some frames table (omega (arith, at.1.1.1));
            alike = ap (λ (k : ℕ). get_or table k 0) (sym same) ∙ e;
          })
    ]

-- The frame of a page that is shared has more names than one.
pub count_from_shared : (frames : List (List ℕ)) (tally : Tally) (current : List ℕ) (tables : List (List ℕ))
    (page : ℕ)
    → IsPool frames tally current tables → page < length current → IsShared (memories_of frames tally current tables)
    page → 2 ≤ count_of tally.counts (get_or current page 0)
count_from_shared frames tally current tables page p here shared =
    let f : ℕ = get_or current page 0 in
    let named = names_here f current page here refl in
    elim shared [
      | inl none ↦ let extra : extra_names f ≡ 2 = rw none extra_names-zero in omega (arith, p.counted f)
      | inr kept ↦
          let n : ℕ = kept.number in
          let table : List ℕ = get_or tables n [] in
          let is : (1 ≤ length table) × (memory_of frames table ≡ kept.memory) =
          saved_of-is frames table kept.memory (sym (saved_at-table frames tables n) ∙ kept.live) in
          let there : n < length tables = table_inside tables n is.0 in
          let size = table_size current tables n p.sizes there is.0 in
          let e : get_or table page 0 ≡ f = ap (λ (m : Memory). get_or m.stamps page 0) is.1 ∙ kept.alike in
          let named' = names_here f table page (omega arith) e in
          let le = names-le-all f tables n there in
          omega (arith, p.counted f)
    ]

-- A page of the memory has a place in its table.
pub page_inside : (frames : List (List ℕ)) (tally : Tally) (current : List ℕ) (tables : List (List ℕ))
    (m : Memories) (page : ℕ)
    → memories_of frames tally current tables ≡ m → page < page_count m.current → page < length current
page_inside frames tally current tables m page e here =
    let within : page < length (map (frame_of frames) current) = subst (λ (v : Memories). page < page_count v.current)
    (sym e) here in
    subst (λ (n : ℕ). page < n) (length-map current (frame_of frames)) within

-- The bytes of a page are those of its frame.
pub page_of-table : (frames : List (List ℕ)) (table : List ℕ) (page : ℕ) → page < length table
    → page_of (memory_of frames table) page ≡ frame_of frames (get_or table page 0)
page_of-table frames table page here = get_or-map (frame_of frames) table page 0 [] here

-- What is known of a table under whose number a memory is saved.
pub record HasTable (frames : List (List ℕ)) (current : List ℕ) (tables : List (List ℕ)) (m : Memories)
    (number : ℕ) : Type 0 where
  pub there : number < length tables
  pub size : length (get_or tables number []) ≡ length current
  pub is : saved_at m number ≡ Some (memory_of frames (get_or tables number []))

some_table : (frames : List (List ℕ)) (table : List ℕ) → IsSome (saved_of frames table) → 1 ≤ length table
some_table frames [] live = absurd (false≢true live)
some_table frames (f ∷ table) live = omega arith

pub live_table : (frames : List (List ℕ)) (tally : Tally) (current : List ℕ) (tables : List (List ℕ))
    (m : Memories) (number : ℕ)
    → IsPool frames tally current tables → memories_of frames tally current tables ≡ m → IsLive m number
    → HasTable frames current tables m number
live_table frames tally current tables m number p e live =
    let table : List ℕ = get_or tables number [] in
    let at : saved_at m number ≡ saved_of frames table = ap (λ (v : Memories). saved_at v number) (sym e)
    ∙ saved_at-table frames tables number in
    let some : 1 ≤ length table = some_table frames table (subst IsSome at live) in
    let there : number < length tables = table_inside tables number some in
    record {
      there = there;
      size = table_size current tables number p.sizes there some;
      is = at ∙ saved_of-some frames table some;
    }

-- Each page is whole.
pub pages_whole : (frames : List (List ℕ)) (tally : Tally) (current : List ℕ) (tables : List (List ℕ))
    → IsPool frames tally current tables → AreFrames frames → AreWhole (memory_of frames current)
pages_whole frames tally current tables p whole =
    All-from_get_or IsWhole (map (frame_of frames) current) [] (λ i inside.
    let here : i < length current = subst (λ (n : ℕ). i < n) (length-map current (frame_of frames)) inside in
    let f : ℕ = get_or current i 0 in
    subst IsWhole (sym (page_of-table frames current i here))
    (frame_whole frames f whole (counted_inside frames tally current tables f p (entry_counted frames tally current
    tables i p here))))

-- A memory is saved under a number where the table has pages.
pub live_long : (frames : List (List ℕ)) (tally : Tally) (current : List ℕ) (tables : List (List ℕ))
    (m : Memories) (number : ℕ)
    → memories_of frames tally current tables ≡ m → IsLive m number → 1 ≤ length (get_or tables number [])
live_long frames tally current tables m number e live =
    some_table frames (get_or tables number []) (subst IsSome (ap (λ (v : Memories). saved_at v number) (sym e)
    ∙ saved_at-table frames tables number) live)

pub long_live : (frames : List (List ℕ)) (tally : Tally) (current : List ℕ) (tables : List (List ℕ))
    (m : Memories) (number : ℕ)
    → memories_of frames tally current tables ≡ m → 1 ≤ length (get_or tables number []) → IsLive m number
long_live frames tally current tables m number e long =
    let at : saved_at m number ≡ Some (memory_of frames (get_or tables number []))
    = ap (λ (v : Memories). saved_at v number) (sym e) ∙ saved_at-table frames tables number
    ∙ saved_of-some frames (get_or tables number []) long in
    rw at refl

pub not_empty : (table : List ℕ) → table ≢ [] → 1 ≤ length table
not_empty [] other = absurd (other refl)
not_empty (f ∷ table) other = omega arith

-- So is each saved page.
pub saved_whole : (frames : List (List ℕ)) (tally : Tally) (current : List ℕ) (tables : List (List ℕ))
    → IsPool frames tally current tables → AreFrames frames → AreSavedWhole (memories_of frames tally current tables)
saved_whole frames tally current tables p whole n memory e =
    let table : List ℕ = get_or tables n [] in
    let is : (1 ≤ length table) × (memory_of frames table ≡ memory) =
    saved_of-is frames table memory (sym (saved_at-table frames tables n) ∙ e) in
    let there : n < length tables = table_inside tables n is.0 in
    let pages : AreWhole (memory_of frames table) = All-from_get_or IsWhole (map (frame_of frames) table) []
    (λ i inside.
    let here : i < length table = subst (λ (k : ℕ). i < k) (length-map table (frame_of frames)) inside in
    let f : ℕ = get_or table i 0 in
    subst IsWhole (sym (page_of-table frames table i here))
    (frame_whole frames f whole (counted_inside frames tally current tables f p
    (saved_entry_counted frames tally current tables n i p there here)))) in
    let count : page_count (memory_of frames table) ≡ page_count (memory_of frames current)
    = length-map table (frame_of frames) ∙ table_size current tables n p.sizes there is.0
    ∙ sym (length-map current (frame_of frames)) in
    (subst AreWhole is.1 pages, subst (λ (m : Memory). page_count m ≡ page_count (memory_of frames current)) is.1 count)
