-- The first pool, and a pool with more frames.
use Rattle.std.proofs.Common.{◌≡◌, ◌≢◌, ℕ, zero, suc, ◌+◌, ◌-◌, ◌≤◌, List, [], ◌∷◌, ◌++◌, length, get_or, map}
use Rattle.std.proofs.Common.{take, replicate, Option, refl, sym, ap, ◌∙◌, subst, inl, inr, arith, length-append}
use Rattle.std.proofs.lemmas.Bool.{cases_lt}
use Rattle.std.proofs.lemmas.List.{length-replicate, get_or-replicate, get_or_append_left, get_or-append_right}
use Rattle.std.proofs.lemmas.List.{get_or_past}
use Rattle.std.proofs.lemmas.List.Elements.{All-nil}
use Rattle.cx_map.specs.Map.{IsPageCount}
use Rattle.cx_pages.specs.Frames.{frame_of, zero_page}
use Rattle.cx_pages.specs.Counts.{Tally, count_of}
use Rattle.cx_pages.specs.Memories.{Memory, Memories}
use Rattle.cx_pages.specs.Tables.{names, all_names, extra_names, saved_of, memories_of, AreAtHome, IsTable, IsPool}
use Rattle.cx_pages.proofs.Framing.{frame_kept}
use Rattle.cx_pages.proofs.Naming.{is_frame-same, is_frame-other, names-nil, names-cons, all_names-nil}
use Rattle.cx_pages.proofs.Naming.{extra_names-zero, extra_names-other}
use Rattle.cx_pages.proofs.Mapping.{map_kept, all_saved_kept}
use Rattle.cx_pages.proofs.Sharing.{entry_counted, saved_entry_counted, counted_inside}

names_zeros : (n : ℕ) → names 0 (replicate n 0) ≡ n
names_zeros zero = names-nil 0
names_zeros (suc n) = let c = names-cons 0 0 (replicate n 0) in let rest = names_zeros n in let one = is_frame-same 0 in
    omega arith

names_zeros-other : (f n : ℕ) → f ≢ 0 → names f (replicate n 0) ≡ 0
names_zeros-other f zero other = names-nil f
names_zeros-other f (suc n) other = let c = names-cons f 0 (replicate n 0) in let rest = names_zeros-other f n other in
    let none = is_frame-other f 0 (λ e. other (sym e)) in omega arith

first_counted : (pages f : ℕ) → count_of ((pages + 2) ∷ []) f ≡ extra_names f + names f (replicate pages 0) + all_names
    f []
first_counted pages zero = let extra = extra_names-zero in let all = names_zeros pages in let none = all_names-nil 0 in
    omega arith
first_counted pages (suc f) =
    let other : suc f ≢ 0 = λ e. omega arith in
    let extra = extra_names-other (suc f) other in let all = names_zeros-other (suc f) pages other in let none =
    all_names-nil (suc f) in omega arith

-- Each page has the frame of zeros.
pub first_pool : (frames : List (List ℕ)) (tally : Tally) (pages : ℕ) → frame_of frames 0 ≡ zero_page
    → length frames ≡ 1 → tally.counts ≡ (pages + 2) ∷ [] → tally.spare ≡ 0
    → IsPageCount pages → IsPool frames tally (replicate pages 0) []
first_pool frames tally pages zeros one counts none size =
    let few : length tally.counts ≡ 1 = rw counts refl in
    let length' : length (replicate {A = ℕ} pages 0) ≡ pages = length-replicate pages 0 in
    record {
      zeros = zeros;
      counted = λ f. rw counts (first_counted pages f);
      some = omega arith;
      covered = omega arith;
      size = subst IsPageCount (sym length') size;
      sizes = All-nil (IsTable (length (replicate {A = ℕ} pages 0)));
      few = omega arith;
      homes = record {
        home = λ f. 0;
        here = λ i inside some. absurd (some (get_or-replicate pages i 0 0 (omega arith)));
        saved = All-nil (AreAtHome (λ f. 0));
      };
    }

-- Each page is one of zeros.
pub first_pages : (frames : List (List ℕ)) (n : ℕ) → frame_of frames 0 ≡ zero_page
    → map (frame_of frames) (replicate n 0) ≡ replicate n zero_page
first_pages frames zero zeros = refl
first_pages frames (suc n) zeros = let rest = first_pages frames n zeros in rw (zeros, rest) refl

zeros_at : (n i : ℕ) → get_or (replicate {A = ℕ} n 0) i 0 ≡ 0
zeros_at n i = elim (cases_lt i n) [
  | inl here ↦ get_or-replicate n i 0 0 here
  | inr past ↦ get_or_past (replicate n 0) i
      0 (omega (arith, length-replicate {A = ℕ} n 0))
]

-- Frames that are added have no name.
grown_count : (counts : List ℕ) (more f : ℕ) → count_of (counts ++ replicate more 0) f ≡ count_of counts f
grown_count counts more f = elim (cases_lt f (length counts)) [
  | inl here ↦ get_or_append_left counts (replicate more 0) 0 f here
  | inr past ↦ get_or-append_right counts (replicate more 0) (length counts) f 0 refl past
      ∙ zeros_at more (f - length counts) ∙ sym (get_or_past counts f 0 past)
]

module _ (frames frames' : List (List ℕ)) (tally : Tally) (current : List ℕ) (tables : List (List ℕ))
    (p : IsPool frames tally current tables)
    (kept : take (length frames) frames' ≡ frames) where
  -- a frame with a name stays as it is
  same_frame : (f : ℕ) → 1 ≤ count_of tally.counts f → frame_of frames' f ≡ frame_of frames f
  same_frame f some = frame_kept frames frames' f kept (counted_inside frames tally current tables f p some)

  pub grown_pages : map (frame_of frames') current ≡ map (frame_of frames) current
  grown_pages = map_kept (frame_of frames) (frame_of frames') current (λ i here. same_frame (get_or current i 0)
      (entry_counted frames tally current tables i p here))

  pub grown_saved : map (saved_of frames') tables ≡ map (saved_of frames) tables
  grown_saved = all_saved_kept frames frames' tables (λ n i there here. same_frame (get_or (get_or tables n []) i 0)
      (saved_entry_counted frames tally current tables n i p there here))

  -- Chunks and free frames are added.
  pub grown_pool : (tally' : Tally) (more : ℕ) → tally'.counts ≡ tally.counts ++ replicate more 0
      → tally'.spare ≡ tally.spare + more
      → length tally.counts + more ≤ length frames' → IsPool frames' tally' current tables
  grown_pool tally' more counts spare covered =
      let size : length tally'.counts ≡ length tally.counts + more =
      rw counts (length-append tally.counts (replicate more 0) ∙ ap (λ (n : ℕ). length tally.counts + n)
      (length-replicate {A = ℕ} more 0)) in
      record {
        zeros = same_frame 0 (omega (arith, p.counted 0, extra_names-zero)) ∙ p.zeros;
        counted = λ f. rw counts (grown_count tally.counts more f ∙ p.counted f);
        some = omega (arith, p.some);
        covered = omega arith;
        size = p.size;
        sizes = p.sizes;
        few = p.few;
        homes = p.homes;
      }

  -- Only what is spare is seen to change.
  pub grown_same : (tally' : Tally) (more : ℕ) → length tally'.counts ≡ length tally.counts + more
      → tally'.spare ≡ tally.spare + more
      → memories_of frames' tally' current tables ≡ record (memories_of frames tally current tables) {
        spare =
            tally'.spare;
      }
  grown_same tally' more size spare =
      let used : length tally'.counts - tally'.spare - 1 ≡ length tally.counts - tally.spare - 1 =
      omega (arith, p.some) in
      let put : List (List ℕ) → List (Option Memory) → ℕ → Memories = λ pages saved n.
      record { current = record { pages = pages; stamps = current }; saved = saved; used = n; spare = tally'.spare } in
      ap (λ (pages : List (List ℕ)). put pages (map (saved_of frames') tables)
      (length tally'.counts - tally'.spare - 1)) grown_pages
      ∙ ap (λ (saved : List (Option Memory)). put (map (frame_of frames) current) saved
      (length tally'.counts - tally'.spare - 1)) grown_saved
      ∙ ap (put (map (frame_of frames) current) (map (saved_of frames) tables)) used
