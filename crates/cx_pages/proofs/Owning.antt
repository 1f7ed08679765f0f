-- A write to a page that has a frame of its own, and a page that gets one.
use Rattle.std.proofs.Common.{◌≡◌, ◌≢◌, ℕ, ◌+◌, ◌-◌, ◌<◌, ◌≤◌, List, [], length, get_or, set, map, cond, eqb, Some}
use Rattle.std.proofs.Common.{None, Option, refl, sym, ap, ◌∙◌, subst, inl, inr, arith, length-set}
use Rattle.std.specs.Prelude.{All, slice_index}
use Rattle.std.proofs.lemmas.Bool.{cases_eq, eq-eqb, ne_eqb}
use Rattle.std.proofs.lemmas.List.{get_or-set_same, get_or-set_other, set-get_or}
use Rattle.std.proofs.Math.Seq.{map-set_same}
use Rattle.std.proofs.lemmas.List.Elements.{All-from_get_or, All-get_or}
use Rattle.cx_map.specs.Map.{IsPageCount}
use Rattle.cx_pages.specs.Frames.{frame_of}
use Rattle.cx_pages.specs.Counts.{Tally, count_of}
use Rattle.cx_pages.specs.Memories.{Memory, Memories, IsShared, HasOwn, SharedBeside, saved_at}
use Rattle.cx_pages.specs.Tables.{is_frame, names, all_names, extra_names, saved_of, memories_of, AreAtHome, HaveHomes}
use Rattle.cx_pages.specs.Tables.{IsTable, IsPool}
use Rattle.cx_pages.proofs.Tallies.{count_inside}
use Rattle.cx_pages.proofs.Naming.{is_frame-same, is_frame-other, names_here, names-set, names-le-all, extra_names-zero}
use Rattle.cx_pages.proofs.Naming.{extra_names-other}
use Rattle.cx_pages.proofs.Mapping.{map_other, map_once, all_saved_other}
use Rattle.cx_pages.proofs.Sharing.{shared_from_count, count_from_shared}

-- The frame of a page that isn't shared has one name.
pub own_count : (frames : List (List ℕ)) (tally : Tally) (current : List ℕ) (tables : List (List ℕ)) (page : ℕ)
    → IsPool frames tally current tables → page < length current → ¬ IsShared (memories_of frames tally current tables)
    page → count_of tally.counts (get_or current page 0) ≡ 1
own_count frames tally current tables page p here own =
    elim (cases_eq (count_of tally.counts (get_or current page 0)) 1) [
      | inl one ↦ one
      | inr more ↦ absurd (own (shared_from_count frames tally current tables page p here more))
    ]

-- What a frame with one name is not, and where it isn't named.
pub record IsOwn (current : List ℕ) (tables : List (List ℕ)) (page : ℕ) : Type 0 where
  pub other : get_or current page 0 ≢ 0
  pub once : names (get_or current page 0) current ≡ 1
  pub never : all_names (get_or current page 0) tables ≡ 0

pub own_names : (frames : List (List ℕ)) (tally : Tally) (current : List ℕ) (tables : List (List ℕ)) (page : ℕ)
    → IsPool frames tally current tables → page < length current → count_of tally.counts (get_or current page 0) ≡ 1
    → IsOwn current tables page
own_names frames tally current tables page p here one =
    let f : ℕ = get_or current page 0 in
    let named = names_here f current page here refl in
    record {
      other = λ e. let two : extra_names f ≡ 2 = rw e extra_names-zero in omega (arith, p.counted f);
      once = omega (arith, p.counted f);
      never = omega (arith, p.counted f);
    }

-- The pool after the bytes of such a frame changed.
pub written_pool : (frames frames' : List (List ℕ)) (tally : Tally) (current : List ℕ) (tables : List (List ℕ))
    (page : ℕ)
    → IsPool frames tally current tables → IsOwn current tables page → length frames' ≡ length frames
    → ((g : ℕ) → g ≢ get_or current page 0 → frame_of frames' g ≡ frame_of frames g)
    → IsPool frames' tally current tables
written_pool frames frames' tally current tables page p own size same = record {
  zeros = same 0 (λ e. own.other (sym e)) ∙ p.zeros;
  counted = p.counted;
  some = p.some;
  covered = omega (arith, p.covered);
  size = p.size;
  sizes = p.sizes;
  few = p.few;
  homes = p.homes;
}

-- What is seen of it: the bytes of one page changed.
pub written_pages : (frames frames' : List (List ℕ)) (current : List ℕ) (tables : List (List ℕ)) (page : ℕ)
    → page < length current → IsOwn current tables page
    → ((g : ℕ) → g ≢ get_or current page 0 → frame_of frames' g ≡ frame_of frames g)
    → map (frame_of frames') current ≡ set (map (frame_of frames) current) page
    (frame_of frames' (get_or current page 0))
written_pages frames frames' current tables page here own same =
    map_once (get_or current page 0) (frame_of frames) (frame_of frames') current page own.once here refl same

pub written_saved : (frames frames' : List (List ℕ)) (current : List ℕ) (tables : List (List ℕ)) (page : ℕ)
    → IsOwn current tables page → ((g : ℕ) → g ≢ get_or current page 0 → frame_of frames' g ≡ frame_of frames g)
    → map (saved_of frames') tables ≡ map (saved_of frames) tables
written_saved frames frames' current tables page own same = all_saved_other (get_or current page 0) frames frames'
    tables own.never same

-- A page that is shared gets the frame g, which had no name, with the bytes of the frame that it had.
pub record Taken (frames frames' : List (List ℕ)) (tally tally' : Tally) (current : List ℕ) (page g : ℕ) : Type 0
  where
    pub there : g < length tally.counts
    pub unused : count_of tally.counts g ≡ 0
    pub more : 2 ≤ count_of tally.counts (get_or current page 0)
    pub counts : tally'.counts ≡ set (set tally.counts g 1) (get_or current page 0)
        (count_of (set tally.counts g 1) (get_or current page 0) - 1)
    pub spare : tally'.spare + 1 ≡ tally.spare
    pub size : length frames' ≡ length frames
    pub copy : frame_of frames' g ≡ frame_of frames (get_or current page 0)
    pub others : (f : ℕ) → f ≢ g → frame_of frames' f ≡ frame_of frames f

-- A frame that is taken isn't one with names.
pub taken_kept : (counts : List ℕ) (f g : ℕ) → 2 ≤ count_of counts f → count_of counts g ≡ 0
    → count_of (set counts g 1) f ≡ count_of counts f
taken_kept counts f g more unused =
    get_or-set_other counts g f 1 0 (λ e. let none : count_of counts f ≡ 0 =
    subst (λ (x : ℕ). count_of counts x ≡ 0) (sym e) unused in omega arith)

module _ (frames frames' : List (List ℕ)) (tally tally' : Tally) (current : List ℕ) (tables : List (List ℕ))
    (page g : ℕ) where
  abbrev from : ℕ
  from = get_or current page 0

  abbrev after : List ℕ
  after = set current page g

  module _ (p : IsPool frames tally current tables) (here : page < length current)
      (t : Taken frames frames' tally tally' current page g) where
    g≢from : g ≢ from
    g≢from e = let none : count_of tally.counts from ≡ 0 = subst (λ (f : ℕ). count_of tally.counts f ≡ 0) e t.unused in
        omega (arith, t.more)

    g≢0 : g ≢ 0
    g≢0 e = let two : extra_names g ≡ 2 = rw e extra_names-zero in omega (arith, p.counted g, t.unused)

    g_names : names g current ≡ 0
    g_names = omega (arith, p.counted g, t.unused)

    g_all_names : all_names g tables ≡ 0
    g_all_names = omega (arith, p.counted g, t.unused)

    size_after : length after ≡ length current
    size_after = length-set current page g

    -- a count after it
    counted_after : (f : ℕ) → count_of tally'.counts f ≡ extra_names f + names f after + all_names f tables
    counted_after f =
        let s = names-set f current page g here in
        let inside : from < length tally.counts = count_inside tally.counts from (omega (arith, t.more)) in
        let inside' : from < length (set tally.counts g 1) = rw (length-set tally.counts g 1) inside in
        let kept : count_of (set tally.counts g 1) from ≡ count_of tally.counts from =
        get_or-set_other tally.counts g from 1 0 (λ e. g≢from (sym e)) in
        rw t.counts (elim (cases_eq f from) [
          | inl same ↦
              let at : count_of (set (set tally.counts g 1) from (count_of (set tally.counts g 1) from - 1)) f
              ≡ count_of (set tally.counts g 1) from - 1 =
              rw same (get_or-set_same (set tally.counts g 1) from _ 0 inside') in
              let one : is_frame f from ≡ 1 = rw same (is_frame-same from) in
              let none : is_frame f g ≡ 0 = is_frame-other f g (λ e. g≢from (e ∙ same)) in
              let was : count_of tally.counts f ≡ count_of tally.counts from = rw same refl in
              omega (arith, p.counted f, t.more)
          | inr other ↦
              let at = get_or-set_other (set tally.counts g 1) from f (count_of (set tally.counts g 1) from - 1) 0 other
              in
              let none : is_frame f from ≡ 0 = is_frame-other f from (λ e. other (sym e)) in
              elim (cases_eq f g) [
                | inl same ↦
                    let one : is_frame f g ≡ 1 = rw same (is_frame-same g) in
                    let at' : count_of (set tally.counts g 1) f ≡ 1 =
                    rw same (get_or-set_same tally.counts g 1 0 t.there) in
                    let was : count_of tally.counts f ≡ 0 = rw same t.unused in
                    omega (arith, p.counted f)
                | inr other' ↦
                    let none' : is_frame f g ≡ 0 = is_frame-other f g (λ e. other' (sym e)) in
                    let at' = get_or-set_other tally.counts g f 1 0 other' in
                    omega (arith, p.counted f)
              ]
        ])

    -- the new frame belongs to the page
    home_after : ℕ → ℕ
    home_after f = cond (eqb f g) page (p.homes.home f)

    home_after-other : (f : ℕ) → f ≢ g → home_after f ≡ p.homes.home f
    unfolding home_after
    home_after-other f other = rw (ne_eqb f g other) refl

    home_after-same : home_after g ≡ page
    unfolding home_after
    home_after-same = rw (eq-eqb g g refl) refl

    at_home_other : (table : List ℕ) → names g table ≡ 0 → AreAtHome p.homes.home table → AreAtHome home_after table
    at_home_other table none at_home i inside some =
        let other : get_or table i 0 ≢ g = λ e. let named = names_here g table i inside e in omega arith in
        home_after-other (get_or table i 0) other ∙ at_home i inside some

    at_home_current : AreAtHome home_after after
    at_home_current i inside some =
        elim (cases_eq i page) [
          | inl same ↦
              let at : get_or after i 0 ≡ g = rw same (get_or-set_same current page g 0 here) in
              ap home_after at ∙ home_after-same ∙ sym same
          | inr other ↦
              let at : get_or after i 0 ≡ get_or current i 0 = get_or-set_other current page i g 0 other in
              let within : i < length current = subst (λ (n : ℕ). i < n) size_after inside in
              let apart : get_or current i 0 ≢ g = λ e. let named = names_here g current i within e in
              omega (arith, g_names) in
              ap home_after at ∙ home_after-other (get_or current i 0) apart
              ∙ p.homes.here i within (λ e. some (at ∙ e))
        ]

    homes_after : HaveHomes after tables
    homes_after = record {
      home = home_after;
      here = at_home_current;
      saved = All-from_get_or (AreAtHome home_after) tables [] (λ n there.
          let le = names-le-all g tables n there in
          at_home_other (get_or tables n []) (omega (arith, g_all_names)) (All-get_or (AreAtHome p.homes.home) tables n
          [] there p.homes.saved));
    }

    counts_size : length tally'.counts ≡ length tally.counts
    counts_size = rw t.counts (length-set (set tally.counts g 1) from _ ∙ length-set tally.counts g 1)

    pub taken_pool : IsPool frames' tally' after tables
    taken_pool = record {
      zeros = t.others 0 (λ e. g≢0 (sym e)) ∙ p.zeros;
      counted = counted_after;
      some = omega (arith, p.some, counts_size, t.spare);
      covered = omega (arith, p.covered, counts_size, t.size);
      size = subst IsPageCount (sym size_after) p.size;
      sizes = subst (λ (n : ℕ). All (IsTable n) tables) (sym size_after) p.sizes;
      few = p.few;
      homes = homes_after;
    }

    pub taken_pages : map (frame_of frames') after ≡ map (frame_of frames) current
    taken_pages =
        map-set_same (frame_of frames') current page g 0 (t.copy ∙ sym (t.others from (λ e. g≢from (sym e))))
        ∙ map_other g (frame_of frames) (frame_of frames') current g_names t.others

    pub taken_saved : map (saved_of frames') tables ≡ map (saved_of frames) tables
    taken_saved = all_saved_other g frames frames' tables g_all_names t.others

    pub taken_own : HasOwn page (memories_of frames tally current tables) (memories_of frames' tally' after tables)
    taken_own =
        let at : get_or after page 0 ≡ g = get_or-set_same current page g 0 here in
        record {
          saved = taken_saved;
          stamps = ap (set current page) (sym at);
          own = λ shared.
              let more = count_from_shared frames' tally' after tables page taken_pool (rw size_after here) shared in
              let one : count_of tally'.counts (get_or after page 0) ≡ 1 = ap (count_of tally'.counts) at
              ∙ omega (
                arith,
                counted_after g,
                names-set g current page g here,
                g_names,
                g_all_names,
                extra_names-other g g≢0,
                is_frame-same g,
                is_frame-other g from (λ e. g≢from (sym e)),
              ) in
              omega arith;
          first = λ shared. (omega (arith, counts_size, t.spare, p.some), t.spare);
          again = λ own. absurd
              (own (shared_from_count frames tally current tables page p here (λ e. omega (arith, t.more))));
        }

-- Whether a page is shared depends on its stamps alone.
pub shared_at : (m n : Memories) (page : ℕ) → slice_index n.current.stamps page ≡ slice_index m.current.stamps page
    → n.saved ≡ m.saved → IsShared n page → IsShared m page
shared_at m n page stamp saved shared = elim shared [
  | inl none ↦ inl (sym stamp ∙ none)
  | inr kept ↦
      inr (record {
        number = kept.number;
        memory = kept.memory;
        live = ap (λ (s : List (Option Memory)). get_or s kept.number None) (sym saved) ∙ kept.live;
        alike = kept.alike ∙ stamp;
      })
]

shared_same : (m n : Memories) (page : ℕ) → n.current.stamps ≡ m.current.stamps → n.saved ≡ m.saved → IsShared n page
    → IsShared m page
shared_same m n page stamps saved shared = shared_at m n page (ap (λ (s : List ℕ). slice_index s page) stamps) saved
    shared

-- A write to a page leaves the others shared or not.
pub own_beside : (page : ℕ) (old new : Memories) → HasOwn page old new → SharedBeside page old new
own_beside page old new own other apart =
    let stamp : slice_index new.current.stamps other ≡ slice_index old.current.stamps other
    = ap (λ (s : List ℕ). slice_index s other) own.stamps ∙ get_or-set_other old.current.stamps page other
    (slice_index new.current.stamps page) 0 apart in
    (shared_at old new other stamp own.saved, shared_at new old other (sym stamp) (sym own.saved))

-- Where the current memory is a saved one, all its pages are shared.
pub all_shared : (m : Memories) (number : ℕ) → saved_at m number ≡ Some m.current → (page : ℕ) → IsShared m page
all_shared m number live page = inr (record { number = number; memory = m.current; live = live; alike = refl })

-- Where no memory is saved anew, a page that isn't shared stays so.
pub own_stays : (old new : Memories) (page : ℕ) → new.current ≡ old.current
    → ((number : ℕ) (memory : Memory) → saved_at new number ≡ Some memory → saved_at old number ≡ Some memory)
    → ¬ IsShared old page → ¬ IsShared new page
own_stays old new page same fewer own shared = own (elim shared [
  | inl none ↦ inl (ap (λ (m : Memory). slice_index m.stamps page) (sym same) ∙ none)
  | inr kept ↦
      inr (record {
        number = kept.number;
        memory = kept.memory;
        live = fewer kept.number kept.memory kept.live;
        alike = kept.alike ∙ ap (λ (m : Memory). slice_index m.stamps page) same;
      })
])

-- A page that had a frame of its own keeps it.
pub own_kept : (page : ℕ) (old new : Memories) → ¬ IsShared old page → new.current.stamps ≡ old.current.stamps
    → new.saved ≡ old.saved → new.used ≡ old.used → new.spare ≡ old.spare
    → HasOwn page old new
own_kept page old new own stamps saved used spare = record {
  saved = saved;
  stamps = stamps ∙ sym (set-get_or old.current.stamps page 0)
      ∙ ap (λ (s : List ℕ). set old.current.stamps page (slice_index s page)) (sym stamps);
  own = λ shared. own (shared_same old new page stamps saved shared);
  first = λ shared. absurd (own shared);
  again = λ none. (stamps, used, spare);
}

-- Then the bytes of the page are written, which changes no stamp.
pub own_written : (page : ℕ) (old mid new : Memories) → HasOwn page old mid → new.current.stamps ≡ mid.current.stamps
    → new.saved ≡ mid.saved → new.used ≡ mid.used → new.spare ≡ mid.spare
    → HasOwn page old new
own_written page old mid new own stamps saved used spare = record {
  saved = saved ∙ own.saved;
  stamps = stamps ∙ own.stamps ∙ ap (λ (s : List ℕ). set old.current.stamps page (slice_index s page)) (sym stamps);
  own = λ shared. own.own (shared_same mid new page stamps saved shared);
  first = λ shared. (used ∙ (own.first shared).0, ap (λ (n : ℕ). n + 1) spare ∙ (own.first shared).1);
  again = λ none. (stamps ∙ (own.again none).0, used ∙ (own.again none).1, spare ∙ (own.again none).2);
}
