-- Tables that are saved, restored and forgotten.
use Rattle.std.proofs.Common.{◌≡◌, ◌≢◌, ℕ, zero, suc, ◌+◌, ◌*◌, ◌^◌, ◌<◌, ◌≤◌, List, [], ◌∷◌, ◌++◌, length, get_or, set}
use Rattle.std.proofs.Common.{map, None, refl, sym, ap, ◌∙◌, subst, inl, inr, arith, length-set, length-append}
use Rattle.std.specs.Prelude.{All}
use Rattle.std.proofs.lemmas.Bool.{cases_eq}
use Rattle.std.proofs.lemmas.List.{get_or-set_same, get_or-set_other}
use Rattle.std.proofs.lemmas.List.Elements.{All-set, All-get_or, All-push}
use Rattle.std.proofs.Math.Nat.{mul-le-mul_right}
use Rattle.cx_map.specs.Map.{IsPageCount}
use Rattle.cx_pages.specs.declared.pool.TheConstants.{MOST_SAVED}
use Rattle.cx_pages.specs.Counts.{Tally, count_of}
use Rattle.cx_pages.specs.Memories.{GivesBack}
use Rattle.cx_pages.specs.Tables.{names, all_names, extra_names, saved_of, memories_of, AreAtHome, IsTable, IsPool}
use Rattle.cx_pages.proofs.Naming.{names-nil, names-le-length, all_names-le, all_names-set, all_names-push}
use Rattle.cx_pages.proofs.Naming.{extra_names-zero, extra_names-other}
use Rattle.cx_pages.proofs.Mapping.{saved_at-table}

-- Counts have room for the names of one table more.
pub room_for_table : (frames : List (List ℕ)) (tally : Tally) (current : List ℕ) (tables : List (List ℕ))
    (table : List ℕ) (f : ℕ)
    → IsPool frames tally current tables → length table ≤ 262144 → count_of tally.counts f + names f table < 2 ^ 64
room_for_table frames tally current tables table f p short =
    let short' : All (λ t. length t ≤ 262144) tables = λ k d here.
    elim (p.sizes k d here) [
      | inl none ↦ let nil : length (get_or tables k d) ≡ 0 = rw none refl in
          omega arith
      | inr same ↦ omega (arith, p.size.most)
    ] in
    let all = all_names-le f 262144 tables short' in
    let few : length tables * 262144 ≤ MOST_SAVED * 262144 = mul-le-mul_right 262144 p.few in
    let most = names-le-length f table in
    let most' = names-le-length f current in
    let extra : extra_names f ≤ 2 =
    elim (cases_eq f 0) [
      | inl none ↦ rw (none, extra_names-zero) (omega arith)
      | inr some ↦ rw
          (extra_names-other f some) (omega arith)
    ] in
    omega (arith, p.counted f, p.size.most)

-- A saved table is restored.
pub restored_pool : (frames : List (List ℕ)) (tally tally' : Tally) (current : List ℕ) (tables : List (List ℕ))
    (n : ℕ)
    → IsPool frames tally current tables → n < length tables → length (get_or tables n []) ≡ length current
    → ((f : ℕ) → count_of tally'.counts f + names f current ≡ count_of tally.counts f + names f (get_or tables n []))
    → length tally'.counts ≡ length tally.counts → ((f : ℕ) → 1 ≤ count_of tally'.counts f
    → tally'.spare < length tally'.counts)
    → IsPool frames tally' (get_or tables n []) tables
restored_pool frames tally tally' current tables n p there size counts same left =
    let counted : (f : ℕ) → count_of tally'.counts f ≡ extra_names f + names f (get_or tables n []) + all_names f
    tables = λ f. omega (arith, p.counted f, counts f) in
    record {
      zeros = p.zeros;
      counted = counted;
      some = left 0 (omega (arith, counted 0, extra_names-zero));
      covered = omega (arith, p.covered);
      size = subst IsPageCount (sym size) p.size;
      sizes = subst (λ (k : ℕ). All (IsTable k) tables) (sym size) p.sizes;
      few = p.few;
      homes = record {
        home = p.homes.home;
        here = All-get_or (AreAtHome p.homes.home) tables n [] there p.homes.saved;
        saved = p.homes.saved;
      };
    }

-- A saved table is forgotten.
pub forgotten_pool : (frames : List (List ℕ)) (tally tally' : Tally) (current : List ℕ) (tables : List (List ℕ))
    (n : ℕ)
    → IsPool frames tally current tables → n < length tables
    → ((f : ℕ) → count_of tally'.counts f + names f (get_or tables n []) ≡ count_of tally.counts f)
    → length tally'.counts ≡ length tally.counts → ((f : ℕ) → 1 ≤ count_of tally'.counts f
    → tally'.spare < length tally'.counts)
    → IsPool frames tally' current (set tables n [])
forgotten_pool frames tally tally' current tables n p there counts same left =
    let counted : (f : ℕ) → count_of tally'.counts f ≡ extra_names f + names f current + all_names f (set tables n []) =
    λ f.
    omega (arith, p.counted f, counts f, all_names-set f tables n [] there, names-nil f) in
    record {
      zeros = p.zeros;
      counted = counted;
      some = left 0 (omega (arith, counted 0, extra_names-zero));
      covered = omega (arith, p.covered);
      size = p.size;
      sizes = All-set (IsTable (length current)) tables n [] (inl refl) p.sizes;
      few = omega (arith, p.few, length-set tables n []);
      homes = record {
        home = p.homes.home;
        here = p.homes.here;
        saved = All-set (AreAtHome p.homes.home) tables n [] (λ i inside. absurd (omega arith)) p.homes.saved;
      };
    }

-- The current table is saved in the place of an empty one.
pub saved_pool : (frames : List (List ℕ)) (tally tally' : Tally) (current : List ℕ) (tables : List (List ℕ))
    (n : ℕ)
    → IsPool frames tally current tables → n < length tables → get_or tables n [] ≡ []
    → ((f : ℕ) → count_of tally'.counts f ≡ count_of tally.counts f + names f current)
    → length tally'.counts ≡ length tally.counts → tally'.spare ≡ tally.spare
    → IsPool frames tally' current (set tables n current)
saved_pool frames tally tally' current tables n p there empty counts same spare =
    let none : (f : ℕ) → names f (get_or tables n []) ≡ 0 = λ f. rw empty (names-nil f) in
    record {
      zeros = p.zeros;
      counted = λ f. omega (arith, p.counted f, counts f, all_names-set f tables n current there, none f);
      some = omega (arith, p.some);
      covered = omega (arith, p.covered);
      size = p.size;
      sizes = All-set (IsTable (length current)) tables n current (inr refl) p.sizes;
      few = omega (arith, p.few, length-set tables n current);
      homes = record {
        home = p.homes.home;
        here = p.homes.here;
        saved = All-set (AreAtHome p.homes.home) tables n current p.homes.here p.homes.saved;
      };
    }

-- An empty table is added.
pub pushed_pool : (frames : List (List ℕ)) (tally : Tally) (current : List ℕ) (tables : List (List ℕ))
    → IsPool frames tally current tables → length tables < MOST_SAVED → IsPool frames tally current (tables ++ [] ∷ [])
pushed_pool frames tally current tables p few = record {
  zeros = p.zeros;
  counted = λ f. omega (arith, p.counted f, all_names-push f tables [], names-nil f);
  some = p.some;
  covered = p.covered;
  size = p.size;
  sizes = All-push (IsTable (length current)) tables [] p.sizes (inl refl);
  few = omega (arith, length-append tables ([] ∷ []));
  homes = record {
    home = p.homes.home;
    here = p.homes.here;
    saved = All-push (AreAtHome p.homes.home) tables [] p.homes.saved (λ i inside. absurd (omega arith));
  };
}

-- What is seen under the number of a table that was set.
pub saved_at-set : (frames : List (List ℕ)) (tables : List (List ℕ)) (n : ℕ) (table : List ℕ) → n < length tables
    → get_or (map (saved_of frames) (set tables n table)) n None ≡ saved_of frames table
saved_at-set frames tables n table there = saved_at-table frames (set tables n table) n
    ∙ ap (saved_of frames) (get_or-set_same tables n table [] there)

pub saved_at-set_other : (frames : List (List ℕ)) (tables : List (List ℕ)) (n : ℕ) (table : List ℕ) (other : ℕ)
    → other ≢ n
    → get_or (map (saved_of frames) (set tables n table)) other None ≡ get_or (map (saved_of frames) tables) other None
saved_at-set_other frames tables n table other apart =
    saved_at-table frames (set tables n table) other
    ∙ ap (saved_of frames) (get_or-set_other tables n other table [] apart)
    ∙ sym (saved_at-table frames tables other)

-- An empty table shows as nothing.
pub saved_at-push : (frames : List (List ℕ)) (tables : List (List ℕ)) (number : ℕ)
    → get_or (map (saved_of frames) (tables ++ [] ∷ [])) number None ≡ get_or (map (saved_of frames) tables) number None
saved_at-push frames [] zero = refl
saved_at-push frames [] (suc number) = refl
saved_at-push frames (table ∷ tables) zero = refl
saved_at-push frames (table ∷ tables) (suc number) = saved_at-push frames tables number

-- Where nothing is seen, the table is empty.
pub empty_table : (frames : List (List ℕ)) (table : List ℕ) → saved_of frames table ≡ None → table ≡ []
empty_table frames [] e = refl
empty_table frames (f ∷ table) e = cc

-- Frames that come back are spare.
pub gives_back : (frames : List (List ℕ)) (tally tally' : Tally) (current current' : List ℕ)
    (tables tables' : List (List ℕ))
    → IsPool frames tally current tables → IsPool frames tally' current' tables'
    → length tally'.counts ≡ length tally.counts → tally.spare ≤ tally'.spare
    → GivesBack (memories_of frames tally current tables).used tally.spare
    (memories_of frames tally' current' tables').used tally'.spare
gives_back frames tally tally' current current' tables tables' p p' same more = record {
  fewer = omega arith;
  more = more;
  sum = omega (arith, p.some, p'.some);
}
