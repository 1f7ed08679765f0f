-- A walk of user mode with nothing in its way.
use Rattle.std.proofs.Common.{◌≡◌, ℕ, ◌+◌, ◌%◌, ◌<◌, ◌≤◌, ◌⊎◌, inl, inr, true, false, [], ◌∷◌, Option, Some, Ok, refl}
use Rattle.std.proofs.Common.{subst, arith}
use Rattle.std.proofs.lemmas.Bool.{le-leb}
use Rattle.cx_csr.specs.Rules.{is_in_ram}
use Rattle.cx_csr.specs.declared.state.State.{State}
use Rattle.cx_map.specs.Map.{size_of_pages}
use Rattle.cx_map.specs.declared.TheConstants.{RAM_START}
use Rattle.cx_walk.specs.Entry.{first_place, is_open, is_pointer, physical_address, second_place}
use Rattle.cx_walk.specs.Walks.{address_through, place_at, trail_of, walk_of}
use Rattle.cx_walk.specs.declared.entry.Size.TheVariants.{Page}
use Rattle.cx_walk.specs.declared.kind.Kind.{Kind}
use Rattle.cx_walk.specs.declared.walk.Place.TheVariants.{Ram}
use Rattle.cx_walk.specs.Mode.{is_bare}

-- aligned bytes of which the first is in RAM, as RAM is whole pages
pub inside_ram : (pages place len : ℕ) → (len ≡ 1) ⊎ (len ≡ 2) ⊎ (len ≡ 4) → place % len ≡ 0 → RAM_START ≤ place
    → place < RAM_START + size_of_pages pages → is_in_ram (size_of_pages pages) place len ≡ true
inside_ram pages place len lengths aligned low below =
    let high : place + len ≤ RAM_START + size_of_pages pages = by lengths in
    rw (le-leb RAM_START place low, le-leb (place + len) (RAM_START + size_of_pages pages) high) refl
  where
    by : (len ≡ 1) ⊎ (len ≡ 2) ⊎ (len ≡ 4) → place + len ≤ RAM_START + size_of_pages pages
    by (inl e) = omega arith
    by (inr (inl e)) = let h : place % 2 ≡ 0 = subst (λ n. place % n ≡ 0) e aligned in omega arith
    by (inr (inr e)) = let h : place % 4 ≡ 0 = subst (λ n. place % n ≡ 0) e aligned in omega arith

pub user_walk : (word : ℕ → Option ℕ) (pages : ℕ) (s : State) (kind : Kind) (va len first upper second lower place : ℕ)
    → is_bare s kind ≡ false → first ≡ first_place s.csr.satp va → word first ≡ Some upper
    → is_pointer upper ≡ true → second ≡ second_place upper va → word second ≡ Some lower
    → is_open s kind Page lower ≡ true → place ≡ physical_address Page lower va
    → is_in_ram (size_of_pages pages) place len ≡ true
    → walk_of word pages s kind va len ≡ record {
      count = 2;
      places = first ∷ second ∷ [];
      address = Some place;
      answer = Ok (Ram place);
    }
unfolding walk_of trail_of address_through place_at
user_walk word pages s kind va len first upper second lower place on one at points two then opens there inside =
    rw (on, ← one, at, points, ← two, then, opens, ← there, inside) refl
