-- Accesses that aren't translated, to bytes of RAM.
use Rattle.std.proofs.Common.{◌≡◌, ℕ, ◌+◌, true, List, length, Ok, arith, leb, refl}
use Rattle.std.proofs.lemmas.Bool.{le-leb}
use Rattle.cx_machine.specs.Machine.{pages_of}
use Rattle.cx_csr.specs.Rules.{is_in_ram}
use Rattle.cx_map.specs.Map.{IsInRam, size_of_pages}
use Rattle.cx_map.specs.declared.TheConstants.{RAM_START}
use Rattle.cx_walk.specs.declared.kind.Kind.{Kind}
use Rattle.cx_walk.specs.Mode.{is_bare}
use Rattle.cx_walk.specs.Walks.{place_at, trail_of, walk_of}
use Rattle.cx_walk.specs.declared.walk.Place.TheVariants.{Ram}
use Rattle.cx_hart.specs.Fetch.{translated, walk_in}
use Rattle.cx_hart.specs.Looks.{told}
use Rattle.cx_hart.specs.Stretches.{bare_walk as the_bare_walk}
use Rattle.cx_hart.specs.Surroundings.{Surroundings}
use Rattle.cx_hart.specs.declared.record.StepRec.{StepRec}

inside : (memory : List ℕ) (va len pages : ℕ) → IsInRam (length memory) va len → length memory ≡ size_of_pages pages
    → is_in_ram (size_of_pages (pages_of memory)) va len ≡ true
inside memory va len pages is whole =
    let low : leb RAM_START va ≡ true = le-leb RAM_START va is.low in
    let high : leb (va + len) (RAM_START + size_of_pages (pages_of memory)) ≡ true =
    le-leb (va + len) (RAM_START + size_of_pages (pages_of memory)) (omega (arith, whole, is.high)) in
    rw (low, high) refl

pub bare_walk : (here : Surroundings) (kind : Kind) (va len pages : ℕ) → is_bare here.state kind ≡ true
    → IsInRam (length here.memory) va len → length here.memory ≡ size_of_pages pages
    → walk_in here kind va len ≡ the_bare_walk va
unfolding walk_in walk_of trail_of place_at
bare_walk here kind va len pages bare is whole = rw (bare, inside here.memory va len pages is whole) refl

pub bare_place : (here : Surroundings) (kind : Kind) (va len : ℕ) → walk_in here kind va len ≡ the_bare_walk va
    → Ok (Ram va) ≡ (translated here kind va len).end
unfolding translated
bare_place here kind va len is = rw is refl

pub bare_told : (here : Surroundings) (kind : Kind) (va len : ℕ) (rec : StepRec)
    → walk_in here kind va len ≡ the_bare_walk va → rec ≡ told (translated here kind va len).looks rec
unfolding translated
bare_told here kind va len rec is = rw is refl
