-- From a virtual address to what stands there (Privileged 1.12, 4.3.2), and the fetch of an instruction.
use Rattle.std.specs.Prelude.{◌≡◌, ℕ, List, take, map, unwrap_or, Some, Result, Ok, Err}
use Rattle.cx_walk.specs.declared.kind.Kind.{Kind}
use Rattle.cx_walk.specs.declared.kind.Kind.TheVariants.{Fetch}
use Rattle.cx_walk.specs.declared.walk.Place.{Place}
use Rattle.cx_walk.specs.declared.walk.Walk.{Walk}
use Rattle.cx_walk.specs.Bytes.{ram_bytes, word_in}
use Rattle.cx_walk.specs.Quick.{quick_walk}
use Rattle.cx_walk.specs.Walks.{address_of, walk_of}
use Rattle.cx_walk.specs.declared.quickly.QuickWalk.{QuickWalk}
use Rattle.cx_machine.specs.Machine.{pages_of}
use Rattle.cx_hart.specs.Ends.{End, found as found_at, trap as ends_in_trap}
use Rattle.cx_hart.specs.Looks.{Look, Entry, Word}
use Rattle.cx_hart.specs.Phases.{Phase, sees, ◌>>=◌}
use Rattle.cx_hart.specs.Surroundings.{Surroundings}
use Rattle.cx_hart.specs.Touches.{part_value, touch}
use Rattle.cx_hart.specs.declared.findings.Part.{Part}
use Rattle.cx_hart.specs.declared.record.Touch.{Touch}

-- ---- translation

-- The walk of an access over the machine's RAM. Which accesses it translates, and with which privilege, is said of the
-- walk (3.1.6.3 for MPRV, 4.1.11 for satp); that MPRV has no effect below machine mode is this hart's own choice.
unfoldable pub walk_in : Surroundings → Kind → ℕ → ℕ → Walk
walk_in here kind va len = walk_of (word_in (ram_bytes here.memory)) (pages_of here.memory) here.state kind va len

-- the entry at a place, which is a word of RAM
abbrev pub entry_at : List ℕ → ℕ → ℕ
entry_at memory place = unwrap_or (word_in (ram_bytes memory) place) 0

abbrev pub look_at : List ℕ → ℕ → Look
look_at memory place = Entry place (entry_at memory place)

-- the entries that a walk reads, in order
abbrev pub walk_looks : List ℕ → Walk → List Look
walk_looks memory walk = map (look_at memory) (take walk.count walk.places)

-- A walk by one look gives the walk of the access, and the entries that it read.
pub record IsQuick (here : Surroundings) (kind : Kind) (va len : ℕ) (q : QuickWalk) : Type 0 where
  pub walk : walk_in here kind va len ≡ quick_walk q
  pub first : word_in (ram_bytes here.memory) q.first ≡ Some q.first_entry
  pub second : word_in (ram_bytes here.memory) q.second ≡ Some q.second_entry

-- A fault is a trap that tells the virtual address (3.1.16, 4.1.9).
abbrev pub place_or_trap : ℕ → Result Place ℕ → End Place
place_or_trap va (Ok place) = found_at place
place_or_trap va (Err cause) = ends_in_trap cause va

-- what stands at a virtual address
unfoldable pub translated : Surroundings → Kind → ℕ → ℕ → Phase Place
translated here kind va len = record {
  looks = walk_looks here.memory (walk_in here kind va len);
  end = place_or_trap va (walk_in here kind va len).answer;
}

-- ---- bytes of RAM

-- a look at the bytes of a part, which finds their value
abbrev pub read_at : List ℕ → (Touch → Look) → Part → Phase ℕ
read_at memory look part = sees (look (touch part (part_value memory part))) (part_value memory part)

-- ---- the fetch

-- the word of the instruction at pc; no device has any
unfoldable pub fetched : Surroundings → Phase ℕ
fetched here = do
  place ← translated here Fetch here.state.pc 4
  read_at here.memory Word (record { va = here.state.pc; pa = address_of place; len = 4 })
