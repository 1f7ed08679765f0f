-- The saved memories of a pool, each as one list of bytes.
use Rattle.std.proofs.Common.{◌≡◌, ◌<◌, ℕ, zero, suc, ◌∙◌, ◌*◌, List, [], ◌∷◌, ◌++◌, length, get_or, map, Option, Some}
use Rattle.std.proofs.Common.{None, refl, sym, ap, subst, inl, inr}
use Rattle.std.specs.Prelude.{IsSome, IfSome, IfOk, Result, Ok, Err}
use Rattle.std.proofs.lemmas.Bool.{false≢true}
use Rattle.std.specs.List.{concat, flat_map}
use Rattle.std.specs.Option.{option_map}
use Rattle.cx_map.specs.Bytes.{AreBytes}
use Rattle.cx_pages.specs.Memories.{Memory, Memories, AreSavedWhole, AreWhole, SameOthers, distinct_count, stamps_in}
use Rattle.cx_pages.specs.Memories.{stamp_count, HasOwn, SharedBeside, page_count, page_of as pages_page_of}
use Rattle.cx_pages.specs.Memories.{saved_at as pages_at, IsLive as IsLivePages, IsShared as IsSharedPage}
use Rattle.cx_ram.specs.PhysicalMemory.{AreSavedBytes, SavedMemory, HasOwnPage, IsLive, IsShared, frames_of, page_of}
use Rattle.cx_ram.specs.PhysicalMemory.{saved_at, stamped}
use Rattle.cx_ram.specs.Flat.{flat, physical}
use Rattle.cx_ram.proofs.JoinedPages.{length-joined, bytes-joined, page-joined}

pub get_or-flat : (saved : List (Option Memory)) (number : ℕ)
    → get_or (map (option_map flat) saved) number None ≡ option_map flat (get_or saved number None)
get_or-flat [] number = refl
get_or-flat (s ∷ saved) zero = refl
get_or-flat (s ∷ saved) (suc number) = get_or-flat saved number

-- A memory that is there is that of the pool.
pub flat_is : (o : Option Memory) (s : SavedMemory) → option_map flat o ≡ Some s
    → (memory : Memory) × (o ≡ Some memory) × (flat memory ≡ s)
flat_is None s e = cc
flat_is (Some memory) s e = (memory, refl, cc)

live_of : (o : Option Memory) → IsSome (option_map flat o) → IsSome o
live_of None live = live
live_of (Some memory) live = live

of_live : (o : Option Memory) → IsSome o → IsSome (option_map flat o)
of_live None live = live
of_live (Some memory) live = live

live_memory : (o : Option Memory) → IsSome o → (memory : Memory) × (o ≡ Some memory)
live_memory None live = absurd (false≢true live)
live_memory (Some memory) live = (memory, refl)

pub live_in_pool : (m : Memories) (number : ℕ) → IsLive (physical m) number → IsLivePages m number
live_in_pool m number live = live_of (pages_at m number) (subst IsSome (get_or-flat m.saved number) live)

pub live_from_pool : (m : Memories) (number : ℕ) → IsLivePages m number → IsLive (physical m) number
live_from_pool m number live = subst IsSome (sym (get_or-flat m.saved number)) (of_live (pages_at m number) live)

pub none_saved : (m : Memories) (number : ℕ) → pages_at m number ≡ None → saved_at (physical m) number ≡ None
none_saved m number none = get_or-flat m.saved number ∙ ap (option_map flat) none

pub some_saved : (m : Memories) (number : ℕ) (memory : Memory) → pages_at m number ≡ Some memory
    → saved_at (physical m) number ≡ Some (flat memory)
some_saved m number memory some = get_or-flat m.saved number ∙ ap (option_map flat) some

pub same_others : (old new : List (Option Memory)) (number : ℕ) → SameOthers number old new
    → SameOthers number (map (option_map flat) old) (map (option_map flat) new)
same_others old new number same = λ other apart.
    get_or-flat new other ∙ ap (option_map flat) (same other apart) ∙ sym (get_or-flat old other)

-- The frames are those of the pool.
get_or-stamped : (saved : List (Option Memory)) (number : ℕ)
    → get_or (map (option_map stamped) (map (option_map flat) saved)) number None
    ≡ option_map stamped (option_map flat (get_or saved number None))
get_or-stamped [] number = refl
get_or-stamped (s ∷ saved) zero = refl
get_or-stamped (s ∷ saved) (suc number) = get_or-stamped saved number

stamped_is : (o : Option Memory) (s : Memory) → option_map stamped (option_map flat o) ≡ Some s
    → (memory : Memory) × (o ≡ Some memory) × (memory.stamps ≡ s.stamps)
stamped_is None s e = cc
stamped_is (Some memory) s e =
    let same : stamped (flat memory) ≡ s = cc in
    (memory, refl, ap (λ (t : Memory). t.stamps) same)

-- The same pages are shared.
pub shared_from_pool : (m : Memories) (page : ℕ) → IsSharedPage m page → IsShared (physical m) page
shared_from_pool m page shared = elim shared [
  | inl none ↦ inl none
  | inr kept ↦ inr (record {
    number = kept.number;
    memory = stamped (flat kept.memory);
    live = get_or-stamped m.saved kept.number
        ∙ ap (λ (o : Option Memory). option_map stamped (option_map flat o)) kept.live;
    alike = kept.alike;
  })
]

pub shared_in_pool : (m : Memories) (page : ℕ) → IsShared (physical m) page → IsSharedPage m page
shared_in_pool m page shared = elim shared [
  | inl none ↦ inl none
  | inr kept ↦
      let is = stamped_is (pages_at m kept.number) kept.memory (sym (get_or-stamped m.saved kept.number) ∙ kept.live) in
      inr (record {
        number = kept.number;
        memory = is.0;
        live = is.1;
        alike = ap (λ (s : List ℕ). get_or s page 0) is.2 ∙ kept.alike;
      })
]

-- A page that has a frame of its own in the pool has one.
pub own_from_pool : (page : ℕ) (old new : Memories) → HasOwn page old new → SharedBeside page old new
    → HasOwnPage page (physical old) (physical new)
own_from_pool page old new own beside = (
  record {
    saved = ap (λ (s : List (Option Memory)). map (option_map stamped) (map (option_map flat) s)) own.saved;
    stamps = own.stamps;
    own = λ shared. own.own (shared_in_pool new page shared);
    first = λ shared. own.first (shared_in_pool old page shared);
    again = λ none. own.again (λ shared. none (shared_from_pool old page shared));
  },
  λ other apart. (
    λ now. shared_from_pool old other ((beside other apart).0 (shared_in_pool new other now)),
    λ was. shared_from_pool new other ((beside other apart).1 (shared_in_pool old other was)),
  ),
)

-- Saved memories are bytes, as many as RAM has.
pub saved_bytes : (m : Memories) → AreWhole m.current → AreSavedWhole m → AreSavedBytes (physical m)
saved_bytes m whole saved number s e =
    let is = flat_is (pages_at m number) s (sym (get_or-flat m.saved number) ∙ e) in
    let there = saved number is.0 is.1 in
    let size : length (concat (is.0).pages) ≡ length (concat m.current.pages) =
    length-joined (is.0).pages there.0 ∙ ap (λ (n : ℕ). n * 4096) there.1
    ∙ sym (length-joined m.current.pages whole) in
    let holds : SavedMemory → Type 0 = λ s. AreBytes s.memory × (length s.memory ≡ length (concat m.current.pages)) in
    subst holds is.2 (bytes-joined (is.0).pages there.0, size)

-- The same stamps are counted.
stamps-flat : (saved : List (Option Memory))
    → flat_map stamps_in (map (option_map stamped) (map (option_map flat) saved)) ≡ flat_map stamps_in saved
stamps-flat [] = refl
stamps-flat (None ∷ saved) = stamps-flat saved
stamps-flat (Some memory ∷ saved) = ap (λ (l : List ℕ). memory.stamps ++ l) (stamps-flat saved)

pub stamps_counted : (m : Memories) → stamp_count (frames_of (physical m)) ≡ stamp_count m
stamps_counted m = ap (λ (l : List ℕ). distinct_count (m.current.stamps ++ l)) (stamps-flat m.saved)

-- A saved page of RAM is that of the pool.
pub saved_page : (m : Memories) (number page : ℕ) (bytes : List ℕ) → AreWhole m.current → AreSavedWhole m
    → IsLivePages m number → page < page_count m.current
    → IfSome (pages_at m number) (λ memory. bytes ≡ pages_page_of memory page)
    → IfSome (saved_at (physical m) number) (λ s. bytes ≡ page_of s.memory page)
saved_page m number page bytes whole saved live there is =
    let some = live_memory (pages_at m number) live in
    let parts = saved number some.0 some.1 in
    let at : bytes ≡ pages_page_of some.0 page =
    subst (λ (o : Option Memory). IfSome o (λ memory. bytes ≡ pages_page_of memory page)) some.1 is in
    let same : bytes ≡ page_of (concat (some.0).pages) page =
    at ∙ sym (page-joined (some.0).pages page parts.0 (rw parts.1 there)) in
    subst (λ (o : Option SavedMemory). IfSome o (λ s. bytes ≡ page_of s.memory page))
    (sym (some_saved m number some.0 some.1)) same

-- What is restored has as many bytes.
pub restored_size : (m : Memories) (number : ℕ) (memory : Memory) → AreWhole m.current → AreSavedWhole m
    → pages_at m number ≡ Some memory → length (concat memory.pages) ≡ length (concat m.current.pages)
restored_size m number memory whole saved e =
    (saved_bytes m whole saved number (flat memory) (some_saved m number memory e)).1

-- What holds of an answer, and what follows from it.
pub if_ok : {T E : Type 0} (r : Result T E) (P Q : T → Type 0) → ((t : T) → P t → Q t) → IfOk r P → IfOk r Q
if_ok (Ok t) P Q step holds = step t holds
if_ok (Err e) P Q step holds = holds
