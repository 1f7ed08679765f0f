-- What holds of every walk over RAM.
use Rattle.std.proofs.Common.{◌≡◌, ℕ, ◌%◌, ◌^◌, ◌<◌, ◌≤◌, ◌⊎◌, Bool, true, false, cond, List, [], ◌∷◌, Option, Some}
use Rattle.std.proofs.Common.{IsSome, IfOk, IfErr, refl, subst, lit<, nat_eq}
use borrow.Author.Tests.{eqb-true}
use Rattle.std.specs.List.{find}
use Rattle.cx_walk.specs.declared.device.DeviceWord.{DeviceWord}
use Rattle.cx_walk.specs.declared.device.DeviceWord.TheVariants.{Power}
use Rattle.cx_walk.specs.declared.kind.Kind.{Kind}
use Rattle.cx_walk.specs.Bytes.{ram_bytes, word_in}
use Rattle.cx_walk.specs.Devices.{device_at, device_words, device_place}
use Rattle.cx_walk.specs.Kinds.{IsFault}
use Rattle.cx_walk.specs.Walks.{IsFound, address_of}
use Rattle.cx_walk.proofs.Found.{walk_found}
use Rattle.cx_walk.proofs.Listed.{places_most}
use Rattle.cx_walk.proofs.Outcomes.{walk_faults, walk_offset}
use Rattle.cx_machine.specs.Machine.{pages_of}
use Rattle.cx_hart.specs.Fetch.{walk_in}
use Rattle.cx_hart.specs.Surroundings.{Surroundings}

pub walk_most : (here : Surroundings) (kind : Kind) (va len : ℕ) → (walk_in here kind va len).count ≤ 2
unfolding walk_in
walk_most here kind va len = places_most (word_in (ram_bytes here.memory)) (pages_of here.memory) here.state kind va len

pub walk_in_found : (here : Surroundings) (kind : Kind) (va len : ℕ) → (len ≡ 1) ⊎ (len ≡ 2) ⊎ (len ≡ 4) → va % len ≡ 0
    → IfOk (walk_in here kind va len).answer (IsFound (pages_of here.memory) kind len)
unfolding walk_in
walk_in_found here kind va len lengths aligned = walk_found (word_in (ram_bytes here.memory)) (pages_of here.memory)
    here.state kind va len lengths aligned

-- ---- what a walk comes to

abbrev pub SameOffset : ℕ → ℕ → Type 0
SameOffset va address = address % 4096 ≡ va % 4096

pub walk_in_faults : (here : Surroundings) (kind : Kind) (va len : ℕ)
    → IfErr (walk_in here kind va len).answer (IsFault kind)
unfolding walk_in
walk_in_faults here kind va len = walk_faults here.state kind va (word_in (ram_bytes here.memory))
    (pages_of here.memory) len

pub walk_in_offset : (here : Surroundings) (kind : Kind) (va len : ℕ)
    → IfOk (walk_in here kind va len).answer (λ place. SameOffset va (address_of place))
unfolding walk_in
walk_in_offset here kind va len = walk_offset here.state kind va (word_in (ram_bytes here.memory))
    (pages_of here.memory) len

-- ---- words of devices are below RAM

word_below : (word : DeviceWord) → device_place word < 2 ^ 31
word_below Power = lit< tt
word_below word = lit< tt

find_below : (place : ℕ) (words : List DeviceWord) → IsSome (find (λ w. nat_eq (device_place w) place) words)
    → place < 2 ^ 31
find_below place [] there = absurd cc
find_below place (w ∷ words) there = first_below place w (nat_eq (device_place w) place)
    (find (λ o. nat_eq (device_place o) place) words) refl there (find_below place words)
  where
    first_below : (place : ℕ) (w : DeviceWord) (b : Bool) (rest : Option DeviceWord) → nat_eq (device_place w) place ≡ b
        → IsSome (cond b (Some w) rest) → (IsSome rest → place < 2 ^ 31) → place < 2 ^ 31
    first_below place w true rest e there others = subst (λ p. p < 2 ^ 31) (eqb-true _ _ e) (word_below w)
    first_below place w false rest e there others = others there

pub device_below : (place : ℕ) → IsSome (device_at place) → place < 2 ^ 31
unfolding device_at
device_below place there = find_below place device_words there
