-- What the trail of a walk lists.
use Rattle.std.proofs.Common.{◌≡◌, ℕ, zero, suc, ◌%◌, ◌<◌, ◌≤◌, [], ◌∷◌, Option, None, Some, Result, Ok, Err, IsSome}
use Rattle.std.proofs.Common.{is_some, slice_index, refl, ap, arith}
use Rattle.cx_csr.specs.declared.state.State.{State}
use Rattle.cx_walk.specs.declared.kind.Kind.{Kind}
use Rattle.cx_walk.specs.declared.entry.Size.TheVariants.{Page, Megapage}
use Rattle.cx_walk.specs.declared.walk.Trail.{Trail}
use Rattle.cx_walk.specs.Entry.{is_pointer, first_place, second_place}
use Rattle.cx_walk.specs.Kinds.{access_fault}
use Rattle.cx_walk.specs.Mode.{is_bare}
use Rattle.cx_walk.specs.Walks.{address_through, from_first, from_second, trail_of, walk_of}
use Rattle.cx_walk.proofs.Branches.{either}

-- The trail lists words of memory alone, at aligned places, and 0 past its count.
pub record Lists (word : ℕ → Option ℕ) (trail : Trail) : Type 0 where
  pub most : trail.count ≤ 2
  pub inside : (i : ℕ) → i < trail.count → IsSome (word (slice_index trail.places i))
  pub aligned : (i : ℕ) → slice_index trail.places i % 4 ≡ 0
  pub unused : (i : ℕ) → trail.count ≤ i → slice_index trail.places i ≡ 0

pair_at : (P : ℕ → Type 0) (a b i : ℕ) → P a → P b → P 0 → P (slice_index (a ∷ b ∷ []) i)
pair_at P a b zero first second none = first
pair_at P a b (suc zero) first second none = second
pair_at P a b (suc (suc i)) first second none = none

module _ (word : ℕ → Option ℕ) where
  none_listed : (outcome : Result ℕ ℕ) → Lists word (record { count = 0; places = 0 ∷ 0 ∷ []; outcome = outcome })
  none_listed outcome = record {
    most = omega arith;
    inside = λ i below. absurd (omega arith);
    aligned = λ i. pair_at (λ p. p % 4 ≡ 0) 0 0 i refl refl refl;
    unused = λ i past. pair_at (λ p. p ≡ 0) 0 0 i refl refl refl;
  }

  module _ (first : ℕ) (first_aligned : first % 4 ≡ 0) (first_there : IsSome (word first)) where
    one_listed : (outcome : Result ℕ ℕ) → Lists word (record { count = 1; places = first ∷ 0 ∷ []; outcome = outcome })
    one_listed outcome = record {
      most = omega arith;
      inside = inside;
      aligned = λ i. pair_at (λ p. p % 4 ≡ 0) first 0 i first_aligned refl refl;
      unused = unused;
    }
      where
        inside : (i : ℕ) → i < 1 → IsSome (word (slice_index (first ∷ 0 ∷ []) i))
        inside zero below = first_there
        inside (suc i) below = absurd (omega arith)

        unused : (i : ℕ) → 1 ≤ i → slice_index (first ∷ 0 ∷ []) i ≡ 0
        unused zero past = absurd (omega arith)
        unused (suc zero) past = refl
        unused (suc (suc i)) past = refl

    two_listed : (second : ℕ) (outcome : Result ℕ ℕ) → second % 4 ≡ 0 → IsSome (word second)
        → Lists word (record { count = 2; places = first ∷ second ∷ []; outcome = outcome })
    two_listed second outcome second_aligned second_there = record {
      most = omega arith;
      inside = inside;
      aligned = λ i. pair_at (λ p. p % 4 ≡ 0) first second i first_aligned second_aligned refl;
      unused = unused;
    }
      where
        inside : (i : ℕ) → i < 2 → IsSome (word (slice_index (first ∷ second ∷ []) i))
        inside zero below = first_there
        inside (suc zero) below = second_there
        inside (suc (suc i)) below = absurd (omega arith)

        unused : (i : ℕ) → 2 ≤ i → slice_index (first ∷ second ∷ []) i ≡ 0
        unused zero past = absurd (omega arith)
        unused (suc zero) past = absurd (omega arith)
        unused (suc (suc i)) past = refl

  module _ (s : State) (kind : Kind) (va : ℕ) where
    second_lists : (first second : ℕ) → first % 4 ≡ 0 → second % 4 ≡ 0 → IsSome (word first) → (o : Option ℕ)
        → word second ≡ o → Lists word (from_second s kind va first second o)
    second_lists first second a b there None e = one_listed first a there (Err (access_fault kind))
    second_lists first second a b there (Some entry) e =
        two_listed first a there second (address_through s kind va Page entry) b (ap is_some e)

    first_lists : (first : ℕ) → first % 4 ≡ 0 → (o : Option ℕ) → word first ≡ o
        → Lists word (from_first word s kind va first o)
    first_lists first a None e = none_listed (Err (access_fault kind))
    first_lists first a (Some entry) e =
        either (Lists word) (is_pointer entry) _ _
        (λ pointer. second_lists first (second_place entry va) a (omega arith) (ap is_some e)
        (word (second_place entry va)) refl)
        (λ leaf. one_listed first a (ap is_some e) (address_through s kind va Megapage entry))

    pub trail_lists : Lists word (trail_of word s kind va)
    unfolding trail_of
    trail_lists =
        either (Lists word) (is_bare s kind) _ _ (λ bare. none_listed (Ok va))
        (λ translated. first_lists (first_place s.csr.satp va) (omega arith) (word (first_place s.csr.satp va)) refl)

module _ (word : ℕ → Option ℕ) (pages : ℕ) (s : State) (kind : Kind) (va len : ℕ) where
  pub places_inside : (i : ℕ) → i < (walk_of word pages s kind va len).count
      → IsSome (word (slice_index (walk_of word pages s kind va len).places i))
  unfolding walk_of
  places_inside = (trail_lists word s kind va).inside

  pub places_aligned : (i : ℕ) → slice_index (walk_of word pages s kind va len).places i % 4 ≡ 0
  unfolding walk_of
  places_aligned = (trail_lists word s kind va).aligned

  pub places_unused : (i : ℕ) → (walk_of word pages s kind va len).count ≤ i
      → slice_index (walk_of word pages s kind va len).places i ≡ 0
  unfolding walk_of
  places_unused = (trail_lists word s kind va).unused

  pub places_most : (walk_of word pages s kind va len).count ≤ 2
  unfolding walk_of
  places_most = (trail_lists word s kind va).most
