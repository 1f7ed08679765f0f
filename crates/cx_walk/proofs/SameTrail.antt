-- A walk is the same over views that agree at its places.
use Rattle.std.proofs.Common.{◌≡◌, ℕ, ◌<◌, Bool, true, false, cond, [], ◌∷◌, Option, None, Some, Result, Ok, IsSome}
use Rattle.std.proofs.Common.{slice_index, refl, sym, ap, ◌∙◌, arith}
use Rattle.cx_csr.specs.declared.state.State.{State}
use Rattle.cx_walk.specs.declared.kind.Kind.{Kind}
use Rattle.cx_walk.specs.declared.entry.Size.TheVariants.{Megapage}
use Rattle.cx_walk.specs.declared.walk.Trail.{Trail}
use Rattle.cx_walk.specs.Agreement.{AgreesOn}
use Rattle.cx_walk.specs.Bytes.{word_in}
use Rattle.cx_walk.specs.Entry.{is_pointer, first_place, second_place}
use Rattle.cx_walk.specs.Mode.{is_bare}
use Rattle.cx_walk.specs.Walks.{address_through, from_first, from_second, trail_of, walk_of, walk_to}
use Rattle.cx_walk.proofs.SameWord.{no_word, same_word_at}

module _ (w v : ℕ → Option ℕ) (outside : (p : ℕ) → w p ≡ None → v p ≡ None) where
  -- the second view has the first one's words at the places of a trail
  abbrev pub Agrees : Trail → Type 0
  Agrees trail = (i : ℕ) → i < trail.count → v (slice_index trail.places i) ≡ w (slice_index trail.places i)

  same_word : (p : ℕ) (o : Option ℕ) → w p ≡ o → (IsSome o → v p ≡ w p) → v p ≡ w p
  same_word p None e listed = outside p e ∙ sym e
  same_word p (Some x) e listed = listed refl

  module _ (s : State) (kind : Kind) (va first : ℕ) where
    second_agrees : (second : ℕ) (o : Option ℕ) → Agrees (from_second s kind va first second o) → (v first ≡ w first)
        × (IsSome o → v second ≡ w second)
    second_agrees second None agrees = (agrees 0 (omega arith), λ there. cc)
    second_agrees second (Some entry) agrees = (agrees 0 (omega arith), λ there. agrees 1 (omega arith))

    branch_same : (second : ℕ) (leaf : Result ℕ ℕ) (b : Bool) → let one : Trail =
        record { count = 1; places = first ∷ 0 ∷ []; outcome = leaf } in
        Agrees (cond b (from_second s kind va first second (w second)) one)
        → (v first ≡ w first) × (cond b (from_second s kind va first second (v second)) one
        ≡ cond b (from_second s kind va first second (w second)) one)
    branch_same second leaf true agrees =
        let both = second_agrees second (w second) agrees in
        (both.0, ap (from_second s kind va first second) (same_word second (w second) refl both.1))
    branch_same second leaf false agrees = (agrees 0 (omega arith), refl)

    first_same : (o : Option ℕ) → w first ≡ o → Agrees (from_first w s kind va first o)
        → from_first v s kind va first (v first) ≡ from_first w s kind va first o
    first_same None e agrees = ap (from_first v s kind va first) (outside first e)
    first_same (Some entry) e agrees =
        let both = branch_same (second_place entry va) (address_through s kind va Megapage entry) (is_pointer entry)
        agrees in
        ap (from_first v s kind va first) (both.0 ∙ e) ∙ both.1

  module _ (s : State) (kind : Kind) (va : ℕ) where
    bare_same : (first : ℕ) (b : Bool) → let bare : Trail = record {
      count = 0;
      places = 0 ∷ 0 ∷ [];
      outcome =
          Ok va;
    } in
        Agrees (cond b bare (from_first w s kind va first (w first)))
        → cond b bare (from_first v s kind va first (v first)) ≡ cond b bare (from_first w s kind va first (w first))
    bare_same first true agrees = refl
    bare_same first false agrees = first_same s kind va first (w first) refl agrees

    pub same_trail : Agrees (trail_of w s kind va) → trail_of v s kind va ≡ trail_of w s kind va
    unfolding trail_of
    same_trail agrees = bare_same (first_place s.csr.satp va) (is_bare s kind) agrees

-- the same of views by their bytes
pub same_walk : (first second : ℕ → Option ℕ) (pages : ℕ) (s : State) (kind : Kind) (va len : ℕ)
    → AgreesOn first second (walk_of (word_in first) pages s kind va len)
    → walk_of (word_in second) pages s kind va len ≡ walk_of (word_in first) pages s kind va len
unfolding walk_of
same_walk first second pages s kind va len agrees =
    ap (walk_to pages kind len) (same_trail (word_in first) (word_in second) (no_word first second agrees.outside) s
    kind va
    (λ i below. same_word_at first second (slice_index (trail_of (word_in first) s kind va).places i)
    (agrees.places i below)))
