-- The same bytes written to two memories of one length.
use Rattle.std.proofs.Common.{◌≡◌, ◌⊎◌, inl, inr, ℕ, ◌+◌, ◌-◌, ◌<◌, ◌≤◌, Bool, true, false, nat_lt, nat_le, min, List}
use Rattle.std.proofs.Common.{◌++◌, length, take, drop, get_or, refl, sym, ap, subst, ◌∙◌, arith, length-append}
use Rattle.std.proofs.Common.{length-drop}
use borrow.Author.Tests.{leb-false, leb-true, ltb-false, ltb-true}
use Rattle.std.specs.Prelude.{slice_index}
use Rattle.std.proofs.lemmas.List.{get_or-append-add, get_or-drop, get_or-take, get_or_append_left, get_or_past}
use Rattle.std.proofs.lemmas.List.{length-take}
use Rattle.cx_ram.specs.LittleEndian.{written}
use Rattle.cx_ram.specs.Agreement.{AgreeOn, SameWrites}

-- ---- a byte of a memory that was written, wherever the write is

module _ (m : List ℕ) (i : ℕ) (bytes : List ℕ) (k : ℕ) where
  front : k < min i (length m) → slice_index (written m i bytes) k ≡ slice_index m k
  unfolding written
  front below =
      let inside : k < length (take i m) = omega (arith, length-take i m) in
      get_or_append_left (take i m) (bytes ++ drop (i + length bytes) m) 0 k inside ∙ get_or-take i m k 0 (omega arith)

  inner : (j : ℕ) → k ≡ min i (length m) + j → j < length bytes → slice_index (written m i bytes) k ≡ slice_index bytes
      j
  unfolding written
  inner j e below =
      let at : k ≡ length (take i m) + j = omega (arith, length-take i m) in
      rw at (get_or-append-add (take i m) (bytes ++ drop (i + length bytes) m) j 0
      ∙ get_or_append_left bytes (drop (i + length bytes) m) 0 j below)

  back : (j : ℕ) → k ≡ min i (length m) + (length bytes + j) → slice_index (written m i bytes) k ≡ slice_index m
      (i + length bytes + j)
  unfolding written
  back j e =
      let at : k ≡ length (take i m) + (length bytes + j) = omega (arith, length-take i m) in
      rw at
      (get_or-append-add (take i m) (bytes ++ drop (i + length bytes) m) (length bytes + j) 0
      ∙ (get_or-append-add bytes (drop (i + length bytes) m) j 0 ∙ get_or-drop (i + length bytes) m j 0))

-- what holds of each byte of the memory and of each that is written
module _ (m : List ℕ) (i : ℕ) (bytes : List ℕ) (P : ℕ → Type 0) (old : (k : ℕ) → P (slice_index m k)) (new : (k : ℕ)
    → P (slice_index bytes k)) (k : ℕ) where
  byte_behind : min i (length m) + length bytes ≤ k → P (slice_index (written m i bytes) k)
  byte_behind past =
      let j : ℕ = k - (min i (length m) + length bytes) in
      subst P (sym (back m i bytes k j (omega arith))) (old (i + length bytes + j))

  byte_within : (b : Bool) → nat_lt k (min i (length m) + length bytes) ≡ b → min i (length m) ≤ k
      → P (slice_index (written m i bytes) k)
  byte_within true e past =
      let below : k < min i (length m) + length bytes = ltb-true _ _ e in
      subst P (sym (inner m i bytes k (k - min i (length m)) (omega arith) (omega arith))) (new (k - min i (length m)))
  byte_within false e past = byte_behind (ltb-false _ _ e)

  byte_by : (b : Bool) → nat_lt k (min i (length m)) ≡ b → P (slice_index (written m i bytes) k)
  byte_by true e = subst P (sym (front m i bytes k (ltb-true _ _ e))) (old k)
  byte_by false e = byte_within (nat_lt k (min i (length m) + length bytes)) refl (ltb-false _ _ e)

  pub written_byte : P (slice_index (written m i bytes) k)
  written_byte = byte_by (nat_lt k (min i (length m))) refl

pub length_of_written : (p q : List ℕ) (i : ℕ) (bytes : List ℕ) → length q ≡ length p
    → length (written q i bytes) ≡ length (written p i bytes)
unfolding written
length_of_written p q i bytes size =
    omega (
      arith,
      length-append (take i p) (bytes ++ drop (i + length bytes) p),
      length-append (take i q) (bytes ++ drop (i + length bytes) q),
      length-append bytes (drop (i + length bytes) p),
      length-append bytes (drop (i + length bytes) q),
      length-take i p,
      length-take i q,
      length-drop (i + length bytes) p,
      length-drop (i + length bytes) q,
    )

module _ (p q : List ℕ) (i : ℕ) (bytes : List ℕ) (size : length q ≡ length p) (k : ℕ) where
  abbrev Same : Type 0
  Same = (slice_index (written p i bytes) k ≡ slice_index (written q i bytes) k)
      ⊎ ((slice_index (written p i bytes) k ≡ slice_index p k) × (slice_index (written q i bytes) k ≡ slice_index q k))

  behind : (b : Bool) → nat_le i (length p) ≡ b → min i (length p) + length bytes ≤ k → Same
  behind true e past =
      let low : i ≤ length p = leb-true _ _ e in
      let there : i + length bytes + (k - (i + length bytes)) ≡ k = omega arith in
      inr (
        back p i bytes k (k - (i + length bytes)) (omega arith) ∙ ap (slice_index p) there,
        back q i bytes k (k - (i + length bytes)) (omega arith) ∙ ap (slice_index q) there,
      )
  behind false e past =
      let high : length p < i = leb-false _ _ e in
      let j : ℕ = k - (length p + length bytes) in
      let there : k ≡ length p + (length bytes + j) = omega arith in
      inl
      ((back p i bytes k j (omega arith) ∙ get_or_past p (i + length bytes + j) 0 (omega arith))
      ∙ sym (back q i bytes k j (omega arith) ∙ get_or_past q (i + length bytes + j) 0 (omega arith)))

  within : (b : Bool) → nat_lt k (min i (length p) + length bytes) ≡ b → min i (length p) ≤ k → Same
  within true e past =
      let below : k < min i (length p) + length bytes = ltb-true _ _ e in
      inl
      (inner p i bytes k (k - min i (length p)) (omega arith) (omega arith)
      ∙ sym (inner q i bytes k (k - min i (length p)) (omega arith) (omega arith)))
  within false e past = behind (nat_le i (length p)) refl (ltb-false _ _ e)

  before : (b : Bool) → nat_lt k (min i (length p)) ≡ b → Same
  before true e = let below : k < min i (length p) = ltb-true _ _ e in
      inr (front p i bytes k below, front q i bytes k (omega arith))
  before false e = within (nat_lt k (min i (length p) + length bytes)) refl (ltb-false _ _ e)

pub same_written : (p q : List ℕ) (i : ℕ) (bytes : List ℕ) → length q ≡ length p
    → SameWrites p (written p i bytes) q (written q i bytes)
same_written p q i bytes size k = before p q i bytes size k (nat_lt k (min i (length p))) refl

-- ---- one write after another

pub same_kept : (p q : List ℕ) → SameWrites p p q q
same_kept p q i = inr (refl, refl)

pub same_then : (p p1 p2 q q1 q2 : List ℕ) → SameWrites p p1 q q1 → SameWrites p1 p2 q1 q2 → SameWrites p p2 q q2
same_then p p1 p2 q q1 q2 one two i =
    elim (two i) [
      | inl e ↦ inl e
      | inr h ↦ elim (one i) [ inl e ↦ inl (h.0 ∙ (e ∙ sym h.1)) | inr g ↦ inr (h.0 ∙ g.0, h.1 ∙ g.1) ]
    ]

-- Where two memories agree they agree behind the same writes.
pub agree_behind : (is p p1 q q1 : List ℕ) → SameWrites p p1 q q1 → AgreeOn is p q → AgreeOn is p1 q1
agree_behind is p p1 q q1 same agree k d below =
    elim (same (get_or is k d)) [ inl e ↦ e | inr h ↦ h.0 ∙ (agree k d below ∙ sym h.1) ]
