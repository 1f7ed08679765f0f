-- Several bytes, one by one.
use Rattle.std.proofs.Common.{◌≡◌, ◌≢◌, ℕ, zero, suc, ◌+◌, ◌-◌, ◌<◌, ◌≤◌, true, List, [], ◌∷◌, ◌++◌, drop, length}
use Rattle.std.specs.Prelude.{slice_index_or}
use Rattle.std.proofs.Common.{Some, sym, ap, ◌∙◌, arith, inl, inr}
use Rattle.std.proofs.lemmas.Bool.{cases_eq, eq-eqb, ne_eqb}
use Rattle.std.proofs.lemmas.List.{drop_more}
use Rattle.cx_slices.specs.Bytes.{Byte, Map, with_bytes}
use Rattle.cx_shadow.specs.Cells.{AreHeld, is_held}
use Rattle.cx_shadow.specs.declared.shadow.Shadow.{Shadow}

-- what has room keeps it
pub held_on : (s t : Shadow) → ((a : ℕ) → is_held s a ≡ true → is_held t a ≡ true) → (es : List Byte) → AreHeld s es
    → AreHeld t es
held_on s t keeps [] held = tt
held_on s t keeps (e ∷ es) held = (keeps e.0 held.0, held_on s t keeps es held.1)

pub one_more_held : (s : Shadow) (es : List Byte) (e : Byte) → AreHeld s es → is_held s e.0 ≡ true
    → AreHeld s (es ++ e ∷ [])
one_more_held s [] e held is = (is, tt)
one_more_held s (d ∷ es) e held is = (held.0, one_more_held s es e held.1 is)

-- one of the bytes has room
pub held_at : (s : Shadow) (es : List Byte) (i : ℕ) (d : Byte) → AreHeld s es → i < length es
    → is_held s (slice_index_or es i d).0 ≡ true
held_at s [] i d held within = absurd (omega (arith, within))
held_at s (e ∷ es) zero d held within = held.0
held_at s (e ∷ es) (suc i) d held within = held_at s es i d held.1 (omega (arith, within))

-- one byte more in front
pub put_in_front : (before after : Map) (e : Byte) (es : List Byte) (map : Map)
    → ((a : ℕ) → before a ≡ with_bytes es map a) → after e.0 ≡ Some e.1
    → ((a : ℕ) → a ≢ e.0 → after a ≡ before a) → (a : ℕ) → after a ≡ with_bytes (e ∷ es) map a
put_in_front before after e es map was here others a = elim (cases_eq e.0 a) [
  | inl same ↦ rw (eq-eqb e.0 a same) (ap after (sym same) ∙ here)
  | inr apart ↦ rw (ne_eqb e.0 a apart) (others a (λ x. apart (sym x)) ∙ was a)
]

-- the byte before those that were put
pub put_before : (before after : Map) (es : List Byte) (left : ℕ) (map : Map) → 0 < left → left ≤ length es
    → ((a : ℕ) → before a ≡ with_bytes (drop left es) map a)
    → after (slice_index_or es (left - 1) (0, 0)).0 ≡ Some (slice_index_or es (left - 1) (0, 0)).1
    → ((a : ℕ) → a ≢ (slice_index_or es (left - 1) (0, 0)).0 → after a ≡ before a)
    → (a : ℕ) → after a ≡ with_bytes (drop (left - 1) es) map a
put_before before after es left map some within was here others a =
    let next : left - 1 + 1 ≡ left = omega (arith, some) in
    let parts : drop (left - 1) es ≡ slice_index_or es (left - 1) (0, 0) ∷ drop left es =
    drop_more es (left - 1) (0, 0) (omega (arith, some, within)) ∙ ap
    (λ n. slice_index_or es (left - 1) (0, 0) ∷ drop n es) next in
    rw parts (put_in_front before after (slice_index_or es (left - 1) (0, 0)) (drop left es) map was here others a)
