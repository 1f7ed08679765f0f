-- Stamps, one by one.
use Rattle.std.proofs.Common.{◌≡◌, ◌≢◌, ℕ, ◌+◌, ◌-◌, ◌<◌, ◌≤◌, ◌||◌, Bool, true, false, List, ◌∷◌, drop, length}
use Rattle.std.proofs.Common.{zero, suc, ◌&&◌, replicate, Option, None, Some, is_some, refl, sym, ap, ◌∙◌, arith, inl, inr, eq-eqb}
use Rattle.std.specs.Prelude.{slice_index_or}
use Rattle.std.proofs.lemmas.Bool.{cases_eq, ne_eqb, or_right}
use Rattle.std.proofs.lemmas.List.{drop_more}
use Rattle.cx_shadow.specs.Cells.{are_at, byte_of}
use Rattle.cx_shadow.specs.declared.shadow.Shadow.{Shadow}
use Rattle.cx_slices.proofs.Bytes.{is_byte-true}
use Rattle.cx_slices.proofs.Small.{some_is_same}
use Rattle.cx_slices.specs.Bytes.{Byte, byte_found, is_byte}
use Rattle.cx_marks.specs.Marked.{all_marked, is_marked}
use Rattle.cx_marks.specs.Stamps.{AreBefore}
use Rattle.cx_marks.specs.declared.marks.Marks.{Marks}

pub marked_by : (m : Marks) (a : ℕ) (stamp : Option ℕ) → byte_of m.stamps a ≡ stamp
    → is_byte stamp m.turn ≡ is_marked m a
unfolding is_marked
marked_by m a stamp is = ap (λ s. is_byte s m.turn) (sym is)

pub same_marks : (m n : Marks) → n.turn ≡ m.turn → ((a : ℕ) → byte_of n.stamps a ≡ byte_of m.stamps a) → (a : ℕ)
    → is_marked n a ≡ is_marked m a
unfolding is_marked
same_marks m n turn same a = rw (turn, same a) refl

-- ---- a stamp more

pub stamped : (m : Marks) (a : ℕ) → byte_of m.stamps a ≡ Some m.turn → is_marked m a ≡ true
stamped m a is = sym (marked_by m a (Some m.turn) is) ∙ eq-eqb m.turn m.turn refl

in_front : (was is : Bool) (e : Byte) (es : List Byte) (a : ℕ) (mid : Bool) → mid ≡ (was || is_some (byte_found es a))
    → (e.0 ≡ a → is ≡ true) → ((e.0 ≡ a → ⊥) → is ≡ mid) → is ≡ (was || is_some (byte_found (e ∷ es) a))
in_front was is e es a mid before here others = elim (cases_eq e.0 a) [
  | inl same ↦ rw (eq-eqb e.0 a same) (here same ∙ sym (or_right was true refl))
  | inr apart ↦ rw (ne_eqb e.0 a apart) (others apart ∙ before)
]

other_mark : (m n : Marks) (a : ℕ) → n.turn ≡ m.turn → byte_of n.stamps a ≡ byte_of m.stamps a
    → is_marked n a ≡ is_marked m a
unfolding is_marked
other_mark m n a turn same = rw (turn, same) refl

-- the address before those that were marked
pub one_before : (old mid new : Marks) (es : List Byte) (left : ℕ) → 0 < left → left ≤ length es
    → new.turn ≡ mid.turn
    → ((a : ℕ) → is_marked mid a ≡ (is_marked old a || is_some (byte_found (drop left es) a)))
    → byte_of new.stamps (slice_index_or es (left - 1) (0, 0)).0 ≡ Some mid.turn
    → ((a : ℕ) → a ≢ (slice_index_or es (left - 1) (0, 0)).0 → byte_of new.stamps a ≡ byte_of mid.stamps a)
    → (a : ℕ) → is_marked new a ≡ (is_marked old a || is_some (byte_found (drop (left - 1) es) a))
one_before old mid new es left some within turn was here others a =
    let next : left - 1 + 1 ≡ left = omega (arith, some) in
    let parts : drop (left - 1) es ≡ slice_index_or es (left - 1) (0, 0) ∷ drop left es =
    drop_more es (left - 1) (0, 0) (omega (arith, some, within)) ∙ ap
    (λ n. slice_index_or es (left - 1) (0, 0) ∷ drop n es) next in
    rw parts (in_front (is_marked old a) (is_marked new a) (slice_index_or es (left - 1) (0, 0)) (drop left es) a
    (is_marked mid a) (was a)
    (λ same. ap (is_marked new) (sym same) ∙ stamped new (slice_index_or es (left - 1) (0, 0)).0
    (here ∙ ap {B = Option ℕ} Some (sym turn)))
    (λ apart. other_mark mid new a turn (others a (λ x. apart (sym x)))))

-- ---- turns

at_most : (t b n : ℕ) → t ≡ b → n ≡ b → n ≤ t
at_most t b n is same = omega (arith, is, same)

pub before_put : (turn : ℕ) (s t : Shadow) (k : ℕ) → AreBefore turn s → byte_of t k ≡ Some turn
    → ((a : ℕ) → a ≢ k → byte_of t a ≡ byte_of s a) → AreBefore turn t
before_put turn s t k before here others a n is = elim (cases_eq a k) [
  | inl same ↦ at_most turn turn n refl (sym (some_is_same turn n (sym here ∙ (ap (byte_of t) (sym same) ∙ is))))
  | inr apart ↦ before a n (sym (others a apart) ∙ is)
]

pub before_same : (turn : ℕ) (s t : Shadow) → AreBefore turn s → ((a : ℕ) → byte_of t a ≡ byte_of s a)
    → AreBefore turn t
before_same turn s t before same a n is = before a n (sym (same a) ∙ is)

pub before_next : (turn : ℕ) (s : Shadow) → AreBefore turn s → AreBefore (turn + 1) s
before_next turn s before a n is = let least : n ≤ turn = before a n is in omega (arith, least)

pub before_none : (turn : ℕ) (s : Shadow) → ((a : ℕ) → byte_of s a ≡ None) → AreBefore turn s
before_none turn s none a n is = let gone : None ≡ Some n = sym (none a) ∙ is in cc

false_unless_true : (t : Bool) → (t ≡ true → ⊥) → t ≡ false
false_unless_true true h = absurd (h refl)
false_unless_true false h = refl

too_late : (turn : ℕ) → turn + 1 ≤ turn → ⊥
too_late turn less = omega (arith, less)

-- At a later turn nothing is marked yet.
pub none_yet : (m : Marks) (turn : ℕ) → AreBefore turn m.stamps → m.turn ≡ turn + 1 → (a : ℕ)
    → is_marked m a ≡ false
unfolding is_marked
none_yet m turn before is a = false_unless_true (is_byte (byte_of m.stamps a) m.turn)
    (λ yes. too_late turn (before a (turn + 1) (is_byte-true (byte_of m.stamps a) m.turn yes
    ∙ ap {B = Option ℕ} Some is)))

pub none_marked : (m : Marks) → ((a : ℕ) → byte_of m.stamps a ≡ None) → (a : ℕ) → is_marked m a ≡ false
none_marked m none a = sym (marked_by m a None (none a))

-- ---- a run of addresses

pub run_is : (m : Marks) (a n : ℕ) → are_at (byte_of m.stamps) a (replicate n m.turn) ≡ all_marked m a n
unfolding is_marked
run_is m a zero = refl
run_is m a (suc n) = ap (λ (t : Bool). is_marked m a && t) (run_is m (a + 1) n)
