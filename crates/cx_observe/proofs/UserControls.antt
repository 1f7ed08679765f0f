-- Which control registers user mode reaches: it reads the counters that are open to it, and writes none.
use Rattle.std.proofs.Common.{◌≡◌, ℕ, ◌+◌, ◌/◌, ◌%◌, ◌^◌, ◌<◌, ◌≤◌, ◌==◌, ◌||◌, ◌&&◌, not, nat_lt, nat_le, Bool}
use Rattle.std.proofs.Common.{true, false, ◌⊎◌, inl, inr, None, is_none, refl, sym, ap, ◌∙◌, arith}
use Rattle.std.proofs.Common.{eq-eqb, ne_eqb, true≢false}
use Rattle.std.proofs.lemmas.Bool.{and_parts, and_from, ltb-false, leb-true, le-leb}
use Rattle.std.proofs.lemmas.Bool.Decides.{nat_tests}
use Rattle.std.proofs.lemmas.Nat.{and_mask}
use Rattle.std.proofs.lemmas.Nat.Bits.{bit_at_above}
use Rattle.cx_csr.specs.Access.{is_above, is_closed, is_closed_to_user, is_illegal, is_read_only, is_trapped}
use Rattle.cx_csr.specs.Access.{is_user_counter}
use Rattle.cx_csr.specs.Bits.{is_set}
use Rattle.cx_csr.specs.Keeps.{Keeps}
use Rattle.cx_csr.specs.Rules.{IsWithin}
use Rattle.cx_csr.specs.Table.{has_no_effect, is_from, register_at}
use Rattle.cx_csr.specs.declared.modes.TheConstants.{USER}
use Rattle.cx_csr.specs.declared.state.State.{State}
use Rattle.cx_exec.specs.User.{is_base_counter}

-- ---- which numbers there are for user mode

other : (n k : ℕ) → n / 256 % 4 ≡ 0 → (k / 256 % 4 == 0) ≡ false → (n == k) ≡ false
other n k user apart = ne_eqb n k
    (λ is. true≢false (sym (eq-eqb (k / 256 % 4) 0 (ap (λ (m : ℕ). m / 256 % 4) (sym is) ∙ user)) ∙ apart))

outside : (first last n k : ℕ) → is_from first last n ≡ false → is_from first last k ≡ true → (n == k) ≡ false
outside first last n k out there = ne_eqb n k
    (λ is. true≢false (sym there ∙ (ap (is_from first last) (sym is) ∙ out)))

no_from : (first last n : ℕ) → (first ≤ n → n ≤ last → ⊥) → is_from first last n ≡ false
no_from first last n none = by_tests (nat_le first n) (nat_le n last) refl refl
  where
    by_tests : (t u : Bool) → nat_le first n ≡ t → nat_le n last ≡ u → (t && u) ≡ false
    by_tests true true low high = absurd (none (leb-true first n low) (leb-true n last high))
    by_tests true false low high = refl
    by_tests false u low high = refl

in_from : (first last n : ℕ) → is_from first last n ≡ true → (first ≤ n) × (n ≤ last)
in_from first last n is =
    let parts : (nat_le first n ≡ true) × (nat_le n last ≡ true) = and_parts (nat_le first n) (nat_le n last) is in
    (leb-true first n parts.0, leb-true n last parts.1)

narrower : (n : ℕ) → is_from 0xc00 0xc1f n ≡ false → is_from 0xc03 0xc1f n ≡ false
narrower n out = no_from 0xc03 0xc1f n (λ low high. true≢false
    (sym (and_from (nat_le 0xc00 n) (nat_le n 0xc1f) (le-leb 0xc00 n (omega arith)) (le-leb n 0xc1f high)) ∙ out))

narrower_high : (n : ℕ) → is_from 0xc80 0xc9f n ≡ false → is_from 0xc83 0xc9f n ≡ false
narrower_high n out = no_from 0xc83 0xc9f n (λ low high. true≢false
    (sym (and_from (nat_le 0xc80 n) (nat_le n 0xc9f) (le-leb 0xc80 n (omega arith)) (le-leb n 0xc9f high)) ∙ out))

no_others : (n : ℕ) → n / 256 % 4 ≡ 0 → is_from 0xc00 0xc1f n ≡ false → is_from 0xc80 0xc9f n ≡ false
    → has_no_effect n ≡ false
unfolding has_no_effect
no_others n user low high = rw (
  other n 0x10a user refl,
  other n 0x30a user refl,
  other n 0x31a user refl,
  other n 0x310 user refl,
  other n 0x320 user refl,
  no_from 0x323 0x33f n (λ a b. omega arith),
  no_from 0x3a0 0x3a3 n (λ a b. omega arith),
  no_from 0x3b0 0x3bf n (λ a b. omega arith),
  no_from 0xb03 0xb1f n (λ a b. omega arith),
  no_from 0xb83 0xb9f n (λ a b. omega arith),
  narrower n low,
  narrower_high n high,
  no_from 0xf11 0xf15 n (λ a b. omega arith),
) refl

no_register : (n : ℕ) → n / 256 % 4 ≡ 0 → is_from 0xc00 0xc1f n ≡ false → is_from 0xc80 0xc9f n ≡ false
    → register_at n ≡ None
unfolding register_at
no_register n user low high = rw (
  other n 0x100 user refl,
  other n 0x104 user refl,
  other n 0x105 user refl,
  other n 0x106 user refl,
  other n 0x140 user refl,
  other n 0x141 user refl,
  other n 0x142 user refl,
  other n 0x143 user refl,
  other n 0x144 user refl,
  other n 0x180 user refl,
  other n 0x300 user refl,
  other n 0x301 user refl,
  other n 0x302 user refl,
  other n 0x303 user refl,
  other n 0x304 user refl,
  other n 0x305 user refl,
  other n 0x306 user refl,
  other n 0x340 user refl,
  other n 0x341 user refl,
  other n 0x342 user refl,
  other n 0x343 user refl,
  other n 0x344 user refl,
  other n 0xb00 user refl,
  other n 0xb80 user refl,
  other n 0xb02 user refl,
  other n 0xb82 user refl,
  outside 0xc00 0xc1f n 0xc00 low refl,
  outside 0xc80 0xc9f n 0xc80 high refl,
  outside 0xc00 0xc1f n 0xc01 low refl,
  outside 0xc80 0xc9f n 0xc81 high refl,
  outside 0xc00 0xc1f n 0xc02 low refl,
  outside 0xc80 0xc9f n 0xc82 high refl,
  no_others n user low high,
) refl

ranges : (n : ℕ) → n / 256 % 4 ≡ 0 → is_none (register_at n) ≡ false
    → (is_from 0xc00 0xc1f n ≡ true) ⊎ (is_from 0xc80 0xc9f n ≡ true)
ranges n user there = by_tests (is_from 0xc00 0xc1f n) (is_from 0xc80 0xc9f n) refl refl
  where
    by_tests : (t u : Bool) → is_from 0xc00 0xc1f n ≡ t → is_from 0xc80 0xc9f n ≡ u
        → (is_from 0xc00 0xc1f n ≡ true) ⊎ (is_from 0xc80 0xc9f n ≡ true)
    by_tests true u low high = inl low
    by_tests false true low high = inr high
    by_tests false false low high = absurd (true≢false (sym (ap is_none (no_register n user low high)) ∙ there))

-- ---- what is open to it

within_three : (sc : ℕ) → IsWithin 7 sc → sc < 8
within_three sc within =
    let same : sc % 8 ≡ sc = sym (and_mask sc 3) ∙ within in
    omega arith

small_bit : (sc k : ℕ) → sc < 8 → 3 ≤ k → is_set sc k ≡ false
small_bit sc k small far = ap (λ (n : ℕ). n == 1) (bit_at_above sc 3 k small far)

-- The number is that of a base counter, and the access reads it.
pub record IsUserRead (writes : Bool) (number : ℕ) : Type 0 where
  pub reads : writes ≡ false
  pub counter : is_base_counter number ≡ true

six_false : (a b c d e f : Bool) → (a || b || c || d || e || f) ≡ false
    → (a ≡ false) × (b ≡ false) × (c ≡ false) × (f ≡ false)
six_false true b c d e f is = cc
six_false false true c d e f is = cc
six_false false false true d e f is = cc
six_false false false false true e f is = cc
six_false false false false false true f is = cc
six_false false false false false false true is = cc
six_false false false false false false false is = (refl, refl, refl, refl)

open_to_user : (a b c : Bool) → a ≡ true → b ≡ true → (a && b && not c) ≡ false → c ≡ true
open_to_user true true true first second is = refl
open_to_user true true false first second is = cc
open_to_user true false c first second is = cc
open_to_user false b c first second is = cc

only_read : (w r : Bool) → r ≡ true → (w && r) ≡ false → w ≡ false
only_read true true is none = cc
only_read true false is none = cc
only_read false r is none = refl

read_only : (n : ℕ) → (is_from 0xc00 0xc1f n ≡ true) ⊎ (is_from 0xc80 0xc9f n ≡ true) → is_read_only n ≡ true
read_only n (inl low) =
    let within : (0xc00 ≤ n) × (n ≤ 0xc1f) = in_from 0xc00 0xc1f n low in
    eq-eqb (n / 2 ^ 10 % 4) 3 (omega arith)
read_only n (inr high) =
    let within : (0xc80 ≤ n) × (n ≤ 0xc9f) = in_from 0xc80 0xc9f n high in
    eq-eqb (n / 2 ^ 10 % 4) 3 (omega arith)

counters : (t u : Bool) → (t ≡ true) ⊎ (u ≡ true) → (t || u) ≡ true
counters true u is = refl
counters false u (inl is) = cc
counters false u (inr is) = is

base_counter : (n : ℕ) → (n ≡ 0xc00) ⊎ ((n ≡ 0xc01) ⊎ ((n ≡ 0xc02) ⊎ ((n ≡ 0xc80) ⊎ ((n ≡ 0xc81) ⊎ (n ≡ 0xc82)))))
    → is_base_counter n ≡ true
base_counter n (inl is) = rw is refl
base_counter n (inr (inl is)) = rw is refl
base_counter n (inr (inr (inl is))) = rw is refl
base_counter n (inr (inr (inr (inl is)))) = rw is refl
base_counter n (inr (inr (inr (inr (inl is))))) = rw is refl
base_counter n (inr (inr (inr (inr (inr is))))) = rw is refl

three_of : (n base : ℕ) → base ≤ n → n ≤ base + 31 → base % 32 ≡ 0 → n % 32 ≤ 2
    → (n ≡ base) ⊎ ((n ≡ base + 1) ⊎ (n ≡ base + 2))
three_of n base low high aligned few = grind arith

the_counter : (n : ℕ) → (is_from 0xc00 0xc1f n ≡ true) ⊎ (is_from 0xc80 0xc9f n ≡ true) → n % 32 ≤ 2
    → is_base_counter n ≡ true
the_counter n (inl low) few =
    let within : (0xc00 ≤ n) × (n ≤ 0xc1f) = in_from 0xc00 0xc1f n low in
    by_three (three_of n 0xc00 within.0 within.1 refl few)
  where
    by_three : (n ≡ 0xc00) ⊎ ((n ≡ 0xc01) ⊎ (n ≡ 0xc02)) → is_base_counter n ≡ true
    by_three (inl is) = base_counter n (inl is)
    by_three (inr (inl is)) = base_counter n (inr (inl is))
    by_three (inr (inr is)) = base_counter n (inr (inr (inl is)))
the_counter n (inr high) few =
    let within : (0xc80 ≤ n) × (n ≤ 0xc9f) = in_from 0xc80 0xc9f n high in
    by_three (three_of n 0xc80 within.0 within.1 refl few)
  where
    by_three : (n ≡ 0xc80) ⊎ ((n ≡ 0xc81) ⊎ (n ≡ 0xc82)) → is_base_counter n ≡ true
    by_three (inl is) = base_counter n (inr (inr (inr (inl is))))
    by_three (inr (inl is)) = base_counter n (inr (inr (inr (inr (inl is)))))
    by_three (inr (inr is)) = base_counter n (inr (inr (inr (inr (inr is)))))

few_bits : (sc k : ℕ) → sc < 8 → is_set sc k ≡ true → k ≤ 2
few_bits sc k small set = by_size (nat_lt k 3) refl
  where
    by_size : (t : Bool) → nat_lt k 3 ≡ t → k ≤ 2
    by_size true less = ltb-true-of k less
      where
        ltb-true-of : (j : ℕ) → nat_lt j 3 ≡ true → j ≤ 2
        ltb-true-of j is = grind (arith, nat_tests)
    by_size false more = absurd (true≢false (sym set ∙ small_bit sc k small (ltb-false k 3 more)))

pub user_reads : (pages : ℕ) (s : State) (writes : Bool) (number : ℕ) → Keeps pages s → s.mode ≡ 0
    → is_illegal writes s number ≡ false → IsUserRead writes number
unfolding is_illegal
user_reads pages s writes number keeps user legal =
    let parts : (is_none (register_at number) ≡ false) × (is_above s number ≡ false)
    × ((writes && is_read_only number) ≡ false) × (is_closed_to_user s number ≡ false)
    = six_false (is_none (register_at number)) (is_above s number) (writes && is_read_only number)
    (is_trapped s number) (is_closed s number) (is_closed_to_user s number) legal in
    let not_above : number / 2 ^ 8 % 4 ≤ s.mode = ltb-false s.mode (number / 2 ^ 8 % 4) parts.1 in
    let free : number / 256 % 4 ≡ 0 = omega arith in
    let range : (is_from 0xc00 0xc1f number ≡ true) ⊎ (is_from 0xc80 0xc9f number ≡ true)
    = ranges number free parts.0 in
    let counter : is_user_counter number ≡ true
    = counters (is_from 0xc00 0xc1f number) (is_from 0xc80 0xc9f number) range in
    let set : is_set s.csr.scounteren (number % 32) ≡ true
    = open_to_user (is_user_counter number) (s.mode == USER) (is_set s.csr.scounteren (number % 32)) counter
    (eq-eqb s.mode 0 user) parts.3 in
    record {
      reads = only_read writes (is_read_only number) (read_only number range) parts.2;
      counter = the_counter number range
          (few_bits s.csr.scounteren (number % 32) (within_three s.csr.scounteren keeps.csr.scounteren) set);
    }
