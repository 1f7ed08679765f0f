-- A state that keeps the rules is the one that its words stand for.
use Rattle.std.proofs.Common.{◌≡◌, ℕ, ◌+◌, ◌*◌, ◌/◌, ◌%◌, ◌^◌, ◌<◌, List, [], ◌∷◌, ◌++◌, length, drop, get_or, Option}
use Rattle.std.proofs.Common.{None, Some, arith, refl, sym, ◌∙◌, length-drop}
use Rattle.std.proofs.lemmas.List.{take_all}
use Rattle.cx_csr.specs.declared.state.State.{State}
use Rattle.cx_csr.specs.declared.state.CsrFile.{CsrFile}
use Rattle.cx_csr.specs.Words.{words_of, csr_words, reservation_words, state_of}
use Rattle.cx_csr.specs.Keeps.{Keeps}
use Rattle.cx_csr.proofs.WordLists.{take-drop_spelled, spelled}

joined : (n : ℕ) → n % 2 ^ 32 + n / 2 ^ 32 * 2 ^ 32 ≡ n
joined n = omega arith

-- the control registers, with their counters put together from halves
put_together : CsrFile → CsrFile
put_together c = record c {
  mcycle = c.mcycle % 2 ^ 32 + c.mcycle / 2 ^ 32 * 2 ^ 32;
  minstret =
      c.minstret % 2 ^ 32 + c.minstret / 2 ^ 32 * 2 ^ 32;
}

same_csr : (c : CsrFile) → put_together c ≡ c
unfolding put_together
same_csr c = rw (joined c.mcycle, joined c.minstret) refl

from_parts : (s : State) (front : List ℕ) (r : Option ℕ) → front ≡ spelled 31 0 front
    → state_of ((s.pc ∷ front) ++ ((s.mode ∷ csr_words s.csr) ++ reservation_words r ++ s.lines.0 ∷ [])) ≡ record {
      pc =
          s.pc;
      x = 0 ∷ front;
      mode = s.mode;
      csr = put_together s.csr;
      reservation = r;
      lines = s.lines;
    }
unfolding state_of put_together
from_parts s front None listed = rw listed refl
from_parts s front (Some place) listed = rw listed refl

same_state : (s : State) (x : List ℕ) (csr : CsrFile) → x ≡ s.x → csr ≡ s.csr
    → record { pc = s.pc; x = x; mode = s.mode; csr = csr; reservation = s.reservation; lines = s.lines } ≡ s
same_state s x csr e f = rw (e, f) refl

-- a list whose first is 0
zero_first : (xs : List ℕ) → 0 < length xs → get_or xs 0 0 ≡ 0 → 0 ∷ drop 1 xs ≡ xs
zero_first [] some zero_is = absurd (omega arith)
zero_first (x ∷ xs) some zero_is = rw zero_is refl

-- The words of a state that keeps the rules stand for that state.
pub state_again : (pages : ℕ) (s : State) → Keeps pages s → state_of (words_of s) ≡ s
unfolding words_of
state_again pages s k =
    let size : length (drop 1 s.x) ≡ 31 = omega (arith, length-drop 1 s.x, k.registers) in
    let listed : drop 1 s.x ≡ spelled 31 0 (drop 1 s.x) = sym (take_all 31 (drop 1 s.x) (omega arith))
    ∙ take-drop_spelled 31 0 (drop 1 s.x) (omega arith) in
    from_parts s (drop 1 s.x) s.reservation listed
    ∙ same_state s _ _ (zero_first s.x (omega (arith, k.registers)) k.zero_register) (same_csr s.csr)
