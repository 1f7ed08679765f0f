-- Two states with the same words are one.
use Rattle.std.proofs.Common.{◌≡◌, ℕ, ◌/◌, ◌%◌, ◌^◌, List, [], ◌∷◌, ◌++◌, length, drop, get_or, Option, None, Some}
use Rattle.std.proofs.Common.{refl, sym, ap, ◌∙◌, arith, ◌-◌, length-drop}
use Rattle.cx_csr.specs.declared.state.State.{State}
use Rattle.cx_csr.specs.declared.state.CsrFile.{CsrFile}
use Rattle.cx_csr.specs.Keeps.{Keeps}
use Rattle.cx_csr.specs.Words.{words_of, rest_words, csr_words, reservation_words}

-- lists that begin with parts of one length
pub append_parts : (a b s t : List ℕ) → length a ≡ length b → a ++ s ≡ b ++ t → (a ≡ b) × (s ≡ t)
append_parts [] [] s t e h = (refl, h)
append_parts [] (y ∷ b) s t e h = absurd (omega arith)
append_parts (x ∷ a) [] s t e h = absurd (omega arith)
append_parts (x ∷ a) (y ∷ b) s t e h =
    let tails : a ++ s ≡ b ++ t = cc in
    let heads : x ≡ y = cc in
    let parts = append_parts a b s t (omega arith) tails in
    (let both = parts.0 in cc, parts.1)

same_reservation : (r q : Option ℕ) (a b : ℕ) → reservation_words r ++ a ∷ [] ≡ reservation_words q ++ b ∷ []
    → (r ≡ q) × (a ≡ b)
same_reservation None None a b e = (refl, cc)
same_reservation None (Some q) a b e = absurd cc
same_reservation (Some p) None a b e = absurd cc
same_reservation (Some p) (Some q) a b e = (cc, cc)

-- a list of 32 registers whose first is 0
registers_are : (x : List ℕ) → length x ≡ 32 → get_or x 0 0 ≡ 0 → x ≡ 0 ∷ drop 1 x
registers_are [] n e = absurd (omega arith)
registers_are (r ∷ rs) n e = ap (λ (v : ℕ). v ∷ rs) e

same_halves : (n m : ℕ) → n % 2 ^ 32 ≡ m % 2 ^ 32 → n / 2 ^ 32 ≡ m / 2 ^ 32 → n ≡ m
same_halves n m e f = omega arith

same_file : (c d : CsrFile) → c.mstatus ≡ d.mstatus → c.medeleg ≡ d.medeleg → c.mideleg ≡ d.mideleg → c.mie ≡ d.mie
    → c.mip ≡ d.mip → c.mtvec ≡ d.mtvec → c.mcounteren ≡ d.mcounteren → c.mscratch ≡ d.mscratch → c.mepc ≡ d.mepc
    → c.mcause ≡ d.mcause → c.mtval ≡ d.mtval → c.stvec ≡ d.stvec → c.scounteren ≡ d.scounteren
    → c.sscratch ≡ d.sscratch → c.sepc ≡ d.sepc → c.scause ≡ d.scause → c.stval ≡ d.stval → c.satp ≡ d.satp
    → c.mcycle ≡ d.mcycle → c.minstret ≡ d.minstret → c ≡ d
same_file c d e1 e2 e3 e4 e5 e6 e7 e8 e9 e10 e11 e12 e13 e14 e15 e16 e17 e18 e19 e20 =
    let other : CsrFile = record {
      mstatus = d.mstatus;
      medeleg = d.medeleg;
      mideleg = d.mideleg;
      mie = d.mie;
      mip =
          d.mip;
      mtvec = d.mtvec;
      mcounteren = d.mcounteren;
      mscratch = d.mscratch;
      mepc = d.mepc;
      mcause =
          d.mcause;
      mtval = d.mtval;
      stvec = d.stvec;
      scounteren = d.scounteren;
      sscratch = d.sscratch;
      sepc =
          d.sepc;
      scause = d.scause;
      stval = d.stval;
      satp = d.satp;
      mcycle = d.mcycle;
      minstret = d.minstret;
    } in
    let same : c ≡ other = rw (
      ← e1,
      ← e2,
      ← e3,
      ← e4,
      ← e5,
      ← e6,
      ← e7,
      ← e8,
      ← e9,
      ← e10,
      ← e11,
      ← e12,
      ← e13,
      ← e14,
      ← e15,
      ← e16,
      ← e17,
      ← e18,
      ← e19,
      ← e20,
    ) refl in
    same

same_fields : (s t : State) → s.pc ≡ t.pc → s.x ≡ t.x → s.mode ≡ t.mode → s.csr ≡ t.csr → s.reservation ≡ t.reservation
    → s.lines.0 ≡ t.lines.0 → s ≡ t
same_fields s t e1 e2 e3 e4 e5 e6 =
    let other : State = record {
      pc = t.pc;
      x = t.x;
      mode = t.mode;
      csr = t.csr;
      reservation = t.reservation;
      lines =
          record { 0 = t.lines.0 };
    } in
    let same : s ≡ other = rw (← e1, ← e2, ← e3, ← e4, ← e5, ← e6) refl in
    same

record SameCsr (c d : CsrFile) (s t : List ℕ) : Type 0 where
  same : c ≡ d
  rest : s ≡ t

same_csr : (c d : CsrFile) (s t : List ℕ) → csr_words c ++ s ≡ csr_words d ++ t → SameCsr c d s t
same_csr c d s t e =
    let at = λ (i : ℕ). ap (λ (words : List ℕ). get_or words i 0) e in
    let mcycle = same_halves c.mcycle d.mcycle (at 18) (at 19) in
    let minstret = same_halves c.minstret d.minstret (at 20) (at 21) in
    record {
      same = same_file c d (at 0) (at 1) (at 2) (at 3) (at 4) (at 5) (at 6) (at 7) (at 8) (at 9) (at 10) (at 11) (at 12)
          (at 13) (at 14) (at 15) (at 16) (at 17) mcycle minstret;
      rest = ap (λ (words : List ℕ). drop 22 words) e;
    }

pub same_from_words : (p q : ℕ) (s t : State) → Keeps p s → Keeps q t → words_of s ≡ words_of t → s ≡ t
unfolding words_of
same_from_words p q s t k l e =
    let pcs : s.pc ≡ t.pc = cc in
    let after : drop 1 s.x ++ rest_words s ≡ drop 1 t.x ++ rest_words t = cc in
    let parts = append_parts (drop 1 s.x) (drop 1 t.x) (rest_words s) (rest_words t) (length-drop 1 s.x
    ∙ ap (λ (n : ℕ). n - 1) (k.registers ∙ sym l.registers) ∙ sym (length-drop 1 t.x)) after in
    let registers : s.x ≡ t.x = registers_are s.x k.registers k.zero_register ∙ ap (λ (r : List ℕ). 0 ∷ r) parts.0
    ∙ sym (registers_are t.x l.registers l.zero_register) in
    let tail = parts.1 in
    let modes : s.mode ≡ t.mode = cc in
    let csrs = same_csr s.csr t.csr (reservation_words s.reservation ++ s.lines.0 ∷ []) (reservation_words t.reservation
    ++ t.lines.0 ∷ []) (cc) in
    let ends = same_reservation s.reservation t.reservation s.lines.0 t.lines.0 csrs.rest in
    same_fields s t pcs registers modes csrs.same ends.0 ends.1
