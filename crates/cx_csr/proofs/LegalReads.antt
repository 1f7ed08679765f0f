-- A read that isn't illegal answers, and what it answers has 32 bits.
use Rattle.std.proofs.Common.{bit_and, ◌^◌, ◌<◌, eqb, ◌-◌, ◌≡◌, ℕ, Bool, true, false, cond, Option, None, Some, bit_or}
use Rattle.std.proofs.Common.{refl, ap, arith, IsTrue}
use Rattle.std.specs.Prelude.{◌||◌, ◌&&◌, ◌↔◌, is_none}
use Rattle.std.proofs.lemmas.Nat.{and_le_l, and_le_r, or_of_32}
use Rattle.cx_csr.specs.declared.state.State.{State}
use Rattle.cx_csr.specs.declared.access.Csr.{Csr}
use Rattle.cx_csr.specs.declared.access.Csr.TheVariants.{Illegal}
use Rattle.cx_csr.specs.declared.register.Register.{Register}
use Rattle.cx_csr.specs.declared.register.Register.TheVariants.{Sstatus, Sie, Stvec, Scounteren, Sscratch, Sepc, Scause}
use Rattle.cx_csr.specs.declared.register.Register.TheVariants.{Stval, Sip, Satp, Mstatus, Misa, Medeleg, Mideleg, Mie}
use Rattle.cx_csr.specs.declared.register.Register.TheVariants.{Mtvec, Mcounteren, Mscratch, Mepc, Mcause, Mtval, Mip}
use Rattle.cx_csr.specs.declared.register.Register.TheVariants.{Mcycle, Mcycleh, Minstret, Minstreth, Cycle, Cycleh}
use Rattle.cx_csr.specs.declared.register.Register.TheVariants.{Time, Timeh, Instret, Instreth, NoEffect}
use Rattle.cx_csr.specs.Access.{modify_base, csr_read, is_illegal, is_above, is_read_only, is_trapped, is_closed}
use Rattle.cx_csr.specs.Access.{is_closed_to_user, csr_value, IsWordAnswer}
use Rattle.cx_csr.specs.Bits.{with_bits}
use Rattle.cx_csr.specs.Keeps.{Keeps}
use Rattle.cx_csr.specs.Table.{register_at}
use Rattle.cx_csr.specs.Values.{read_as}
use Rattle.cx_csr.proofs.WordLists.{within_wide}
use Rattle.cx_csr.specs.declared.interrupts.TheConstants.{SEI}
use Rattle.cx_csr.specs.declared.numbers.TheConstants.{CSR_MIP}
use Rattle.cx_csr.specs.declared.status.TheConstants.{SSTATUS_FIELDS}

abbrev has_answer : Csr → Bool
has_answer Illegal = false
has_answer _ = true

read_as_answers : (r : Register) (s : State) → has_answer (read_as r s) ≡ true
read_as_answers Sstatus s = refl
read_as_answers _ s = refl

read_as_word : (pages : ℕ) (r : Register) (s : State) → Keeps pages s → IsWordAnswer (read_as r s)
read_as_word pages Sstatus s k = omega (arith, and_le_r s.csr.mstatus SSTATUS_FIELDS)
read_as_word pages Sie s k =
    omega (arith, and_le_r s.csr.mie s.csr.mideleg, within_wide _ _ (omega arith) k.csr.mideleg)
read_as_word pages Stvec s k = within_wide _ _ (omega arith) k.csr.stvec
read_as_word pages Scounteren s k = within_wide _ _ (omega arith) k.csr.scounteren
read_as_word pages Sscratch s k = k.csr.sscratch
read_as_word pages Sepc s k = k.csr.sepc.wide
read_as_word pages Scause s k = k.csr.scause
read_as_word pages Stval s k = k.csr.stval
read_as_word pages Sip s k = omega (
  arith,
  and_le_r (bit_or s.csr.mip s.lines.0) s.csr.mideleg,
  within_wide _ _ (omega arith) k.csr.mideleg,
)
read_as_word pages Satp s k = k.csr.satp
read_as_word pages Mstatus s k = within_wide _ _ (omega arith) k.csr.mstatus.within
read_as_word pages Misa s k = omega arith
read_as_word pages Medeleg s k = within_wide _ _ (omega arith) k.csr.medeleg
read_as_word pages Mideleg s k = within_wide _ _ (omega arith) k.csr.mideleg
read_as_word pages Mie s k = within_wide _ _ (omega arith) k.csr.mie
read_as_word pages Mtvec s k = within_wide _ _ (omega arith) k.csr.mtvec
read_as_word pages Mcounteren s k = within_wide _ _ (omega arith) k.csr.mcounteren
read_as_word pages Mscratch s k = k.csr.mscratch
read_as_word pages Mepc s k = k.csr.mepc.wide
read_as_word pages Mcause s k = k.csr.mcause
read_as_word pages Mtval s k = k.csr.mtval
read_as_word pages Mip s k = or_of_32 s.csr.mip s.lines.0 (within_wide _ _ (omega arith) k.csr.mip)
    (within_wide _ _ (omega arith) k.lines)
read_as_word pages Mcycle s k = omega arith
read_as_word pages Mcycleh s k = omega (arith, k.csr.mcycle)
read_as_word pages Minstret s k = omega arith
read_as_word pages Minstreth s k = omega (arith, k.csr.minstret)
read_as_word pages Cycle s k = omega arith
read_as_word pages Cycleh s k = omega (arith, k.csr.mcycle)
read_as_word pages Time s k = tt
read_as_word pages Timeh s k = tt
read_as_word pages Instret s k = omega arith
read_as_word pages Instreth s k = omega (arith, k.csr.minstret)
read_as_word pages NoEffect s k = omega arith

-- the first of six tests
first_of_six : (a b c d e f : Bool) → (a || b || c || d || e || f) ≡ false → a ≡ false
first_of_six true b c d e f h = h
first_of_six false b c d e f h = refl

answer_or_reason : (illegal : Bool) (r : Option Register) (s : State) → (illegal ≡ false → is_none r ≡ false)
    → (cond illegal Illegal (csr_value r s) ≡ Illegal) ↔ IsTrue illegal
answer_or_reason true r s known = (λ _. refl, λ _. refl)
answer_or_reason false None s known = absurd (let same = known refl in cc)
answer_or_reason false (Some r) s known = (
  λ e. absurd (let same = ap has_answer e in let other = read_as_answers r s in
      cc),
  λ never. absurd cc,
)

word_or_none : (pages : ℕ) (illegal : Bool) (r : Option Register) (s : State) → Keeps pages s
    → IsWordAnswer (cond illegal Illegal (csr_value r s))
word_or_none pages true r s k = tt
word_or_none pages false None s k = tt
word_or_none pages false (Some r) s k = read_as_word pages r s k

known_where_legal : (s : State) (number : ℕ) → is_illegal false s number ≡ false → is_none (register_at number) ≡ false
unfolding is_illegal
known_where_legal s number h = first_of_six (is_none (register_at number)) (is_above s number)
    (false && is_read_only number) (is_trapped s number) (is_closed s number) (is_closed_to_user s number) h

pub illegal_exactly : (s : State) (number : ℕ) → (csr_read s number ≡ Illegal) ↔ IsTrue (is_illegal false s number)
unfolding csr_read
illegal_exactly s number = answer_or_reason (is_illegal false s number) (register_at number) s
    (known_where_legal s number)

pub csr_read_word : (pages : ℕ) (s : State) (number : ℕ) → Keeps pages s → IsWordAnswer (csr_read s number)
unfolding csr_read
csr_read_word pages s number k = word_or_none pages (is_illegal false s number) (register_at number) s k

-- the third of six tests, taken to the end
third_to_end : (a b c d e f : Bool) → (a || b || (true && c) || d || e || f) ≡ ((a || b || (false && c) || d || e || f)
    || c)
third_to_end true b c d e f = refl
third_to_end false true c d e f = refl
third_to_end false false true true e f = refl
third_to_end false false true false true f = refl
third_to_end false false true false false true = refl
third_to_end false false true false false false = refl
third_to_end false false false true e f = refl
third_to_end false false false false true f = refl
third_to_end false false false false false true = refl
third_to_end false false false false false false = refl

pub illegal_for_writes : (s : State) (number : ℕ)
    → is_illegal true s number ≡ (is_illegal false s number || is_read_only number)
unfolding is_illegal
illegal_for_writes s number = third_to_end (is_none (register_at number)) (is_above s number) (is_read_only number)
    (is_trapped s number) (is_closed s number) (is_closed_to_user s number)

base_word : (patched : Bool) (software value : ℕ) → value < 2 ^ 32 → cond patched (with_bits (2 ^ SEI) software value)
    value < 2 ^ 32
base_word true software value h = or_of_32 (bit_and value (2 ^ 32 - 1 - (2 ^ SEI))) (bit_and software (2 ^ SEI))
    (omega (arith, and_le_l value (2 ^ 32 - 1 - (2 ^ SEI)))) (omega (arith, and_le_r software (2 ^ SEI)))
base_word false software value h = h

pub modify_base_word : (s : State) (number value : ℕ) → value < 2 ^ 32 → modify_base s number value < 2 ^ 32
modify_base_word s number value h = base_word (eqb number CSR_MIP) s.csr.mip value h
