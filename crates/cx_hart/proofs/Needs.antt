-- What the rows of the table need.
use Rattle.std.proofs.Common.{◌≡◌, ℕ, ◌+◌, ◌^◌, ◌<◌, ◌⊎◌, inl, inr, List, Some, IfSome, refl, sym, subst, arith}
use Rattle.cx_decode.specs.WellFormed.{WellFormed}
use Rattle.cx_decode.specs.declared.ins.Ins.{Ins}
use Rattle.cx_decode.specs.declared.op.Op.{Op}
use Rattle.cx_decode.specs.declared.op.Op.TheVariants.{Lb, Lh, Lw, Lbu, Lhu, Sb, Sh, Sw, LrW, ScW, AmoswapW, AmoaddW}
use Rattle.cx_decode.specs.declared.op.Op.TheVariants.{AmoxorW, AmoandW, AmoorW, AmominW, AmomaxW, AmominuW, AmomaxuW}
use Rattle.cx_decode.specs.declared.op.Op.TheVariants.{Csrrw, Csrrs, Csrrc, Csrrwi, Csrrsi, Csrrci}
use Rattle.cx_exec.specs.Arithmetic.{wrapped}
use Rattle.cx_exec.specs.Asking.{ask_of, need_of, row_ask}
use Rattle.cx_exec.specs.declared.asks.Access.TheVariants.{Reserve}
use Rattle.cx_exec.specs.declared.asks.Ask.TheVariants.{Csr}
use Rattle.cx_exec.specs.declared.asks.Need.{Need}
use Rattle.cx_exec.specs.declared.values.Values.{Values}

abbrev pub IsLength : ℕ → Type 0
IsLength len = (len ≡ 1) ⊎ (len ≡ 2) ⊎ (len ≡ 4)

row_length : (op : Op) (v : Values) → IfSome (need_of (row_ask op v)) (λ n. IsLength n.len)
row_length Lb v = inl refl
row_length Lbu v = inl refl
row_length Sb v = inl refl
row_length Lh v = inr (inl refl)
row_length Lhu v = inr (inl refl)
row_length Sh v = inr (inl refl)
row_length Lw v = inr (inr refl)
row_length Sw v = inr (inr refl)
row_length LrW v = inr (inr refl)
row_length ScW v = inr (inr refl)
row_length AmoswapW v = inr (inr refl)
row_length AmoaddW v = inr (inr refl)
row_length AmoxorW v = inr (inr refl)
row_length AmoandW v = inr (inr refl)
row_length AmoorW v = inr (inr refl)
row_length AmominW v = inr (inr refl)
row_length AmomaxW v = inr (inr refl)
row_length AmominuW v = inr (inr refl)
row_length AmomaxuW v = inr (inr refl)
row_length op v = tt

-- its address is one of 32 bits, and an LR has four bytes
pub record IsNeed (n : Need) : Type 0 where
  pub length : IsLength n.len
  pub address : n.va < 2 ^ 32
  pub reserve : n.access ≡ Reserve → n.len ≡ 4

plain_need : (v : Values) (n : Need) → IsLength n.len → n.va ≡ wrapped (v.a + v.imm) → (n.access ≡ Reserve → n.len ≡ 4)
    → IsNeed n
plain_need v n length e reserve = record { length = length; address = omega (arith, e); reserve = reserve }

word_need : (v : Values) (n : Need) → v.a < 2 ^ 32 → n.len ≡ 4 → n.va ≡ v.a → IsNeed n
word_need v n small four e = record { length = inr (inr four); address = omega (arith, e); reserve = λ is. four }

pub row_need : (op : Op) (v : Values) → v.a < 2 ^ 32 → IfSome (need_of (row_ask op v)) IsNeed
row_need Lb v small = plain_need v _ (inl refl) refl (λ is. absurd cc)
row_need Lbu v small = plain_need v _ (inl refl) refl (λ is. absurd cc)
row_need Sb v small = plain_need v _ (inl refl) refl (λ is. absurd cc)
row_need Lh v small = plain_need v _ (inr (inl refl)) refl (λ is. absurd cc)
row_need Lhu v small = plain_need v _ (inr (inl refl)) refl (λ is. absurd cc)
row_need Sh v small = plain_need v _ (inr (inl refl)) refl (λ is. absurd cc)
row_need Lw v small = plain_need v _ (inr (inr refl)) refl (λ is. absurd cc)
row_need Sw v small = plain_need v _ (inr (inr refl)) refl (λ is. absurd cc)
row_need LrW v small = word_need v _ small refl refl
row_need ScW v small = word_need v _ small refl refl
row_need AmoswapW v small = word_need v _ small refl refl
row_need AmoaddW v small = word_need v _ small refl refl
row_need AmoxorW v small = word_need v _ small refl refl
row_need AmoandW v small = word_need v _ small refl refl
row_need AmoorW v small = word_need v _ small refl refl
row_need AmominW v small = word_need v _ small refl refl
row_need AmomaxW v small = word_need v _ small refl refl
row_need AmominuW v small = word_need v _ small refl refl
row_need AmomaxuW v small = word_need v _ small refl refl
row_need op v small = tt

-- the access of an instruction has 1, 2 or 4 bytes
pub need_length : (i : Ins) (pc : ℕ) (regs : List ℕ) (n : Need) → Some n ≡ need_of (ask_of i pc regs) → (n.len ≡ 1)
    ⊎ (n.len ≡ 2) ⊎ (n.len ≡ 4)
need_length i pc regs n e = subst (λ o. IfSome o (λ m. IsLength m.len)) (sym e) (row_length i.op _)

row_number : (i : Ins) (op : Op) (v : Values) → i.op ≡ op → WellFormed i → row_ask op v ≡ Csr → i.imm < 2 ^ 12
row_number i Csrrw v e formed is = let f = rw e at formed in f.3
row_number i Csrrs v e formed is = let f = rw e at formed in f.3
row_number i Csrrc v e formed is = let f = rw e at formed in f.3
row_number i Csrrwi v e formed is = let f = rw e at formed in f.3
row_number i Csrrsi v e formed is = let f = rw e at formed in f.3
row_number i Csrrci v e formed is = let f = rw e at formed in f.3
row_number i op v e formed is = absurd cc

-- a control register instruction has a number of twelve bits
pub control_number : (i : Ins) (pc : ℕ) (regs : List ℕ) → WellFormed i → Csr ≡ ask_of i pc regs → i.imm < 2 ^ 12
control_number i pc regs formed e = row_number i i.op _ refl formed (sym e)
