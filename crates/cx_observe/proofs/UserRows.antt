-- Which rows user mode can retire, which of them write, and which word calls the environment.
use Rattle.std.proofs.Common.{◌≡◌, ℕ, ◌%◌, ◌==◌, ◌||◌, ◌&&◌, not, Bool, true, false, cond, List, [], ◌∷◌, Option}
use Rattle.std.proofs.Common.{None, Some, IfSome, Result, Ok, Err, refl, eq-eqb}
use Rattle.std.proofs.Common.{if◌then◌else◌, find}
use Rattle.std.proofs.lemmas.Bool.{and_from, not-false}
use Rattle.cx_csr.specs.declared.modes.TheConstants.{USER}
use Rattle.cx_csr.specs.declared.state.State.{State}
use Rattle.cx_decode.specs.declared.op.Op.{Op}
use Rattle.cx_decode.specs.declared.op.Op.TheVariants as rows
use Rattle.cx_exec.specs.Asking.{need_of, row_ask}
use Rattle.cx_exec.specs.Control.{row_reads_control, row_writes_control}
use Rattle.cx_exec.specs.Effect.{branches, goes, row_effect}
use Rattle.cx_exec.specs.User.{is_base_counter, row_user_retires}
use Rattle.cx_exec.specs.declared.asks.Ask.TheVariants.{Nothing, Csr}
use Rattle.cx_exec.specs.declared.asks.Need.{Need}
use Rattle.cx_exec.specs.declared.effect.Effect.{Effect}
use Rattle.cx_exec.specs.declared.effect.Misaligned.{Misaligned}
use Rattle.cx_exec.specs.declared.values.Values.{Values}
use Rattle.cx_hart.specs.Legal.{is_barred}
use Rattle.cx_observe.specs.Asked.{write_of}

-- ---- rows that access memory

pub need_user : (op : Op) (v : Values) (rs1 imm : ℕ) (n : Need) → need_of (row_ask op v) ≡ Some n
    → row_user_retires op rs1 imm ≡ true
need_user rows.Lb v rs1 imm n is = refl
need_user rows.Lh v rs1 imm n is = refl
need_user rows.Lw v rs1 imm n is = refl
need_user rows.Lbu v rs1 imm n is = refl
need_user rows.Lhu v rs1 imm n is = refl
need_user rows.Sb v rs1 imm n is = refl
need_user rows.Sh v rs1 imm n is = refl
need_user rows.Sw v rs1 imm n is = refl
need_user rows.LrW v rs1 imm n is = refl
need_user rows.ScW v rs1 imm n is = refl
need_user rows.AmoswapW v rs1 imm n is = refl
need_user rows.AmoaddW v rs1 imm n is = refl
need_user rows.AmoxorW v rs1 imm n is = refl
need_user rows.AmoandW v rs1 imm n is = refl
need_user rows.AmoorW v rs1 imm n is = refl
need_user rows.AmominW v rs1 imm n is = refl
need_user rows.AmomaxW v rs1 imm n is = refl
need_user rows.AmominuW v rs1 imm n is = refl
need_user rows.AmomaxuW v rs1 imm n is = refl
need_user op v rs1 imm n is = absurd cc

-- ---- rows that ask for nothing

user_is_user : (s : State) → s.mode ≡ 0 → (s.mode == USER) ≡ true
user_is_user s user = eq-eqb s.mode 0 user

barred : {P : Type 0} (t u : Bool) → t ≡ true → (t || u) ≡ false → P
barred true u is not_barred = cc
barred false u is not_barred = cc

pub nothing_user : (op : Op) (v : Values) (rs1 imm : ℕ) (s : State) → s.mode ≡ 0 → row_ask op v ≡ Nothing
    → is_barred s op ≡ false → row_user_retires op rs1 imm ≡ true
nothing_user rows.SfenceVma v rs1 imm s user is free = barred (s.mode == USER) _ (user_is_user s user) free
nothing_user rows.Ecall v rs1 imm s user is free = absurd cc
nothing_user rows.Ebreak v rs1 imm s user is free = absurd cc
nothing_user rows.Sret v rs1 imm s user is free = absurd cc
nothing_user rows.Mret v rs1 imm s user is free = absurd cc
nothing_user rows.Csrrw v rs1 imm s user is free = absurd cc
nothing_user rows.Csrrs v rs1 imm s user is free = absurd cc
nothing_user rows.Csrrc v rs1 imm s user is free = absurd cc
nothing_user rows.Csrrwi v rs1 imm s user is free = absurd cc
nothing_user rows.Csrrsi v rs1 imm s user is free = absurd cc
nothing_user rows.Csrrci v rs1 imm s user is free = absurd cc
nothing_user op v rs1 imm s user is free = refl

-- ---- rows of control registers

only_reads : (rs1 imm : ℕ) → not (rs1 == 0) ≡ false → is_base_counter imm ≡ true
    → ((rs1 == 0) && is_base_counter imm) ≡ true
only_reads rs1 imm reads counter = and_from (rs1 == 0) (is_base_counter imm) (not-false (rs1 == 0) reads) counter

pub csr_user : (op : Op) (v : Values) (rs1 imm : ℕ) → row_ask op v ≡ Csr → row_writes_control op rs1 ≡ false
    → is_base_counter imm ≡ true → row_user_retires op rs1 imm ≡ true
csr_user rows.Csrrw v rs1 imm is reads counter = absurd cc
csr_user rows.Csrrwi v rs1 imm is reads counter = absurd cc
csr_user rows.Csrrs v rs1 imm is reads counter = only_reads rs1 imm reads counter
csr_user rows.Csrrc v rs1 imm is reads counter = only_reads rs1 imm reads counter
csr_user rows.Csrrsi v rs1 imm is reads counter = only_reads rs1 imm reads counter
csr_user rows.Csrrci v rs1 imm is reads counter = only_reads rs1 imm reads counter
csr_user op v rs1 imm is reads counter = absurd cc

pub csr_reads : (op : Op) (v : Values) (rd rs1 : ℕ) → row_ask op v ≡ Csr → row_writes_control op rs1 ≡ false
    → row_reads_control op rd ≡ true
csr_reads rows.Csrrw v rd rs1 is reads = absurd cc
csr_reads rows.Csrrwi v rd rs1 is reads = absurd cc
csr_reads rows.Csrrs v rd rs1 is reads = refl
csr_reads rows.Csrrc v rd rs1 is reads = refl
csr_reads rows.Csrrsi v rd rs1 is reads = refl
csr_reads rows.Csrrci v rd rs1 is reads = refl
csr_reads op v rd rs1 is reads = absurd cc

-- ---- what is written

abbrev pub written_by : Result Effect Misaligned → Option ℕ
written_by (Ok e) = e.write
written_by (Err m) = None

goes_none : (rd value target : ℕ) → written_by (goes rd value target) ≡ None
goes_none rd value target = by_test (target % 4 == 0)
  where
    by_test : (t : Bool) → written_by (if t then Ok (record { rd = rd; value = value; pc = target; write = None })
        else Err (record { target = target })) ≡ None
    by_test true = refl
    by_test false = refl

branches_none : (v : Values) (t : Bool) → written_by (branches v t) ≡ None
branches_none v true = goes_none 0 0 _
branches_none v false = refl

pub row_none : (op : Op) (v w : Values) → write_of (row_ask op w) ≡ None → written_by (row_effect op v) ≡ None
row_none rows.Sb v w is = absurd cc
row_none rows.Sh v w is = absurd cc
row_none rows.Sw v w is = absurd cc
row_none rows.ScW v w is = absurd cc
row_none rows.AmoswapW v w is = absurd cc
row_none rows.AmoaddW v w is = absurd cc
row_none rows.AmoxorW v w is = absurd cc
row_none rows.AmoandW v w is = absurd cc
row_none rows.AmoorW v w is = absurd cc
row_none rows.AmominW v w is = absurd cc
row_none rows.AmomaxW v w is = absurd cc
row_none rows.AmominuW v w is = absurd cc
row_none rows.AmomaxuW v w is = absurd cc
row_none rows.Jal v w is = goes_none v.rd _ _
row_none rows.Jalr v w is = goes_none v.rd _ _
row_none rows.Beq v w is = branches_none v _
row_none rows.Bne v w is = branches_none v _
row_none rows.Blt v w is = branches_none v _
row_none rows.Bge v w is = branches_none v _
row_none rows.Bltu v w is = branches_none v _
row_none rows.Bgeu v w is = branches_none v _
row_none op v w is = refl

-- ---- the word of a call

first_passes : (test : Op → Bool) (op : Op) (passes : Bool) (rest : Option Op) → test op ≡ passes
    → IfSome rest (λ o. test o ≡ true) → IfSome (cond passes (Some op) rest) (λ o. test o ≡ true)
first_passes test op true rest is others = is
first_passes test op false rest is others = others

pub find_passes : (test : Op → Bool) (ops : List Op) → IfSome (find test ops) (λ op. test op ≡ true)
find_passes test [] = tt
find_passes test (op ∷ ops) = first_passes test op (test op) (find test ops) refl (find_passes test ops)
