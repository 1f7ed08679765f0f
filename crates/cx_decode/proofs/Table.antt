-- The table as a whole: no two rows match one word.
use Rattle.std.proofs.Common.{◌≡◌, ℕ, ◌==◌, cond, Bool, true, false, List, [], ◌∷◌, Option, Some, None, IfSome, IfNone}
use Rattle.std.proofs.Common.{bit_and, refl, sym, ◌∙◌, ap, subst, zero, suc, eq-eqb}
use Rattle.std.proofs.lemmas.Nat.{and_comm, and_assoc}
use Rattle.cx_decode.specs.Decoding.{all_ops}
use Rattle.cx_decode.specs.Operands.{IsWordOf, ins_of}
use Rattle.cx_decode.specs.Table.{Matches, MatchesNone, row_of}
use Rattle.cx_decode.specs.declared.ins.Ins.{Ins}
use Rattle.cx_decode.specs.declared.op.Op.{Op}
use Rattle.cx_decode.specs.declared.op.Op.TheVariants.{Lui, Auipc, Jal, Jalr, Beq, Bne, Blt, Bge, Bltu, Bgeu, Lb, Lh}
use Rattle.cx_decode.specs.declared.op.Op.TheVariants.{Lw, Lbu, Lhu, Sb, Sh, Sw, Addi, Slti, Sltiu, Xori, Ori, Andi}
use Rattle.cx_decode.specs.declared.op.Op.TheVariants.{Slli, Srli, Srai, Add, Sub, Sll, Slt, Sltu, Xor, Srl, Sra, Or}
use Rattle.cx_decode.specs.declared.op.Op.TheVariants.{And, Mul, Mulh, Mulhsu, Mulhu, Div, Divu, Rem, Remu, Fence}
use Rattle.cx_decode.specs.declared.op.Op.TheVariants.{FenceI, Ecall, Ebreak, Sret, Mret, Wfi, SfenceVma, Csrrw, Csrrs}
use Rattle.cx_decode.specs.declared.op.Op.TheVariants.{Csrrc, Csrrwi, Csrrsi, Csrrci, LrW, ScW, AmoswapW, AmoaddW}
use Rattle.cx_decode.specs.declared.op.Op.TheVariants.{AmoxorW, AmoandW, AmoorW, AmominW, AmomaxW, AmominuW, AmomaxuW}

-- Where a row stands in that list.
place : Op → ℕ
place Lui = 0
place Auipc = 1
place Jal = 2
place Jalr = 3
place Beq = 4
place Bne = 5
place Blt = 6
place Bge = 7
place Bltu = 8
place Bgeu = 9
place Lb = 10
place Lh = 11
place Lw = 12
place Lbu = 13
place Lhu = 14
place Sb = 15
place Sh = 16
place Sw = 17
place Addi = 18
place Slti = 19
place Sltiu = 20
place Xori = 21
place Ori = 22
place Andi = 23
place Slli = 24
place Srli = 25
place Srai = 26
place Add = 27
place Sub = 28
place Sll = 29
place Slt = 30
place Sltu = 31
place Xor = 32
place Srl = 33
place Sra = 34
place Or = 35
place And = 36
place Mul = 37
place Mulh = 38
place Mulhsu = 39
place Mulhu = 40
place Div = 41
place Divu = 42
place Rem = 43
place Remu = 44
place Fence = 45
place FenceI = 46
place Ecall = 47
place Ebreak = 48
place Sret = 49
place Mret = 50
place Wfi = 51
place SfenceVma = 52
place Csrrw = 53
place Csrrs = 54
place Csrrc = 55
place Csrrwi = 56
place Csrrsi = 57
place Csrrci = 58
place LrW = 59
place ScW = 60
place AmoswapW = 61
place AmoaddW = 62
place AmoxorW = 63
place AmoandW = 64
place AmoorW = 65
place AmominW = 66
place AmomaxW = 67
place AmominuW = 68
place AmomaxuW = 69

-- ---- facts of each row in a list

abbrev pub Each : (Op → Type 0) → List Op → Type 0
Each P [] = Unit {0}
Each P (op ∷ ops) = P op × Each P ops

abbrev at_place : List Op → ℕ → Option Op
at_place [] n = None
at_place (op ∷ ops) zero = Some op
at_place (op ∷ ops) (suc n) = at_place ops n

each_at : (P : Op → Type 0) (ops : List Op) (n : ℕ) (op : Op) → at_place ops n ≡ Some op → Each P ops → P op
each_at P [] n op found all = cc
each_at P (first ∷ ops) zero op found all = let e : first ≡ op = cc in subst P e all.0
each_at P (first ∷ ops) (suc n) op found all = each_at P ops n op found all.1

found : (op : Op) → at_place all_ops (place op) ≡ Some op
unfolding place
found Lui = refl
found op = refl

pub each : (P : Op → Type 0) → Each P all_ops → (op : Op) → P op
each P all op = each_at P all_ops (place op) op (found op) all

-- ---- the rows that pass a test

abbrev pub passing : (Op → Bool) → List Op → List Op
passing test [] = []
passing test (op ∷ ops) = cond (test op) (op ∷ passing test ops) (passing test ops)

passing_first : (P : Op → Type 0) (op : Op) (rest : List Op) (passes : Bool) → Each P (cond passes (op ∷ rest) rest)
    → (passes ≡ true → P op) × Each P rest
passing_first P op rest true all = (λ _. all.0, all.1)
passing_first P op rest false all = (λ wrong. absurd cc, all)

passing_each : (test : Op → Bool) (P : Op → Type 0) (ops : List Op) → Each P (passing test ops)
    → Each (λ op. test op ≡ true → P op) ops
passing_each test P [] all = tt
passing_each test P (op ∷ ops) all = let parts = passing_first P op (passing test ops) (test op) all in
    (parts.0, passing_each test P ops parts.1)

-- A fact of the rows that pass is one of every row that passes.
pub each_passing : (test : Op → Bool) (P : Op → Type 0) → Each P (passing test all_ops) → (op : Op) → test op ≡ true
    → P op
each_passing test P all op = each (λ o. test o ≡ true → P o) (passing_each test P all_ops all) op

-- ---- no two rows match one word

agree : Op → Op → Bool
agree op other = bit_and (row_of op).bits (row_of other).mask == bit_and (row_of other).bits (row_of op).mask

agree_alone : (op : Op) → passing (agree op) all_ops ≡ op ∷ []
unfolding agree
agree_alone Lui = refl
agree_alone op = refl

-- What a match says of the bits that a second mask has too.
under_both : (word : ℕ) (op other : Op) → Matches word op → bit_and (row_of op).bits (row_of other).mask ≡ bit_and word
    (bit_and (row_of op).mask (row_of other).mask)
under_both word op other matches = ap (λ v. bit_and v (row_of other).mask) (sym matches)
    ∙ and_assoc (row_of other).mask word (row_of op).mask

matches_agree : (word : ℕ) (op other : Op) → Matches word op → Matches word other → agree op other ≡ true
unfolding agree
matches_agree word op other one two =
    eq-eqb _ _ (under_both word op other one ∙ ap (bit_and word) (and_comm (row_of op).mask (row_of other).mask)
    ∙ sym (under_both word other op two))

pub matches_unique : (word : ℕ) (op other : Op) → Matches word op → Matches word other → op ≡ other
matches_unique word op other one two =
    let alone : Each (λ o. op ≡ o) (passing (agree op) all_ops) = subst (Each (λ o. op ≡ o)) (sym (agree_alone op))
    (refl, tt) in
    each_passing (agree op) (λ o. op ≡ o) alone other (matches_agree word op other one two)

-- What is a row's instruction wherever it is there, and isn't there only where no row matches, is that of the row that
-- does.
pub found_of_row : (result : Option Ins) (word : ℕ) (op : Op) → IfSome result (IsWordOf word)
    → IfNone result (MatchesNone word) → Matches word op → result ≡ Some (ins_of op word)
found_of_row None word op found none matches = absurd (none op matches)
found_of_row (Some i) word op found none matches =
    ap Some (found.1 ∙ ap (λ o. ins_of o word) (matches_unique word i.op op found.0 matches))
