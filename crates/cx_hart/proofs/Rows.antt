-- What the rows of a group ask for, and what they give.
use Rattle.std.proofs.Common.{◌≡◌, ℕ, ◌+◌, ◌^◌, ◌%◌, ◌/◌, false, Some, refl, arith}
use Rattle.cx_csr.specs.declared.state.State.{State}
use Rattle.cx_decode.specs.Groups.{group_of}
use Rattle.cx_decode.specs.declared.group.Group.TheVariants.{Computes, Loads, Stores}
use Rattle.cx_decode.specs.declared.op.Op.{Op}
use Rattle.cx_decode.specs.declared.op.Op.TheVariants.{Lb, Lh, Lw, Lbu, Lhu, Sb, Sh, Sw, LrW, ScW, AmoswapW, AmoaddW}
use Rattle.cx_decode.specs.declared.op.Op.TheVariants.{AmoxorW, AmoandW, AmoorW, AmominW, AmomaxW, AmominuW, AmomaxuW}
use Rattle.cx_decode.specs.declared.op.Op.TheVariants.{Csrrw, Csrrs, Csrrc, Csrrwi, Csrrsi, Csrrci, Ecall, Ebreak, Sret}
use Rattle.cx_decode.specs.declared.op.Op.TheVariants.{Mret, Wfi, SfenceVma}
use Rattle.cx_exec.specs.Arithmetic.{wrapped}
use Rattle.cx_exec.specs.Asking.{need_of, row_ask}
use Rattle.cx_exec.specs.Effect.{gives, row_effect, stores}
use Rattle.cx_exec.specs.Loads.{loaded_value}
use Rattle.cx_exec.specs.declared.asks.Access.TheVariants.{Load, Store}
use Rattle.cx_exec.specs.declared.asks.Ask.TheVariants.{Nothing}
use Rattle.cx_exec.specs.declared.values.Values.{Values}
use Rattle.cx_ram.specs.LittleEndian.{low_bytes}
use Rattle.cx_hart.specs.Legal.{is_barred}

-- ---- computations

pub computes_ask : (op : Op) (v : Values) → Computes ≡ group_of op → row_ask op v ≡ Nothing
computes_ask Lb v is = absurd cc
computes_ask Lh v is = absurd cc
computes_ask Lw v is = absurd cc
computes_ask Lbu v is = absurd cc
computes_ask Lhu v is = absurd cc
computes_ask Sb v is = absurd cc
computes_ask Sh v is = absurd cc
computes_ask Sw v is = absurd cc
computes_ask LrW v is = absurd cc
computes_ask ScW v is = absurd cc
computes_ask AmoswapW v is = absurd cc
computes_ask AmoaddW v is = absurd cc
computes_ask AmoxorW v is = absurd cc
computes_ask AmoandW v is = absurd cc
computes_ask AmoorW v is = absurd cc
computes_ask AmominW v is = absurd cc
computes_ask AmomaxW v is = absurd cc
computes_ask AmominuW v is = absurd cc
computes_ask AmomaxuW v is = absurd cc
computes_ask Csrrw v is = absurd cc
computes_ask Csrrs v is = absurd cc
computes_ask Csrrc v is = absurd cc
computes_ask Csrrwi v is = absurd cc
computes_ask Csrrsi v is = absurd cc
computes_ask Csrrci v is = absurd cc
computes_ask Ecall v is = absurd cc
computes_ask Ebreak v is = absurd cc
computes_ask Sret v is = absurd cc
computes_ask Mret v is = absurd cc
computes_ask op v is = refl

-- no mode is barred from a computation
pub computes_free : (op : Op) (s : State) → Computes ≡ group_of op → is_barred s op ≡ false
computes_free Wfi s is = absurd cc
computes_free SfenceVma s is = absurd cc
computes_free op s is = refl

-- ---- plain loads

pub loads_need : (op : Op) (v : Values) (len : ℕ) → Loads len ≡ group_of op
    → need_of (row_ask op v) ≡ Some (record { access = Load; va = wrapped (v.a + v.imm); len = len })
loads_need Lb v len is = let same : len ≡ 1 = cc in rw same refl
loads_need Lbu v len is = let same : len ≡ 1 = cc in rw same refl
loads_need Lh v len is = let same : len ≡ 2 = cc in rw same refl
loads_need Lhu v len is = let same : len ≡ 2 = cc in rw same refl
loads_need Lw v len is = let same : len ≡ 4 = cc in rw same refl
loads_need op v len is = absurd cc

pub loads_effect : (op : Op) (v : Values) (len : ℕ) → Loads len ≡ group_of op
    → row_effect op v ≡ gives v (loaded_value op v.got)
loads_effect Lb v len is = refl
loads_effect Lbu v len is = refl
loads_effect Lh v len is = refl
loads_effect Lhu v len is = refl
loads_effect Lw v len is = refl
loads_effect op v len is = absurd cc

-- ---- plain stores

pub stores_need : (op : Op) (v : Values) (len : ℕ) → Stores len ≡ group_of op
    → need_of (row_ask op v) ≡ Some (record { access = Store; va = wrapped (v.a + v.imm); len = len })
stores_need Sb v len is = let same : len ≡ 1 = cc in rw same refl
stores_need Sh v len is = let same : len ≡ 2 = cc in rw same refl
stores_need Sw v len is = let same : len ≡ 4 = cc in rw same refl
stores_need op v len is = absurd cc

-- the value of a store has the low bytes of the register
pub record StoresBytes (op : Op) (v : Values) (len : ℕ) : Type 0 where
  pub value : ℕ
  pub effect : row_effect op v ≡ stores v value
  pub bytes : low_bytes len value ≡ low_bytes len v.b

one_low : (b : ℕ) → low_bytes 1 (b % 2 ^ 8) ≡ low_bytes 1 b
unfolding low_bytes
one_low b = let first : b % 2 ^ 8 % 256 ≡ b % 256 = omega arith in rw first refl

two_low : (b : ℕ) → low_bytes 2 (b % 2 ^ 16) ≡ low_bytes 2 b
unfolding low_bytes
two_low b =
    let first : b % 2 ^ 16 % 256 ≡ b % 256 = omega arith in
    let second : b % 2 ^ 16 / 256 % 256 ≡ b / 256 % 256 = omega arith in
    rw (first, second) refl

pub stores_bytes : (op : Op) (v : Values) (len : ℕ) → Stores len ≡ group_of op → StoresBytes op v len
stores_bytes Sb v len is = record {
  value = v.b % 2 ^ 8;
  effect = refl;
  bytes = let same : len ≡ 1 = cc in rw same (one_low v.b);
}
stores_bytes Sh v len is = record {
  value = v.b % 2 ^ 16;
  effect = refl;
  bytes = let same : len ≡ 2 = cc in rw same (two_low v.b);
}
stores_bytes Sw v len is = record { value = v.b; effect = refl; bytes = refl }
stores_bytes op v len is = absurd cc
