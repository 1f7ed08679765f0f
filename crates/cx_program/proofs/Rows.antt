-- What the effect of a row goes by, and the words behind it.
use Rattle.std.proofs.Common.{◌≡◌, ℕ, zero, suc, List, [], ◌∷◌, Option, slice_set, refl, sym, ap, ◌∙◌, arith}
use Rattle.std.proofs.lemmas.Bool.{ne_eqb}
use Rattle.cx_decode.specs.Groups.{group_of}
use Rattle.cx_decode.specs.declared.group.Group.{Group}
use Rattle.cx_decode.specs.declared.group.Group.TheVariants.{Computes, Loads, Stores}
use Rattle.cx_decode.specs.declared.ins.Ins.{Ins}
use Rattle.cx_decode.specs.declared.op.Op.{Op}
use Rattle.cx_decode.specs.declared.op.Op.TheVariants.{Lb, Lh, Lw, Lbu, Lhu, Sb, Sh, Sw, LrW, ScW, AmoswapW, AmoaddW}
use Rattle.cx_decode.specs.declared.op.Op.TheVariants.{AmoxorW, AmoandW, AmoorW, AmominW, AmomaxW, AmominuW, AmomaxuW}
use Rattle.cx_decode.specs.declared.op.Op.TheVariants.{Csrrw, Csrrs, Csrrc, Csrrwi, Csrrsi, Csrrci}
use Rattle.cx_exec.specs.Asking.{ask_of, row_ask}
use Rattle.cx_exec.specs.Effect.{effect_of, row_effect}
use Rattle.cx_exec.specs.Values.{got_number, registers_with, values_of}
use Rattle.cx_exec.specs.declared.got.Got.{Got}
use Rattle.cx_exec.specs.declared.got.Got.TheVariants.{Nothing, Bytes}
use Rattle.cx_exec.specs.declared.values.Values.{Values}
use Rattle.cx_observe.specs.Asked.{got_of, number_read}
use Rattle.cx_observe.specs.Effects.{program_words}
use Rattle.cx_observe.specs.declared.obs.Seen.{Seen}

computes_row : (op : Op) (v : Values) (n : ℕ) → Computes ≡ group_of op
    → row_effect op v ≡ row_effect op (record v { got = n })
computes_row Lb v n is = absurd cc
computes_row Lh v n is = absurd cc
computes_row Lw v n is = absurd cc
computes_row Lbu v n is = absurd cc
computes_row Lhu v n is = absurd cc
computes_row LrW v n is = absurd cc
computes_row ScW v n is = absurd cc
computes_row AmoswapW v n is = absurd cc
computes_row AmoaddW v n is = absurd cc
computes_row AmoxorW v n is = absurd cc
computes_row AmoandW v n is = absurd cc
computes_row AmoorW v n is = absurd cc
computes_row AmominW v n is = absurd cc
computes_row AmomaxW v n is = absurd cc
computes_row AmominuW v n is = absurd cc
computes_row AmomaxuW v n is = absurd cc
computes_row Csrrw v n is = absurd cc
computes_row Csrrs v n is = absurd cc
computes_row Csrrc v n is = absurd cc
computes_row Csrrwi v n is = absurd cc
computes_row Csrrsi v n is = absurd cc
computes_row Csrrci v n is = absurd cc
computes_row op v n is = refl

stores_row : (op : Op) (v : Values) (n len : ℕ) → Stores len ≡ group_of op
    → row_effect op v ≡ row_effect op (record v { got = n })
stores_row Sb v n len is = refl
stores_row Sh v n len is = refl
stores_row Sw v n len is = refl
stores_row op v n len is = absurd cc

loads_row : (op : Op) (v : Values) (read : Option Seen) (value : Option ℕ) (len : ℕ) → Loads len ≡ group_of op
    → got_of (row_ask op v) read value ≡ Bytes (number_read read)
loads_row Lb v read value len is = refl
loads_row Lh v read value len is = refl
loads_row Lw v read value len is = refl
loads_row Lbu v read value len is = refl
loads_row Lhu v read value len is = refl
loads_row op v read value len is = absurd cc

-- A computation goes by its values alone,
pub computes_alike : (i : Ins) (g : Group) (pc : ℕ) (x : List ℕ) (got : Got) → g ≡ group_of i.op → g ≡ Computes
    → effect_of i pc x Nothing ≡ effect_of i pc x got
computes_alike i g pc x got is computes =
    computes_row i.op (values_of i pc x Nothing) (got_number got) (sym computes ∙ is)

-- a store too,
pub stores_alike : (i : Ins) (g : Group) (pc len : ℕ) (x : List ℕ) (got : Got) → g ≡ group_of i.op → g ≡ Stores len
    → effect_of i pc x Nothing ≡ effect_of i pc x got
stores_alike i g pc len x got is stores =
    stores_row i.op (values_of i pc x Nothing) (got_number got) len (sym stores ∙ is)

-- and a load by what was read.
pub loads_alike : (i : Ins) (g : Group) (pc len : ℕ) (x : List ℕ) (read : Option Seen) (value : Option ℕ)
    → g ≡ group_of i.op → g ≡ Loads len
    → effect_of i pc x (Bytes (number_read read)) ≡ effect_of i pc x (got_of (ask_of i pc x) read value)
loads_alike i g pc len x read value is loads =
    ap (effect_of i pc x) (sym (loads_row i.op (values_of i pc x Nothing) read value len (sym loads ∙ is)))

-- ---- words

-- another value for a register, and another pc
pub turned : (words x : List ℕ) (pc rd value next : ℕ) → words ≡ program_words pc x
    → slice_set (slice_set words rd value) 0 next ≡ program_words next (registers_with x rd value)
turned words x pc rd value next is = ap (λ ws. slice_set (slice_set ws rd value) 0 next) is ∙ by_register x rd
  where
    by_register : (xs : List ℕ) (r : ℕ) → slice_set (slice_set (program_words pc xs) r value) 0 next
        ≡ program_words next (registers_with xs r value)
    by_register [] zero = refl
    by_register [] (suc r) = rw (ne_eqb (suc r) 0 (λ e. omega (arith, e))) refl
    by_register (y ∷ ys) zero = refl
    by_register (y ∷ ys) (suc r) = rw (ne_eqb (suc r) 0 (λ e. omega (arith, e))) refl
