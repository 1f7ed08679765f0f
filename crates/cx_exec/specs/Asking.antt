-- What an instruction needs from outside of its registers, and which answers fit.
use Rattle.std.specs.Prelude.{ℕ, ◌+◌, ◌<◌, ◌==◌, Bool, true, false, List, Option, None, Some}
use Rattle.cx_decode.specs.declared.ins.Ins.{Ins}
use Rattle.cx_decode.specs.declared.op.Op.{Op}
use Rattle.cx_decode.specs.declared.op.Op.TheVariants.{Lb, Lh, Lw, Lbu, Lhu, Sb, Sh, Sw, LrW, ScW, AmoswapW, AmoaddW}
use Rattle.cx_decode.specs.declared.op.Op.TheVariants.{AmoxorW, AmoandW, AmoorW, AmominW, AmomaxW, AmominuW, AmomaxuW}
use Rattle.cx_decode.specs.declared.op.Op.TheVariants.{Csrrw, Csrrs, Csrrc, Csrrwi, Csrrsi, Csrrci, Ecall, Ebreak, Sret}
use Rattle.cx_decode.specs.declared.op.Op.TheVariants.{Mret}
use Rattle.cx_exec.specs.Arithmetic.{wrapped}
use Rattle.cx_exec.specs.Values.{got_number, values_of}
use Rattle.cx_exec.specs.declared.asks.Access.{Access}
use Rattle.cx_exec.specs.declared.asks.Access.TheVariants.{Load as LoadAccess, Store as StoreAccess}
use Rattle.cx_exec.specs.declared.asks.Access.TheVariants.{Reserve as ReserveAccess, Conditional as ConditionalAccess}
use Rattle.cx_exec.specs.declared.asks.Access.TheVariants.{Amo as AmoAccess}
use Rattle.cx_exec.specs.declared.asks.Ask.{Ask}
use Rattle.cx_exec.specs.declared.asks.Ask.TheVariants.{Nothing, Load, Store, Reserve, Conditional, Amo, Csr, System}
use Rattle.cx_exec.specs.declared.asks.Need.{Need}
use Rattle.cx_exec.specs.declared.got.Got.{Got}
use Rattle.cx_exec.specs.declared.got.Got.TheVariants.{Nothing as NoAnswer, Bytes, Outcome, Old}
use Rattle.cx_exec.specs.declared.values.Values.{Values}

-- ---- the rows

abbrev pub row_ask : Op → Values → Ask
-- RV32I: loads and stores (2.6)
row_ask Lb v = Load (wrapped (v.a + v.imm)) 1
row_ask Lh v = Load (wrapped (v.a + v.imm)) 2
row_ask Lw v = Load (wrapped (v.a + v.imm)) 4
row_ask Lbu v = Load (wrapped (v.a + v.imm)) 1
row_ask Lhu v = Load (wrapped (v.a + v.imm)) 2
row_ask Sb v = Store (wrapped (v.a + v.imm)) 1
row_ask Sh v = Store (wrapped (v.a + v.imm)) 2
row_ask Sw v = Store (wrapped (v.a + v.imm)) 4
-- A: load-reserved and store-conditional (8.2), and atomic memory operations (8.4)
row_ask LrW v = Reserve v.a
row_ask ScW v = Conditional v.a
row_ask AmoswapW v = Amo v.a
row_ask AmoaddW v = Amo v.a
row_ask AmoxorW v = Amo v.a
row_ask AmoandW v = Amo v.a
row_ask AmoorW v = Amo v.a
row_ask AmominW v = Amo v.a
row_ask AmomaxW v = Amo v.a
row_ask AmominuW v = Amo v.a
row_ask AmomaxuW v = Amo v.a
-- Zicsr: control registers (9.1)
row_ask Csrrw v = Csr
row_ask Csrrs v = Csr
row_ask Csrrc v = Csr
row_ask Csrrwi v = Csr
row_ask Csrrsi v = Csr
row_ask Csrrci v = Csr
-- RV32I: calls of the environment and breakpoints (2.8), and returns from traps (Privileged Architecture, 3.3.2)
row_ask Ecall v = System
row_ask Ebreak v = System
row_ask Sret v = System
row_ask Mret v = System
-- all others
row_ask op v = Nothing

-- ---- an instruction

abbrev pub ask_of : Ins → ℕ → List ℕ → Ask
ask_of i pc regs = row_ask i.op (values_of i pc regs NoAnswer)

-- The answer is of the kind that was asked for; nothing answers a System row, which isn't carried out here.
abbrev pub FitsAsk : Ask → Got → Type 0
FitsAsk Nothing NoAnswer = Unit {0}
FitsAsk (Load va len) (Bytes value) = Unit {0}
FitsAsk (Store va len) NoAnswer = Unit {0}
FitsAsk (Reserve va) (Bytes value) = Unit {0}
FitsAsk (Conditional va) (Outcome outcome) = outcome < 2
FitsAsk (Amo va) (Bytes value) = Unit {0}
FitsAsk Csr (Old value) = Unit {0}
FitsAsk ask got = ⊥

-- The access to memory that an ask is for, if it is for one.
abbrev pub need : Access → ℕ → ℕ → Option Need
need access va len = Some (record { access = access; va = va; len = len })

abbrev pub need_of : Ask → Option Need
need_of (Load va len) = need LoadAccess va len
need_of (Store va len) = need StoreAccess va len
need_of (Reserve va) = need ReserveAccess va 4
need_of (Conditional va) = need ConditionalAccess va 4
need_of (Amo va) = need AmoAccess va 4
need_of ask = None

-- The access writes bytes. An SC does where its outcome is 0.
abbrev pub writes_memory : Ask → Got → Bool
writes_memory (Store va len) got = true
writes_memory (Conditional va) got = got_number got == 0
writes_memory (Amo va) got = true
writes_memory ask got = false
