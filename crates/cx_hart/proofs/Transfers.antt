-- A transfer keeps the rules of the state.
use Rattle.std.proofs.Common.{ℕ, Bool, true, false, cond, length, Option, None, Some, IfSome}
use Rattle.cx_csr.specs.declared.state.State.{State}
use Rattle.cx_csr.specs.Keeps.{Keeps}
use Rattle.cx_csr.specs.Rules.{IsPlace}
use Rattle.cx_machine.specs.Transfers.{Transfer, overlaps, reservation_left, state_after_transfer}

left_by : (pages word : ℕ) (b : Bool) → IsPlace pages word → IfSome (cond b None (Some word)) (IsPlace pages)
left_by pages word true is = tt
left_by pages word false is = is

left_keeps : (pages place len : ℕ) (r : Option ℕ) → IfSome r (IsPlace pages)
    → IfSome (reservation_left place len r) (IsPlace pages)
left_keeps pages place len None is = tt
left_keeps pages place len (Some word) is = left_by pages word (overlaps place len word) is

pub transfer_keeps : (pages : ℕ) (t : Transfer) (s : State) → Keeps pages s → Keeps pages (state_after_transfer t s)
transfer_keeps pages t s k = record {
  pc = k.pc;
  registers = k.registers;
  zero_register = k.zero_register;
  wide = k.wide;
  mode = k.mode;
  csr = k.csr;
  reservation = left_keeps pages t.place (length t.bytes) s.reservation k.reservation;
  lines = k.lines;
}
