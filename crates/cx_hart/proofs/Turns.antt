-- A turn retires with what can be carried out and keeps the rules of the state, or ends early in a cause of the hart.
use Rattle.std.proofs.Common.{◌≡◌, ℕ, zero, suc, ◌+◌, ◌-◌, ◌^◌, ◌<◌, Bool, true, false, cond, nat_eq, length, Option}
use Rattle.std.proofs.Common.{None, Some, Ok, Err, IfErr, IfSome, IsTrue, bit_and, refl, subst, arith, w32}
use Rattle.std.specs.Int.{bit_not}
use Rattle.std.proofs.lemmas.Nat.{and_le_l, and_le_r, or_of_32}
use Rattle.cx_csr.specs.declared.access.Csr.{Csr}
use Rattle.cx_csr.specs.declared.access.Csr.TheVariants as csr
use Rattle.cx_csr.specs.Access.{IsWordAnswer, csr_read, is_illegal, modify_base}
use Rattle.cx_csr.specs.Bits.{with_bits}
use Rattle.cx_csr.specs.Keeps.{Keeps}
use Rattle.cx_csr.specs.Rules.{IsAligned, IsMode}
use Rattle.cx_csr.proofs.LegalReads.{csr_read_word}
use Rattle.cx_decode.specs.Decoding.{decoded}
use Rattle.cx_decode.specs.Table.{row_of}
use Rattle.cx_decode.specs.WellFormed.{WellFormed}
use Rattle.cx_decode.specs.declared.ins.Ins.{Ins}
use Rattle.cx_decode.specs.declared.op.Op.{Op}
use Rattle.cx_decode.specs.declared.op.Op.TheVariants.{Ecall, Ebreak, Mret, Sret, Csrrw, Csrrs, Csrrc, Csrrwi, Csrrsi}
use Rattle.cx_decode.specs.declared.op.Op.TheVariants.{Csrrci}
use Rattle.cx_exec.specs.Asking.{ask_of, need_of}
use Rattle.cx_exec.specs.Control.{control_operand_of, control_value_of, reads_control, row_control_operand}
use Rattle.cx_exec.specs.Control.{writes_control}
use Rattle.cx_exec.specs.Values.{got_number}
use Rattle.cx_exec.specs.declared.asks.Ask.{Ask}
use Rattle.cx_exec.specs.declared.asks.Ask.TheVariants as ask
use Rattle.cx_exec.specs.declared.asks.Need.{Need}
use Rattle.cx_exec.specs.declared.effect.Effect.{Effect}
use Rattle.cx_exec.specs.declared.got.Got.TheVariants.{Nothing, Old}
use Rattle.cx_trap.specs.Causes.{is_cause}
use Rattle.cx_trap.specs.Pending.{pending_of}
use Rattle.cx_trap.specs.Return.{can_mret, can_sret}
use Rattle.cx_trap.proofs.PendingCauses.{pending_number}
use Rattle.cx_walk.specs.Walks.{address_of}
use Rattle.cx_walk.specs.declared.kind.Kind.TheVariants.{Fetch}
use Rattle.cx_walk.specs.declared.walk.Place.{Place}
use Rattle.cx_walk.proofs.Branches.{either}
use Rattle.cx_machine.specs.Machine.{pages_of}
use Rattle.cx_map.specs.Bytes.{AreBytes}
use Rattle.cx_hart.specs.Accesses.{outer_reading}
use Rattle.cx_hart.specs.Control.{control_carried_out, control_done, control_of, controlled, half_of_time, new_value}
use Rattle.cx_hart.specs.Control.{old_of, old_value}
use Rattle.cx_hart.specs.Effects.{instruction_effect, retired_with}
use Rattle.cx_hart.specs.Ends.{End, answered, found, ◌>>=◌}
use Rattle.cx_hart.specs.Fetch.{fetched, translated}
use Rattle.cx_hart.specs.Legal.{illegal, ins_or_illegal, instruction, is_barred}
use Rattle.cx_hart.specs.Phases.{Phase}
use Rattle.cx_hart.specs.Stretches.{IsLegal}
use Rattle.cx_hart.specs.Surroundings.{Surroundings}
use Rattle.cx_hart.specs.System.{computed, returned, system}
use Rattle.cx_hart.specs.Touches.{part_value}
use Rattle.cx_hart.specs.Turn.{done_by_need, done_without_access, executed, turn, unless_interrupted}
use Rattle.cx_hart.specs.declared.findings.Control.{Control}
use Rattle.cx_hart.specs.declared.findings.Control.TheVariants as control
use Rattle.cx_hart.specs.declared.findings.Reading.{Reading}
use Rattle.cx_hart.specs.declared.findings.Retired.{Retired}
use Rattle.cx_hart.proofs.Effects.{IsEffect}
use Rattle.cx_hart.proofs.Keepable.{FitsControl, FitsGiven, IsKeepable, accessed_comes, answered_comes}
use Rattle.cx_hart.proofs.Formed.{decoded_formed}
use Rattle.cx_hart.proofs.Needs.{IsNeed, row_need}
use Rattle.cx_hart.proofs.Ready.{effect_comes, formed_rs1, narrow_fits, register_fits}
use Rattle.cx_hart.proofs.Stops.{Comes, IsStop, comes_bind, translated_stops}

module _ (pages : ℕ) (here : Surroundings) (k : Keeps pages here.state) (fits : FitsGiven here.given) where
  abbrev IsReading : Reading → Type 0
  IsReading reading = got_number reading.got < 2 ^ 32

  abbrev Kept : Retired → Type 0
  Kept r = IsKeepable pages (length here.memory) here.state r

  illegal_comes : {Y : Type 0} (P : Y → Type 0) (word : ℕ) → word < 2 ^ 32 → Comes P (illegal word)
  illegal_comes P word small = (refl, small)

  small_register : (i : Ins) → WellFormed i → i.rs1 < 2 ^ 32
  small_register i formed = omega (arith, formed_rs1 (row_of i.op).format i.rd i.rs1 i.rs2 i.imm formed)

  -- ---- control registers

  old_comes : (word : ℕ) (seen : Csr) → word < 2 ^ 32 → IsWordAnswer seen
      → Comes IsReading (old_of here.given word seen)
  old_comes word (csr.Value v) small is = is
  old_comes word (csr.Time high) small is =
      comes_bind (λ v. v < 2 ^ 32) IsReading (answered here.given (half_of_time high))
      (λ value. found (outer_reading (Old value) value)) (answered_comes here.given (half_of_time high) fits)
      (λ v fit. fit)
  old_comes word csr.Illegal small is = illegal_comes IsReading word small

  old_value_comes : (word : ℕ) (i : Ins) → word < 2 ^ 32 → Comes IsReading (old_value here word i)
  unfolding old_value
  old_value_comes word i small =
      either (Comes IsReading) (reads_control i) _ _ (λ reads. old_comes word (csr_read here.state i.imm) small
      (csr_read_word pages here.state i.imm k)) (λ none. omega arith)

  base_fits : (number value : ℕ) (b : Bool) → value < 2 ^ 32 → cond b (with_bits 0x200 here.state.csr.mip value)
      value < 2 ^ 32
  base_fits number value true small =
      let one : bit_and value (2 ^ 32 - 1 - 0x200) < 2 ^ 32 = omega (arith, and_le_l value (2 ^ 32 - 1 - 0x200)) in
      let two : bit_and here.state.csr.mip 0x200 < 2 ^ 32 = omega (arith, and_le_r here.state.csr.mip 0x200) in
      or_of_32 _ _ one two
  base_fits number value false small = small

  set_fits : (op : Op) (old operand : ℕ) → old < 2 ^ 32 → operand < 2 ^ 32 → control_value_of op old operand < 2 ^ 32
  set_fits Csrrw old operand one two = two
  set_fits Csrrwi old operand one two = two
  set_fits Csrrs old operand one two = or_of_32 old operand one two
  set_fits Csrrsi old operand one two = or_of_32 old operand one two
  set_fits Csrrc old operand one two = omega (arith, and_le_l old (bit_not w32 operand))
  set_fits Csrrci old operand one two = omega (arith, and_le_l old (bit_not w32 operand))
  set_fits op old operand one two = one

  operand_fits : (op : Op) (rs1 : ℕ) → rs1 < 2 ^ 32 → row_control_operand op rs1 here.state.x < 2 ^ 32
  operand_fits Csrrw rs1 small = register_fits here.state.x rs1 (nat_eq rs1 0) k.wide
  operand_fits Csrrs rs1 small = register_fits here.state.x rs1 (nat_eq rs1 0) k.wide
  operand_fits Csrrc rs1 small = register_fits here.state.x rs1 (nat_eq rs1 0) k.wide
  operand_fits Csrrwi rs1 small = small
  operand_fits Csrrsi rs1 small = small
  operand_fits Csrrci rs1 small = small
  operand_fits op rs1 small = omega arith

  control_fits : (i : Ins) (old : ℕ) → i.rs1 < 2 ^ 32 → old < 2 ^ 32 → FitsControl (control_of here.state i old)
  control_fits i old rs1 small =
      either FitsControl (writes_control i) (control.Write i.imm (new_value here.state i old)) control.Untouched
      (λ writes. set_fits i.op (modify_base here.state i.imm old) (control_operand_of i here.state.x)
      (base_fits i.imm old (nat_eq i.imm 0x344) small) (operand_fits i.op i.rs1 rs1))
      (λ none. tt)

  control_legal : (i : Ins) (old : ℕ) → is_illegal (writes_control i) here.state i.imm ≡ false
      → IsLegal here.state (control_of here.state i old)
  control_legal i old legal = by (writes_control i) refl
    where
      by : (writes : Bool) → writes_control i ≡ writes
          → IsLegal here.state (cond writes (control.Write i.imm (new_value here.state i old)) control.Untouched)
      by true e = subst (λ w. is_illegal w here.state i.imm ≡ false) e legal
      by false e = tt

  control_keepable : (i : Ins) (old : ℕ) (value : Option ℕ) (e : Effect)
      → is_illegal (writes_control i) here.state i.imm ≡ false → i.rs1 < 2 ^ 32 → old < 2 ^ 32 → IsEffect e
      → Kept (control_done here.state i old value e)
  control_keepable i old value e legal rs1 small effect = record {
    ready = record { register = effect.rd; control = control_legal i old legal; write = tt; write_more = tt };
    value = effect.value;
    pc = effect.pc;
    control = control_fits i old rs1 small;
    reservation = k.reservation;
    bytes = tt;
    more_bytes = tt;
  }

  controlled_comes : (word : ℕ) (i : Ins) → word < 2 ^ 32 → WellFormed i → Comes Kept (controlled here word i)
  unfolding controlled
  controlled_comes word i small formed =
      either (Comes Kept) (is_illegal (writes_control i) here.state i.imm) _ _
      (λ bad. illegal_comes Kept word small)
      (λ legal. comes_bind IsReading Kept (old_value here word i) (control_carried_out here.state i)
      (old_value_comes word i small)
      (λ reading fit. comes_bind IsEffect Kept (instruction_effect here.state i reading.got)
      (λ e. found (control_done here.state i (got_number reading.got) reading.value e))
      (effect_comes pages here.state i reading.got k formed fit)
      (λ e effect. control_keepable i (got_number reading.got) reading.value e legal (small_register i formed) fit
      effect)))

  -- ---- calls, breaks and returns

  returned_keepable : (c : Control) (pc : ℕ) → IsLegal here.state c → FitsControl c → IsAligned pc
      → Kept (returned here.state c pc)
  returned_keepable c pc legal fit aligned = record {
    ready = record { register = omega arith; control = legal; write = tt; write_more = tt };
    value = omega arith;
    pc = aligned;
    control = fit;
    reservation = k.reservation;
    bytes = tt;
    more_bytes = tt;
  }

  retired_keepable : (e : Effect) → IsEffect e → Kept (retired_with here.state e)
  retired_keepable e effect = record {
    ready = record { register = effect.rd; control = tt; write = tt; write_more = tt };
    value = effect.value;
    pc = effect.pc;
    control = tt;
    reservation = k.reservation;
    bytes = tt;
    more_bytes = tt;
  }

  call_is_cause : (mode : ℕ) → IsMode mode → IsTrue (is_cause (8 + mode))
  call_is_cause zero is = refl
  call_is_cause (suc zero) is = refl
  call_is_cause (suc (suc zero)) is = absurd (is.served refl)
  call_is_cause (suc (suc (suc zero))) is = refl
  call_is_cause (suc (suc (suc (suc n)))) is = absurd (omega (arith, is.most))

  system_comes : (word : ℕ) (op : Op) → word < 2 ^ 32 → Comes Kept (system word here.state op)
  unfolding system
  system_comes word Ecall small = (call_is_cause here.state.mode k.mode, omega arith)
  system_comes word Ebreak small = (refl, k.pc.wide)
  system_comes word Mret small =
      either (Comes Kept) (can_mret here.state) _ _ (λ legal. returned_keepable control.Mret here.state.csr.mepc legal
      tt k.csr.mepc) (λ bad. illegal_comes Kept word small)
  system_comes word Sret small =
      either (Comes Kept) (can_sret here.state) _ _ (λ legal. returned_keepable control.Sret here.state.csr.sepc legal
      tt k.csr.sepc) (λ bad. illegal_comes Kept word small)
  system_comes word op small = illegal_comes Kept word small

  computed_comes : (word : ℕ) (i : Ins) → word < 2 ^ 32 → WellFormed i → Comes Kept (computed word here.state i)
  unfolding computed
  computed_comes word i small formed =
      either (Comes Kept) (is_barred here.state i.op) _ _ (λ barred. illegal_comes Kept word small)
      (λ free. comes_bind IsEffect Kept (instruction_effect here.state i Nothing)
      (λ e. found (retired_with here.state e)) (effect_comes pages here.state i Nothing k formed (omega arith))
      retired_keepable)

  without_access_comes : (word : ℕ) (i : Ins) (a : Ask) → word < 2 ^ 32 → WellFormed i
      → Comes Kept (done_without_access here word i a)
  without_access_comes word i ask.Csr small formed = controlled_comes word i small formed
  without_access_comes word i ask.System small formed = system_comes word i.op small
  without_access_comes word i a small formed = computed_comes word i small formed

  -- ---- the instruction, and the turn

  module _ (bytes : AreBytes here.memory) (same : pages_of here.memory ≡ pages) where
    need_comes : (word : ℕ) (i : Ins) (o : Option Need) → word < 2 ^ 32 → WellFormed i → IfSome o IsNeed
        → Comes Kept (done_by_need here word i o).end
    need_comes word i None small formed needs = without_access_comes word i (ask_of i here.state.pc here.state.x) small
        formed
    need_comes word i (Some n) small formed needs = accessed_comes pages here k bytes fits i n same formed needs

    pub executed_comes : (word : ℕ) (i : Ins) → word < 2 ^ 32 → WellFormed i → Comes Kept (executed here word i).end
    unfolding executed
    executed_comes word i small formed =
        need_comes word i (need_of (ask_of i here.state.pc here.state.x)) small formed
        (row_need i.op _ (register_fits here.state.x i.rs1 (nat_eq i.rs1 0) k.wide))

    instruction_comes : (word : ℕ) (o : Option Ins) → word < 2 ^ 32 → IfSome o WellFormed
        → Comes WellFormed (ins_or_illegal word o)
    instruction_comes word None small formed = illegal_comes WellFormed word small
    instruction_comes word (Some i) small formed = formed

    word_comes : (word : ℕ) → word < 2 ^ 32 → Comes Kept (instruction word >>= λ i. (executed here word i).end)
    word_comes word small =
        comes_bind WellFormed Kept (instruction word) (λ i. (executed here word i).end)
        (instruction_comes word (decoded word) small (decoded_formed word small))
        (λ i formed. executed_comes word i small formed)

    fetched_comes : Comes (λ word. word < 2 ^ 32) (fetched here).end
    unfolding fetched
    fetched_comes = fetched_by (translated here Fetch here.state.pc 4).end (translated_stops here Fetch here.state.pc 4
        k.pc.wide)
      where
        fetched_by : (p : End Place) → IfErr p IsStop
            → Comes (λ word. word < 2 ^ 32)
            (p >>= λ place. found (part_value here.memory (record {
              va = here.state.pc;
              pa = address_of place;
              len =
                  4;
            })))
        fetched_by (Ok place) stops = narrow_fits here.memory (record {
          va = here.state.pc;
          pa = address_of place;
          len =
              4;
        }) bytes (omega arith)
        fetched_by (Err stop) stops = stops

    interrupt_comes : (o : Option ℕ) (p : Phase Retired) → IfSome o (λ n. IsTrue (is_cause (n + 2 ^ 31)))
        → Comes Kept p.end → Comes Kept (unless_interrupted o p).end
    interrupt_comes None p cause comes = comes
    interrupt_comes (Some n) p cause comes = cause

    pub turn_comes : Comes Kept (turn here).end
    unfolding turn
    turn_comes =
        interrupt_comes (pending_of here.state) _ (pending_number here.state)
        (comes_bind (λ word. word < 2 ^ 32) Kept (fetched here).end
        (λ word. instruction word >>= λ i. (executed here word i).end) fetched_comes word_comes)
