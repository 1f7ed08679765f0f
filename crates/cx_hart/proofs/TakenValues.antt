-- Whatever the state, what a turn retires with has no value, or that which is due, and writes bytes.
use Rattle.std.proofs.Common.{◌≡◌, ◌⊎◌, inl, inr, ℕ, Option, None, Some, IfOk, IfSome, refl}
use Rattle.std.specs.Option.{option_map}
use Rattle.cx_csr.specs.Access.{csr_read, is_illegal}
use Rattle.cx_csr.specs.declared.access.Csr.{Csr as CsrRead}
use Rattle.cx_csr.specs.declared.access.Csr.TheVariants as csr
use Rattle.cx_decode.specs.declared.ins.Ins.{Ins}
use Rattle.cx_decode.specs.declared.op.Op.{Op}
use Rattle.cx_decode.specs.declared.op.Op.TheVariants.{Ecall, Ebreak, Mret, Sret}
use Rattle.cx_exec.specs.Asking.{ask_of, need_of}
use Rattle.cx_exec.specs.Control.{reads_control, writes_control}
use Rattle.cx_exec.specs.Values.{got_number}
use Rattle.cx_exec.specs.declared.asks.Access.{Access}
use Rattle.cx_exec.specs.declared.asks.Access.TheVariants as access
use Rattle.cx_exec.specs.declared.asks.Ask.{Ask}
use Rattle.cx_exec.specs.declared.asks.Ask.TheVariants as ask
use Rattle.cx_exec.specs.declared.asks.Need.{Need}
use Rattle.cx_exec.specs.declared.got.Got.TheVariants.{Nothing}
use Rattle.cx_map.specs.Bytes.{AreBytes}
use Rattle.cx_trap.specs.Pending.{pending_of}
use Rattle.cx_trap.specs.Return.{can_mret, can_sret}
use Rattle.cx_walk.proofs.Branches.{either}
use Rattle.cx_hart.specs.Accesses.{accessed, bytes_of, first_write, reading_of}
use Rattle.cx_hart.specs.Control.{control_carried_out, control_done, controlled, old_of, old_value}
use Rattle.cx_hart.specs.Effects.{instruction_effect, retired_with}
use Rattle.cx_hart.specs.Ends.{End, found, ◌>>=◌}
use Rattle.cx_hart.specs.Fetch.{fetched}
use Rattle.cx_hart.specs.Legal.{instruction, is_barred}
use Rattle.cx_hart.specs.Phases.{Phase}
use Rattle.cx_hart.specs.Reaching.{reached}
use Rattle.cx_hart.specs.Surroundings.{Surroundings}
use Rattle.cx_hart.specs.System.{computed, system}
use Rattle.cx_hart.specs.Turn.{done_by_need, done_without_access, executed, turn, unless_interrupted}
use Rattle.cx_hart.specs.declared.findings.Part.{Part}
use Rattle.cx_hart.specs.declared.findings.Reading.{Reading}
use Rattle.cx_hart.specs.declared.findings.Retired.{Retired}
use Rattle.cx_hart.specs.declared.findings.Target.{Target}
use Rattle.cx_hart.specs.declared.findings.Target.TheVariants.{Memory, Device}
use Rattle.cx_hart.proofs.Keepable.{touch_bytes}
use Rattle.cx_hart.proofs.Writes.{ok_bind, ok_then}

-- a value of its own is that which is due
abbrev pub IsOwn : Option ℕ → Option ℕ → Type 0
IsOwn given value = (value ≡ None) ⊎ (value ≡ given)

pub record HasOwn (given : Option ℕ) (r : Retired) : Type 0 where
  pub value : IsOwn given r.value
  pub bytes : IfSome r.write (λ t. AreBytes t.bytes)

abbrev ReadsOwn : Option ℕ → Reading → Type 0
ReadsOwn given r = IsOwn given r.value

write_bytes : (target : Target) (w : Option ℕ) → IfSome (option_map (first_write target) w) (λ t. AreBytes t.bytes)
write_bytes target None = tt
write_bytes (Memory first more) (Some v) = touch_bytes first v
write_bytes (Device part) (Some v) = touch_bytes part v

old_own : (given : Option ℕ) (word : ℕ) (read : CsrRead) → IfOk (old_of given word read) (ReadsOwn given)
old_own given word (csr.Value value) = inl refl
old_own None word (csr.Time high) = tt
old_own (Some v) word (csr.Time high) = inr refl
old_own given word csr.Illegal = tt

module _ (here : Surroundings) where
  abbrev Owns : End Retired → Type 0
  Owns p = IfOk p (HasOwn here.given)

  old_value_own : (word : ℕ) (i : Ins) → IfOk (old_value here word i) (ReadsOwn here.given)
  unfolding old_value
  old_value_own word i =
      let P : End Reading → Type 0 = λ p. IfOk p (ReadsOwn here.given) in
      either P (reads_control i) _ _ (λ reads. old_own here.given word (csr_read here.state i.imm)) (λ not. inl refl)

  controlled_own : (word : ℕ) (i : Ins) → Owns (controlled here word i)
  unfolding controlled
  controlled_own word i =
      either Owns (is_illegal (writes_control i) here.state i.imm) _ _ (λ bad. tt)
      (λ legal. ok_bind (ReadsOwn here.given) (HasOwn here.given) (old_value here word i)
      (control_carried_out here.state i) (old_value_own word i)
      (λ reading own. ok_then (HasOwn here.given) (instruction_effect here.state i reading.got)
      (λ e. found (control_done here.state i (got_number reading.got) reading.value e))
      (λ e. record { value = own; bytes = tt })))

  system_own : (word : ℕ) (op : Op) → Owns (system word here.state op)
  unfolding system
  system_own word Ecall = tt
  system_own word Ebreak = tt
  system_own word Mret = either Owns (can_mret here.state) _ _ (λ legal. record { value = inl refl; bytes = tt })
      (λ bad. tt)
  system_own word Sret = either Owns (can_sret here.state) _ _ (λ legal. record { value = inl refl; bytes = tt })
      (λ bad. tt)
  system_own word op = tt

  computed_own : (word : ℕ) (i : Ins) → Owns (computed word here.state i)
  unfolding computed
  computed_own word i =
      either Owns (is_barred here.state i.op) _ _ (λ barred. tt)
      (λ free. ok_then (HasOwn here.given) (instruction_effect here.state i Nothing)
      (λ e. found (retired_with here.state e)) (λ e. record { value = inl refl; bytes = tt }))

  without_access_own : (word : ℕ) (i : Ins) (a : Ask) → Owns (done_without_access here word i a)
  without_access_own word i ask.Csr = controlled_own word i
  without_access_own word i ask.System = system_own word i.op
  without_access_own word i a = computed_own word i

  device_own : (given : Option ℕ) (part : Part) → IfOk (bytes_of (record here { given = given }) (Device part)).end
      (ReadsOwn given)
  unfolding bytes_of
  device_own None part = tt
  device_own (Some v) part = inr refl

  bytes_own : (target : Target) → IfOk (bytes_of here target).end (ReadsOwn here.given)
  unfolding bytes_of
  bytes_own (Memory first None) = inl refl
  bytes_own (Memory first (Some more)) = inl refl
  bytes_own (Device part) = device_own here.given part

  reading_own : (a : Access) (target : Target) → IfOk (reading_of here a target).end (ReadsOwn here.given)
  unfolding reading_of
  reading_own access.Load target = bytes_own target
  reading_own access.Reserve target = bytes_own target
  reading_own access.Amo target = bytes_own target
  reading_own access.Store target = inl refl
  reading_own access.Conditional target = inl refl

  accessed_own : (i : Ins) (n : Need) → Owns (accessed here i n).end
  unfolding accessed
  accessed_own i n =
      ok_then (HasOwn here.given) (reached here n).end _
      (λ target. ok_bind (ReadsOwn here.given) (HasOwn here.given) (reading_of here n.access target).end _
      (reading_own n.access target)
      (λ reading own. ok_then (HasOwn here.given) (instruction_effect here.state i reading.got) _
      (λ e. record { value = own; bytes = write_bytes target e.write })))

  need_own : (word : ℕ) (i : Ins) (o : Option Need) → Owns (done_by_need here word i o).end
  need_own word i None = without_access_own word i (ask_of i here.state.pc here.state.x)
  need_own word i (Some n) = accessed_own i n

  executed_own : (word : ℕ) (i : Ins) → Owns (executed here word i).end
  unfolding executed
  executed_own word i = need_own word i (need_of (ask_of i here.state.pc here.state.x))

  uninterrupted_own : (o : Option ℕ) (p : Phase Retired) → Owns p.end → Owns (unless_interrupted o p).end
  uninterrupted_own None p own = own
  uninterrupted_own (Some number) p own = tt

  pub turn_own : Owns (turn here).end
  unfolding turn
  turn_own =
      uninterrupted_own (pending_of here.state) _
      (ok_then (HasOwn here.given) (fetched here).end (λ word. instruction word >>= λ i. (executed here word i).end)
      (λ word. ok_then (HasOwn here.given) (instruction word) (λ i. (executed here word i).end) (executed_own word)))
