-- Only ECALL calls the environment: any other instruction, and a fetch, ends otherwise.
use Rattle.std.proofs.Common.{◌≡◌, ℕ, ◌-◌, ◌⊎◌, inl, inr, Bool, true, false, Option, None, Some}
use Rattle.std.proofs.Common.{Result, Ok, Err, IfErr, if◌then◌else◌, refl, arith}
use Rattle.cx_csr.specs.Access.{csr_read, is_illegal}
use Rattle.cx_csr.specs.declared.access.Csr.{Csr}
use Rattle.cx_csr.specs.declared.access.Csr.TheVariants as csr
use Rattle.cx_csr.specs.declared.state.State.{State}
use Rattle.cx_decode.specs.declared.ins.Ins.{Ins}
use Rattle.cx_decode.specs.declared.op.Op.{Op}
use Rattle.cx_decode.specs.declared.op.Op.TheVariants.{Ecall, Ebreak, Mret, Sret}
use Rattle.cx_exec.specs.Asking.{ask_of, need_of}
use Rattle.cx_exec.specs.Control.{reads_control, writes_control}
use Rattle.cx_exec.specs.Effect.{effect_of}
use Rattle.cx_exec.specs.declared.asks.Access.{Access}
use Rattle.cx_exec.specs.declared.asks.Access.TheVariants as access
use Rattle.cx_exec.specs.declared.asks.Ask.{Ask}
use Rattle.cx_exec.specs.declared.asks.Ask.TheVariants as ask
use Rattle.cx_exec.specs.declared.asks.Need.{Need}
use Rattle.cx_exec.specs.declared.effect.Effect.{Effect}
use Rattle.cx_exec.specs.declared.effect.Misaligned.{Misaligned}
use Rattle.cx_exec.specs.declared.got.Got.TheVariants.{Bytes, Nothing, Old}
use Rattle.cx_hart.specs.Accesses.{access_done, accessed, bytes_of, inner_reading, outer_reading, reading_of}
use Rattle.cx_hart.specs.Control.{control_carried_out, controlled, half_of_time, old_of, old_value}
use Rattle.cx_hart.specs.Effects.{effect_or_trap, instruction_effect, retired_with}
use Rattle.cx_hart.specs.Ends.{End, answered, found as found_at, ◌>>=◌ as end_then}
use Rattle.cx_hart.specs.Fetch.{place_or_trap, translated, walk_in}
use Rattle.cx_hart.specs.Legal.{illegal, is_barred}
use Rattle.cx_hart.specs.Phases.{Phase, found, trap, unseen, ◌>>=◌}
use Rattle.cx_hart.specs.Reaching.{first_length, goes_on, is_naturally_aligned, is_split, kind_of, misaligned_cause}
use Rattle.cx_hart.specs.Reaching.{reached, reached_part, reached_rest, reached_second, reached_split, reached_whole}
use Rattle.cx_hart.specs.Reaching.{second_address, target_at}
use Rattle.cx_hart.specs.Surroundings.{Surroundings}
use Rattle.cx_hart.specs.System.{computed, returned, system}
use Rattle.cx_hart.specs.Turn.{done_by_need, done_without_access, executed}
use Rattle.cx_hart.specs.declared.answer.Asked.{Asked}
use Rattle.cx_hart.specs.declared.answer.Asked.TheVariants as asked
use Rattle.cx_hart.specs.declared.findings.Reading.{Reading}
use Rattle.cx_hart.specs.declared.findings.Stop.{Stop}
use Rattle.cx_hart.specs.declared.findings.Stop.TheVariants.{Asks, Interrupt, Trap}
use Rattle.cx_hart.specs.declared.findings.Target.{Target}
use Rattle.cx_hart.specs.declared.findings.Target.TheVariants.{Memory, Device}
use Rattle.cx_hart.proofs.WalkFacts.{walk_in_faults}
use Rattle.cx_trap.specs.Return.{can_mret, can_sret}
use Rattle.cx_walk.specs.Kinds.{IsFault}
use Rattle.cx_walk.specs.Walks.{address_of}
use Rattle.cx_walk.specs.declared.kind.Kind.{Kind}
use Rattle.cx_walk.specs.declared.kind.Kind.TheVariants as kind
use Rattle.cx_walk.specs.declared.walk.Place.{Place}

-- No call of the environment from user mode.
abbrev pub IsQuiet : Stop → Type 0
IsQuiet (Asks what) = Unit {0}
IsQuiet (Interrupt number) = Unit {0}
IsQuiet (Trap cause tval) = cause ≡ 8 → ⊥

abbrev pub Quiet : {Y : Type 0} → End Y → Type 0
Quiet e = IfErr e IsQuiet

quiet_bind : {Y Z : Type 0} (e : End Y) (next : Y → End Z) → Quiet e → ((y : Y) → Quiet (next y))
    → Quiet (end_then e next)
quiet_bind (Ok y) next one rest = rest y
quiet_bind (Err stop) next one rest = one

quiet_if : {Y : Type 0} (t : Bool) (p q : End Y) → Quiet p → Quiet q → Quiet (if t then p else q)
quiet_if true p q one other = one
quiet_if false p q one other = other

quiet_either : {Y : Type 0} (t : Bool) (p q : Phase Y) → Quiet p.end → Quiet q.end → Quiet (if t then p else q).end
quiet_either true p q one other = one
quiet_either false p q one other = other

fault_quiet : (k : Kind) (cause : ℕ) → IsFault k cause → cause ≡ 8 → ⊥
fault_quiet kind.Fetch cause (inl is) eight = omega arith
fault_quiet kind.Fetch cause (inr is) eight = omega arith
fault_quiet kind.Load cause (inl is) eight = omega arith
fault_quiet kind.Load cause (inr is) eight = omega arith
fault_quiet kind.Store cause (inl is) eight = omega arith
fault_quiet kind.Store cause (inr is) eight = omega arith
fault_quiet kind.Reserve cause (inl is) eight = omega arith
fault_quiet kind.Reserve cause (inr is) eight = omega arith
fault_quiet kind.Atomic cause (inl is) eight = omega arith
fault_quiet kind.Atomic cause (inr is) eight = omega arith

place_quiet : (k : Kind) (va : ℕ) (r : Result Place ℕ) → IfErr r (IsFault k) → Quiet (place_or_trap va r)
place_quiet k va (Ok place) fault = tt
place_quiet k va (Err cause) fault = fault_quiet k cause fault

pub translated_quiet : (here : Surroundings) (k : Kind) (va len : ℕ) → Quiet (translated here k va len).end
unfolding translated
translated_quiet here k va len = place_quiet k va (walk_in here k va len).answer (walk_in_faults here k va len)

-- ---- an access

misaligned_quiet : (a : Access) → misaligned_cause a ≡ 8 → ⊥
misaligned_quiet access.Load is = omega arith
misaligned_quiet access.Store is = omega arith
misaligned_quiet access.Reserve is = omega arith
misaligned_quiet access.Conditional is = omega arith
misaligned_quiet access.Amo is = omega arith

whole_quiet : (here : Surroundings) (n : Need) → Quiet (reached_whole here n).end
unfolding reached_whole
whole_quiet here n = quiet_bind (translated here (kind_of n.access) n.va n.len).end (λ p. found_at (target_at n p))
    (translated_quiet here (kind_of n.access) n.va n.len) (λ p. tt)

part_quiet : (here : Surroundings) (n : Need) (va len : ℕ) → Quiet (reached_part here n va len).end
part_quiet here n va len = quiet_bind (translated here (kind_of n.access) va 1).end
    (λ p. found_at (record { va = va; pa = address_of p; len = len }))
    (translated_quiet here (kind_of n.access) va 1) (λ p. tt)

second_quiet : (here : Surroundings) (n : Need) → Quiet (reached_second here n).end
second_quiet here n = quiet_bind (reached_part here n (second_address n) (n.len - first_length n)).end
    (λ part. found_at (Some part)) (part_quiet here n (second_address n) (n.len - first_length n)) (λ part. tt)

rest_quiet : (here : Surroundings) (n : Need) → Quiet (reached_rest here n).end
rest_quiet here n = quiet_either (goes_on n) (reached_second here n) (found None) (second_quiet here n) tt

split_quiet : (here : Surroundings) (n : Need) → Quiet (reached_split here n).end
unfolding reached_split
split_quiet here n = quiet_bind (reached_part here n n.va (first_length n)).end
    (λ first. (reached_rest here n >>= λ more. found (Memory first more)).end)
    (part_quiet here n n.va (first_length n))
    (λ first. quiet_bind (reached_rest here n).end (λ more. found_at (Memory first more)) (rest_quiet here n)
    (λ more. tt))

reached_quiet : (here : Surroundings) (n : Need) → Quiet (reached here n).end
unfolding reached
reached_quiet here n = quiet_either (is_naturally_aligned n) (reached_whole here n)
    (if is_split here.split n then reached_split here n else trap (misaligned_cause n.access) n.va)
    (whole_quiet here n)
    (quiet_either (is_split here.split n) (reached_split here n) (trap (misaligned_cause n.access) n.va)
    (split_quiet here n) (misaligned_quiet n.access))

answered_quiet : (given : Option ℕ) (what : Asked) → Quiet (answered given what)
answered_quiet None what = tt
answered_quiet (Some v) what = tt

bytes_quiet : (here : Surroundings) (target : Target) → Quiet (bytes_of here target).end
unfolding bytes_of
bytes_quiet here (Memory first None) = tt
bytes_quiet here (Memory first (Some more)) = tt
bytes_quiet here (Device part) = quiet_bind (answered here.given (asked.Device part.pa))
    (λ value. found_at (outer_reading (Bytes value) value)) (answered_quiet here.given (asked.Device part.pa))
    (λ value. tt)

reading_quiet : (here : Surroundings) (a : Access) (target : Target) → Quiet (reading_of here a target).end
unfolding reading_of
reading_quiet here access.Load target = bytes_quiet here target
reading_quiet here access.Reserve target = bytes_quiet here target
reading_quiet here access.Amo target = bytes_quiet here target
reading_quiet here access.Store target = tt
reading_quiet here access.Conditional target = tt

effect_quiet : (r : Result Effect Misaligned) → Quiet (effect_or_trap r)
effect_quiet (Ok e) = tt
effect_quiet (Err m) = λ is. omega arith

accessed_quiet : (here : Surroundings) (i : Ins) (n : Need) → Quiet (accessed here i n).end
unfolding accessed
accessed_quiet here i n = quiet_bind (reached here n).end
    (λ target. (reading_of here n.access target >>= λ reading.
    unseen (instruction_effect here.state i reading.got) >>= λ effect.
    found (access_done here.state n.access target reading effect)).end)
    (reached_quiet here n)
    (λ target. quiet_bind (reading_of here n.access target).end
    (λ reading. (unseen (instruction_effect here.state i reading.got) >>= λ effect.
    found (access_done here.state n.access target reading effect)).end)
    (reading_quiet here n.access target)
    (λ reading. quiet_bind (instruction_effect here.state i reading.got)
    (λ effect. found_at (access_done here.state n.access target reading effect))
    (effect_quiet (effect_of i here.state.pc here.state.x reading.got)) (λ effect. tt)))

-- ---- any other instruction

old_quiet : (given : Option ℕ) (word : ℕ) (c : Csr) → Quiet (old_of given word c)
old_quiet given word (csr.Value value) = tt
old_quiet given word (csr.Time high) = quiet_bind (answered given (half_of_time high))
    (λ value. found_at (outer_reading (Old value) value)) (answered_quiet given (half_of_time high)) (λ value. tt)
old_quiet given word csr.Illegal = λ is. omega arith

old_value_quiet : (here : Surroundings) (word : ℕ) (i : Ins) → Quiet (old_value here word i)
unfolding old_value
old_value_quiet here word i = quiet_if (reads_control i) (old_of here.given word (csr_read here.state i.imm))
    (found_at (inner_reading (Old 0))) (old_quiet here.given word (csr_read here.state i.imm)) tt

carried_quiet : (s : State) (i : Ins) (reading : Reading) → Quiet (control_carried_out s i reading)
carried_quiet s i reading = quiet_bind (instruction_effect s i reading.got) _
    (effect_quiet (effect_of i s.pc s.x reading.got)) (λ effect. tt)

controlled_quiet : (here : Surroundings) (word : ℕ) (i : Ins) → Quiet (controlled here word i)
unfolding controlled
controlled_quiet here word i = quiet_if (is_illegal (writes_control i) here.state i.imm) (illegal word)
    (end_then (old_value here word i) (control_carried_out here.state i)) (λ is. omega arith)
    (quiet_bind (old_value here word i) (control_carried_out here.state i) (old_value_quiet here word i)
    (λ reading. carried_quiet here.state i reading))

computed_quiet : (word : ℕ) (s : State) (i : Ins) → Quiet (computed word s i)
unfolding computed
computed_quiet word s i = quiet_if (is_barred s i.op) (illegal word)
    (end_then (instruction_effect s i Nothing) (λ effect. found_at (retired_with s effect))) (λ is. omega arith)
    (quiet_bind (instruction_effect s i Nothing) (λ effect. found_at (retired_with s effect))
    (effect_quiet (effect_of i s.pc s.x Nothing)) (λ effect. tt))

-- ---- the instruction that calls

-- a call, only of ECALL
abbrev pub Calls : {Y : Type 0} → Op → End Y → Type 0
Calls op e = IfErr e (λ stop. IsQuiet stop ⊎ (op ≡ Ecall))

quiet_calls : {Y : Type 0} (op : Op) (e : End Y) → Quiet e → Calls op e
quiet_calls op (Ok y) quiet = tt
quiet_calls op (Err stop) quiet = inl quiet

system_calls : (word : ℕ) (s : State) (op : Op) → Calls op (system word s op)
unfolding system
system_calls word s Ecall = inr refl
system_calls word s Ebreak = inl (λ is. omega arith)
system_calls word s Mret = quiet_calls Mret (if can_mret s then found_at (returned s _ s.csr.mepc) else illegal word)
    (quiet_if (can_mret s) _ (illegal word) tt (λ is. omega arith))
system_calls word s Sret = quiet_calls Sret (if can_sret s then found_at (returned s _ s.csr.sepc) else illegal word)
    (quiet_if (can_sret s) _ (illegal word) tt (λ is. omega arith))
system_calls word s op = inl (λ is. omega arith)

without_calls : (here : Surroundings) (word : ℕ) (i : Ins) (what : Ask)
    → Calls i.op (done_without_access here word i what)
without_calls here word i ask.Csr = quiet_calls i.op (controlled here word i) (controlled_quiet here word i)
without_calls here word i ask.System = system_calls word here.state i.op
without_calls here word i what = quiet_calls i.op (computed word here.state i) (computed_quiet word here.state i)

need_calls : (here : Surroundings) (word : ℕ) (i : Ins) (o : Option Need)
    → Calls i.op (done_by_need here word i o).end
need_calls here word i (Some n) = quiet_calls i.op (accessed here i n).end (accessed_quiet here i n)
need_calls here word i None = without_calls here word i (ask_of i here.state.pc here.state.x)

pub executed_calls : (here : Surroundings) (word : ℕ) (i : Ins) → Calls i.op (executed here word i).end
unfolding executed
executed_calls here word i = need_calls here word i (need_of (ask_of i here.state.pc here.state.x))
