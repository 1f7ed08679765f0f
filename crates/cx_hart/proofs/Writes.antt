-- Whatever the state, what a turn retires with writes inside RAM, or a word of a device, by the parts of one access.
use Rattle.std.proofs.Common.{◌≡◌, ℕ, length, Option, None, Some, Ok, Err, IfOk, IfSome, refl}
use Rattle.cx_csr.specs.Access.{is_illegal}
use Rattle.cx_decode.specs.declared.ins.Ins.{Ins}
use Rattle.cx_decode.specs.declared.op.Op.{Op}
use Rattle.cx_decode.specs.declared.op.Op.TheVariants.{Ecall, Ebreak, Mret, Sret}
use Rattle.cx_exec.specs.Asking.{ask_of, need_of}
use Rattle.cx_exec.specs.Control.{writes_control}
use Rattle.cx_exec.specs.Values.{got_number}
use Rattle.cx_exec.specs.declared.asks.Access.{Access}
use Rattle.cx_exec.specs.declared.asks.Ask.{Ask}
use Rattle.cx_exec.specs.declared.asks.Ask.TheVariants as ask
use Rattle.cx_exec.specs.declared.asks.Need.{Need}
use Rattle.cx_exec.specs.declared.effect.Effect.{Effect}
use Rattle.cx_exec.specs.declared.got.Got.TheVariants.{Nothing}
use Rattle.cx_trap.specs.Pending.{pending_of}
use Rattle.cx_trap.specs.Return.{can_mret, can_sret}
use Rattle.cx_walk.proofs.Branches.{either}
use Rattle.cx_hart.specs.Accesses.{access_done, accessed, reading_of}
use Rattle.cx_hart.specs.Control.{control_carried_out, control_done, controlled, old_value}
use Rattle.cx_hart.specs.Effects.{instruction_effect, retired_with}
use Rattle.cx_hart.specs.Ends.{End, found, ◌>>=◌}
use Rattle.cx_hart.specs.Fetch.{fetched}
use Rattle.cx_hart.specs.Legal.{instruction, is_barred}
use Rattle.cx_hart.specs.Phases.{Phase}
use Rattle.cx_hart.specs.Reaching.{reached}
use Rattle.cx_hart.specs.Stretches.{IsTarget, IsWritable}
use Rattle.cx_hart.specs.Surroundings.{Surroundings}
use Rattle.cx_hart.specs.System.{computed, system}
use Rattle.cx_hart.specs.Turn.{done_by_need, done_without_access, executed, turn, unless_interrupted}
use Rattle.cx_hart.specs.WellFormed.{AreParts}
use Rattle.cx_hart.specs.declared.findings.Reading.{Reading}
use Rattle.cx_hart.specs.declared.findings.Retired.{Retired}
use Rattle.cx_hart.specs.declared.findings.Target.{Target}
use Rattle.cx_hart.proofs.Found.{reached_inside}
use Rattle.cx_hart.proofs.Keepable.{first_writable, second_writable}
use Rattle.cx_hart.proofs.Needs.{IsLength, need_length}
use Rattle.cx_hart.proofs.Parts.{no_parts, written_parts}

-- what it writes lies in RAM of so many bytes, and is the parts of one access
pub record WritesInside (size : ℕ) (r : Retired) : Type 0 where
  pub first : IfSome r.write (IsWritable size)
  pub second : IfSome r.write_more (IsWritable size)
  pub parts : AreParts r.write r.write_more

-- ---- phases

-- what holds of what the next phase finds, whatever this one does,
pub ok_then : {Y Z : Type 0} (Q : Z → Type 0) (p : End Y) (next : Y → End Z) → ((y : Y) → IfOk (next y) Q)
    → IfOk (p >>= next) Q
ok_then Q (Ok y) next rest = rest y
ok_then Q (Err stop) next rest = tt

-- or by what this one finds
pub ok_bind : {Y Z : Type 0} (P : Y → Type 0) (Q : Z → Type 0) (p : End Y) (next : Y → End Z) → IfOk p P
    → ((y : Y) → P y → IfOk (next y) Q) → IfOk (p >>= next) Q
ok_bind P Q (Ok y) next one rest = rest y one
ok_bind P Q (Err stop) next one rest = tt

module _ (here : Surroundings) where
  abbrev Inside : End Retired → Type 0
  Inside p = IfOk p (WritesInside (length here.memory))

  -- ---- instructions without an access

  controlled_writes : (word : ℕ) (i : Ins) → Inside (controlled here word i)
  unfolding controlled
  controlled_writes word i =
      either Inside (is_illegal (writes_control i) here.state i.imm) _ _ (λ bad. tt)
      (λ legal. ok_then (WritesInside (length here.memory)) (old_value here word i) (control_carried_out here.state i)
      (λ reading. ok_then (WritesInside (length here.memory)) (instruction_effect here.state i reading.got)
      (λ e. found (control_done here.state i (got_number reading.got) reading.value e))
      (λ e. record { first = tt; second = tt; parts = no_parts })))

  system_writes : (word : ℕ) (op : Op) → Inside (system word here.state op)
  unfolding system
  system_writes word Ecall = tt
  system_writes word Ebreak = tt
  system_writes word Mret = either Inside (can_mret here.state) _ _ (λ legal. record {
    first = tt;
    second = tt;
    parts =
        no_parts;
  }) (λ bad. tt)
  system_writes word Sret = either Inside (can_sret here.state) _ _ (λ legal. record {
    first = tt;
    second = tt;
    parts =
        no_parts;
  }) (λ bad. tt)
  system_writes word op = tt

  computed_writes : (word : ℕ) (i : Ins) → Inside (computed word here.state i)
  unfolding computed
  computed_writes word i =
      either Inside (is_barred here.state i.op) _ _ (λ barred. tt)
      (λ free. ok_then (WritesInside (length here.memory)) (instruction_effect here.state i Nothing)
      (λ e. found (retired_with here.state e)) (λ e. record { first = tt; second = tt; parts = no_parts }))

  without_access_writes : (word : ℕ) (i : Ins) (a : Ask) → Inside (done_without_access here word i a)
  without_access_writes word i ask.Csr = controlled_writes word i
  without_access_writes word i ask.System = system_writes word i.op
  without_access_writes word i a = computed_writes word i

  -- ---- those with one

  access_writes : (a : Access) (target : Target) (reading : Reading) (e : Effect) → IsTarget (length here.memory) target
      → WritesInside (length here.memory) (access_done here.state a target reading e)
  access_writes a target reading e inside = record {
    first = first_writable (length here.memory) target e.write inside;
    second = second_writable (length here.memory) target e.write inside;
    parts =
        written_parts (length here.memory) target e.write inside;
  }

  accessed_writes : (i : Ins) (n : Need) → IsLength n.len → Inside (accessed here i n).end
  unfolding accessed
  accessed_writes i n lengths =
      ok_bind (IsTarget (length here.memory)) (WritesInside (length here.memory)) (reached here n).end _
      (reached_inside here n lengths)
      (λ target inside. ok_then (WritesInside (length here.memory)) (reading_of here n.access target).end _
      (λ reading. ok_then (WritesInside (length here.memory)) (instruction_effect here.state i reading.got) _
      (λ e. access_writes n.access target reading e inside)))

  need_writes : (word : ℕ) (i : Ins) (o : Option Need) → o ≡ need_of (ask_of i here.state.pc here.state.x)
      → Inside (done_by_need here word i o).end
  need_writes word i None e = without_access_writes word i (ask_of i here.state.pc here.state.x)
  need_writes word i (Some n) e = accessed_writes i n (need_length i here.state.pc here.state.x n e)

  -- ---- the turn

  executed_writes : (word : ℕ) (i : Ins) → Inside (executed here word i).end
  unfolding executed
  executed_writes word i = need_writes word i (need_of (ask_of i here.state.pc here.state.x)) refl

  uninterrupted_writes : (o : Option ℕ) (p : Phase Retired) → Inside p.end → Inside (unless_interrupted o p).end
  uninterrupted_writes None p inside = inside
  uninterrupted_writes (Some number) p inside = tt

  pub turn_writes : Inside (turn here).end
  unfolding turn
  turn_writes =
      uninterrupted_writes (pending_of here.state) _
      (ok_then (WritesInside (length here.memory)) (fetched here).end
      (λ word. instruction word >>= λ i. (executed here word i).end)
      (λ word. ok_then (WritesInside (length here.memory)) (instruction word) (λ i. (executed here word i).end)
      (executed_writes word)))
