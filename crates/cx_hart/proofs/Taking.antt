-- A step that asks for a value takes any, and one that takes a value takes that which is due.
use Rattle.std.proofs.Common.{◌≡◌, ℕ, Bool, true, false, Option, None, Some, Result, Ok, Err}
use Rattle.std.proofs.Common.{is_some, if◌then◌else◌, refl, sym, ap, subst, ◌∙◌}
use Rattle.cx_csr.specs.Access.{csr_read, is_illegal}
use Rattle.cx_csr.specs.declared.access.Csr.{Csr as CsrRead}
use Rattle.cx_csr.specs.declared.access.Csr.TheVariants as csr
use Rattle.cx_decode.specs.declared.ins.Ins.{Ins}
use Rattle.cx_decode.specs.declared.op.Op.{Op}
use Rattle.cx_decode.specs.declared.op.Op.TheVariants.{Csrrw, Csrrs, Csrrc, Csrrwi, Csrrsi, Csrrci}
use Rattle.cx_decode.specs.declared.op.Op.TheVariants.{Ecall, Ebreak, Mret, Sret}
use Rattle.cx_exec.specs.Asking.{ask_of, need_of, row_ask}
use Rattle.cx_exec.specs.Control.{reads_control, writes_control}
use Rattle.cx_exec.specs.Effect.{effect_of, row_effect}
use Rattle.cx_exec.specs.Values.{got_number, values_of}
use Rattle.cx_exec.specs.declared.asks.Access.{Access}
use Rattle.cx_exec.specs.declared.asks.Access.TheVariants as access
use Rattle.cx_exec.specs.declared.asks.Ask.{Ask}
use Rattle.cx_exec.specs.declared.asks.Ask.TheVariants as ask
use Rattle.cx_exec.specs.declared.asks.Need.{Need}
use Rattle.cx_exec.specs.declared.effect.Effect.{Effect}
use Rattle.cx_exec.specs.declared.effect.Misaligned.{Misaligned}
use Rattle.cx_exec.specs.declared.got.Got.TheVariants.{Nothing, Bytes, Old}
use Rattle.cx_exec.specs.declared.values.Values.{Values}
use Rattle.cx_trap.specs.Pending.{pending_of}
use Rattle.cx_trap.specs.Return.{can_mret, can_sret}
use Rattle.cx_walk.proofs.Branches.{either}
use Rattle.cx_walk.specs.declared.kind.Kind.{Kind}
use Rattle.cx_walk.specs.declared.walk.Place.{Place}
use Rattle.cx_walk.specs.Walks.{address_of}
use Rattle.cx_hart.specs.Accesses.{access_done, accessed, bytes_of, outer_reading, reading_of}
use Rattle.cx_hart.specs.Control.{control_carried_out, control_done, controlled, old_of, old_value}
use Rattle.cx_hart.specs.Effects.{effect_or_trap, instruction_effect, retired_with}
use Rattle.cx_hart.specs.Ends.{End, found, ◌>>=◌}
use Rattle.cx_hart.specs.Fetch.{fetched, place_or_trap, translated, walk_in}
use Rattle.cx_hart.specs.Legal.{illegal, instruction, ins_or_illegal, is_barred}
use Rattle.cx_hart.specs.Phases.{Phase}
use Rattle.cx_hart.specs.Reaching.{first_length, goes_on, is_naturally_aligned, is_split, kind_of, reached, reached_part}
use Rattle.cx_hart.specs.Reaching.{reached_rest, reached_split, reached_whole, second_address, target_at}
use Rattle.cx_hart.specs.Surroundings.{Surroundings}
use Rattle.cx_hart.specs.System.{computed, system}
use Rattle.cx_hart.specs.Turn.{done_by_need, done_without_access, executed, fetched_and_executed, turn, unless_interrupted}
use Rattle.cx_hart.specs.declared.findings.Part.{Part}
use Rattle.cx_hart.specs.declared.findings.Reading.{Reading}
use Rattle.cx_hart.specs.declared.findings.Retired.{Retired}
use Rattle.cx_hart.specs.declared.findings.Stop.TheVariants.{Asks, Interrupt, Trap}
use Rattle.cx_hart.specs.declared.findings.Target.{Target}
use Rattle.cx_hart.specs.declared.findings.Target.TheVariants.{Memory, Device}
use Rattle.cx_hart.proofs.FormedRecords.{access_effect}

-- ---- phases that never ask

abbrev pub Silent : {Y : Type 0} → End Y → Type 0
Silent (Ok y) = Unit {0}
Silent (Err (Asks what)) = ⊥
Silent (Err (Interrupt number)) = Unit {0}
Silent (Err (Trap cause tval)) = Unit {0}

silent_then : {Y Z : Type 0} (p : End Y) (next : Y → End Z) → Silent p → ((y : Y) → Silent (next y))
    → Silent (p >>= next)
silent_then (Ok y) next one rest = rest y
silent_then (Err (Asks what)) next one rest = absurd one
silent_then (Err (Interrupt number)) next one rest = tt
silent_then (Err (Trap cause tval)) next one rest = tt

effect_silent : (r : Result Effect Misaligned) → Silent (effect_or_trap r)
effect_silent (Ok effect) = tt
effect_silent (Err misaligned) = tt

place_silent : (va : ℕ) (r : Result Place ℕ) → Silent (place_or_trap va r)
place_silent va (Ok place) = tt
place_silent va (Err cause) = tt

instruction_silent : (word : ℕ) (o : Option Ins) → Silent (ins_or_illegal word o)
instruction_silent word None = tt
instruction_silent word (Some i) = tt

module _ (here : Surroundings) where
  translated_silent : (k : Kind) (va len : ℕ) → Silent (translated here k va len).end
  unfolding translated
  translated_silent k va len = place_silent va (walk_in here k va len).answer

  fetched_silent : Silent (fetched here).end
  unfolding fetched
  fetched_silent = silent_then (translated here _ here.state.pc 4).end _ (translated_silent _ here.state.pc 4)
      (λ place. tt)

  module _ (n : Need) where
    whole_silent : Silent (reached_whole here n).end
    unfolding reached_whole
    whole_silent = silent_then (translated here (kind_of n.access) n.va n.len).end (λ place. found (target_at n place))
        (translated_silent (kind_of n.access) n.va n.len) (λ place. tt)

    part_silent : (va len : ℕ) → Silent (reached_part here n va len).end
    part_silent va len =
        silent_then (translated here (kind_of n.access) va 1).end
        (λ place. found (record { va = va; pa = address_of place; len = len }))
        (translated_silent (kind_of n.access) va 1) (λ place. tt)

    rest_silent : Silent (reached_rest here n).end
    rest_silent =
        let P : Phase (Option Part) → Type 0 = λ p. Silent p.end in
        either P (goes_on n) _ _
        (λ on. silent_then (reached_part here n (second_address n) _).end
        (λ part. found (Some part)) (part_silent (second_address n) _) (λ part. tt))
        (λ ends. tt)

    split_silent : Silent (reached_split here n).end
    unfolding reached_split
    split_silent =
        silent_then (reached_part here n n.va (first_length n)).end (λ first. (reached_rest here n).end >>= λ more. found
        (Memory first more)) (part_silent n.va (first_length n))
        (λ first. silent_then (reached_rest here n).end (λ more. found (Memory first more)) rest_silent (λ more. tt))

    reached_silent : Silent (reached here n).end
    unfolding reached
    reached_silent =
        let P : Phase Target → Type 0 = λ p. Silent p.end in
        either P (is_naturally_aligned n) _ _ (λ aligned. whole_silent)
        (λ apart. either P (is_split here.split n) _ _ (λ parts. split_silent) (λ traps. tt))

  system_silent : (word : ℕ) (op : Op) → Silent (system word here.state op)
  unfolding system
  system_silent word Ecall = tt
  system_silent word Ebreak = tt
  system_silent word Mret = either Silent (can_mret here.state) _ _ (λ legal. tt) (λ bad. tt)
  system_silent word Sret = either Silent (can_sret here.state) _ _ (λ legal. tt) (λ bad. tt)
  system_silent word op = tt

  computed_silent : (word : ℕ) (i : Ins) → Silent (computed word here.state i)
  unfolding computed
  computed_silent word i =
      either Silent (is_barred here.state i.op) _ _ (λ barred. tt)
      (λ free. silent_then (instruction_effect here.state i Nothing) (λ e. found (retired_with here.state e))
      (effect_silent (effect_of i here.state.pc here.state.x Nothing)) (λ e. tt))

-- ---- a row that accesses a control register has an effect

control_effect : (op : Op) (v w : Values) → row_ask op v ≡ ask.Csr → (e : Effect) × (row_effect op w ≡ Ok e)
control_effect Csrrw v w is = (_, refl)
control_effect Csrrs v w is = (_, refl)
control_effect Csrrc v w is = (_, refl)
control_effect Csrrwi v w is = (_, refl)
control_effect Csrrsi v w is = (_, refl)
control_effect Csrrci v w is = (_, refl)
control_effect op v w is = absurd cc

-- ---- where one that gets no value asks, one that gets a value takes it

abbrev TakesReading : ℕ → End Reading → End Reading → Type 0
TakesReading v (Ok r) q = Unit {0}
TakesReading v (Err (Asks what)) q = (r : Reading) × ((q ≡ Ok r) × (r.value ≡ Some v))
TakesReading v (Err (Interrupt number)) q = Unit {0}
TakesReading v (Err (Trap cause tval)) q = Unit {0}

abbrev pub Takes : ℕ → End Retired → End Retired → Type 0
Takes v (Ok r) q = Unit {0}
Takes v (Err (Asks what)) q = (r : Retired) × ((q ≡ Ok r) × (r.value ≡ Some v))
Takes v (Err (Interrupt number)) q = Unit {0}
Takes v (Err (Trap cause tval)) q = Unit {0}

silent_takes : (v : ℕ) (p q : End Retired) → Silent p → Takes v p q
silent_takes v (Ok r) q never = tt
silent_takes v (Err (Asks what)) q never = absurd never
silent_takes v (Err (Interrupt number)) q never = tt
silent_takes v (Err (Trap cause tval)) q never = tt

takes_behind : {Y : Type 0} (v : ℕ) (p : End Y) (f g : Y → End Retired) → Silent p → ((y : Y) → Takes v (f y) (g y))
    → Takes v (p >>= f) (p >>= g)
takes_behind v (Ok y) f g never rest = rest y
takes_behind v (Err (Asks what)) f g never rest = absurd never
takes_behind v (Err (Interrupt number)) f g never rest = tt
takes_behind v (Err (Trap cause tval)) f g never rest = tt

-- an instruction that got its reading is carried out, with the reading's value
abbrev CarriesOut : (Reading → End Retired) → Type 0
CarriesOut f = (r : Reading) → (done : Retired) × ((f r ≡ Ok done) × (done.value ≡ r.value))

takes_reading : (v : ℕ) (p q : End Reading) (f : Reading → End Retired) → CarriesOut f → TakesReading v p q
    → Takes v (p >>= f) (q >>= f)
takes_reading v (Ok r) q f done takes =
    let is = done r in
    subst (λ (e : End Retired). Takes v e (q >>= f)) (sym is.1.0) tt
takes_reading v (Err (Asks what)) q f done takes =
    let is = done takes.0 in
    (is.0, (ap (λ (e : End Reading). e >>= f) takes.1.0 ∙ is.1.0, is.1.1 ∙ takes.1.1))
takes_reading v (Err (Interrupt number)) q f done takes = tt
takes_reading v (Err (Trap cause tval)) q f done takes = tt

takes_if : (v : ℕ) (t : Bool) (x p q : End Retired) → Silent x → Takes v p q
    → Takes v (if t then x else p) (if t then x else q)
takes_if v true x p q never takes = silent_takes v x x never
takes_if v false x p q never takes = takes

reading_if : (v : ℕ) (t : Bool) (y : Reading) (p q : End Reading) → TakesReading v p q
    → TakesReading v (if t then p else Ok y) (if t then q else Ok y)
reading_if v true y p q takes = takes
reading_if v false y p q takes = tt

module _ (here : Surroundings) (v : ℕ) where
  -- the same where no value is due, and where this one is
  abbrev none_here : Surroundings
  none_here = record here { given = None }

  abbrev value_here : Surroundings
  value_here = record here { given = Some v }

  -- ---- control registers

  old_takes : (word : ℕ) (read : CsrRead) → TakesReading v (old_of None word read) (old_of (Some v) word read)
  old_takes word (csr.Value value) = tt
  old_takes word (csr.Time high) = (outer_reading (Old v) v, (refl, refl))
  old_takes word csr.Illegal = tt

  old_value_takes : (word : ℕ) (i : Ins) → TakesReading v (old_value none_here word i) (old_value value_here word i)
  unfolding old_value
  old_value_takes word i = reading_if v (reads_control i) _ (old_of None word (csr_read here.state i.imm))
      (old_of (Some v) word (csr_read here.state i.imm)) (old_takes word (csr_read here.state i.imm))

  control_by : (i : Ins) (reading : Reading) (r : Result Effect Misaligned) (effect : Effect) → r ≡ Ok effect
      → (done : Retired) × (((effect_or_trap r >>= λ e. found (control_done here.state i (got_number reading.got)
      reading.value e)) ≡ Ok done) × (done.value ≡ reading.value))
  control_by i reading (Ok e) effect is = (_, (refl, refl))
  control_by i reading (Err m) effect is = absurd cc

  control_carries : (i : Ins) → ask_of i here.state.pc here.state.x ≡ ask.Csr
      → CarriesOut (control_carried_out here.state i)
  control_carries i is = λ reading.
      let effect = control_effect i.op _ (values_of i here.state.pc here.state.x reading.got) is in
      control_by i reading (effect_of i here.state.pc here.state.x reading.got) effect.0 effect.1

  controlled_takes : (word : ℕ) (i : Ins) → ask_of i here.state.pc here.state.x ≡ ask.Csr
      → Takes v (controlled none_here word i) (controlled value_here word i)
  unfolding controlled
  controlled_takes word i is =
      takes_if v (is_illegal (writes_control i) here.state i.imm) (illegal word) _ _ tt
      (takes_reading v (old_value none_here word i) (old_value value_here word i) (control_carried_out here.state i)
      (control_carries i is) (old_value_takes word i))

  without_access_takes : (word : ℕ) (i : Ins) (a : Ask) → ask_of i here.state.pc here.state.x ≡ a
      → Takes v (done_without_access none_here word i a) (done_without_access value_here word i a)
  without_access_takes word i ask.Csr is = controlled_takes word i is
  without_access_takes word i ask.System is =
      silent_takes v (system word here.state i.op) _ (system_silent here word i.op)
  without_access_takes word i a is = silent_takes v (computed word here.state i) _ (computed_silent here word i)

  -- ---- accesses

  device_takes : (part : Part)
      → TakesReading v (bytes_of none_here (Device part)).end (bytes_of value_here (Device part)).end
  unfolding bytes_of
  device_takes part = (outer_reading (Bytes v) v, (refl, refl))

  bytes_take : (target : Target) → TakesReading v (bytes_of none_here target).end (bytes_of value_here target).end
  unfolding bytes_of
  bytes_take (Memory first None) = tt
  bytes_take (Memory first (Some more)) = tt
  bytes_take (Device part) = device_takes part

  reading_takes : (a : Access) (target : Target)
      → TakesReading v (reading_of none_here a target).end (reading_of value_here a target).end
  unfolding reading_of
  reading_takes access.Load target = bytes_take target
  reading_takes access.Reserve target = bytes_take target
  reading_takes access.Amo target = bytes_take target
  reading_takes access.Store target = tt
  reading_takes access.Conditional target = tt

  module _ (i : Ins) (n : Need) (e : Some n ≡ need_of (ask_of i here.state.pc here.state.x)) where
    abbrev with_reading : Target → Reading → End Retired
    with_reading target reading = instruction_effect here.state i reading.got >>= λ effect. found
        (access_done here.state n.access target reading effect)

    access_by : (target : Target) (reading : Reading) (r : Result Effect Misaligned) (effect : Effect) → r ≡ Ok effect
        → (done : Retired) × (((effect_or_trap r >>= λ effect. found (access_done here.state n.access target reading
        effect)) ≡ Ok done) × (done.value ≡ reading.value))
    access_by target reading (Ok f) effect is = (_, (refl, refl))
    access_by target reading (Err m) effect is = absurd cc

    access_carries : (target : Target) → CarriesOut (with_reading target)
    access_carries target = λ reading.
        let effect = access_effect i.op _ (values_of i here.state.pc here.state.x reading.got) (ap is_some (sym e)) in
        access_by target reading (effect_of i here.state.pc here.state.x reading.got) effect.0 effect.1

    accessed_takes : Takes v (accessed none_here i n).end (accessed value_here i n).end
    unfolding accessed reached reached_whole reached_split translated walk_in
    accessed_takes =
        takes_behind v (reached none_here n).end
        (λ target. (reading_of none_here n.access target).end >>= with_reading target)
        (λ target. (reading_of value_here n.access target).end >>= with_reading target) (reached_silent none_here n)
        (λ target. takes_reading v (reading_of none_here n.access target).end (reading_of value_here n.access target).end
        (with_reading target) (access_carries target) (reading_takes n.access target))

  need_takes : (word : ℕ) (i : Ins) (o : Option Need) → o ≡ need_of (ask_of i here.state.pc here.state.x)
      → Takes v (done_by_need none_here word i o).end (done_by_need value_here word i o).end
  need_takes word i None e = without_access_takes word i (ask_of i here.state.pc here.state.x) refl
  need_takes word i (Some n) e = accessed_takes i n e

  executed_takes : (word : ℕ) (i : Ins) → Takes v (executed none_here word i).end (executed value_here word i).end
  unfolding executed
  executed_takes word i = need_takes word i (need_of (ask_of i here.state.pc here.state.x)) refl

  uninterrupted_takes : (o : Option ℕ) (p q : Phase Retired) → Takes v p.end q.end
      → Takes v (unless_interrupted o p).end (unless_interrupted o q).end
  uninterrupted_takes None p q takes = takes
  uninterrupted_takes (Some number) p q takes = tt

  pub turn_takes : Takes v (turn none_here).end (turn value_here).end
  unfolding turn fetched translated walk_in
  turn_takes =
      uninterrupted_takes (pending_of here.state) (fetched_and_executed none_here) (fetched_and_executed value_here)
      (takes_behind v (fetched none_here).end
      (λ word. instruction word >>= λ i. (executed none_here word i).end)
      (λ word. instruction word >>= λ i. (executed value_here word i).end) (fetched_silent none_here)
      (λ word. takes_behind v (instruction word) (λ i. (executed none_here word i).end)
      (λ i. (executed value_here word i).end) (instruction_silent word _) (executed_takes word)))
