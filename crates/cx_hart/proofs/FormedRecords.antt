-- The record of a step is well formed.
use Rattle.std.proofs.Common.{◌≡◌, inl, inr, ℕ, ◌≤◌, Bool, true, false, nat_eq, List, [], ◌∷◌, ◌++◌, length, take}
use Rattle.std.proofs.Common.{Option, None, Some, Result, Ok, Err, IfOk, IfErr, IfSome, IsSome, is_some, refl, sym, ap}
use Rattle.std.proofs.Common.{subst, ◌∙◌, arith}
use Rattle.cx_decode.specs.declared.ins.Ins.{Ins}
use Rattle.cx_decode.specs.declared.op.Op.{Op}
use Rattle.cx_decode.specs.declared.op.Op.TheVariants.{Lb, Lh, Lw, Lbu, Lhu, Sb, Sh, Sw, LrW, ScW, AmoswapW, AmoaddW}
use Rattle.cx_decode.specs.declared.op.Op.TheVariants.{AmoxorW, AmoandW, AmoorW, AmominW, AmomaxW, AmominuW, AmomaxuW}
use Rattle.cx_exec.specs.Asking.{ask_of, need_of, row_ask}
use Rattle.cx_exec.specs.Effect.{concludes, effect_of, row_effect}
use Rattle.cx_exec.specs.Values.{values_of}
use Rattle.cx_exec.specs.declared.asks.Access.{Access}
use Rattle.cx_exec.specs.declared.asks.Access.TheVariants as access
use Rattle.cx_exec.specs.declared.asks.Need.{Need}
use Rattle.cx_exec.specs.declared.effect.Effect.{Effect}
use Rattle.cx_exec.specs.declared.effect.Misaligned.{Misaligned}
use Rattle.cx_exec.specs.declared.got.Got.TheVariants.{Bytes}
use Rattle.cx_exec.specs.declared.values.Values.{Values}
use Rattle.cx_machine.specs.Due.{Due}
use Rattle.cx_machine.specs.Machine.{MachineState}
use Rattle.cx_machine.specs.Step.{Stepped}
use Rattle.cx_machine.specs.Transfers.{after_transfers}
use Rattle.cx_trap.specs.Pending.{pending_of}
use Rattle.cx_walk.specs.Kinds.{IsFault}
use Rattle.cx_walk.specs.declared.kind.Kind.TheVariants.{Fetch}
use Rattle.cx_walk.specs.declared.walk.Place.{Place}
use Rattle.cx_walk.specs.Walks.{address_of}
use Rattle.cx_hart.specs.Accesses.{access_done, accessed, bytes_of, outer_reading, reading_of}
use Rattle.cx_hart.specs.Effects.{effect_or_trap, instruction_effect}
use Rattle.cx_hart.specs.Ends.{End, answered}
use Rattle.cx_hart.specs.Fetch.{fetched, place_or_trap, read_at, translated, walk_in}
use Rattle.cx_hart.specs.HartStep.{hart_step}
use Rattle.cx_hart.specs.Legal.{instruction}
use Rattle.cx_hart.specs.Looks.{First, Look, Word}
use Rattle.cx_hart.specs.Phases.{Phase, found, looks_behind, sees, unseen, ◌>>=◌}
use Rattle.cx_hart.specs.Reaching.{reached}
use Rattle.cx_hart.specs.Step.{Stepped as Carried, ended_in, machine_in, outcome_of, surroundings, turn_outcome}
use Rattle.cx_hart.specs.Step.{with_done}
use Rattle.cx_hart.specs.Stretches.{IsTarget}
use Rattle.cx_hart.specs.Surroundings.{Surroundings}
use Rattle.cx_hart.specs.Touches.{padded, part_value, touch}
use Rattle.cx_hart.specs.Turn.{done_by_need, executed, fetched_and_executed, turn, unless_interrupted}
use Rattle.cx_hart.specs.WellFormed.{AreParts, HasNothing, IsCall, IsWellFormed, IsWord}
use Rattle.cx_hart.specs.declared.answer.Asked.TheVariants as asked
use Rattle.cx_hart.specs.declared.findings.Part.{Part}
use Rattle.cx_hart.specs.declared.findings.Reading.{Reading}
use Rattle.cx_hart.specs.declared.findings.Retired.{Retired}
use Rattle.cx_hart.specs.declared.findings.Stop.{Stop}
use Rattle.cx_hart.specs.declared.findings.Stop.TheVariants.{Asks, Interrupt, Trap}
use Rattle.cx_hart.specs.declared.findings.Target.{Target}
use Rattle.cx_hart.specs.declared.findings.Target.TheVariants.{Memory, Device}
use Rattle.cx_hart.specs.declared.record.Ended.{Ended}
use Rattle.cx_hart.specs.declared.record.Ended.TheVariants as ended
use Rattle.cx_hart.specs.declared.record.StepRec.{StepRec}
use Rattle.cx_hart.specs.declared.record.Touch.{Touch}
use Rattle.cx_hart.proofs.Costs.{costs, costs_append, executed_within, fetched_within, reached_within}
use Rattle.cx_hart.proofs.Costs.{translated_within, turn_within, within_behind}
use Rattle.cx_hart.proofs.Ends.{unless_kept}
use Rattle.cx_hart.proofs.Found.{reached_target}
use Rattle.cx_hart.proofs.Needs.{need_length}
use Rattle.cx_hart.proofs.Padded.{take_front}
use Rattle.cx_hart.proofs.Parts.{no_parts, one_part, touch_formed, two_parts, word_part}
use Rattle.cx_hart.proofs.StepSizes.{carried}
use Rattle.cx_hart.proofs.Telling.{as_many_entries, entries_in, first_after, first_append, no_word, places_costs}
use Rattle.cx_hart.proofs.Telling.{places_in, reads_no_first, reads_no_rest, rest_after, rest_append, seen_in, told_is}
use Rattle.cx_hart.proofs.Telling.{word_after, word_append}
use Rattle.cx_hart.proofs.WalkFacts.{walk_in_faults}
use Rattle.cx_hart.proofs.Writes.{WritesInside, turn_writes}

-- ---- a row that accesses memory has an effect

pub access_effect : (op : Op) (v w : Values) → IsSome (need_of (row_ask op v)) → (e : Effect) × (row_effect op w ≡ Ok e)
access_effect Lb v w some = (_, refl)
access_effect Lh v w some = (_, refl)
access_effect Lw v w some = (_, refl)
access_effect Lbu v w some = (_, refl)
access_effect Lhu v w some = (_, refl)
access_effect Sb v w some = (_, refl)
access_effect Sh v w some = (_, refl)
access_effect Sw v w some = (_, refl)
access_effect LrW v w some = (_, refl)
access_effect ScW v w some = concludes_by (nat_eq w.got 0)
  where
    concludes_by : (b : Bool) → (e : Effect) × (concludes w b ≡ Ok e)
    concludes_by true = (_, refl)
    concludes_by false = (_, refl)
access_effect AmoswapW v w some = (_, refl)
access_effect AmoaddW v w some = (_, refl)
access_effect AmoxorW v w some = (_, refl)
access_effect AmoandW v w some = (_, refl)
access_effect AmoorW v w some = (_, refl)
access_effect AmominW v w some = (_, refl)
access_effect AmomaxW v w some = (_, refl)
access_effect AmominuW v w some = (_, refl)
access_effect AmomaxuW v w some = (_, refl)
access_effect op v w some = absurd cc

-- ---- what was read: the parts of one access, and nothing where the turn stops

abbrev reads : List Look → ℕ
reads looks = costs 0 0 1 1 looks

abbrev Parts : List Look → Type 0
Parts looks = AreParts (first_after looks None) (rest_after looks None)

parts_after : (xs ys : List Look) → reads xs ≤ 0 → Parts ys → Parts (xs ++ ys)
parts_after xs ys none parts =
    let first : first_after (xs ++ ys) None ≡ first_after ys None = first_append xs ys None
    ∙ ap (first_after ys) (reads_no_first xs None none) in
    let rest : rest_after (xs ++ ys) None ≡ rest_after ys None = rest_append xs ys None
    ∙ ap (rest_after ys) (reads_no_rest xs None none) in
    subst (λ o. AreParts o (rest_after (xs ++ ys) None)) (sym first) (subst (λ o. AreParts (first_after ys None) o)
    (sym rest) parts)

parts_before : (xs ys : List Look) → reads ys ≤ 0 → Parts xs → Parts (xs ++ ys)
parts_before xs ys none parts =
    let first : first_after (xs ++ ys) None ≡ first_after xs None = first_append xs ys None
    ∙ reads_no_first ys (first_after xs None) none in
    let rest : rest_after (xs ++ ys) None ≡ rest_after xs None = rest_append xs ys None
    ∙ reads_no_rest ys (rest_after xs None) none in
    subst (λ o. AreParts o (rest_after (xs ++ ys) None)) (sym first) (subst (λ o. AreParts (first_after xs None) o)
    (sym rest) parts)

behind_parts : {Y Z : Type 0} (e : End Y) (next : Y → Phase Z) → ((y : Y) → e ≡ Ok y → Parts (next y).looks)
    → Parts (looks_behind e next)
behind_parts (Ok y) next rest = rest y refl
behind_parts (Err stop) next rest = no_parts

-- a phase that stops has read nothing
abbrev Quiet : {Y : Type 0} → Phase Y → Type 0
Quiet p = IfErr p.end (λ stop. reads p.looks ≤ 0)

quiet_unseen : {Y : Type 0} (e : End Y) → Quiet (unseen e)
quiet_unseen (Ok y) = tt
quiet_unseen (Err stop) = omega arith

quiet_more : {Z : Type 0} (e : End Z) (xs ys : List Look) → reads xs ≤ 0 → IfErr e (λ stop. reads ys ≤ 0)
    → IfErr e (λ stop. reads (xs ++ ys) ≤ 0)
quiet_more (Ok z) xs ys one two = tt
quiet_more (Err stop) xs ys one two = omega (arith, costs_append 0 0 1 1 xs ys)

quiet_behind : {Y Z : Type 0} (looks : List Look) (e : End Y) (next : Y → Phase Z) → reads looks ≤ 0
    → ((y : Y) → Quiet (next y)) → Quiet (record { looks = looks; end = e } >>= next)
quiet_behind looks (Ok y) next none rest = quiet_more (next y).end looks (next y).looks none (rest y)
quiet_behind looks (Err stop) next none rest = omega (arith, costs_append 0 0 1 1 looks [])

-- where the next phase never stops, only this one does
quiet_done : {Y Z : Type 0} (looks : List Look) (e : End Y) (next : Y → Phase Z) → IfErr e (λ stop. reads looks ≤ 0)
    → ((y : Y) → (z : Z) × ((next y).end ≡ Ok z)) → Quiet (record { looks = looks; end = e } >>= next)
quiet_done looks (Ok y) next none rest = subst (λ f. IfErr f (λ stop. reads (looks ++ (next y).looks) ≤ 0))
    (sym (rest y).1) tt
quiet_done looks (Err stop) next none rest = omega (arith, costs_append 0 0 1 1 looks [])

-- ---- what a phase is behind the fetch

record IsBehind (phase : Phase Retired) : Type 0 where
  pub words : costs 0 1 0 0 phase.looks ≤ 0
  pub parts : Parts phase.looks
  pub quiet : Quiet phase

unseen_behind : (e : End Retired) → IsBehind (unseen e)
unseen_behind e = record { words = omega arith; parts = no_parts; quiet = quiet_unseen e }

module _ (here : Surroundings) where
  device_parts : (given : Option ℕ) (part : Part) → IsTarget (length here.memory) (Device part)
      → Parts (unseen (answered given (asked.Device part.pa)) >>= λ value. sees (First (touch part value))
      (outer_reading (Bytes value) value)).looks
  device_parts None part inside = no_parts
  device_parts (Some v) part inside = word_part part v inside

  bytes_parts : (target : Target) → IsTarget (length here.memory) target → Parts (bytes_of here target).looks
  unfolding bytes_of
  bytes_parts (Memory first None) inside = one_part first (part_value here.memory first) inside.0.length
  bytes_parts (Memory first (Some more)) inside =
      two_parts (length here.memory) first more (part_value here.memory first) (part_value here.memory more) inside.0
      inside.1
  bytes_parts (Device part) inside = device_parts here.given part inside

  reading_parts : (a : Access) (target : Target) → IsTarget (length here.memory) target
      → Parts (reading_of here a target).looks
  unfolding reading_of
  reading_parts access.Load target inside = bytes_parts target inside
  reading_parts access.Reserve target inside = bytes_parts target inside
  reading_parts access.Amo target inside = bytes_parts target inside
  reading_parts access.Store target inside = no_parts
  reading_parts access.Conditional target inside = no_parts

  device_quiet : (given : Option ℕ) (part : Part)
      → Quiet (unseen (answered given (asked.Device part.pa)) >>= λ value. sees (First (touch part value))
      (outer_reading (Bytes value) value))
  device_quiet None part = omega arith
  device_quiet (Some v) part = tt

  bytes_quiet : (target : Target) → Quiet (bytes_of here target)
  unfolding bytes_of
  bytes_quiet (Memory first None) = tt
  bytes_quiet (Memory first (Some more)) = tt
  bytes_quiet (Device part) = device_quiet here.given part

  reading_quiet : (a : Access) (target : Target) → Quiet (reading_of here a target)
  unfolding reading_of
  reading_quiet access.Load target = bytes_quiet target
  reading_quiet access.Reserve target = bytes_quiet target
  reading_quiet access.Amo target = bytes_quiet target
  reading_quiet access.Store target = tt
  reading_quiet access.Conditional target = tt

  module _ (i : Ins) (n : Need) (e : Some n ≡ need_of (ask_of i here.state.pc here.state.x)) where
    abbrev with_reading : Target → Reading → Phase Retired
    with_reading target reading = unseen (instruction_effect here.state i reading.got) >>= λ effect. found
        (access_done here.state n.access target reading effect)

    abbrev with_target : Target → Phase Retired
    with_target target = reading_of here n.access target >>= with_reading target

    effect_by : (r : Result Effect Misaligned) (effect : Effect) (target : Target) (reading : Reading) → r ≡ Ok effect
        → (z : Retired) × ((unseen (effect_or_trap r) >>= λ effect. found (access_done here.state n.access target
        reading effect)).end ≡ Ok z)
    effect_by (Ok f) effect target reading is = (_, refl)
    effect_by (Err m) effect target reading is = absurd cc

    never_stops : (target : Target) (reading : Reading) → (z : Retired) × ((with_reading target reading).end ≡ Ok z)
    never_stops target reading =
        let effect = access_effect i.op _ (values_of i here.state.pc here.state.x reading.got) (ap is_some (sym e)) in
        effect_by (effect_of i here.state.pc here.state.x reading.got) effect.0 target reading effect.1

    effect_reads : (target : Target) (reading : Reading) → reads (with_reading target reading).looks ≤ 0
    effect_reads target reading =
        within_behind 0 0 1 1 (instruction_effect here.state i reading.got)
        (λ effect. found (access_done here.state n.access target reading effect)) 0 (λ effect. omega arith)

    accessed_parts : Parts (accessed here i n).looks
    unfolding accessed
    accessed_parts =
        parts_after (reached here n).looks (looks_behind (reached here n).end with_target)
        (reached_within 0 0 1 1 here n)
        (behind_parts (reached here n).end with_target
        (λ target is.
        parts_before (reading_of here n.access target).looks (looks_behind (reading_of here n.access target).end
        (with_reading target))
        (within_behind 0 0 1 1 (reading_of here n.access target).end (with_reading target) 0 (effect_reads target))
        (reading_parts n.access target (reached_target here n target (need_length i here.state.pc here.state.x n e)
        (sym is)))))

    accessed_quiet : Quiet (accessed here i n)
    unfolding accessed
    accessed_quiet =
        quiet_behind (reached here n).looks (reached here n).end with_target (reached_within 0 0 1 1 here n)
        (λ target. quiet_done (reading_of here n.access target).looks (reading_of here n.access target).end
        (with_reading target) (reading_quiet n.access target) (never_stops target))

  need_behind : (word : ℕ) (i : Ins) (o : Option Need) → o ≡ need_of (ask_of i here.state.pc here.state.x)
      → costs 0 1 0 0 (done_by_need here word i o).looks ≤ 0 → IsBehind (done_by_need here word i o)
  need_behind word i None e words = unseen_behind _
  need_behind word i (Some n) e words = record {
    words = words;
    parts = accessed_parts i n e;
    quiet =
        accessed_quiet i n e;
  }

  executed_behind : (word : ℕ) (i : Ins) → costs 0 1 0 0 (executed here word i).looks ≤ 0
      → IsBehind (executed here word i)
  unfolding executed
  executed_behind word i words = need_behind word i (need_of (ask_of i here.state.pc here.state.x)) refl words

  abbrev with_word : ℕ → Phase Retired
  with_word word = unseen (instruction word) >>= λ i. executed here word i

  word_behind_by : (word : ℕ) (e : End Ins) → IsBehind (unseen e >>= λ i. executed here word i)
  word_behind_by word (Ok i) = executed_behind word i (executed_within 0 1 0 0 here word i)
  word_behind_by word (Err stop) = record { words = omega arith; parts = no_parts; quiet = omega arith }

  word_behind : (word : ℕ) → IsBehind (with_word word)
  word_behind word = word_behind_by word (instruction word)

  -- ---- the fetch

  abbrev NotCall : Stop → Type 0
  NotCall (Asks what) = Unit {0}
  NotCall (Interrupt number) = Unit {0}
  NotCall (Trap cause tval) = ¬ (IsCall cause)

  record IsFetch (phase : Phase ℕ) : Type 0 where
    pub word : IfSome (word_after phase.looks None) IsWord
    pub some : IfOk phase.end (λ w. IsSome (word_after phase.looks None))
    pub stops : IfErr phase.end NotCall

  fault_not_call : (cause : ℕ) → IsFault Fetch cause → ¬ (IsCall cause)
  fault_not_call cause (inl e) (inl f) = omega arith
  fault_not_call cause (inl e) (inr (inl f)) = omega arith
  fault_not_call cause (inl e) (inr (inr f)) = omega arith
  fault_not_call cause (inr e) (inl f) = omega arith
  fault_not_call cause (inr e) (inr (inl f)) = omega arith
  fault_not_call cause (inr e) (inr (inr f)) = omega arith

  place_not_call : (va : ℕ) (r : Result Place ℕ) → IfErr r (IsFault Fetch) → IfErr (place_or_trap va r) NotCall
  place_not_call va (Ok place) fault = tt
  place_not_call va (Err cause) fault = fault_not_call cause fault

  translated_not_call : IfErr (translated here Fetch here.state.pc 4).end NotCall
  unfolding translated
  translated_not_call = place_not_call here.state.pc (walk_in here Fetch here.state.pc 4).answer
      (walk_in_faults here Fetch here.state.pc 4)

  abbrev word_at_place : Place → Part
  word_at_place place = record { va = here.state.pc; pa = address_of place; len = 4 }

  word_formed : (place : Place) → IsWord (touch (word_at_place place) (part_value here.memory (word_at_place place)))
  unfolding touch
  word_formed place = record {
    touch = touch_formed (word_at_place place) (part_value here.memory (word_at_place place))
        (omega arith, omega arith);
    whole = refl;
  }

  fetch_by : (looks : List Look) (e : End Place) → costs 0 1 0 0 looks ≤ 0 → IfErr e NotCall
      → IsFetch (record { looks = looks; end = e } >>= λ place. read_at here.memory Word (word_at_place place))
  fetch_by looks (Ok place) none stops =
      let t : Touch = touch (word_at_place place) (part_value here.memory (word_at_place place)) in
      let is : word_after (looks ++ (Word t ∷ [])) None ≡ Some t = word_append looks (Word t ∷ []) None in
      record {
        word = subst (λ o. IfSome o IsWord) (sym is) (word_formed place);
        some = subst IsSome (sym is) refl;
        stops = tt;
      }
  fetch_by looks (Err stop) none stops =
      let is : word_after (looks ++ []) None ≡ None = word_append looks [] None ∙ no_word looks None none in
      record { word = subst (λ o. IfSome o IsWord) (sym is) tt; some = tt; stops = stops }

  fetched_formed : IsFetch (fetched here)
  unfolding fetched
  fetched_formed = fetch_by (translated here Fetch here.state.pc 4).looks (translated here Fetch here.state.pc 4).end
      (translated_within 0 1 0 0 here Fetch here.state.pc 4) translated_not_call

  -- ---- the turn

  -- the end of a turn goes with the word that was fetched
  abbrev FitsEnd : End Retired → Option Touch → Type 0
  FitsEnd (Ok r) word = IsSome word
  FitsEnd (Err (Asks what)) word = Unit {0}
  FitsEnd (Err (Interrupt number)) word = Unit {0}
  FitsEnd (Err (Trap cause tval)) word = IsCall cause → IsSome word

  record IsTurn (phase : Phase Retired) : Type 0 where
    pub word : IfSome (word_after phase.looks None) IsWord
    pub parts : Parts phase.looks
    pub quiet : Quiet phase
    pub fits : FitsEnd phase.end (word_after phase.looks None)

  some_fits : (e : End Retired) (o : Option Touch) → IsSome o → FitsEnd e o
  some_fits (Ok r) o some = some
  some_fits (Err (Asks what)) o some = tt
  some_fits (Err (Interrupt number)) o some = tt
  some_fits (Err (Trap cause tval)) o some = λ call. some

  stop_fits : (stop : Stop) (o : Option Touch) → NotCall stop → FitsEnd (Err stop) o
  stop_fits (Asks what) o never = tt
  stop_fits (Interrupt number) o never = tt
  stop_fits (Trap cause tval) o never = λ call. absurd (never call)

  turn_by : (looks : List Look) (e : End ℕ) → reads looks ≤ 0 → IsFetch (record { looks = looks; end = e })
      → IsTurn (record { looks = looks; end = e } >>= with_word)
  turn_by looks (Ok w) none fetch =
      let rest = word_behind w in
      let is : word_after (looks ++ (with_word w).looks) None ≡ word_after looks None =
      word_append looks (with_word w).looks None ∙ no_word (with_word w).looks (word_after looks None) rest.words in
      record {
        word = subst (λ o. IfSome o IsWord) (sym is) fetch.word;
        parts = parts_after looks (with_word w).looks none rest.parts;
        quiet = quiet_more (with_word w).end looks (with_word w).looks none rest.quiet;
        fits = some_fits (with_word w).end (word_after (looks ++ (with_word w).looks) None)
            (subst IsSome (sym is) fetch.some);
      }
  turn_by looks (Err stop) none fetch =
      let is : word_after (looks ++ []) None ≡ word_after looks None = word_append looks [] None in
      record {
        word = subst (λ o. IfSome o IsWord) (sym is) fetch.word;
        parts = parts_after looks [] none no_parts;
        quiet = omega (arith, costs_append 0 0 1 1 looks []);
        fits = stop_fits stop (word_after (looks ++ []) None) fetch.stops;
      }

  uninterrupted_formed : (o : Option ℕ) (p : Phase Retired) → IsTurn p → IsTurn (unless_interrupted o p)
  uninterrupted_formed None p is = is
  uninterrupted_formed (Some number) p is = record { word = tt; parts = no_parts; quiet = omega arith; fits = tt }

  turn_formed : IsTurn (turn here)
  unfolding turn
  turn_formed = uninterrupted_formed (pending_of here.state) (fetched_and_executed here)
      (turn_by (fetched here).looks (fetched here).end (fetched_within 0 0 1 1 here) fetched_formed)

  -- ---- the record

  module _ (looks : List Look) (few : length (places_in looks) ≤ 6) where
    abbrev seen : StepRec
    seen = seen_in here.state looks

    places_padded : padded 6 (places_in looks) ≡ padded 6 (take (length (places_in looks)) (padded 6 (places_in looks)))
    places_padded = ap (padded 6) (sym (take_front (places_in looks) _))

    entries_padded : padded 6 (entries_in looks)
        ≡ padded 6 (take (length (places_in looks)) (padded 6 (entries_in looks)))
    entries_padded = ap (padded 6) (sym (subst (λ n. take n (padded 6 (entries_in looks)) ≡ entries_in looks)
        (as_many_entries looks) (take_front (entries_in looks) _)))

    stopped : (end : Ended) → reads looks ≤ 0 → HasNothing (record seen { ended = end })
    stopped end none = record {
      read = reads_no_first looks None none;
      read_more = reads_no_rest looks None none;
      write = refl;
      write_more = refl;
      value = refl;
      result = refl;
    }

    record_formed : (e : End Retired) (m after : MachineState) (rec : StepRec)
        → IsTurn (record { looks = looks; end = e }) → IfOk e (λ r. AreParts r.write r.write_more)
        → ended_in m seen e ≡ Carried after rec → IsWellFormed rec
    record_formed (Ok r) m after rec is writes e =
        let same : with_done r seen ≡ rec = cc in
        subst IsWellFormed same (record {
          walked = few;
          places = places_padded;
          entries = entries_padded;
          fetch =
              is.word;
          reads = is.parts;
          writes = writes;
          parts = is.fits;
        })
    record_formed (Err (Asks what)) m after rec is writes e = absurd cc
    record_formed (Err (Interrupt number)) m after rec is writes e =
        let same : ◌≡◌ {A = StepRec} (record seen { ended = ended.Interrupt number }) rec = cc in
        subst IsWellFormed same
        (record {
          walked = few;
          places = places_padded;
          entries = entries_padded;
          fetch = is.word;
          reads =
              is.parts;
          writes = no_parts;
          parts = stopped (ended.Interrupt number) is.quiet;
        })
    record_formed (Err (Trap cause tval)) m after rec is writes e =
        let same : ◌≡◌ {A = StepRec} (record seen { ended = ended.Trap cause }) rec = cc in
        subst IsWellFormed same
        (record {
          walked = few;
          places = places_padded;
          entries = entries_padded;
          fetch = is.word;
          reads =
              is.parts;
          writes = no_parts;
          parts = (stopped (ended.Trap cause) is.quiet, is.fits);
        })

  writes_of : (e : End Retired) → IfOk e (WritesInside (length here.memory))
      → IfOk e (λ r. AreParts r.write r.write_more)
  writes_of (Ok r) inside = inside.parts
  writes_of (Err stop) inside = tt

  outcome_formed : (after : MachineState) (rec : StepRec) → turn_outcome here ≡ Carried after rec → IsWellFormed rec
  unfolding turn_outcome
  outcome_formed after rec e =
      let phase : Phase Retired = turn here in
      let ends : outcome_of (machine_in here) phase ≡ Carried after rec =
      unless_kept here.given (outcome_of (machine_in here) phase) after rec e in
      let six = turn_within 1 0 0 0 here in
      let seen_so : ended_in (machine_in here) (seen_in here.state phase.looks) phase.end ≡ Carried after rec =
      ap (λ old. ended_in (machine_in here) old phase.end) (sym (told_is phase.looks here.state six)) ∙ ends in
      record_formed phase.looks (omega (arith, places_costs phase.looks, six)) phase.end (machine_in here) after rec
      turn_formed (writes_of phase.end (turn_writes here)) seen_so

pub well_formed : (split : Bool) (m : MachineState) (due : Due) (then : Stepped StepRec)
    → hart_step split m due ≡ Some then → IsWellFormed then.rec
well_formed split m due then e = outcome_formed (surroundings split due (after_transfers due.transfers m)) then.machine
    then.rec (carried split m due then e)
