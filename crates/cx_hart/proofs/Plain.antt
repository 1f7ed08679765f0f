-- Computations, plain loads and plain stores, as they go to the end of a step.
use Rattle.std.proofs.Common.{◌≡◌, ℕ, ◌+◌, ◌%◌, ◌<◌, ◌≤◌, Bool, List, [], ◌++◌, take, Option, None}
use Rattle.std.proofs.Common.{Some, Ok, Err, refl, sym, ap, subst, ◌∙◌, eq-eqb}
use Rattle.std.proofs.lemmas.Bool.{le-leb, lt-leb}
use Rattle.cx_csr.specs.declared.causes.TheConstants.{INSTRUCTION_ADDRESS_MISALIGNED}
use Rattle.cx_csr.specs.declared.state.State.{State}
use Rattle.cx_decode.specs.Groups.{group_of}
use Rattle.cx_decode.specs.declared.group.Group.TheVariants.{Computes, Loads, Stores}
use Rattle.cx_decode.specs.declared.ins.Ins.{Ins}
use Rattle.cx_exec.specs.Arithmetic.{wrapped}
use Rattle.cx_exec.specs.Effect.{effect_of}
use Rattle.cx_exec.specs.Loads.{loaded_value}
use Rattle.cx_exec.specs.Values.{register, values_of}
use Rattle.cx_exec.specs.declared.asks.Access.TheVariants as access
use Rattle.cx_exec.specs.declared.asks.Need.{Need}
use Rattle.cx_exec.specs.declared.effect.Effect.{Effect}
use Rattle.cx_exec.specs.declared.effect.Misaligned.{Misaligned}
use Rattle.cx_exec.specs.declared.got.Got.TheVariants.{Nothing}
use Rattle.cx_map.specs.Map.{ram_index}
use Rattle.cx_map.specs.declared.TheConstants.{RAM_START}
use Rattle.cx_ram.specs.LittleEndian.{low_bytes, stored}
use Rattle.cx_walk.specs.declared.kind.Kind.TheVariants as kind
use Rattle.cx_walk.specs.declared.walk.Place.{Place}
use Rattle.cx_walk.specs.declared.walk.Place.TheVariants.{Ram, Device}
use Rattle.cx_hart.specs.Accesses.{access_done, accessed, bytes_of, first_write, reading_of, second_write}
use Rattle.cx_hart.specs.After.{after_retired, memory_after_touch}
use Rattle.cx_hart.specs.Effects.{instruction_effect, retired_with}
use Rattle.cx_hart.specs.Ends.{End, ◌>>=◌ as end_then}
use Rattle.cx_hart.specs.Fetch.{translated}
use Rattle.cx_hart.specs.Looks.{First, Look, tell, told}
use Rattle.cx_hart.specs.Outcomes.{IsUnended, here_of, machine, outcome_from, passed_to, plain_address}
use Rattle.cx_hart.specs.Phases.{Phase, found, unseen, ◌>>=◌}
use Rattle.cx_hart.specs.Reaching.{kind_of, reached, reached_whole, target_at}
use Rattle.cx_hart.specs.Step.{NeedsValue, Stepped, with_done}
use Rattle.cx_hart.specs.declared.answer.Asked.TheVariants as asked
use Rattle.cx_hart.specs.Surroundings.{Surroundings}
use Rattle.cx_hart.specs.System.{computed}
use Rattle.cx_hart.specs.Touches.{padded, part_value, touch}
use Rattle.cx_hart.specs.Turn.{executed}
use Rattle.cx_hart.specs.declared.findings.Part.{Part}
use Rattle.cx_hart.specs.declared.findings.Retired.{Retired}
use Rattle.cx_hart.specs.declared.findings.Stop.{Stop}
use Rattle.cx_hart.specs.declared.findings.Stop.TheVariants.{Trap}
use Rattle.cx_hart.specs.declared.findings.Target.{Target}
use Rattle.cx_hart.specs.declared.record.StepRec.{StepRec}
use Rattle.cx_hart.specs.declared.record.Touch.{Touch}
use Rattle.cx_hart.proofs.GoingOn.{GoesAs}
use Rattle.cx_hart.proofs.Padded.{take_front}
use Rattle.cx_hart.proofs.Parts.{low_length}
use Rattle.cx_hart.proofs.Rows.{StoresBytes, computes_ask, computes_free, loads_effect, loads_need, stores_bytes}
use Rattle.cx_hart.proofs.Rows.{stores_need}
use Rattle.cx_hart.proofs.Telling.{told_append}

-- ---- a record that tells of no end

-- what is told as it stands changes nothing
same_done : (r : StepRec) (a b : Option Touch) (c d : Option ℕ) → r.write ≡ a → r.write_more ≡ b → r.value ≡ c
    → r.result ≡ d → record r { write = a; write_more = b; value = c; result = d } ≡ r
same_done r a b c d one two three four = rw (← one, ← two, ← three, ← four) refl

undone : (r : StepRec) (s : State) (e : Effect) → IsUnended r → with_done (retired_with s e) r ≡ r
undone r s e un = same_done r None None None None un.write un.write_more un.value un.result

wrote_only : (r : StepRec) (a : Option Touch) (b : Option Touch) (c d : Option ℕ) → r.write_more ≡ b → r.value ≡ c
    → r.result ≡ d → record r { write = a; write_more = b; value = c; result = d } ≡ record r { write = a }
wrote_only r a b c d two three four = rw (← two, ← three, ← four) refl

-- ---- computations

executed_computed : (here : Surroundings) (word : ℕ) (i : Ins) → Computes ≡ group_of i.op
    → executed here word i
    ≡ unseen (end_then (instruction_effect here.state i Nothing) (λ e. Ok (retired_with here.state e)))
unfolding executed computed
executed_computed here word i is =
    let asks = computes_ask i.op (values_of i here.state.pc here.state.x Nothing) is in
    rw asks (rw asks (rw (computes_free i.op here.state is) refl))

pub computed_stop : (here : Surroundings) (word : ℕ) (i : Ins) (m : Misaligned) → Computes ≡ group_of i.op
    → Err m ≡ effect_of i here.state.pc here.state.x Nothing
    → executed here word i ≡ unseen (Err (Trap INSTRUCTION_ADDRESS_MISALIGNED m.target))
computed_stop here word i m is e = executed_computed here word i is ∙ rw (← e) refl

passed_same : (s : State) (e : Effect) → after_retired (retired_with s e) s ≡ passed_to e.pc e.rd e.value s
unfolding after_retired
passed_same s e = refl

pub computed_outcome : (split : Bool) (memory : List ℕ) (s : State) (word : ℕ) (i : Ins) (e : Effect) (r : StepRec)
    → Computes ≡ group_of i.op → Ok e ≡ effect_of i s.pc s.x Nothing → IsUnended r
    → outcome_from (here_of split None memory s) r (executed (here_of split None memory s) word i)
    ≡ Stepped (machine (passed_to e.pc e.rd e.value s) memory) r
unfolding memory_after_touch
computed_outcome split memory s word i e r is effect un =
    let whole : executed (here_of split None memory s) word i ≡ found (retired_with s e) =
    executed_computed (here_of split None memory s) word i is ∙ rw (← effect) refl in
    rw (whole, undone r s e un, passed_same s e) refl

-- ---- what a store writes

untouched : (memory : List ℕ) → memory_after_touch None memory ≡ memory
unfolding memory_after_touch
untouched memory = refl

taken_low : (len value : ℕ) → take len (padded 4 (low_bytes len value)) ≡ low_bytes len value
taken_low len value =
    subst (λ n. take n (padded 4 (low_bytes len value)) ≡ low_bytes len value) (low_length len value)
    (take_front (low_bytes len value) _)

touch_stored : (memory : List ℕ) (part : Part) (value : ℕ) → RAM_START ≤ part.pa
    → memory_after_touch (Some (touch part value)) memory ≡ stored memory (ram_index part.pa) part.len value
unfolding memory_after_touch touch stored
touch_stored memory part value low = rw (le-leb RAM_START part.pa low, taken_low part.len value) refl

touch_outside : (memory : List ℕ) (part : Part) (value : ℕ) → part.pa < RAM_START
    → memory_after_touch (Some (touch part value)) memory ≡ memory
unfolding memory_after_touch touch
touch_outside memory part value below = rw (lt-leb RAM_START part.pa below) refl

-- ---- an aligned access

abbrev pub access_behind : Surroundings → Ins → Need → Target → Phase Retired
access_behind here i n target = do
  reading ← reading_of here n.access target
  effect ← unseen (instruction_effect here.state i reading.got)
  found (access_done here.state n.access target reading effect)

module _ (here : Surroundings) (i : Ins) (n : Need) where
  accessed_whole : n.va % n.len ≡ 0 → accessed here i n ≡ (translated here (kind_of n.access) n.va n.len >>= λ place.
      found (target_at n place)) >>= access_behind here i n
  unfolding accessed reached reached_whole
  accessed_whole aligned = rw (eq-eqb _ _ aligned) refl

  place_goes : (e : End Place) (looks : List Look) (place : Place) → Ok place ≡ e
      → GoesAs
      (record { looks = looks; end = e } >>= (λ place. found (target_at n place)) >>= access_behind here i n).end
      (record { looks = looks; end = e } >>= (λ place. found (target_at n place)) >>= access_behind here i n).looks
      looks (access_behind here i n (target_at n place))
  place_goes (Err stop) looks place is = absurd cc
  place_goes (Ok other) looks place is =
      let same : other ≡ place = cc in
      let behind : Place → Phase Retired = λ p. access_behind here i n (target_at n p) in
      subst
      (λ (p : Place). GoesAs (access_behind here i n (target_at n other)).end
      ((looks ++ []) ++ (access_behind here i n (target_at n other)).looks) looks
      (access_behind here i n (target_at n p))) same
      (record {
        ends = refl;
        tells = λ r. told_append (looks ++ []) (behind other).looks r ∙ ap (told (behind other).looks)
            (told_append looks [] r);
      })

  place_stops : (e : End Place) (looks : List Look) (stop : Stop) → Err stop ≡ e
      → GoesAs
      (record { looks = looks; end = e } >>= (λ place. found (target_at n place)) >>= access_behind here i n).end
      (record { looks = looks; end = e } >>= (λ place. found (target_at n place)) >>= access_behind here i n).looks
      looks (unseen (Err stop))
  place_stops (Ok place) looks stop is = absurd cc
  place_stops (Err other) looks stop is =
      let same : other ≡ stop = cc in
      record {
        ends = ap (λ s. Err s) same;
        tells = λ r. told_append (looks ++ []) [] r ∙ told_append looks [] r;
      }

-- ---- a plain load, and a plain store

abbrev pub load_need : State → Ins → ℕ → Need
load_need s i len = record { access = access.Load; va = plain_address s i; len = len }

abbrev pub store_need : State → Ins → ℕ → Need
store_need s i len = record { access = access.Store; va = plain_address s i; len = len }

module _ (here : Surroundings) (word : ℕ) (i : Ins) (len : ℕ) (aligned : plain_address here.state i % len ≡ 0) where
  abbrev load_place : Phase Place
  load_place = translated here kind.Load (plain_address here.state i) len

  abbrev store_place : Phase Place
  store_place = translated here kind.Store (plain_address here.state i) len

  executed_load : Loads len ≡ group_of i.op
      → executed here word i ≡ (load_place >>= λ place. found (target_at (load_need here.state i len) place)) >>=
      access_behind here i (load_need here.state i len)
  unfolding executed
  executed_load is =
      rw (loads_need i.op _ len is) (accessed_whole here i (load_need here.state i len) aligned)

  executed_store : Stores len ≡ group_of i.op
      → executed here word i ≡ (store_place >>= λ place. found (target_at (store_need here.state i len) place)) >>=
      access_behind here i (store_need here.state i len)
  unfolding executed
  executed_store is =
      rw (stores_need i.op _ len is) (accessed_whole here i (store_need here.state i len) aligned)

  pub load_goes : (place : Place) → Loads len ≡ group_of i.op → Ok place ≡ load_place.end
      → GoesAs (executed here word i).end (executed here word i).looks load_place.looks
      (access_behind here i (load_need here.state i len) (target_at (load_need here.state i len) place))
  load_goes place is e =
      subst
      (λ (q : Phase Retired). GoesAs q.end q.looks load_place.looks
      (access_behind here i (load_need here.state i len) (target_at (load_need here.state i len) place)))
      (sym (executed_load is))
      (place_goes here i (load_need here.state i len) load_place.end load_place.looks place e)

  pub load_stops : (stop : Stop) → Loads len ≡ group_of i.op → Err stop ≡ load_place.end
      → GoesAs (executed here word i).end (executed here word i).looks load_place.looks (unseen (Err stop))
  load_stops stop is e =
      subst (λ (q : Phase Retired). GoesAs q.end q.looks load_place.looks (unseen (Err stop)))
      (sym (executed_load is))
      (place_stops here i (load_need here.state i len) load_place.end load_place.looks stop e)

  pub store_goes : (place : Place) → Stores len ≡ group_of i.op → Ok place ≡ store_place.end
      → GoesAs (executed here word i).end (executed here word i).looks store_place.looks
      (access_behind here i (store_need here.state i len) (target_at (store_need here.state i len) place))
  store_goes place is e =
      subst
      (λ (q : Phase Retired). GoesAs q.end q.looks store_place.looks
      (access_behind here i (store_need here.state i len) (target_at (store_need here.state i len) place)))
      (sym (executed_store is))
      (place_goes here i (store_need here.state i len) store_place.end store_place.looks place e)

  pub store_stops : (stop : Stop) → Stores len ≡ group_of i.op → Err stop ≡ store_place.end
      → GoesAs (executed here word i).end (executed here word i).looks store_place.looks (unseen (Err stop))
  store_stops stop is e =
      subst (λ (q : Phase Retired). GoesAs q.end q.looks store_place.looks (unseen (Err stop)))
      (sym (executed_store is))
      (place_stops here i (store_need here.state i len) store_place.end store_place.looks stop e)

module _ (split : Bool) (memory : List ℕ) (s : State) (i : Ins) (len pa : ℕ) (r : StepRec) (un : IsUnended r) where
  abbrev here : Surroundings
  here = here_of split None memory s

  abbrev part : Part
  part = record { va = plain_address s i; pa = pa; len = len }

  pub load_outcome : Loads len ≡ group_of i.op
      → outcome_from here r (access_behind here i (load_need s i len) (target_at (load_need s i len) (Ram pa)))
      ≡ Stepped
      (machine (passed_to (wrapped (s.pc + 4)) i.rd (loaded_value i.op (part_value memory part)) s) memory)
      (tell (First (touch part (part_value memory part))) r)
  unfolding reading_of bytes_of memory_after_touch after_retired
  load_outcome is =
      let t : Touch = touch part (part_value memory part) in
      let e : outcome_from here r (access_behind here i (load_need s i len) (target_at (load_need s i len) (Ram pa)))
      ≡ Stepped (machine (passed_to (wrapped (s.pc + 4)) i.rd (loaded_value i.op (part_value memory part)) s) memory)
      (record (tell (First t) r) { write = None; write_more = None; value = None; result = None }) =
      rw (loads_effect i.op _ len is) refl in
      e ∙ ap
      (Stepped (machine (passed_to (wrapped (s.pc + 4)) i.rd (loaded_value i.op (part_value memory part)) s) memory))
      (same_done (tell (First t) r) None None None None un.write un.write_more un.value un.result)

  pub load_asks : outcome_from here r (access_behind here i (load_need s i len) (target_at (load_need s i len)
      (Device pa))) ≡ NeedsValue (asked.Device pa)
  unfolding reading_of bytes_of
  load_asks = refl

  abbrev stored_value : ℕ
  stored_value = register s.x i.rs2

  touched : (value : ℕ) → low_bytes len value ≡ low_bytes len stored_value → touch part value ≡ touch part stored_value
  unfolding touch
  touched value same = rw same refl

  -- what a store comes to, by what becomes of memory
  store_by : (target : Target) (behind : List ℕ) (o : StoresBytes i.op (values_of i s.pc s.x Nothing) len)
      → first_write target o.value ≡ touch part o.value → second_write target o.value ≡ None
      → memory_after_touch (Some (touch part stored_value)) memory ≡ behind
      → outcome_from here r (access_behind here i (store_need s i len) target)
      ≡ Stepped (machine (passed_to (wrapped (s.pc + 4)) 0 0 s) behind)
      (record r { write = Some (touch part stored_value) })
  unfolding reading_of after_retired
  store_by target behind o first second after =
      let bytes = touched o.value o.bytes in
      let e : outcome_from here r (access_behind here i (store_need s i len) target)
      ≡ Stepped (machine (passed_to (wrapped (s.pc + 4)) 0 0 s) (memory_after_touch None (memory_after_touch
      (Some (touch part stored_value)) memory)))
      (record r { write = Some (touch part stored_value); write_more = None; value = None; result = None }) =
      rw (o.effect, first, second, bytes) refl in
      e
      ∙ (ap (λ m. Stepped (machine (passed_to (wrapped (s.pc + 4)) 0 0 s) m)
      (record r { write = Some (touch part stored_value); write_more = None; value = None; result = None }))
      (untouched (memory_after_touch (Some (touch part stored_value)) memory) ∙ after)
      ∙ ap (Stepped (machine (passed_to (wrapped (s.pc + 4)) 0 0 s) behind))
      (wrote_only r (Some (touch part stored_value)) None None None un.write_more un.value un.result))

  pub store_outcome : Stores len ≡ group_of i.op → RAM_START ≤ pa
      → outcome_from here r (access_behind here i (store_need s i len) (target_at (store_need s i len) (Ram pa)))
      ≡ Stepped (machine (passed_to (wrapped (s.pc + 4)) 0 0 s) (stored memory (ram_index pa) len stored_value))
      (record r { write = Some (touch part stored_value) })
  store_outcome is low =
      store_by (target_at (store_need s i len) (Ram pa)) _ (stores_bytes i.op _ len is) refl refl
      (touch_stored memory part stored_value low)

  pub store_passed : Stores len ≡ group_of i.op → pa < RAM_START
      → outcome_from here r (access_behind here i (store_need s i len) (target_at (store_need s i len) (Device pa)))
      ≡ Stepped (machine (passed_to (wrapped (s.pc + 4)) 0 0 s) memory)
      (record r { write = Some (touch part stored_value) })
  store_passed is below =
      store_by (target_at (store_need s i len) (Device pa)) _ (stores_bytes i.op _ len is) refl refl
      (touch_outside memory part stored_value below)
