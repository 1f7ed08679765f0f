-- How each kind of instruction goes to the end of its step.
use Rattle.std.proofs.Common.{◌≡◌, ℕ, ◌+◌, ◌%◌, ◌<◌, ◌≤◌, Bool, List, [], ◌∷◌, None, Some, Ok, Err, refl, sym, ap, ◌∙◌}
use Rattle.std.proofs.Common.{subst}
use Rattle.cx_csr.specs.declared.causes.TheConstants.{INSTRUCTION_ADDRESS_MISALIGNED}
use Rattle.cx_csr.specs.declared.state.State.{State}
use Rattle.cx_decode.specs.Groups.{group_of}
use Rattle.cx_decode.specs.declared.group.Group.TheVariants.{Computes, Loads, Stores}
use Rattle.cx_decode.specs.declared.ins.Ins.{Ins}
use Rattle.cx_exec.specs.Arithmetic.{wrapped}
use Rattle.cx_exec.specs.Effect.{effect_of}
use Rattle.cx_exec.specs.Loads.{loaded_value}
use Rattle.cx_exec.specs.Values.{register}
use Rattle.cx_exec.specs.declared.effect.Effect.{Effect}
use Rattle.cx_exec.specs.declared.effect.Misaligned.{Misaligned}
use Rattle.cx_exec.specs.declared.got.Got.TheVariants.{Nothing}
use Rattle.cx_map.specs.Map.{ram_index}
use Rattle.cx_map.specs.declared.TheConstants.{RAM_START}
use Rattle.cx_ram.specs.LittleEndian.{stored}
use Rattle.cx_walk.specs.declared.kind.Kind.{Kind}
use Rattle.cx_walk.specs.declared.kind.Kind.TheVariants as kind
use Rattle.cx_walk.specs.declared.walk.Place.{Place}
use Rattle.cx_walk.specs.declared.walk.Place.TheVariants.{Ram, Device}
use Rattle.cx_hart.specs.Fetch.{translated}
use Rattle.cx_hart.specs.Looks.{First, Learns, tell, told}
use Rattle.cx_hart.specs.Ends.{End}
use Rattle.cx_hart.specs.Outcomes.{EndsStep, EndsStepThere, IsUnended, here_of, machine, outcome_from, passed_to}
use Rattle.cx_hart.specs.Outcomes.{plain_address}
use Rattle.cx_hart.specs.Phases.{Phase, unseen}
use Rattle.cx_hart.specs.Surroundings.{Surroundings}
use Rattle.cx_hart.specs.declared.findings.Retired.{Retired}
use Rattle.cx_hart.specs.Reaching.{target_at}
use Rattle.cx_hart.specs.Step.{Stepped}
use Rattle.cx_hart.specs.Touches.{part_value, touch}
use Rattle.cx_hart.specs.Turn.{executed}
use Rattle.cx_hart.specs.declared.answer.Asked.TheVariants as asked
use Rattle.cx_hart.specs.declared.answer.Went.{Went}
use Rattle.cx_hart.specs.declared.answer.Went.TheVariants as went
use Rattle.cx_hart.specs.declared.findings.Stop.{Stop}
use Rattle.cx_hart.specs.declared.findings.Stop.TheVariants.{Trap}
use Rattle.cx_hart.specs.declared.record.StepRec.{StepRec}
use Rattle.cx_hart.specs.declared.record.Touch.{Touch}
use Rattle.cx_hart.proofs.GoingOn.{ends_as, outcome_as, unended_told}
use Rattle.cx_hart.proofs.Plain.{access_behind, computed_outcome, computed_stop, load_asks, load_goes, load_need}
use Rattle.cx_hart.proofs.Plain.{load_outcome, load_stops, store_goes, store_need, store_outcome, store_passed}
use Rattle.cx_hart.proofs.Plain.{store_stops}

module _ (Before Middle After : StepRec → Type 0) (split : Bool) (memory : List ℕ) (s : State) (word : ℕ) (i : Ins)
  where
    abbrev here : Surroundings
    here = here_of split None memory s

    -- ---- computations

    pub compute_ends : (e : Effect) (new : State) → Computes ≡ group_of i.op → Ok e ≡ effect_of i s.pc s.x Nothing
        → new ≡ passed_to e.pc e.rd e.value s
        → EndsStep Before Before here (executed here word i) went.Stepped (machine new memory)
    compute_ends e new is effect state r un known = (
      r,
      (
        computed_outcome split memory s word i e r is effect un
            ∙ ap (λ (n : State). Stepped (machine n memory) r) (sym state),
        known,
      ),
    )

    pub compute_stops : (m : Misaligned) (w : Went) (new : State) → Computes ≡ group_of i.op
        → Err m ≡ effect_of i s.pc s.x Nothing
        → EndsStepThere Before After None s (unseen (Err (Trap INSTRUCTION_ADDRESS_MISALIGNED m.target))) w new
        → EndsStep Before After here (executed here word i) w (machine new memory)
    compute_stops m w new is effect ends =
        subst (λ (p : Phase Retired). EndsStep Before After here p w (machine new memory))
        (sym (computed_stop here word i m is effect)) (ends split memory)

    -- ---- plain loads and stores

    module _ (len : ℕ) (aligned : plain_address s i % len ≡ 0) (va : ℕ) (is_va : va ≡ plain_address s i) where
      -- what was found at the address, and what was told on the way
      module _ (k : Kind) where
        same_end : (e : End Place) → e ≡ (translated here k va len).end
            → e ≡ (translated here k (plain_address s i) len).end
        same_end e at = rw is_va at at

        same_learns : Learns Before Middle (translated here k va len).looks
            → Learns Before Middle (translated here k (plain_address s i) len).looks
        same_learns learns = rw is_va at learns

      pub load_ends : (pa value extended : ℕ) (t : Touch) (new : State) → Loads len ≡ group_of i.op
          → Ok (Ram pa) ≡ (translated here kind.Load va len).end
          → Learns Before Middle (translated here kind.Load va len).looks
          → value ≡ part_value memory (record { va = va; pa = pa; len = len })
          → t ≡ touch (record { va = va; pa = pa; len = len }) value → Learns Middle After (First t ∷ [])
          → extended ≡ loaded_value i.op value → new ≡ passed_to (wrapped (s.pc + 4)) i.rd extended s
          → EndsStep Before After here (executed here word i) went.Stepped (machine new memory)
      load_ends pa value extended t new is at learns is_value is_touch first is_extended is_new =
          let n = load_need s i len in
          let is_t : t ≡ touch (record { va = plain_address s i; pa = pa; len = len })
          (part_value memory (record { va = va; pa = pa; len = len })) = rw (is_va, is_value) at is_touch in
          let state : new ≡ passed_to (wrapped (s.pc + 4)) i.rd
          (loaded_value i.op (part_value memory (record { va = va; pa = pa; len = len }))) s =
          rw (is_extended, is_value) at is_new in
          ends_as Before Middle After here went.Stepped (machine new memory) (executed here word i)
          (access_behind here i n (target_at n (Ram pa))) (translated here kind.Load (plain_address s i) len).looks
          (load_goes here word i len aligned (Ram pa) is (same_end kind.Load (Ok (Ram pa)) at))
          (same_learns kind.Load learns)
          (λ r un known. (
            tell (First t) r,
            (
              load_outcome split memory s i len pa r un is
                  ∙ (ap (λ (m : State). Stepped (machine m memory) (tell (First (touch (record {
                    va = plain_address s i;
                    pa = pa;
                    len = len;
                  }) (part_value memory (record { va = va; pa = pa; len = len })))) r)) (sym state)
                  ∙ ap (λ (x : Touch). Stepped (machine new memory) (tell (First x) r)) (sym is_t)),
              first r known,
            ),
          ))

      pub load_waits : (pa : ℕ) → Loads len ≡ group_of i.op → Ok (Device pa) ≡ (translated here kind.Load va len).end
          → EndsStep Before After here (executed here word i) (went.NeedsValue (asked.Device pa)) (machine s memory)
      load_waits pa is at r un known =
          let n = load_need s i len in (
            refl,
            sym (outcome_as Before Middle After here (went.NeedsValue (asked.Device pa)) (machine s memory)
                (executed here word i) (access_behind here i n (target_at n (Device pa)))
                (translated here kind.Load (plain_address s i) len).looks r
                (load_goes here word i len aligned (Device pa) is (same_end kind.Load (Ok (Device pa)) at)))
                ∙ load_asks split memory s i len pa (told (translated here kind.Load (plain_address s i) len).looks r)
                (unended_told (translated here kind.Load (plain_address s i) len).looks r un),
          )

      pub load_traps : (stop : Stop) (w : Went) (new : State) → Loads len ≡ group_of i.op
          → Err stop ≡ (translated here kind.Load va len).end
          → Learns Before Middle (translated here kind.Load va len).looks
          → EndsStepThere Middle After None s (unseen (Err stop)) w new
          → EndsStep Before After here (executed here word i) w (machine new memory)
      load_traps stop w new is at learns ends =
          ends_as Before Middle After here w (machine new memory) (executed here word i) (unseen (Err stop))
          (translated here kind.Load (plain_address s i) len).looks
          (load_stops here word i len aligned stop is (same_end kind.Load (Err stop) at))
          (same_learns kind.Load learns) (ends split memory)

      -- what a store leaves, by what becomes of memory
      store_leaves : (place : Place) (pa value : ℕ) (t : Touch) (new : State) (behind : List ℕ)
          → Stores len ≡ group_of i.op → Ok place ≡ (translated here kind.Store va len).end
          → Learns Before Middle (translated here kind.Store va len).looks → value ≡ register s.x i.rs2
          → t ≡ touch (record { va = va; pa = pa; len = len }) value
          → ((r : StepRec) → Middle r → After (record r { write = Some t }))
          → new ≡ passed_to (wrapped (s.pc + 4)) 0 0 s
          → ((r : StepRec) → IsUnended r
          → outcome_from here r (access_behind here i (store_need s i len) (target_at (store_need s i len) place))
          ≡ Stepped (machine (passed_to (wrapped (s.pc + 4)) 0 0 s) behind) (record r {
            write = Some (touch (record { va = plain_address s i; pa = pa; len = len }) (register s.x i.rs2));
          }))
          → EndsStep Before After here (executed here word i) went.Stepped (machine new behind)
      store_leaves place pa value t new behind is at learns is_value is_touch wrote is_new outcome =
          let n = store_need s i len in
          let is_t : t ≡ touch (record { va = plain_address s i; pa = pa; len = len }) (register s.x i.rs2) =
          rw (is_va, is_value) at is_touch in
          ends_as Before Middle After here went.Stepped (machine new behind) (executed here word i)
          (access_behind here i n (target_at n place)) (translated here kind.Store (plain_address s i) len).looks
          (store_goes here word i len aligned place is (same_end kind.Store (Ok place) at))
          (same_learns kind.Store learns)
          (λ r un known. (
            record r { write = Some t },
            (
              outcome r un
                  ∙ (ap (λ (m : State). Stepped (machine m behind) (record r {
                    write = Some (touch (record { va = plain_address s i; pa = pa; len = len }) (register s.x i.rs2));
                  })) (sym is_new)
                  ∙ ap (λ (x : Touch). Stepped (machine new behind) (record r { write = Some x })) (sym is_t)),
              wrote r known,
            ),
          ))

      pub store_ends : (pa value : ℕ) (t : Touch) (new : State) (behind : List ℕ) → Stores len ≡ group_of i.op
          → Ok (Ram pa) ≡ (translated here kind.Store va len).end
          → Learns Before Middle (translated here kind.Store va len).looks → value ≡ register s.x i.rs2
          → t ≡ touch (record { va = va; pa = pa; len = len }) value
          → ((r : StepRec) → Middle r → After (record r { write = Some t }))
          → new ≡ passed_to (wrapped (s.pc + 4)) 0 0 s → RAM_START ≤ pa
          → behind ≡ stored memory (ram_index pa) len value
          → EndsStep Before After here (executed here word i) went.Stepped (machine new behind)
      store_ends pa value t new behind is at learns is_value is_touch wrote is_new low is_behind =
          let memory_behind : behind ≡ stored memory (ram_index pa) len (register s.x i.rs2) =
          rw is_value at is_behind in
          store_leaves (Ram pa) pa value t new behind is at learns is_value is_touch wrote is_new
          (λ r un. store_outcome split memory s i len pa r un is low
          ∙ ap (λ (m : List ℕ). Stepped (machine (passed_to (wrapped (s.pc + 4)) 0 0 s) m) (record r {
            write = Some (touch (record { va = plain_address s i; pa = pa; len = len }) (register s.x i.rs2));
          })) (sym memory_behind))

      pub store_passes : (pa value : ℕ) (t : Touch) (new : State) → Stores len ≡ group_of i.op
          → Ok (Device pa) ≡ (translated here kind.Store va len).end
          → Learns Before Middle (translated here kind.Store va len).looks → value ≡ register s.x i.rs2
          → t ≡ touch (record { va = va; pa = pa; len = len }) value
          → ((r : StepRec) → Middle r → After (record r { write = Some t }))
          → new ≡ passed_to (wrapped (s.pc + 4)) 0 0 s → pa < RAM_START
          → EndsStep Before After here (executed here word i) went.Stepped (machine new memory)
      store_passes pa value t new is at learns is_value is_touch wrote is_new below =
          store_leaves (Device pa) pa value t new memory is at learns is_value is_touch wrote is_new
          (λ r un. store_passed split memory s i len pa r un is below)

      pub store_traps : (stop : Stop) (w : Went) (new : State) → Stores len ≡ group_of i.op
          → Err stop ≡ (translated here kind.Store va len).end
          → Learns Before Middle (translated here kind.Store va len).looks
          → EndsStepThere Middle After None s (unseen (Err stop)) w new
          → EndsStep Before After here (executed here word i) w (machine new memory)
      store_traps stop w new is at learns ends =
          ends_as Before Middle After here w (machine new memory) (executed here word i) (unseen (Err stop))
          (translated here kind.Store (plain_address s i) len).looks
          (store_stops here word i len aligned stop is (same_end kind.Store (Err stop) at))
          (same_learns kind.Store learns) (ends split memory)
