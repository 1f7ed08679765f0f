-- The law of user steps: what a step in user mode shows is possible, and what it leaves is the effect of that alone.
use Rattle.std.proofs.Common.{◌≡◌, ℕ, ◌%◌, ◌^◌, ◌<◌, ◌==◌, ◌&&◌, Bool, true, false, ◌⊎◌, inl, inr}
use Rattle.std.proofs.Common.{List, [], ◌∷◌, length, replicate, ◌-◌, All, Option, None, Some, IfSome, IfOk, Ok}
use Rattle.std.proofs.Common.{Err, bit_and, slice_index, option_map, if◌then◌else◌, refl, sym, ap, ap₂, subst, ◌∙◌, arith, lt-ltb, eqb-true}
use Rattle.std.proofs.Common.{true≢false, find, ⊎_elim}
use Rattle.std.proofs.lemmas.Bool.{and_from, and_parts}
use Rattle.std.proofs.lemmas.List.Elements.{All-head, All-tail}
use Rattle.std.proofs.lemmas.Nat.{and_mask}
use Rattle.cx_csr.specs.Keeps.{Keeps}
use Rattle.cx_csr.specs.declared.state.State.{State}
use Rattle.cx_decode.specs.Decoding.{all_ops, decoded, is_word_of_row}
use Rattle.cx_decode.specs.Operands.{ins_of}
use Rattle.cx_decode.specs.declared.ins.Ins.{Ins}
use Rattle.cx_decode.specs.declared.op.Op.{Op}
use Rattle.cx_decode.specs.declared.op.Op.TheVariants as rows
use Rattle.cx_exec.specs.Effect.{done_of}
use Rattle.cx_exec.specs.Values.{registers_with}
use Rattle.cx_hart.specs.After.{after_control, after_retired}
use Rattle.cx_hart.specs.Ends.{End}
use Rattle.cx_hart.specs.Looks.{told}
use Rattle.cx_hart.specs.Step.{Outcome, Stepped, blank, ended_in, machine_in, outcome_of}
use Rattle.cx_hart.specs.Step.{turn_outcome, with_done}
use Rattle.cx_hart.specs.Surroundings.{Surroundings}
use Rattle.cx_hart.specs.Touches.{padded, touch}
use Rattle.cx_hart.specs.Turn.{executed, turn}
use Rattle.cx_hart.specs.WellFormed.{HasItsParts, HasNothing, IsWellFormed}
use Rattle.cx_hart.specs.declared.findings.Control.{Control}
use Rattle.cx_hart.specs.declared.findings.Control.TheVariants.{Untouched}
use Rattle.cx_hart.specs.declared.findings.Part.{Part}
use Rattle.cx_hart.specs.declared.findings.Retired.{Retired}
use Rattle.cx_hart.specs.declared.findings.Stop.TheVariants.{Asks, Interrupt, Trap}
use Rattle.cx_hart.specs.declared.record.Ended.{Ended}
use Rattle.cx_hart.specs.declared.record.Ended.TheVariants as ended
use Rattle.cx_hart.specs.declared.record.StepRec.{StepRec}
use Rattle.cx_hart.specs.declared.record.Touch.{Touch}
use Rattle.cx_hart.proofs.Ends.{unless_kept}
use Rattle.cx_hart.proofs.Keepable.{FitsGiven}
use Rattle.cx_machine.specs.Machine.{MachineState}
use Rattle.cx_map.specs.Bytes.{AreBytes}
use Rattle.cx_ram.specs.LittleEndian.{loaded, low_bytes}
use Rattle.cx_walk.specs.Walks.{address_of}
use Rattle.cx_slices.specs.Bytes.{Byte, Shows}
use Rattle.cx_observe.specs.Effects.{next_words, program_words, words_after, words_behind}
use Rattle.cx_observe.specs.Observation.{access_seen, is_chosen, is_shown, observation_of, observed_with}
use Rattle.cx_observe.specs.Possible.{IsEnvironmentCall, Possible, Retires, are_words, is_word, is_word_or_none}
use Rattle.cx_observe.specs.Seeing.{bytes_on, bytes_shown, sights}
use Rattle.cx_observe.specs.declared.TheConstants.{ECALL}
use Rattle.cx_observe.specs.declared.obs.Obs.{Obs}
use Rattle.cx_observe.proofs.Sights.{Shows-agree, Shows-append}
use Rattle.cx_observe.proofs.UserAccesses.{read_in}
use Rattle.cx_observe.proofs.UserBytes.{IsUserPart, loaded-low_bytes_of, part_shows, value_fits}
use Rattle.cx_observe.proofs.UserCalls.{Calls, executed_calls}
use Rattle.cx_observe.proofs.UserReadings.{ram_first, user_sees}
use Rattle.cx_observe.proofs.UserRetired.{UserRetires, executed_retires}
use Rattle.cx_observe.proofs.UserRows.{find_passes}
use Rattle.cx_observe.proofs.UserTargets.{user_part}
use Rattle.cx_observe.proofs.UserTurns.{
  IsLoud,
  Turned,
  fetch_phase,
  first_told,
  rest_told,
  told_before,
  told_fetch,
  told_read,
  told_rest,
  turned,
  word_at,
  word_part,
  word_told,
}
use Rattle.cx_hart.proofs.Found.{fetched_inside}
use Rattle.cx_hart.specs.Stretches.{IsStretch}
use Rattle.cx_observe.proofs.Stepping.{same_obs}
use Rattle.cx_walk.specs.declared.kind.Kind.TheVariants as kind

-- ---- the word of a call

ins_op : (op : Op) (word : ℕ) → (ins_of op word).op ≡ op
ins_op rows.Lui word = refl
ins_op op word = refl

row_by : (word : ℕ) (i : Ins) (found : Option Op) → find (is_word_of_row word) all_ops ≡ found
    → option_map (λ op. ins_of op word) found ≡ Some i → is_word_of_row word i.op ≡ true
row_by word i None is spelled = absurd cc
row_by word i (Some op) is spelled =
    let same : ins_of op word ≡ i = cc in
    let op_is : op ≡ i.op = sym (ins_op op word) ∙ ap (λ (j : Ins). j.op) same in
    subst (λ (o : Op). is_word_of_row word o ≡ true) op_is
    (subst (λ (o : Option Op). IfSome o (λ q. is_word_of_row word q ≡ true)) is
    (find_passes (is_word_of_row word) all_ops))

row_is : (word : ℕ) (i : Ins) → decoded word ≡ Some i → is_word_of_row word i.op ≡ true
unfolding decoded
row_is word i spelled = row_by word i (find (is_word_of_row word) all_ops) refl spelled

call_word : (word : ℕ) (i : Ins) → word < 2 ^ 32 → decoded word ≡ Some i → i.op ≡ rows.Ecall → word ≡ ECALL
call_word word i fits spelled is =
    let row : is_word_of_row word rows.Ecall ≡ true
    = subst (λ (o : Op). is_word_of_row word o ≡ true) is (row_is word i spelled) in
    let masked : bit_and word (2 ^ 32 - 1) ≡ ECALL = eqb-true (bit_and word (2 ^ 32 - 1)) ECALL row in
    let whole : bit_and word (2 ^ 32 - 1) ≡ word % 2 ^ 32 = and_mask word 32 in
    let small : word % 2 ^ 32 ≡ word = omega arith in
    sym small ∙ (sym whole ∙ masked)

-- ---- what is observed

-- The step is chosen, and the observation is that of its record and of the word that it fetched.
pub record IsObserved (rec : StepRec) (root : ℕ) (o : Obs) : Type 0 where
  pub user : rec.before.mode ≡ 0
  pub shown : is_shown rec.ended ≡ true
  pub fetch : Touch
  pub fetched : rec.fetch ≡ Some fetch
  pub is : observed_with rec fetch ≡ o

observed_by : (rec : StepRec) (root : ℕ) (o : Obs) (t : Bool) (f : Option Touch) → is_chosen rec root ≡ t
    → rec.fetch ≡ f → (if t then option_map (observed_with rec) f else None) ≡ Some o → IsObserved rec root o
observed_by rec root o true None chosen fetched went = absurd cc
observed_by rec root o true (Some t) chosen fetched went =
    let first : ((rec.before.mode == 0) ≡ true) × (((rec.before.csr.satp == root) && is_shown rec.ended) ≡ true)
    = and_parts (rec.before.mode == 0) ((rec.before.csr.satp == root) && is_shown rec.ended) chosen in
    let second : ((rec.before.csr.satp == root) ≡ true) × (is_shown rec.ended ≡ true)
    = and_parts (rec.before.csr.satp == root) (is_shown rec.ended) first.1 in
    record {
      user = eqb-true rec.before.mode 0 first.0;
      shown = second.1;
      fetch = t;
      fetched = fetched;
      is = cc;
    }
observed_by rec root o false f chosen fetched went = absurd cc

pub observed_is : (rec : StepRec) (root : ℕ) (o : Obs) → observation_of rec root ≡ Some o → IsObserved rec root o
unfolding observation_of
observed_is rec root o went = observed_by rec root o (is_chosen rec root) rec.fetch refl refl went

-- ---- the numbers of a state that keeps the rules

are_words_from : (xs : List ℕ) → All (λ v. v < 2 ^ 32) xs → are_words xs ≡ true
are_words_from [] all = refl
are_words_from (x ∷ xs) all = and_from (is_word x) (are_words xs)
    (lt-ltb x (2 ^ 32) (All-head (λ v. v < 2 ^ 32) x xs all))
    (are_words_from xs (All-tail (λ v. v < 2 ^ 32) x xs all))

step_after : (a c : MachineState) (b d : StepRec) → ◌≡◌ {A = Outcome} (Stepped a b) (Stepped c d) → a ≡ c
step_after a c b d is = cc

pub step_rec : (a c : MachineState) (b d : StepRec) → ◌≡◌ {A = Outcome} (Stepped a b) (Stepped c d) → b ≡ d
step_rec a c b d is = cc

same_touch : (f t : Touch) → Some f ≡ Some t → f ≡ t
same_touch f t is = cc

-- What a step comes to that shows this.
pub record UserStep (after : MachineState) (rec : StepRec) (o : Obs) : Type 0 where
  pub possible : Possible o
  pub next : rec.ended ≡ ended.Retired → program_words after.state.pc after.state.x ≡ next_words o

after_x : (c : Control) (s : State) → c ≡ Untouched → (after_control c s).x ≡ s.x
after_x c s is = ap (λ (k : Control). (after_control k s).x) is

after_pc : (r : Retired) (s : State) → (after_retired r s).pc ≡ r.effect.pc
unfolding after_retired
after_pc r s = refl

after_registers : (r : Retired) (s : State) → r.control ≡ Untouched
    → (after_retired r s).x ≡ registers_with s.x r.effect.rd r.effect.value
unfolding after_retired
after_registers r s is = ap (λ (x : List ℕ). registers_with x r.effect.rd r.effect.value) (after_x r.control s is)

trap_nothing : (rec : StepRec) (cause : ℕ) → rec.ended ≡ ended.Trap cause → IsWellFormed rec → HasNothing rec
trap_nothing rec cause is formed =
    (subst (λ (e : Ended). HasItsParts e rec) is formed.parts).0

calls_so : {P : Type 0} (op : Op) (e : End Retired) (cause tval : ℕ) → Calls op e → e ≡ Err (Trap cause tval)
    → cause ≡ 8 → (op ≡ rows.Ecall → P) → P
calls_so op e cause tval calls is eight rest = ⊎_elim (λ quiet. absurd (quiet eight)) rest (subst (Calls op) is calls)

touch_bytes : (p : Part) (w : ℕ) → p.len ≡ 4 → (touch p w).bytes ≡ padded 4 (low_bytes 4 w)
unfolding touch
touch_bytes p w is = ap (λ (l : ℕ). padded 4 (low_bytes l w)) is

word_back : (w : ℕ) → w < 2 ^ 32 → loaded (padded 4 (low_bytes 4 w)) 0 4 ≡ w
word_back w fits = loaded-low_bytes_of 4 w (replicate (4 - length (low_bytes 4 w)) 0) fits

module _ (pages : ℕ) (here : Surroundings) (keeps : Keeps pages here.state) (fit : AreBytes here.memory)
    (fits : FitsGiven here.given) (user : here.state.mode ≡ 0) where
  abbrev IsTurned : Type 0
  IsTurned = Turned here (fetch_phase here).looks (fetch_phase here).end (turn here)

  -- ---- the fetch

  fetch_part : (t : IsTurned) → IsUserPart here.memory here.state.csr.satp (word_part here t.place)
  fetch_part t = user_part here kind.Fetch here.state.pc 4 4 t.place user keeps.pc.wide t.is
      (subst (λ e. IfOk e (λ p. IsStretch (length here.memory) (address_of p) 4)) t.is
      (fetched_inside here keeps.pc.multiple))

  word_small : (t : IsTurned) → word_at here t.place < 2 ^ 32
  word_small t = value_fits here.memory (word_part here t.place) fit

  possible_from : (t : IsTurned) (o : Obs) (device : List Byte) → o.pc ≡ here.state.pc → o.x ≡ here.state.x
      → o.word ≡ word_at here t.place → is_word_or_none o.value ≡ true
      → Shows (user_sees here.memory here.state.csr.satp device) (bytes_shown o.read) → IsEnvironmentCall o ⊎ Retires o
      → Possible o
  unfolding sights
  possible_from t o device pc_is x_is word_is value shows does =
      let fetch : Shows (user_sees here.memory here.state.csr.satp device) (bytes_on o.pc (low_bytes 4 o.word))
      = subst (λ (a : ℕ). Shows (user_sees here.memory here.state.csr.satp device) (bytes_on a (low_bytes 4 o.word)))
      (sym pc_is)
      (subst (λ (w : ℕ). Shows (user_sees here.memory here.state.csr.satp device)
      (bytes_on here.state.pc (low_bytes 4 w))) (sym word_is)
      (part_shows here.memory here.state.csr.satp (user_sees here.memory here.state.csr.satp device)
      (word_part here t.place) fit (ram_first here.memory here.state.csr.satp device) (fetch_part t))) in
      record {
        pc = ap is_word pc_is ∙ lt-ltb here.state.pc (2 ^ 32) keeps.pc.wide;
        count = ap length x_is ∙ keeps.registers;
        zero = ap (λ (x : List ℕ). slice_index x 0) x_is ∙ keeps.zero_register;
        words = ap are_words x_is ∙ are_words_from here.state.x keeps.wide;
        word = subst (λ (w : ℕ). w < 2 ^ 32) (sym word_is) (word_small t);
        value = value;
        aligned = ap (λ (a : ℕ). a % 4) pc_is ∙ keeps.pc.multiple;
        agree = Shows-agree (user_sees here.memory here.state.csr.satp device) (sights o)
            (Shows-append (user_sees here.memory here.state.csr.satp device) (bytes_on o.pc (low_bytes 4 o.word))
            (bytes_shown o.read) fetch shows);
        does = does;
      }

  -- ---- a step that retires

  abbrev retired_obs : IsTurned → Retired → Obs
  retired_obs t r = record {
    pc = here.state.pc;
    x = here.state.x;
    word = word_at here t.place;
    read = read_in (executed here (word_at here t.place) t.ins);
    value = r.result;
    write = access_seen r.write r.write_more;
  }

  retired_possible : (t : IsTurned) (r : Retired)
      → UserRetires here t.ins r (executed here (word_at here t.place) t.ins) → Possible (retired_obs t r)
  retired_possible t r by = possible_from t (retired_obs t r) by.did.device refl refl refl by.did.value by.did.shows
      (inr (record {
        ins = t.ins;
        spelled = t.spelled;
        user = by.user;
        aligned = by.did.aligned;
        read = by.did.reads;
        value = by.did.takes;
        effect = r.effect;
        does = by.did.does;
        write = by.did.writes;
      }))

  retired_next : (t : IsTurned) (r : Retired)
      → UserRetires here t.ins r (executed here (word_at here t.place) t.ins)
      → program_words (after_retired r here.state).pc (after_retired r here.state).x ≡ next_words (retired_obs t r)
  unfolding next_words
  retired_next t r by =
      ap₂ program_words (after_pc r here.state) (after_registers r here.state by.did.control)
      ∙ (ap (λ e. words_after (retired_obs t r) (done_of here.state.x e)) (sym by.did.does)
      ∙ ap (words_behind (retired_obs t r)) (sym t.spelled))

  -- ---- a step that calls

  abbrev call_obs : IsTurned → Obs
  call_obs t = record {
    pc = here.state.pc;
    x = here.state.x;
    word = word_at here t.place;
    read = None;
    value = None;
    write = None;
  }

  call_possible : (t : IsTurned) → t.ins.op ≡ rows.Ecall → Possible (call_obs t)
  call_possible t is = possible_from t (call_obs t) [] refl refl refl refl tt (inl (record {
    word = call_word (word_at here t.place) t.ins (word_small t) t.spelled is;
    read = refl;
    value = refl;
    write = refl;
  }))

  -- ---- the record and its observation

  abbrev told_here : StepRec
  told_here = told (turn here).looks (blank here.state)

  before_is : told_here.before ≡ here.state
  before_is = told_before (turn here).looks (blank here.state)

  fetch_is : (t : IsTurned) (f : Touch) → told_here.fetch ≡ Some f
      → loaded f.bytes 0 4 ≡ word_at here t.place
  fetch_is t f is =
      let same : f ≡ touch (word_part here t.place) (word_at here t.place)
      = same_touch f (touch (word_part here t.place) (word_at here t.place))
      (sym is ∙ (told_fetch (turn here).looks (blank here.state) ∙ word_told here t)) in
      ap (λ (g : Touch). loaded g.bytes 0 4) same
      ∙ (ap (λ bs. loaded bs 0 4) (touch_bytes (word_part here t.place) (word_at here t.place) refl)
      ∙ word_back (word_at here t.place) (word_small t))

  read_is : (t : IsTurned) → access_seen told_here.read told_here.read_more
      ≡ read_in (executed here (word_at here t.place) t.ins)
  read_is t = ap₂ access_seen
      (told_read (turn here).looks (blank here.state) ∙ first_told here t)
      (told_rest (turn here).looks (blank here.state) ∙ rest_told here t)

  retired_is : (t : IsTurned) (r : Retired) (f : Touch) → told_here.fetch ≡ Some f
      → observed_with (with_done r told_here) f ≡ retired_obs t r
  retired_is t r f is = same_obs (observed_with (with_done r told_here) f) (retired_obs t r)
      (ap (λ (s : State). s.pc) before_is) (ap (λ (s : State). s.x) before_is) (fetch_is t f is) (read_is t) refl refl

  call_is : (t : IsTurned) (cause : ℕ) (f : Touch) → told_here.fetch ≡ Some f
      → HasNothing (record told_here { ended = ended.Trap cause })
      → observed_with (record told_here { ended = ended.Trap cause }) f ≡ call_obs t
  call_is t cause f is none = same_obs (observed_with (record told_here { ended = ended.Trap cause }) f) (call_obs t)
      (ap (λ (s : State). s.pc) before_is) (ap (λ (s : State). s.x) before_is) (fetch_is t f is)
      (ap (λ (a : Option Touch). access_seen a told_here.read_more) none.read) none.result
      (ap (λ (a : Option Touch). access_seen a told_here.write_more) none.write)

  -- ---- the outcome

  abbrev Ends : End Retired → MachineState → StepRec → Type 0
  Ends e after rec = ended_in (machine_in here) told_here e ≡ Stepped after rec

  by_retired : (r : Retired) (after : MachineState) (rec : StepRec) (root : ℕ) (o : Obs) → (turn here).end ≡ Ok r
      → Ends (Ok r) after rec → IsObserved rec root o → UserStep after rec o
  by_retired r after rec root o is outcome seen =
      let t : IsTurned = turned here (subst IsLoud (sym is) tt) in
      let by : UserRetires here t.ins r (executed here (word_at here t.place) t.ins)
      = executed_retires pages here (word_at here t.place) t.ins r keeps user fit fits (sym t.ends ∙ is) in
      let rec_is : with_done r told_here ≡ rec = step_rec _ after (with_done r told_here) rec outcome in
      let fetched : told_here.fetch ≡ Some seen.fetch
      = ap (λ (q : StepRec). q.fetch) rec_is ∙ seen.fetched in
      let o_is : retired_obs t r ≡ o
      = sym (retired_is t r seen.fetch fetched)
      ∙ (ap (λ (q : StepRec). observed_with q seen.fetch) rec_is ∙ seen.is) in
      record {
        possible = subst Possible o_is (retired_possible t r by);
        next = λ retired.
            ap (λ (m : MachineState). program_words m.state.pc m.state.x)
            (sym (step_after _ after (with_done r told_here) rec outcome))
            ∙ (retired_next t r by ∙ ap next_words o_is);
      }

  by_call : (cause tval : ℕ) (after : MachineState) (rec : StepRec) (root : ℕ) (o : Obs)
      → (turn here).end ≡ Err (Trap cause tval) → Ends (Err (Trap cause tval)) after rec → IsObserved rec root o
      → IsWellFormed rec → UserStep after rec o
  by_call cause tval after rec root o is outcome seen formed =
      let rec_is : record told_here { ended = ended.Trap cause } ≡ rec
      = step_rec _ after (record told_here { ended = ended.Trap cause }) rec outcome in
      let ended_is : rec.ended ≡ ended.Trap cause = ap (λ (q : StepRec). q.ended) (sym rec_is) in
      let eight : cause ≡ 8 = eqb-true cause 8 (ap is_shown (sym ended_is) ∙ seen.shown) in
      let t : IsTurned = turned here (subst IsLoud (sym is) eight) in
      let fetched : told_here.fetch ≡ Some seen.fetch
      = ap (λ (q : StepRec). q.fetch) rec_is ∙ seen.fetched in
      let none : HasNothing (record told_here { ended = ended.Trap cause })
      = subst HasNothing (sym rec_is) (trap_nothing rec cause ended_is formed) in
      let o_is : call_obs t ≡ o
      = sym (call_is t cause seen.fetch fetched none)
      ∙ (ap (λ (q : StepRec). observed_with q seen.fetch) rec_is ∙ seen.is) in
      record {
        possible = calls_so t.ins.op (executed here (word_at here t.place) t.ins).end cause tval
            (executed_calls here (word_at here t.place) t.ins) (sym t.ends ∙ is) eight
            (λ call. subst Possible o_is (call_possible t call));
        next = λ retired. absurd (let both : ended.Trap cause ≡ ended.Retired = sym ended_is ∙ retired in cc);
      }

  by_end : (e : End Retired) (after : MachineState) (rec : StepRec) (root : ℕ) (o : Obs) → (turn here).end ≡ e
      → Ends e after rec → IsObserved rec root o → IsWellFormed rec → UserStep after rec o
  by_end (Ok r) after rec root o is outcome seen formed = by_retired r after rec root o is outcome seen
  by_end (Err (Asks what)) after rec root o is outcome seen formed = absurd cc
  by_end (Err (Interrupt number)) after rec root o is outcome seen formed =
      let rec_is : record told_here { ended = ended.Interrupt number } ≡ rec
      = step_rec _ after (record told_here { ended = ended.Interrupt number }) rec outcome in
      absurd (true≢false (sym seen.shown ∙ ap (λ (q : StepRec). is_shown q.ended) (sym rec_is)))
  by_end (Err (Trap cause tval)) after rec root o is outcome seen formed =
      by_call cause tval after rec root o is outcome seen formed

  pub user_turn : (after : MachineState) (rec : StepRec) (root : ℕ) (o : Obs)
      → turn_outcome here ≡ Stepped after rec → observation_of rec root ≡ Some o → IsWellFormed rec
      → UserStep after rec o
  unfolding turn_outcome
  user_turn after rec root o outcome shows formed = by_end (turn here).end after rec root o refl
      (unless_kept here.given (outcome_of (machine_in here) (turn here)) after rec outcome)
      (observed_is rec root o shows) formed
