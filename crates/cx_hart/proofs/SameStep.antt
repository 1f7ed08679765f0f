-- A step over two memories of one length that agree on what its record names gives the same record, the same next state
-- and the same writes.
use Rattle.std.proofs.Common.{◌≡◌, ℕ, ◌≤◌, Bool, true, false, cond, nat_le, List, [], ◌∷◌, ◌++◌, length, take, Option}
use Rattle.std.proofs.Common.{None, Some, Ok, Err, refl, sym, ap, subst, ◌∙◌, arith}
use Rattle.cx_csr.specs.declared.state.State.{State}
use Rattle.cx_machine.specs.Due.{Due, with_lines}
use Rattle.cx_machine.specs.Machine.{MachineState}
use Rattle.cx_machine.specs.Step.{IsFramed, ReadsItsRecord}
use Rattle.cx_machine.specs.Transfers.{Transfer, after_transfers, memory_after_transfer, state_after_transfer}
use Rattle.cx_map.specs.Map.{ram_index}
use Rattle.cx_map.specs.declared.TheConstants.{RAM_START}
use Rattle.cx_ram.specs.Agreement.{AgreeOn, SameWrites}
use Rattle.cx_ram.specs.LittleEndian.{written}
use Rattle.cx_ram.proofs.SameWrites.{agree_behind, length_of_written, same_kept, same_then, same_written}
use Rattle.cx_hart.specs.After.{memory_after, memory_after_touch}
use Rattle.cx_hart.specs.Ends.{End}
use Rattle.cx_hart.specs.HartStep.{carried_out, hart_step}
use Rattle.cx_hart.specs.Looks.{Entry, First, Look, Rest, Word, told}
use Rattle.cx_hart.specs.Phases.{Phase}
use Rattle.cx_hart.specs.Reads.{entry_indices, ram_indices, read_indices, touch_indices}
use Rattle.cx_hart.specs.Step.{Outcome, Stepped, blank, ended_in, outcome_of, step, taken_or_left, turn_outcome}
use Rattle.cx_hart.specs.Step.{unless_left}
use Rattle.cx_hart.specs.Surroundings.{Surroundings}
use Rattle.cx_hart.specs.Turn.{turn}
use Rattle.cx_hart.specs.declared.findings.Retired.{Retired}
use Rattle.cx_hart.specs.declared.findings.Stop.TheVariants.{Asks, Interrupt, Trap}
use Rattle.cx_hart.specs.declared.record.StepRec.{StepRec}
use Rattle.cx_hart.specs.declared.record.Touch.{Touch}
use Rattle.cx_hart.proofs.Costs.{costs, turn_within}
use Rattle.cx_hart.proofs.Ends.{unless_kept}
use Rattle.cx_hart.proofs.Padded.{take_front}
use Rattle.cx_hart.proofs.SameLooks.{turn_same}
use Rattle.cx_hart.proofs.SameWalks.{AgreeOnLooks, agree_back, agree_front}
use Rattle.cx_hart.proofs.StepSizes.{carried, keeps_size}
use Rattle.cx_hart.proofs.Telling.{first_after, no_first, no_rest, no_word, places_in, rest_after, seen_in, told_is}
use Rattle.cx_hart.proofs.Telling.{word_after}

-- ---- writes

touch_by : (t : Touch) (b : Bool) → List ℕ → List ℕ
touch_by t b memory = cond b (written memory (ram_index t.pa) (take t.len t.bytes)) memory

touch_writes_by : (p q : List ℕ) (t : Touch) (b : Bool) → length q ≡ length p
    → SameWrites p (touch_by t b p) q (touch_by t b q) × (length (touch_by t b q) ≡ length (touch_by t b p))
unfolding touch_by
touch_writes_by p q t true size = (
  same_written p q (ram_index t.pa) (take t.len t.bytes) size,
  length_of_written p q (ram_index t.pa) (take t.len t.bytes) size,
)
touch_writes_by p q t false size = (same_kept p q, size)

touch_writes : (p q : List ℕ) (o : Option Touch) → length q ≡ length p
    → SameWrites p (memory_after_touch o p) q (memory_after_touch o q)
    × (length (memory_after_touch o q) ≡ length (memory_after_touch o p))
unfolding memory_after_touch touch_by
touch_writes p q None size = (same_kept p q, size)
touch_writes p q (Some t) size = touch_writes_by p q t (nat_le RAM_START t.pa) size

abbrev memory_behind : End Retired → List ℕ → List ℕ
memory_behind (Ok r) memory = memory_after r memory
memory_behind (Err stop) memory = memory

writes_behind : (p q : List ℕ) (e : End Retired) → length q ≡ length p
    → SameWrites p (memory_behind e p) q (memory_behind e q) × (length (memory_behind e q) ≡ length (memory_behind e p))
writes_behind p q (Err stop) size = (same_kept p q, size)
writes_behind p q (Ok r) size =
    let one = touch_writes p q r.write size in
    let two = touch_writes (memory_after_touch r.write p) (memory_after_touch r.write q) r.write_more one.1 in
    (same_then p _ _ q _ _ one.0 two.0, two.1)

transfers_write : (transfers : List Transfer) (s : State) (p q : List ℕ) → length q ≡ length p
    → SameWrites p (after_transfers transfers (record { state = s; memory = p })).memory q
    (after_transfers transfers (record { state = s; memory = q })).memory
    × (length (after_transfers transfers (record { state = s; memory = q })).memory
    ≡ length (after_transfers transfers (record { state = s; memory = p })).memory)
    × ((after_transfers transfers (record { state = s; memory = q })).state
    ≡ (after_transfers transfers (record { state = s; memory = p })).state)
transfers_write [] s p q size = (same_kept p q, size, refl)
transfers_write (t ∷ transfers) s p q size =
    let one = same_written p q (ram_index t.place) t.bytes size in
    let rest = transfers_write transfers (state_after_transfer t s) (memory_after_transfer t p)
    (memory_after_transfer t q) (length_of_written p q (ram_index t.place) t.bytes size) in
    (same_then p _ _ q _ _ one rest.0, rest.1, rest.2)

module _ (p q : List ℕ) where
  -- ---- what a record names

  -- the two memories agree on what a record names
  record Named (rec : StepRec) : Type 0 where
    pub fetch : AgreeOn (touch_indices rec.fetch) p q
    pub read : AgreeOn (touch_indices rec.read) p q
    pub read_more : AgreeOn (touch_indices rec.read_more) p q
    pub entries : AgreeOn (entry_indices (take rec.walked rec.places)) p q

  named : (rec : StepRec) → AgreeOn (read_indices rec) p q → Named rec
  unfolding read_indices
  named rec agree =
      let places : List ℕ = entry_indices (take rec.walked rec.places) in
      let one = agree_back p q (touch_indices rec.fetch)
      (touch_indices rec.read ++ (touch_indices rec.read_more ++ places)) agree in
      let two = agree_back p q (touch_indices rec.read) (touch_indices rec.read_more ++ places) one in
      record {
        fetch = agree_front p q (touch_indices rec.fetch)
            (touch_indices rec.read ++ (touch_indices rec.read_more ++ places)) agree;
        read = agree_front p q (touch_indices rec.read) (touch_indices rec.read_more ++ places) one;
        read_more = agree_front p q (touch_indices rec.read_more) places two;
        entries = agree_back p q (touch_indices rec.read_more) places two;
      }

  named_as : (old new rec : StepRec) (m after : MachineState) → Stepped m new ≡ Stepped after rec
      → AgreeOn (read_indices rec) p q → (Named new → Named old) → Named old
  named_as old new rec m after is agree same = let told_so : rec ≡ new = cc in
      same (named new (subst (λ t. AgreeOn (read_indices t) p q) told_so agree))

  -- how a turn ended is no part of what its record names
  named_by : (m : MachineState) (old : StepRec) (e : End Retired) (after : MachineState) (rec : StepRec)
      → ended_in m old e ≡ Stepped after rec → AgreeOn (read_indices rec) p q → Named old
  named_by m old (Ok r) after rec is agree =
      named_as old _ rec _ after is agree (λ names. record {
        fetch = names.fetch;
        read = names.read;
        read_more =
            names.read_more;
        entries = names.entries;
      })
  named_by m old (Err (Asks what)) after rec is agree = absurd cc
  named_by m old (Err (Interrupt number)) after rec is agree =
      named_as old _ rec _ after is agree (λ names. record {
        fetch = names.fetch;
        read = names.read;
        read_more =
            names.read_more;
        entries = names.entries;
      })
  named_by m old (Err (Trap cause tval)) after rec is agree =
      named_as old _ rec _ after is agree (λ names. record {
        fetch = names.fetch;
        read = names.read;
        read_more =
            names.read_more;
        entries = names.entries;
      })

  -- ---- what is named is all that was seen

  all_seen : (looks : List Look) (word first rest : Option Touch) → costs 0 1 0 0 looks ≤ 1 → costs 0 0 1 0 looks ≤ 1
      → costs 0 0 0 1 looks ≤ 1
      → AgreeOn (touch_indices (word_after looks word)) p q → AgreeOn (touch_indices (first_after looks first)) p q
      → AgreeOn (touch_indices (rest_after looks rest)) p q
      → AgreeOn (entry_indices (places_in looks)) p q → AgreeOnLooks p q looks
  all_seen [] word first rest cw cf cr aw af ar ae = tt
  all_seen (Entry place entry ∷ looks) word first rest cw cf cr aw af ar ae = (
    agree_front p q (ram_indices place 4) (entry_indices (places_in looks)) ae,
    all_seen looks word first rest (omega arith) (omega arith) (omega arith) aw af ar
        (agree_back p q (ram_indices place 4) (entry_indices (places_in looks)) ae),
  )
  all_seen (Word t ∷ looks) word first rest cw cf cr aw af ar ae = (
    subst (λ o. AgreeOn (touch_indices o) p q) (no_word looks (Some t) (omega arith)) aw,
    all_seen looks (Some t) first rest (omega arith) (omega arith) (omega arith) aw af ar ae,
  )
  all_seen (First t ∷ looks) word first rest cw cf cr aw af ar ae = (
    subst (λ o. AgreeOn (touch_indices o) p q) (no_first looks (Some t) (omega arith)) af,
    all_seen looks word (Some t) rest (omega arith) (omega arith) (omega arith) aw af ar ae,
  )
  all_seen (Rest t ∷ looks) word first rest cw cf cr aw af ar ae = (
    subst (λ o. AgreeOn (touch_indices o) p q) (no_rest looks (Some t) (omega arith)) ar,
    all_seen looks word first (Some t) (omega arith) (omega arith) (omega arith) aw af ar ae,
  )

  turn_seen : (here : Surroundings) → Named (told (turn here).looks (blank here.state))
      → AgreeOnLooks p q (turn here).looks
  turn_seen here names =
      let looks : List Look = (turn here).looks in
      let is : told looks (blank here.state) ≡ seen_in here.state looks =
      told_is looks here.state (turn_within 1 0 0 0 here) in
      let all = subst Named is names in
      all_seen looks None None None (turn_within 0 1 0 0 here) (turn_within 0 0 1 0 here) (turn_within 0 0 0 1 here)
      all.fetch all.read all.read_more
      (subst (λ l. AgreeOn (entry_indices l) p q) (take_front (places_in looks) _) all.entries)

  -- ---- the outcome over the other memory

  moved_by : (state : State) (mine theirs : List ℕ) (told_so rec : StepRec) (after : MachineState)
      → Stepped (record { state = state; memory = mine }) told_so ≡ Stepped after rec
      → (Stepped (record { state = state; memory = theirs }) told_so ≡ Stepped (record {
        state = after.state;
        memory =
            theirs;
      }) rec) × (after.memory ≡ mine)
  moved_by state mine theirs told_so rec after is =
      let machine : after ≡ record { state = state; memory = mine } = cc in
      let same : told_so ≡ rec = cc in
      let behind : state ≡ after.state = sym (ap (λ (m : MachineState). m.state) machine) in (
        ap (λ t. Stepped (record { state = state; memory = theirs }) t) same
            ∙ ap (λ t. Stepped (record { state = t; memory = theirs }) rec) behind,
        ap (λ (m : MachineState). m.memory) machine,
      )

  moved : (s : State) (old : StepRec) (e : End Retired) (after : MachineState) (rec : StepRec)
      → ended_in (record { state = s; memory = p }) old e ≡ Stepped after rec
      → (ended_in (record { state = s; memory = q }) old e ≡ Stepped (record {
        state = after.state;
        memory =
            memory_behind e q;
      }) rec) × (after.memory ≡ memory_behind e p)
  moved s old (Ok r) after rec is = moved_by _ (memory_after r p) (memory_after r q) _ rec after is
  moved s old (Err (Asks what)) after rec is = absurd cc
  moved s old (Err (Interrupt number)) after rec is = moved_by _ p q _ rec after is
  moved s old (Err (Trap cause tval)) after rec is = moved_by _ p q _ rec after is

unless_same : (given : Option ℕ) (o : Outcome) (machine other : MachineState) (rec : StepRec)
    → unless_left given (Stepped machine rec) ≡ Stepped machine rec → o ≡ Stepped other rec
    → unless_left given o ≡ Stepped other rec
unless_same given o machine other rec kept e = ap (unless_left given) e ∙ by given rec.value kept
  where
    by : (g taken : Option ℕ) → taken_or_left g taken (Stepped machine rec) ≡ Stepped machine rec
        → ◌≡◌ {A = Outcome} (taken_or_left g taken (Stepped other rec)) (Stepped other rec)
    by None taken e = refl
    by (Some v) None e = absurd cc
    by (Some v) (Some t) e = refl

-- the same step over the other memory, by the outcome
record IsSameOutcome (p : List ℕ) (after : MachineState) (rec : StepRec) (q : List ℕ) (outcome : Outcome) : Type 0 where
  pub memory : List ℕ
  pub given : outcome ≡ Stepped (record { state = after.state; memory = memory }) rec
  pub size : length memory ≡ length after.memory
  pub writes : SameWrites p after.memory q memory

module _ (p q : List ℕ) (size : length q ≡ length p) (split : Bool) (given : Option ℕ) (s : State) where
  abbrev over : List ℕ → Surroundings
  over memory = record { split = split; given = given; memory = memory; state = s }

  outcome_same : (after : MachineState) (rec : StepRec) → turn_outcome (over p) ≡ Stepped after rec
      → AgreeOn (read_indices rec) p q → IsSameOutcome p after rec q (turn_outcome (over q))
  unfolding turn_outcome
  outcome_same after rec is agree =
      let mine : MachineState = record { state = s; memory = p } in
      let theirs : MachineState = record { state = s; memory = q } in
      let phase : Phase Retired = turn (over p) in
      let ends : outcome_of mine phase ≡ Stepped after rec = unless_kept given (outcome_of mine phase) after rec is in
      let names = named_by p q mine (told phase.looks (blank s)) phase.end after rec ends agree in
      let same = turn_same p q size split given s (turn_seen p q (over p) names) in
      let there = moved p q s (told phase.looks (blank s)) phase.end after rec ends in
      let kept : unless_left given (Stepped after rec) ≡ Stepped after rec = ap (unless_left given) (sym ends) ∙ is in
      let writes = writes_behind p q phase.end size in
      record {
        memory = memory_behind phase.end q;
        given = unless_same given (outcome_of theirs (turn (over q))) after (record {
          state = after.state;
          memory =
              memory_behind phase.end q;
        }) rec kept (ap (outcome_of theirs) same ∙ there.0);
        size = writes.1 ∙ ap length (sym there.1);
        writes = subst (λ m. SameWrites p m q (memory_behind phase.end q)) (sym there.1) writes.0;
      }

-- ---- the whole step

step_same : (split : Bool) (due : Due) (s : State) (p q : List ℕ) (after : MachineState) (rec : StepRec)
    → step split due (record { state = s; memory = p }) ≡ Stepped after rec → length q ≡ length p
    → AgreeOn (read_indices rec) p q
    → IsSameOutcome p after rec q (step split due (record { state = s; memory = q }))
step_same split due s p q after rec is size agree =
    let before = transfers_write due.transfers s p q size in
    let mine : MachineState = after_transfers due.transfers (record { state = s; memory = p }) in
    let theirs : MachineState = after_transfers due.transfers (record { state = s; memory = q }) in
    let same = outcome_same mine.memory theirs.memory before.1 split due.value (with_lines due.lines mine.state) after
    rec is (agree_behind (read_indices rec) p mine.memory q theirs.memory before.0 agree) in
    let state : with_lines due.lines mine.state ≡ with_lines due.lines theirs.state =
    ap (with_lines due.lines) (sym before.2) in
    record {
      memory = same.memory;
      given = ap (λ (s : State). turn_outcome (record {
        split = split;
        given = due.value;
        memory =
            theirs.memory;
        state = s;
      })) (sym state) ∙ same.given;
      size = same.size;
      writes = same_then p mine.memory after.memory q theirs.memory same.memory before.0 same.writes;
    }

reads_its_record : (split : Bool) → ReadsItsRecord (hart_step split) read_indices
unfolding hart_step
reads_its_record split p q due then e state size agree =
    let there = step_same split due p.state p.memory q.memory then.machine then.rec (carried split p due then e) size
    agree in
    record {
      memory = there.memory;
      given = ap (λ (s : State). carried_out (step split due (record { state = s; memory = q.memory }))) state
          ∙ ap carried_out there.given;
      size = there.size;
      writes = there.writes;
    }

pub is_framed : (split : Bool) → IsFramed (hart_step split) read_indices
is_framed split = record { reads_record = reads_its_record split; keeps_size = keeps_size split }
