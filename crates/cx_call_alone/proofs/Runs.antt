-- The run of a call slice, step by step.
use Rattle.std.proofs.Common.{◌≡◌, ℕ, suc, ◌+◌, ◌<◌, ◌≤◌, nat_lt, ◌&&◌, Bool, true, false, not, List, [], ◌∷◌, ◌++◌}
use Rattle.std.proofs.Common.{length, Option, None, Some, option_map, option_to_list, if◌then◌else◌}
use Rattle.std.proofs.Common.{refl, sym, ap, ◌∙◌, arith, lt-ltb, le-ltb}
use Rattle.std.proofs.lemmas.List.{append-nil}
use Rattle.cx_callfmt.specs.Scan.{CallScan}
use Rattle.cx_placing.specs.Called.{CallStanding, standing_behind, step_called}
use Rattle.cx_placing.specs.CallsAlone.{is_settled, ran_called, standing_at}
use Rattle.cx_placing.specs.Placing.{Placed}
use Rattle.cx_placing.proofs.Streams.{ends_settled-whole, ran_called-push, ran_called-stopped, standing_at-push}
use Rattle.cx_slices.specs.Observed.{Watch}
use Rattle.cx_slices.specs.Settled.{BadField, BreaksAt, SliceRefusal}
use Rattle.cx_call_alone.specs.Placed.{placed_between, placed_of}
use Rattle.cx_call_alone.specs.Running.{GaveAllCalled, HasCalled}
use Rattle.cx_call_alone.specs.Settled.{calls_bad, nothing_owed, ran_upto, settled_calls, started}
use Rattle.cx_call_alone.proofs.Placed.{BeginsWith, between_more, between_push, length-between}

length-push : {O : Type 0} (os : List O) (o : O) → length (os ++ o ∷ []) ≡ suc (length os)
length-push [] o = refl
length-push (p ∷ os) o = ap suc (length-push os o)

-- The run of one step more is tried from what stands behind the run.
run_on : {O : Type 0} (m : Watch O ℕ) (called : O → Option ℕ) (whole : CallScan) (os : List O) (at : ℕ)
    (s : CallStanding) (stepped : Option O) → HasCalled m called whole os at s
    → step_called m called s (placed_of m.count at whole.records) ≡ stepped
    → ran_upto m called whole (suc at) ≡ os ++ option_to_list stepped
run_on m called whole os at s stepped has went =
    let steps : List (Placed ℕ) = placed_between m.count 0 at whole.records in
    let size : length steps ≡ at = length-between m.count 0 at whole.records in
    let all : length (ran_called m called (started m whole) steps) ≡ length steps
    = ap length has.run ∙ (has.count ∙ sym size) in
    ap (ran_called m called (started m whole)) (between_push m.count 0 at at whole.records (omega arith))
    ∙ (ran_called-push m called (started m whole) steps (placed_of m.count at whole.records) all
    ∙ (ap (λ (ps : List _). ps ++ option_to_list (step_called m called (standing_at m (started m whole) steps ps)
    (placed_of m.count at whole.records))) has.run
    ∙ (ap (λ t. os ++ option_to_list (step_called m called t (placed_of m.count at whole.records))) (sym has.stands)
    ∙ ap (λ t. os ++ option_to_list t) went)))

-- One step more.
pub carried : {O : Type 0} (m : Watch O ℕ) (called : O → Option ℕ) (whole : CallScan) (os : List O) (o : O) (at : ℕ)
    (s : CallStanding) → HasCalled m called whole os at s
    → step_called m called s (placed_of m.count at whole.records) ≡ Some o
    → HasCalled m called whole (os ++ o ∷ []) (at + 1)
    (standing_behind m s o (placed_of m.count at whole.records).call)
carried m called whole os o at s has went =
    let next : at + 1 ≡ suc at = omega arith in
    let steps : List (Placed ℕ) = placed_between m.count 0 at whole.records in
    let size : length os ≡ length steps = has.count ∙ sym (length-between m.count 0 at whole.records) in
    record {
      run = ap (ran_upto m called whole) next ∙ run_on m called whole os at s (Some o) has went;
      count = length-push os o ∙ (ap suc has.count ∙ sym next);
      stands = ap (λ t. standing_behind m t o (placed_of m.count at whole.records).call) has.stands
          ∙ (sym (standing_at-push m (started m whole) steps os (placed_of m.count at whole.records) o size)
          ∙ (ap (λ ps. standing_at m (started m whole) ps (os ++ o ∷ []))
          (sym (between_push m.count 0 at at whole.records (omega arith)))
          ∙ ap (λ (n : ℕ). standing_at m (started m whole) (placed_between m.count 0 n whole.records) (os ++ o ∷ []))
          (sym next)));
    }

-- what is refused, by how long the run is and what is owed behind it
refused_by : ℕ → ℕ → Bool → Option ℕ → Option SliceRefusal
refused_by size upto owing bad =
    if nat_lt size upto then Some (BreaksAt size) else if owing then Some (BreaksAt upto) else option_map BadField bad

bad_by : {O : Type 0} (m : Watch O ℕ) (called : O → Option ℕ) (whole : CallScan) (os : List O) (owing : Bool)
    (bad : Option ℕ) → GaveAllCalled m called whole os → (whole.ended && not (nothing_owed m called whole)) ≡ owing
    → whole.bad ≡ bad → calls_bad m called whole ≡ refused_by (length os) whole.upto owing bad
unfolding refused_by
bad_by m called whole os owing bad gave owes is =
    ap (λ (ps : List _). refused_by (length ps) whole.upto (whole.ended && not (nothing_owed m called whole)) whole.bad)
    gave
    ∙ (ap (λ (t : Bool). refused_by (length os) whole.upto t whole.bad) owes
    ∙ ap (refused_by (length os) whole.upto owing) is)

refused_short : (size upto : ℕ) (owing : Bool) (bad : Option ℕ) → size < upto
    → refused_by size upto owing bad ≡ Some (BreaksAt size)
unfolding refused_by
refused_short size upto owing bad less = rw (lt-ltb size upto less) refl

refused_whole : (size upto : ℕ) (owing : Bool) (bad : Option ℕ) → upto ≤ size → refused_by size upto owing bad
    ≡ (if owing then Some (BreaksAt upto) else option_map BadField bad)
unfolding refused_by
refused_whole size upto owing bad over = rw (le-ltb size upto over) refl

-- What a break says.
pub record BrokeCalled {O : Type 0} (m : Watch O ℕ) (called : O → Option ℕ) (whole : CallScan) (os : List O) (at : ℕ)
    : Type 0 where
  pub bad : calls_bad m called whole ≡ Some (BreaksAt at)
  pub gave : GaveAllCalled m called whole os
  pub count : at ≡ length os

-- The next step breaks a rule.
pub broken : {O : Type 0} (m : Watch O ℕ) (called : O → Option ℕ) (whole : CallScan) (os : List O) (at : ℕ)
    (s : CallStanding) → HasCalled m called whole os at s → at < whole.upto
    → step_called m called s (placed_of m.count at whole.records) ≡ None → BrokeCalled m called whole os at
broken {O} m called whole os at s has within went =
    let begins : BeginsWith (placed_between m.count 0 whole.upto whole.records)
    (placed_between m.count 0 (suc at) whole.records)
    = between_more m.count 0 (suc at) whole.upto whole.records (omega (arith, within)) in
    let stopped : ran_upto m called whole (suc at) ≡ os = run_on m called whole os at s None has went ∙ append-nil os in
    let less : length (ran_upto m called whole (suc at)) < length (placed_between m.count 0 (suc at) whole.records)
    = shorter _ _ (ap length stopped ∙ has.count) (length-between m.count 0 (suc at) whole.records) in
    let gave : settled_calls m called whole ≡ os
    = ap (ran_called m called (started m whole)) begins.parts
    ∙ (ran_called-stopped m called (started m whole) (placed_between m.count 0 (suc at) whole.records) begins.rest less
    ∙ stopped) in
    record {
      bad = bad_by m called whole os _ whole.bad gave refl refl
          ∙ (refused_short (length os) whole.upto _ whole.bad (omega (arith, within, has.count))
          ∙ ap (λ (n : ℕ). Some (BreaksAt n)) has.count);
      gave = gave;
      count = sym has.count;
    }
  where
    shorter : (m n : ℕ) → m ≡ at → n ≡ suc at → m < n
    shorter m n is it = omega (arith, is, it)

-- All settled steps were taken.
pub all_given : {O : Type 0} (m : Watch O ℕ) (called : O → Option ℕ) (whole : CallScan) (os : List O) (at : ℕ)
    (s : CallStanding) → HasCalled m called whole os at s → at ≡ whole.upto → GaveAllCalled m called whole os
all_given m called whole os at s has end = ap (ran_upto m called whole) (sym end) ∙ has.run

owes_nothing : {O : Type 0} (m : Watch O ℕ) (called : O → Option ℕ) (whole : CallScan) (os : List O) (at : ℕ)
    (s : CallStanding) → HasCalled m called whole os at s → at ≡ whole.upto
    → nothing_owed m called whole ≡ is_settled s
owes_nothing m called whole os at s has end =
    let steps : List (Placed ℕ) = placed_between m.count 0 whole.upto whole.records in
    let gave : GaveAllCalled m called whole os = all_given m called whole os at s has end in
    ends_settled-whole m called (started m whole) steps
    (ap length gave ∙ (has.count ∙ (end ∙ sym (length-between m.count 0 whole.upto whole.records))))
    ∙ ap is_settled (ap (standing_at m (started m whole) steps) gave
    ∙ (ap (λ (n : ℕ). standing_at m (started m whole) (placed_between m.count 0 n whole.records) os) (sym end)
    ∙ sym has.stands))

-- Behind all settled steps a field is bad.
pub refused : {O : Type 0} (m : Watch O ℕ) (called : O → Option ℕ) (whole : CallScan) (os : List O) (at o : ℕ)
    (s : CallStanding) → HasCalled m called whole os at s → at ≡ whole.upto → whole.ended ≡ false
    → whole.bad ≡ Some o → calls_bad m called whole ≡ Some (BadField o)
refused m called whole os at o s has end unended is =
    bad_by m called whole os false (Some o) (all_given m called whole os at s has end)
    (ap (λ (t : Bool). t && not (nothing_owed m called whole)) unended) is
    ∙ refused_whole (length os) whole.upto false (Some o) (omega (arith, end, has.count))

-- At the end.
pub at_end : {O : Type 0} (m : Watch O ℕ) (called : O → Option ℕ) (whole : CallScan) (os : List O) (at : ℕ)
    (s : CallStanding) (settled : Bool) → HasCalled m called whole os at s → at ≡ whole.upto → whole.ended ≡ true
    → whole.bad ≡ None → is_settled s ≡ settled
    → calls_bad m called whole ≡ (if settled then None else Some (BreaksAt at))
at_end m called whole os at s settled has end ended good is =
    bad_by m called whole os (not settled) None (all_given m called whole os at s has end)
    (ap (λ (t : Bool). t && not (nothing_owed m called whole)) ended
    ∙ ap not (owes_nothing m called whole os at s has end ∙ is)) good
    ∙ (refused_whole (length os) whole.upto (not settled) None (omega (arith, end, has.count)) ∙ by_test settled)
  where
    by_test : (t : Bool)
        → (if not t then Some (BreaksAt whole.upto) else None) ≡ (if t then None else Some (BreaksAt at))
    by_test true = refl
    by_test false = ap (λ (n : ℕ). Some (BreaksAt n)) (sym end)

-- before the first step
pub begun : {O : Type 0} (m : Watch O ℕ) (called : O → Option ℕ) (whole : CallScan) (s : CallStanding)
    → s ≡ started m whole → HasCalled m called whole [] 0 s
begun m called whole s is = record { run = refl; count = refl; stands = is }
