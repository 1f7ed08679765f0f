-- How often a turn looks, where each kind of look has a price of its own.
use Rattle.std.proofs.Common.{◌≡◌, ℕ, zero, suc, ◌+◌, ◌-◌, ◌*◌, ◌≤◌, Bool, true, false, cond, List, [], ◌∷◌, ◌++◌, map}
use Rattle.std.proofs.Common.{take, Option, None, Some, Ok, Err, arith}
use Rattle.cx_decode.specs.declared.ins.Ins.{Ins}
use Rattle.cx_exec.specs.Asking.{ask_of, need_of}
use Rattle.cx_exec.specs.declared.asks.Access.{Access}
use Rattle.cx_exec.specs.declared.asks.Access.TheVariants as access
use Rattle.cx_exec.specs.declared.asks.Need.{Need}
use Rattle.cx_exec.specs.declared.got.Got.TheVariants.{Bytes}
use Rattle.cx_trap.specs.Pending.{pending_of}
use Rattle.cx_walk.specs.declared.kind.Kind.{Kind}
use Rattle.cx_walk.specs.declared.kind.Kind.TheVariants.{Fetch}
use Rattle.cx_walk.specs.Walks.{address_of}
use Rattle.cx_hart.specs.Accesses.{access_done, accessed, bytes_of, outer_reading, reading_of}
use Rattle.cx_hart.specs.Effects.{instruction_effect}
use Rattle.cx_hart.specs.Ends.{End, answered}
use Rattle.cx_hart.specs.Fetch.{fetched, look_at, read_at, translated, walk_in}
use Rattle.cx_hart.specs.Legal.{instruction}
use Rattle.cx_hart.specs.Looks.{Entry, First, Look, Rest, Word}
use Rattle.cx_hart.specs.Phases.{Phase, found, looks_behind, sees, trap, unseen, ◌>>=◌}
use Rattle.cx_hart.specs.Reaching.{first_length, goes_on, is_naturally_aligned, is_split, kind_of, misaligned_cause}
use Rattle.cx_hart.specs.Reaching.{reached, reached_part, reached_rest, reached_second, reached_split, reached_whole}
use Rattle.cx_hart.specs.Reaching.{second_address, target_at}
use Rattle.cx_hart.specs.Surroundings.{Surroundings}
use Rattle.cx_hart.specs.Touches.{touch}
use Rattle.cx_hart.specs.Turn.{done_by_need, executed, fetched_and_executed, turn, unless_interrupted}
use Rattle.cx_hart.specs.declared.answer.Asked.TheVariants as asked
use Rattle.cx_hart.specs.declared.findings.Part.{Part}
use Rattle.cx_hart.specs.declared.findings.Retired.{Retired}
use Rattle.cx_hart.specs.declared.findings.Target.{Target}
use Rattle.cx_hart.specs.declared.findings.Target.TheVariants.{Memory, Device}
use Rattle.cx_hart.proofs.WalkFacts.{walk_most}

module _ (ce cw cf cr : ℕ) where
  abbrev pub price : Look → ℕ
  price (Entry place entry) = ce
  price (Word t) = cw
  price (First t) = cf
  price (Rest t) = cr

  abbrev pub costs : List Look → ℕ
  costs [] = 0
  costs (look ∷ looks) = price look + costs looks

  pub costs_append : (xs ys : List Look) → costs (xs ++ ys) ≡ costs xs + costs ys
  costs_append [] ys = omega arith
  costs_append (x ∷ xs) ys = omega (arith, costs_append xs ys)

  -- ---- phases

  pub within_behind : {Y Z : Type 0} (e : End Y) (next : Y → Phase Z) (b : ℕ) → ((y : Y) → costs (next y).looks ≤ b)
      → costs (looks_behind e next) ≤ b
  within_behind (Ok y) next b rest = rest y
  within_behind (Err stop) next b rest = omega arith

  pub within_bind : {Y Z : Type 0} (phase : Phase Y) (next : Y → Phase Z) (a b : ℕ) → costs phase.looks ≤ a
      → ((y : Y) → costs (next y).looks ≤ b) → costs (phase >>= next).looks ≤ a + b
  within_bind phase next a b first rest = omega (
    arith,
    costs_append phase.looks (looks_behind phase.end next),
    within_behind phase.end next b rest,
  )

  within_if : {Y : Type 0} (c : Bool) (one other : Phase Y) (n : ℕ) → costs one.looks ≤ n → costs other.looks ≤ n
      → costs (cond c one other).looks ≤ n
  within_if true one other n first second = first
  within_if false one other n first second = second

  walk_within : (memory places : List ℕ) (n : ℕ) → n ≤ 2 → costs (map (look_at memory) (take n places)) ≤ 2 * ce
  walk_within memory places zero most = omega arith
  walk_within memory [] (suc n) most = omega arith
  walk_within memory (x ∷ places) (suc zero) most = omega arith
  walk_within memory (x ∷ []) (suc (suc n)) most = omega arith
  walk_within memory (x ∷ y ∷ places) (suc (suc zero)) most = omega arith
  walk_within memory (x ∷ y ∷ places) (suc (suc (suc n))) most = absurd (omega arith)

  module _ (here : Surroundings) where
    pub translated_within : (kind : Kind) (va len : ℕ) → costs (translated here kind va len).looks ≤ 2 * ce
    unfolding translated
    translated_within kind va len = walk_within here.memory (walk_in here kind va len).places
        (walk_in here kind va len).count (walk_most here kind va len)

    pub fetched_within : costs (fetched here).looks ≤ 2 * ce + cw
    unfolding fetched
    fetched_within =
        within_bind (translated here Fetch here.state.pc 4)
        (λ place. read_at here.memory Word (record { va = here.state.pc; pa = address_of place; len = 4 })) (2 * ce)
        cw (translated_within Fetch here.state.pc 4)
        (λ place. omega arith)

    module _ (n : Need) where
      whole_within : costs (reached_whole here n).looks ≤ 2 * ce
      unfolding reached_whole
      whole_within =
          let both = within_bind (translated here (kind_of n.access) n.va n.len) (λ place. found (target_at n place))
          (2 * ce) 0 (translated_within (kind_of n.access) n.va n.len) (λ place. omega arith) in
          omega (arith, both)

      part_within : (va len : ℕ) → costs (reached_part here n va len).looks ≤ 2 * ce
      part_within va len =
          let both = within_bind {Z = Part} (translated here (kind_of n.access) va 1)
          (λ place. found (record { va = va; pa = address_of place; len = len })) (2 * ce) 0
          (translated_within (kind_of n.access) va 1) (λ place. omega arith) in
          omega (arith, both)

      second_within : costs (reached_second here n).looks ≤ 2 * ce
      second_within =
          let both =
          within_bind (reached_part here n (second_address n) (n.len - first_length n)) (λ part. found (Some part))
          (2 * ce) 0 (part_within (second_address n) (n.len - first_length n)) (λ part. omega arith) in
          omega (arith, both)

      rest_within : costs (reached_rest here n).looks ≤ 2 * ce
      rest_within = within_if (goes_on n) (reached_second here n) (found None) (2 * ce) second_within (omega arith)

      split_within : costs (reached_split here n).looks ≤ 4 * ce
      unfolding reached_split
      split_within =
          let rest = λ (first : Part). within_bind (reached_rest here n) (λ more. found (Memory first more)) (2 * ce) 0
          rest_within (λ more. omega arith) in
          let both =
          within_bind (reached_part here n n.va (first_length n)) (λ first. reached_rest here n >>= λ more. found
          (Memory first more)) (2 * ce) (2 * ce + 0) (part_within n.va (first_length n)) rest in
          omega (arith, both)

      pub reached_within : costs (reached here n).looks ≤ 4 * ce
      unfolding reached
      reached_within =
          within_if (is_naturally_aligned n) (reached_whole here n) (cond (is_split here.split n) (reached_split here n)
          (trap (misaligned_cause n.access) n.va)) (4 * ce) (omega (arith, whole_within))
          (within_if (is_split here.split n) (reached_split here n) (trap (misaligned_cause n.access) n.va) (4 * ce)
          split_within (omega arith))

    bytes_within : (target : Target) → costs (bytes_of here target).looks ≤ cf + cr
    unfolding bytes_of
    bytes_within (Memory first None) = omega arith
    bytes_within (Memory first (Some more)) = omega arith
    bytes_within (Device part) =
        let both =
        within_bind (unseen (answered here.given (asked.Device part.pa))) (λ value. sees (First (touch part value))
        (outer_reading (Bytes value) value)) 0 (cf + 0) (omega arith) (λ value. omega arith) in
        omega (arith, both)

    reading_within : (a : Access) (target : Target) → costs (reading_of here a target).looks ≤ cf + cr
    unfolding reading_of
    reading_within access.Load target = bytes_within target
    reading_within access.Reserve target = bytes_within target
    reading_within access.Amo target = bytes_within target
    reading_within access.Store target = omega arith
    reading_within access.Conditional target = omega arith

    accessed_within : (i : Ins) (n : Need) → costs (accessed here i n).looks ≤ 4 * ce + (cf + cr)
    unfolding accessed
    accessed_within i n =
        within_bind (reached here n) (λ target. reading_of here n.access target >>= λ reading. unseen
        (instruction_effect here.state i reading.got) >>= λ e. found (access_done here.state n.access target reading
        e)) (4 * ce)
        (cf + cr) (reached_within n)
        (λ target.
        let both =
        within_bind (reading_of here n.access target) (λ reading. unseen (instruction_effect here.state i reading.got)
        >>= λ e. found (access_done here.state n.access target reading e)) (cf + cr) 0
        (reading_within n.access target)
        (λ reading.
        let none = within_bind (unseen (instruction_effect here.state i reading.got))
        (λ e. found (access_done here.state n.access target reading e)) 0 0 (omega arith) (λ e. omega arith) in
        omega (arith, none)) in
        omega (arith, both))

    need_within : (word : ℕ) (i : Ins) (o : Option Need) → costs (done_by_need here word i o).looks ≤ 4 * ce + (cf + cr)
    need_within word i None = omega arith
    need_within word i (Some n) = accessed_within i n

    pub executed_within : (word : ℕ) (i : Ins) → costs (executed here word i).looks ≤ 4 * ce + (cf + cr)
    unfolding executed
    executed_within word i = need_within word i (need_of (ask_of i here.state.pc here.state.x))

    uninterrupted_within : (o : Option ℕ) (p : Phase Retired) (n : ℕ) → costs p.looks ≤ n
        → costs (unless_interrupted o p).looks ≤ n
    uninterrupted_within None p n within = within
    uninterrupted_within (Some number) p n within = omega arith

    pub turn_within : costs (turn here).looks ≤ 6 * ce + (cw + (cf + cr))
    unfolding turn
    turn_within =
        let both =
        within_bind (fetched here) (λ word. unseen (instruction word) >>= λ i. executed here word i) (2 * ce + cw)
        (0 + (4 * ce + (cf + cr))) fetched_within
        (λ word. within_bind (unseen (instruction word)) (λ i. executed here word i) 0 (4 * ce + (cf + cr))
        (omega arith) (λ i. executed_within word i)) in
        uninterrupted_within (pending_of here.state) (fetched_and_executed here) (6 * ce + (cw + (cf + cr)))
        (omega (arith, both))
