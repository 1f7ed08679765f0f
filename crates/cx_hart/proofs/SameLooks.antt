-- Two memories of one length that agree on all that a phase looks at give the same phase.
use Rattle.std.proofs.Common.{◌≡◌, ℕ, ◌-◌, ◌≤◌, Bool, true, false, cond, List, [], ◌∷◌, ◌++◌, length, Option, None}
use Rattle.std.proofs.Common.{Some, Ok, Err, refl, sym, ap, subst, ◌∙◌}
use Rattle.cx_csr.specs.declared.state.State.{State}
use Rattle.cx_decode.specs.declared.ins.Ins.{Ins}
use Rattle.cx_exec.specs.Asking.{ask_of, need_of}
use Rattle.cx_exec.specs.declared.asks.Access.{Access}
use Rattle.cx_exec.specs.declared.asks.Access.TheVariants as access
use Rattle.cx_exec.specs.declared.asks.Ask.{Ask}
use Rattle.cx_exec.specs.declared.asks.Ask.TheVariants as ask
use Rattle.cx_exec.specs.declared.asks.Need.{Need}
use Rattle.cx_exec.specs.declared.got.Got.TheVariants.{Bytes}
use Rattle.cx_map.specs.declared.TheConstants.{RAM_START}
use Rattle.cx_ram.specs.Agreement.{AgreeOn}
use Rattle.cx_trap.specs.Pending.{pending_of}
use Rattle.cx_walk.specs.declared.kind.Kind.{Kind}
use Rattle.cx_walk.specs.declared.kind.Kind.TheVariants.{Fetch}
use Rattle.cx_walk.specs.Walks.{address_of}
use Rattle.cx_hart.specs.Accesses.{access_done, accessed, bytes_of, inner_reading, joined, reading_of}
use Rattle.cx_hart.specs.Control.{controlled, old_value}
use Rattle.cx_hart.specs.Effects.{instruction_effect}
use Rattle.cx_hart.specs.Ends.{End}
use Rattle.cx_hart.specs.Fetch.{fetched, read_at, translated}
use Rattle.cx_hart.specs.Legal.{instruction}
use Rattle.cx_hart.specs.Looks.{First, Look, Rest, Word}
use Rattle.cx_hart.specs.Phases.{Phase, found, looks_behind, sees, trap, unseen, ◌>>=◌}
use Rattle.cx_hart.specs.Reaching.{first_length, goes_on, is_naturally_aligned, is_split, kind_of, misaligned_cause}
use Rattle.cx_hart.specs.Reaching.{reached, reached_part, reached_rest, reached_second, reached_split, reached_whole}
use Rattle.cx_hart.specs.Reaching.{second_address, target_at}
use Rattle.cx_hart.specs.Reads.{ram_indices}
use Rattle.cx_hart.specs.Stretches.{IsTarget}
use Rattle.cx_hart.specs.Surroundings.{Surroundings}
use Rattle.cx_hart.specs.Touches.{part_value, touch}
use Rattle.cx_hart.specs.Turn.{done_by_need, done_without_access, executed, fetched_and_executed, turn}
use Rattle.cx_hart.specs.Turn.{unless_interrupted}
use Rattle.cx_hart.specs.declared.findings.Part.{Part}
use Rattle.cx_hart.specs.declared.findings.Retired.{Retired}
use Rattle.cx_hart.specs.declared.findings.Target.{Target}
use Rattle.cx_hart.specs.declared.findings.Target.TheVariants.{Memory, Device}
use Rattle.cx_hart.specs.declared.record.Touch.{Touch}
use Rattle.cx_hart.proofs.Found.{reached_target}
use Rattle.cx_hart.proofs.Needs.{IsLength, need_length}
use Rattle.cx_hart.proofs.SameWalks.{AgreeOnLooks, fetched_low, look_indices, translated_same as walks_same, value_same}

module _ (p q : List ℕ) where
  -- ---- phases over a memory

  front : (xs ys : List Look) → AgreeOnLooks p q (xs ++ ys) → AgreeOnLooks p q xs
  front [] ys agree = tt
  front (x ∷ xs) ys agree = (agree.0, front xs ys agree.1)

  back : (xs ys : List Look) → AgreeOnLooks p q (xs ++ ys) → AgreeOnLooks p q ys
  back [] ys agree = agree
  back (x ∷ xs) ys agree = back xs ys agree.1

  -- the phase is the same over both, where they agree on what it looks at over one
  abbrev Same : {Y : Type 0} → (List ℕ → Phase Y) → Type 0
  Same phase = AgreeOnLooks p q (phase p).looks → phase q ≡ phase p

  behind : {Y Z : Type 0} (looks : List Look) (e : End Y) (next : List ℕ → Y → Phase Z)
      → ((y : Y) → e ≡ Ok y → Same (λ m. next m y)) → AgreeOnLooks p q (looks_behind e (next p))
      → ◌≡◌ {A = Phase Z} (record { looks = looks; end = e } >>= next q) (record { looks = looks; end = e } >>= next p)
  behind {Z = Z} looks (Ok y) next rest agree = ap (λ (n : Phase Z). record { looks = looks ++ n.looks; end = n.end })
      (rest y refl agree)
  behind looks (Err stop) next rest agree = refl

  same_bind : {Y Z : Type 0} (phase : List ℕ → Phase Y) (next : List ℕ → Y → Phase Z) → Same phase
      → ((y : Y) → (phase p).end ≡ Ok y → Same (λ m. next m y)) → Same (λ m. phase m >>= next m)
  same_bind phase next first rest agree =
      ap (λ one. one >>= next q) (first (front (phase p).looks (looks_behind (phase p).end (next p)) agree))
      ∙ behind (phase p).looks (phase p).end next rest (back (phase p).looks (looks_behind (phase p).end (next p))
      agree)

  same_if : {Y : Type 0} (b : Bool) (one other : List ℕ → Phase Y) → Same one → Same other
      → Same (λ m. cond b (one m) (other m))
  same_if true one other first second = first
  same_if false one other first second = second

  read_same : (look : Touch → Look) (part : Part) → ((t : Touch) → look_indices (look t) ≡ ram_indices t.pa t.len)
      → RAM_START ≤ part.pa → Same (λ m. read_at m look part)
  unfolding touch
  read_same look part is low agree =
      let bytes = subst (λ l. AgreeOn l p q) (is (touch part (part_value p part))) agree.0 in
      ap (λ v. sees (look (touch part v)) v) (value_same p q part low bytes)

  module _ (size : length q ≡ length p) (split : Bool) (given : Option ℕ) (s : State) where
    abbrev over : List ℕ → Surroundings
    over memory = record { split = split; given = given; memory = memory; state = s }

    walked_same : (kind : Kind) (va len : ℕ) → Same (λ m. translated (over m) kind va len)
    walked_same kind va len agree = walks_same p q size split given s kind va len agree

    -- ---- the fetch

    fetched_same : Same (λ m. fetched (over m))
    unfolding fetched
    fetched_same =
        same_bind (λ m. translated (over m) Fetch s.pc 4)
        (λ m place. read_at m Word (record { va = s.pc; pa = address_of place; len = 4 }))
        (walked_same Fetch s.pc 4)
        (λ place e. read_same Word (record { va = s.pc; pa = address_of place; len = 4 }) (λ t. refl)
        (fetched_low (over p) s.pc 4 place e))

    -- ---- the target

    module _ (n : Need) where
      whole_same : Same (λ m. reached_whole (over m) n)
      unfolding reached_whole
      whole_same = same_bind (λ m. translated (over m) (kind_of n.access) n.va n.len)
          (λ m place. found (target_at n place)) (walked_same (kind_of n.access) n.va n.len) (λ place e agree. refl)

      part_same : (va len : ℕ) → Same (λ m. reached_part (over m) n va len)
      part_same va len =
          same_bind (λ m. translated (over m) (kind_of n.access) va 1)
          (λ m place. found (record { va = va; pa = address_of place; len = len }))
          (walked_same (kind_of n.access) va 1) (λ place e agree. refl)

      second_same : Same (λ m. reached_second (over m) n)
      second_same =
          same_bind (λ m. reached_part (over m) n (second_address n) (n.len - first_length n))
          (λ m part. found (Some part)) (part_same (second_address n) (n.len - first_length n))
          (λ part e agree. refl)

      rest_same : Same (λ m. reached_rest (over m) n)
      rest_same = same_if (goes_on n) (λ m. reached_second (over m) n) (λ m. found None) second_same (λ agree. refl)

      split_same : Same (λ m. reached_split (over m) n)
      unfolding reached_split
      split_same =
          same_bind (λ m. reached_part (over m) n n.va (first_length n)) (λ m first. reached_rest (over m) n >>= λ more.
          found (Memory first more)) (part_same n.va (first_length n))
          (λ first e. same_bind (λ m. reached_rest (over m) n) (λ m more. found (Memory first more)) rest_same
          (λ more e agree. refl))

      reached_same : Same (λ m. reached (over m) n)
      unfolding reached
      reached_same =
          same_if (is_naturally_aligned n) (λ m. reached_whole (over m) n)
          (λ m. cond (is_split split n) (reached_split (over m) n) (trap (misaligned_cause n.access) n.va))
          whole_same
          (same_if (is_split split n) (λ m. reached_split (over m) n) (λ m. trap (misaligned_cause n.access) n.va)
          split_same (λ agree. refl))

    -- ---- what is read

    bytes_same : (target : Target) → IsTarget (length p) target → Same (λ m. bytes_of (over m) target)
    unfolding bytes_of
    bytes_same (Device part) inside = λ agree. refl
    bytes_same (Memory first None) inside =
        same_bind (λ m. read_at m First first) (λ m low. found (inner_reading (Bytes low)))
        (read_same First first (λ t. refl) inside.0.inside.low) (λ low e agree. refl)
    bytes_same (Memory first (Some more)) inside =
        same_bind (λ m. read_at m First first) (λ m low. read_at m Rest more >>= λ high. found
        (inner_reading (Bytes (joined first low high)))) (read_same First first (λ t. refl) inside.0.inside.low)
        (λ low e. same_bind (λ m. read_at m Rest more) (λ m high. found (inner_reading (Bytes (joined first low high))))
        (read_same Rest more (λ t. refl) inside.1.inside.inside.low) (λ high e agree. refl))

    reading_same : (a : Access) (target : Target) → IsTarget (length p) target
        → Same (λ m. reading_of (over m) a target)
    unfolding reading_of
    reading_same access.Load target inside = bytes_same target inside
    reading_same access.Reserve target inside = bytes_same target inside
    reading_same access.Amo target inside = bytes_same target inside
    reading_same access.Store target inside = λ agree. refl
    reading_same access.Conditional target inside = λ agree. refl

    -- ---- the instruction

    accessed_same : (i : Ins) (n : Need) → IsLength n.len → Same (λ m. accessed (over m) i n)
    unfolding accessed
    accessed_same i n lengths =
        same_bind (λ m. reached (over m) n) (λ m target. reading_of (over m) n.access target >>= λ reading. unseen
        (instruction_effect s i reading.got) >>= λ e. found (access_done s n.access target reading e))
        (reached_same n)
        (λ target e. same_bind (λ m. reading_of (over m) n.access target)
        (λ m reading. unseen (instruction_effect s i reading.got) >>= λ e. found
        (access_done s n.access target reading e))
        (reading_same n.access target (reached_target (over p) n target lengths (sym e))) (λ reading e agree. refl))

    -- an instruction without an access doesn't look at memory
    without_same : (word : ℕ) (i : Ins) (a : Ask) → done_without_access (over q) word i a ≡ done_without_access (over p)
        word i a
    unfolding controlled old_value
    without_same word i ask.Csr = refl
    without_same word i ask.System = refl
    without_same word i a = refl

    need_same : (word : ℕ) (i : Ins) (o : Option Need) → o ≡ need_of (ask_of i s.pc s.x)
        → Same (λ m. done_by_need (over m) word i o)
    need_same word i None e = λ agree. ap (λ e. unseen e) (without_same word i (ask_of i s.pc s.x))
    need_same word i (Some n) e = accessed_same i n (need_length i s.pc s.x n e)

    executed_same : (word : ℕ) (i : Ins) → Same (λ m. executed (over m) word i)
    unfolding executed
    executed_same word i = need_same word i (need_of (ask_of i s.pc s.x)) refl

    -- ---- the turn

    uninterrupted_same : (o : Option ℕ) (phase : List ℕ → Phase Retired) → Same phase
        → Same (λ m. unless_interrupted o (phase m))
    uninterrupted_same None phase same = same
    uninterrupted_same (Some number) phase same = λ agree. refl

    pub turn_same : AgreeOnLooks p q (turn (over p)).looks → turn (over q) ≡ turn (over p)
    unfolding turn
    turn_same =
        uninterrupted_same (pending_of s) (λ m. fetched_and_executed (over m))
        (same_bind (λ m. fetched (over m)) (λ m word. unseen (instruction word) >>= λ i. executed (over m) word i)
        fetched_same
        (λ word e. same_bind (λ m. unseen (instruction word)) (λ m i. executed (over m) word i) (λ agree. refl)
        (λ i e. executed_same word i)))
