-- What an instruction that accesses memory shows in user mode.
use Rattle.std.proofs.Common.{◌≡◌, ℕ, inr, ◌*◌, ◌%◌, ◌^◌, ◌<◌, nat_lt, Bool, true, false, List, [], ◌++◌, length}
use Rattle.std.proofs.Common.{Option, None, Some, Result, Ok, Err, if◌then◌else◌, refl, sym, ap, ap₂}
use Rattle.std.proofs.Common.{replicate, ◌-◌, subst, ◌∙◌, eq-eqb}
use Rattle.cx_decode.specs.declared.ins.Ins.{Ins}
use Rattle.cx_exec.specs.Asking.{ask_of}
use Rattle.cx_exec.specs.Effect.{effect_of}
use Rattle.cx_exec.specs.Values.{values_of}
use Rattle.cx_exec.specs.declared.asks.Access.TheVariants as access
use Rattle.cx_exec.specs.declared.asks.Ask.{Ask}
use Rattle.cx_exec.specs.declared.asks.Ask.TheVariants as ask
use Rattle.cx_exec.specs.declared.asks.Need.{Need}
use Rattle.cx_exec.specs.declared.effect.Effect.{Effect}
use Rattle.cx_exec.specs.declared.effect.Misaligned.{Misaligned}
use Rattle.cx_exec.specs.declared.got.Got.{Got}
use Rattle.cx_exec.specs.declared.got.Got.TheVariants.{Nothing, Bytes, Outcome}
use Rattle.cx_hart.specs.Accesses.{access_done, accessed, first_place, inner_reading, outcome_at, is_reserved, reading_of, result_of}
use Rattle.cx_hart.specs.Effects.{effect_or_trap, instruction_effect}
use Rattle.cx_hart.specs.Looks.{Look}
use Rattle.cx_hart.specs.Phases.{Phase, found, looks_behind, unseen, ◌>>=◌}
use Rattle.cx_hart.specs.Reaching.{reached}
use Rattle.cx_hart.specs.Surroundings.{Surroundings}
use Rattle.cx_hart.specs.Touches.{padded}
use Rattle.cx_hart.specs.declared.findings.Control.TheVariants.{Untouched}
use Rattle.cx_hart.specs.declared.findings.Reading.{Reading}
use Rattle.cx_hart.specs.declared.findings.Retired.{Retired}
use Rattle.cx_hart.specs.declared.findings.Target.{Target}
use Rattle.cx_hart.proofs.Costs.{reached_within}
use Rattle.cx_hart.proofs.Keepable.{FitsGiven}
use Rattle.cx_hart.proofs.Needs.{IsLength}
use Rattle.cx_hart.proofs.Telling.{first_after, first_append, reads_no_first, reads_no_rest, rest_after, rest_append}
use Rattle.cx_map.specs.Bytes.{AreBytes}
use Rattle.cx_ram.specs.LittleEndian.{loaded, low_bytes}
use Rattle.cx_slices.specs.Bytes.{Byte, Shows}
use Rattle.cx_observe.specs.Asked.{got_of, is_aligned, number_read, read_of, stored_at, takes_value, write_of}
use Rattle.cx_observe.specs.Observation.{access_seen}
use Rattle.cx_observe.specs.Possible.{IsReadOf, is_word_or_none}
use Rattle.cx_observe.specs.Seeing.{bytes_shown, seen_with}
use Rattle.cx_observe.specs.declared.obs.Seen.{Seen}
use Rattle.cx_observe.proofs.Given.{are_bytes-low_bytes, length-low_bytes}
use Rattle.cx_observe.proofs.Stepping.{bytes_shown-seen_with}
use Rattle.cx_observe.proofs.UserBytes.{loaded-low_bytes_of}
use Rattle.cx_observe.proofs.UserPlaces.{not_Ok, same_Ok}
use Rattle.cx_observe.proofs.UserReadings.{HasRead, has_read, has_written, user_sees}
use Rattle.cx_observe.proofs.UserRows.{row_none, written_by}
use Rattle.cx_observe.proofs.UserTargets.{IsReached, WentOn, user_reached, went_on}

-- ---- what an instruction did

-- What retired as this shows, with this read: all that a possible observation asks for, and no control register.
pub record RetiredBy (here : Surroundings) (i : Ins) (what : Ask) (r : Retired) (read : Option Seen) : Type 0 where
  pub aligned : is_aligned what ≡ true
  pub reads : IsReadOf (read_of what) read
  pub device : List Byte
  pub shows : Shows (user_sees here.memory here.state.csr.satp device) (bytes_shown read)
  pub takes : takes_value what r.result ≡ true
  pub does : effect_of i here.state.pc here.state.x (got_of what read r.result) ≡ Ok r.effect
  pub writes : access_seen r.write r.write_more ≡ stored_at (write_of what) r.effect.write
  pub value : is_word_or_none r.result ≡ true
  pub control : r.control ≡ Untouched

-- ---- how an access goes

effect_found : (r : Result Effect Misaligned) (e : Effect) → effect_or_trap r ≡ Ok e → r ≡ Ok e
effect_found (Ok f) e is = ap {B = Result Effect Misaligned} Ok (same_Ok f e is)
effect_found (Err m) e is = not_Ok _ e is

pub found_effect : (here : Surroundings) (i : Ins) (got : Got) (e : Effect)
    → instruction_effect here.state i got ≡ Ok e → effect_of i here.state.pc here.state.x got ≡ Ok e
found_effect here i got e is = effect_found (effect_of i here.state.pc here.state.x got) e is

pub record AccessedBy (here : Surroundings) (i : Ins) (n : Need) (r : Retired) : Type 0 where
  pub target : Target
  pub reached_is : IsReached here.memory here.state.csr.satp n target
  pub reading : Reading
  pub read_is : (reading_of here n.access target).end ≡ Ok reading
  pub effect : Effect
  pub does : effect_of i here.state.pc here.state.x reading.got ≡ Ok effect
  pub done : access_done here.state n.access target reading effect ≡ r
  pub seen : access_seen (first_after (accessed here i n).looks None) (rest_after (accessed here i n).looks None)
      ≡ access_seen (first_after (reading_of here n.access target).looks None)
      (rest_after (reading_of here n.access target).looks None)

first_middle : (xs ys : List Look) → first_after (xs ++ (ys ++ [])) None ≡ first_after ys (first_after xs None)
first_middle xs ys = first_append xs (ys ++ []) None ∙ first_append ys [] (first_after xs None)

rest_middle : (xs ys : List Look) → rest_after (xs ++ (ys ++ [])) None ≡ rest_after ys (rest_after xs None)
rest_middle xs ys = rest_append xs (ys ++ []) None ∙ rest_append ys [] (rest_after xs None)

pub accessed_by : (here : Surroundings) (i : Ins) (n : Need) (r : Retired) → here.state.mode ≡ 0 → n.va < 2 ^ 32
    → IsLength n.len → (accessed here i n).end ≡ Ok r → AccessedBy here i n r
unfolding accessed
accessed_by here i n r user small sizes is =
    let one : WentOn (reached here n) (λ target. reading_of here n.access target >>= λ reading.
    unseen (instruction_effect here.state i reading.got) >>= λ effect.
    found (access_done here.state n.access target reading effect)) r
    = went_on (reached here n) (λ target. reading_of here n.access target >>= λ reading.
    unseen (instruction_effect here.state i reading.got) >>= λ effect.
    found (access_done here.state n.access target reading effect)) r is in
    let two : WentOn (reading_of here n.access one.value) (λ reading.
    unseen (instruction_effect here.state i reading.got) >>= λ effect.
    found (access_done here.state n.access one.value reading effect)) r
    = went_on (reading_of here n.access one.value) (λ reading.
    unseen (instruction_effect here.state i reading.got) >>= λ effect.
    found (access_done here.state n.access one.value reading effect)) r one.goes in
    let three : WentOn (unseen (instruction_effect here.state i two.value.got)) (λ effect.
    found (access_done here.state n.access one.value two.value effect)) r
    = went_on (unseen (instruction_effect here.state i two.value.got)) (λ effect.
    found (access_done here.state n.access one.value two.value effect)) r two.goes in
    let behind : looks_behind (reading_of here n.access one.value).end (λ reading.
    unseen (instruction_effect here.state i reading.got) >>= λ effect.
    found (access_done here.state n.access one.value reading effect)) ≡ []
    = two.looks ∙ three.looks in
    let all : (accessed here i n).looks
    ≡ (reached here n).looks ++ ((reading_of here n.access one.value).looks ++ [])
    = ap (λ l. (reached here n).looks ++ l) (one.looks
    ∙ ap (λ l. (reading_of here n.access one.value).looks ++ l) behind) in
    record {
      target = one.value;
      reached_is = user_reached here n one.value user small sizes one.is;
      reading = two.value;
      read_is = two.is;
      effect = three.value;
      does = found_effect here i two.value.got three.value three.is;
      done = same_Ok (access_done here.state n.access one.value two.value three.value) r three.goes;
      seen = ap₂ access_seen
          (ap (λ l. first_after l None) all
          ∙ (first_middle (reached here n).looks (reading_of here n.access one.value).looks
          ∙ ap (first_after (reading_of here n.access one.value).looks)
          (reads_no_first (reached here n).looks None (reached_within 0 0 1 1 here n))))
          (ap (λ l. rest_after l None) all
          ∙ (rest_middle (reached here n).looks (reading_of here n.access one.value).looks
          ∙ ap (rest_after (reading_of here n.access one.value).looks)
          (reads_no_rest (reached here n).looks None (reached_within 0 0 1 1 here n))));
    }

-- ---- what was read

number_is : (va n v : ℕ) → v < 2 ^ (8 * n) → number_read (Some (seen_with va (low_bytes n v))) ≡ v
number_is va n v fits = ap (loaded (padded 4 (low_bytes n v)) 0) (length-low_bytes n v)
    ∙ loaded-low_bytes_of n v (replicate (4 - length (low_bytes n v)) 0) fits

is_read : (va n v : ℕ) → IsReadOf (Some (record { va = va; len = n })) (Some (seen_with va (low_bytes n v)))
is_read va n v = record {
  bytes = low_bytes n v;
  are = are_bytes-low_bytes n v;
  len = length-low_bytes n v;
  is = refl;
}

-- the same of a read that is known by an equation
pub record ReadSo (here : Surroundings) (n : Need) (got : Got) (read : Option Seen) : Type 0 where
  pub reads : IsReadOf (Some (record { va = n.va; len = n.len })) read
  pub device : List Byte
  pub shows : Shows (user_sees here.memory here.state.csr.satp device) (bytes_shown read)
  pub number : got ≡ Bytes (number_read read)

read_so : (here : Surroundings) (n : Need) (reading : Reading) (looks : List Look) (read : Option Seen)
    → read ≡ access_seen (first_after looks None) (rest_after looks None)
    → HasRead here.memory here.state.csr.satp n reading looks → ReadSo here n reading.got read
read_so here n reading looks read is has =
    let all : Some (seen_with n.va (low_bytes n.len has.value)) ≡ read = sym (is ∙ has.seen) in
    subst (ReadSo here n reading.got) all (record {
      reads = is_read n.va n.len has.value;
      device = has.device;
      shows = subst (Shows (user_sees here.memory here.state.csr.satp has.device))
          (sym (bytes_shown-seen_with n.va (low_bytes n.len has.value))) has.shows;
      number = has.got ∙ ap {B = Got} Bytes (sym (number_is n.va n.len has.value has.fits));
    })

-- ---- the five kinds

abbrev pub read_in : Phase Retired → Option Seen
read_in p = access_seen (first_after p.looks None) (rest_after p.looks None)

no_result : (got : Got) (v : ℕ) → got ≡ Bytes v → result_of got ≡ None
no_result got v is = ap result_of is

no_write : (here : Surroundings) (i : Ins) (got : Got) (e : Effect) → write_of (ask_of i here.state.pc here.state.x) ≡ None
    → effect_of i here.state.pc here.state.x got ≡ Ok e → e.write ≡ None
no_write here i got e none does = ap written_by (sym does)
    ∙ row_none i.op (values_of i here.state.pc here.state.x got)
    (values_of i here.state.pc here.state.x Nothing) none

module _ (here : Surroundings) (i : Ins) (r : Retired) (user : here.state.mode ≡ 0) (fit : AreBytes here.memory)
    (fits : FitsGiven here.given) where
  pub load_retires : (va len : ℕ) → ask_of i here.state.pc here.state.x ≡ ask.Load va len → va < 2 ^ 32 → IsLength len
      → (accessed here i (record { access = access.Load; va = va; len = len })).end ≡ Ok r
      → RetiredBy here i (ask.Load va len) r
      (read_in (accessed here i (record { access = access.Load; va = va; len = len })))
  unfolding reading_of
  load_retires va len asked small sizes is =
      let by : AccessedBy here i (record { access = access.Load; va = va; len = len }) r
      = accessed_by here i (record { access = access.Load; va = va; len = len }) r user small sizes is in
      let so : ReadSo here (record { access = access.Load; va = va; len = len }) by.reading.got
      (read_in (accessed here i (record { access = access.Load; va = va; len = len })))
      = read_so here (record { access = access.Load; va = va; len = len }) by.reading _ _ by.seen
      (has_read here here.state.csr.satp (record { access = access.Load; va = va; len = len }) by.target by.reading
      fit fits by.reached_is.is by.read_is) in
      let none : by.effect.write ≡ None
      = no_write here i by.reading.got by.effect (ap write_of asked) by.does in
      let result : result_of by.reading.got ≡ None = no_result by.reading.got _ so.number in
      subst (λ (q : Retired). RetiredBy here i (ask.Load va len) q
      (read_in (accessed here i (record { access = access.Load; va = va; len = len })))) by.done
      (record {
        aligned = refl;
        reads = so.reads;
        device = so.device;
        shows = so.shows;
        takes = ap (takes_value (ask.Load va len)) result;
        does = ap (effect_of i here.state.pc here.state.x) (sym so.number) ∙ by.does;
        writes = rw none refl;
        value = ap is_word_or_none result;
        control = refl;
      })

  pub reserve_retires : (va : ℕ) → ask_of i here.state.pc here.state.x ≡ ask.Reserve va → va < 2 ^ 32
      → (accessed here i (record { access = access.Reserve; va = va; len = 4 })).end ≡ Ok r
      → RetiredBy here i (ask.Reserve va) r (read_in (accessed here i (record { access = access.Reserve; va = va; len = 4 })))
  unfolding reading_of
  reserve_retires va asked small is =
      let by : AccessedBy here i (record { access = access.Reserve; va = va; len = 4 }) r
      = accessed_by here i (record { access = access.Reserve; va = va; len = 4 }) r user small (inr (inr refl)) is in
      let so : ReadSo here (record { access = access.Reserve; va = va; len = 4 }) by.reading.got (read_in (accessed here i (record { access = access.Reserve; va = va; len = 4 })))
      = read_so here (record { access = access.Reserve; va = va; len = 4 }) by.reading _ _ by.seen
      (has_read here here.state.csr.satp (record { access = access.Reserve; va = va; len = 4 }) by.target by.reading fit fits by.reached_is.is by.read_is) in
      let none : by.effect.write ≡ None = no_write here i by.reading.got by.effect (ap write_of asked) by.does in
      let result : result_of by.reading.got ≡ None = no_result by.reading.got _ so.number in
      subst (λ (q : Retired). RetiredBy here i (ask.Reserve va) q (read_in (accessed here i (record { access = access.Reserve; va = va; len = 4 })))) by.done
      (record {
        aligned = eq-eqb (va % 4) 0 (by.reached_is.aligned refl);
        reads = so.reads;
        device = so.device;
        shows = so.shows;
        takes = ap (takes_value (ask.Reserve va)) result;
        does = ap (effect_of i here.state.pc here.state.x) (sym so.number) ∙ by.does;
        writes = rw none refl;
        value = ap is_word_or_none result;
        control = refl;
      })

  pub amo_retires : (va : ℕ) → va < 2 ^ 32 → (accessed here i (record { access = access.Amo; va = va; len = 4 })).end ≡ Ok r
      → RetiredBy here i (ask.Amo va) r (read_in (accessed here i (record { access = access.Amo; va = va; len = 4 })))
  unfolding reading_of
  amo_retires va small is =
      let by : AccessedBy here i (record { access = access.Amo; va = va; len = 4 }) r
      = accessed_by here i (record { access = access.Amo; va = va; len = 4 }) r user small (inr (inr refl)) is in
      let so : ReadSo here (record { access = access.Amo; va = va; len = 4 }) by.reading.got (read_in (accessed here i (record { access = access.Amo; va = va; len = 4 })))
      = read_so here (record { access = access.Amo; va = va; len = 4 }) by.reading _ _ by.seen
      (has_read here here.state.csr.satp (record { access = access.Amo; va = va; len = 4 }) by.target by.reading fit fits by.reached_is.is by.read_is) in
      let result : result_of by.reading.got ≡ None = no_result by.reading.got _ so.number in
      subst (λ (q : Retired). RetiredBy here i (ask.Amo va) q (read_in (accessed here i (record { access = access.Amo; va = va; len = 4 })))) by.done
      (record {
        aligned = eq-eqb (va % 4) 0 (by.reached_is.aligned refl);
        reads = so.reads;
        device = so.device;
        shows = so.shows;
        takes = ap (takes_value (ask.Amo va)) result;
        does = ap (effect_of i here.state.pc here.state.x) (sym so.number) ∙ by.does;
        writes = has_written here.memory here.state.csr.satp (record { access = access.Amo; va = va; len = 4 }) by.target by.effect.write by.reached_is.is;
        value = ap is_word_or_none result;
        control = refl;
      })

  pub store_retires : (va len : ℕ) → va < 2 ^ 32 → IsLength len → (accessed here i (record { access = access.Store; va = va; len = len })).end ≡ Ok r
      → RetiredBy here i (ask.Store va len) r (read_in (accessed here i (record { access = access.Store; va = va; len = len })))
  unfolding reading_of
  store_retires va len small sizes is =
      let by : AccessedBy here i (record { access = access.Store; va = va; len = len }) r
      = accessed_by here i (record { access = access.Store; va = va; len = len }) r user small sizes is in
      let got : inner_reading Nothing ≡ by.reading = same_Ok (inner_reading Nothing) by.reading by.read_is in
      let none : read_in (accessed here i (record { access = access.Store; va = va; len = len })) ≡ None = by.seen in
      subst (λ (q : Retired). RetiredBy here i (ask.Store va len) q (read_in (accessed here i (record { access = access.Store; va = va; len = len })))) by.done
      (record {
        aligned = refl;
        reads = subst (IsReadOf None) (sym none) tt;
        device = [];
        shows = subst (λ (o : Option Seen). Shows (user_sees here.memory here.state.csr.satp []) (bytes_shown o))
            (sym none) tt;
        takes = ap (λ (q : Reading). takes_value (ask.Store va len) (result_of q.got)) (sym got);
        does = ap (λ (q : Reading). effect_of i here.state.pc here.state.x q.got) got ∙ by.does;
        writes = has_written here.memory here.state.csr.satp (record { access = access.Store; va = va; len = len }) by.target by.effect.write by.reached_is.is;
        value = ap (λ (q : Reading). is_word_or_none (result_of q.got)) (sym got);
        control = refl;
      })

  pub conditional_retires : (va : ℕ) → va < 2 ^ 32 → (accessed here i (record { access = access.Conditional; va = va; len = 4 })).end ≡ Ok r
      → RetiredBy here i (ask.Conditional va) r (read_in (accessed here i (record { access = access.Conditional; va = va; len = 4 })))
  unfolding reading_of
  conditional_retires va small is =
      let by : AccessedBy here i (record { access = access.Conditional; va = va; len = 4 }) r
      = accessed_by here i (record { access = access.Conditional; va = va; len = 4 }) r user small (inr (inr refl)) is in
      let got : inner_reading (Outcome (outcome_at here.state.reservation (first_place by.target))) ≡ by.reading
      = same_Ok (inner_reading (Outcome (outcome_at here.state.reservation (first_place by.target)))) by.reading
      by.read_is in
      let none : read_in (accessed here i (record { access = access.Conditional; va = va; len = 4 })) ≡ None = by.seen in
      subst (λ (q : Retired). RetiredBy here i (ask.Conditional va) q (read_in (accessed here i (record { access = access.Conditional; va = va; len = 4 })))) by.done
      (record {
        aligned = eq-eqb (va % 4) 0 (by.reached_is.aligned refl);
        reads = subst (IsReadOf None) (sym none) tt;
        device = [];
        shows = subst (λ (o : Option Seen). Shows (user_sees here.memory here.state.csr.satp []) (bytes_shown o))
            (sym none) tt;
        takes = ap (λ (q : Reading). takes_value (ask.Conditional va) (result_of q.got)) (sym got)
            ∙ outcome_small (is_reserved here.state.reservation (first_place by.target));
        does = ap (λ (q : Reading). effect_of i here.state.pc here.state.x
            (got_of (ask.Conditional va) (read_in (accessed here i (record { access = access.Conditional; va = va; len = 4 }))) (result_of q.got))) (sym got)
            ∙ (ap (λ (q : Reading). effect_of i here.state.pc here.state.x q.got) got ∙ by.does);
        writes = has_written here.memory here.state.csr.satp (record { access = access.Conditional; va = va; len = 4 }) by.target by.effect.write by.reached_is.is;
        value = ap (λ (q : Reading). is_word_or_none (result_of q.got)) (sym got)
            ∙ outcome_word (is_reserved here.state.reservation (first_place by.target));
        control = refl;
      })
    where
      outcome_small : (t : Bool) → nat_lt (if t then 0 else 1) 2 ≡ true
      outcome_small true = refl
      outcome_small false = refl

      outcome_word : (t : Bool) → nat_lt (if t then 0 else 1) (2 ^ 32) ≡ true
      outcome_word true = refl
      outcome_word false = refl
