-- What any instruction shows that retires in user mode.
use Rattle.std.proofs.Common.{◌≡◌, ℕ, ◌^◌, ◌<◌, ◌==◌, Bool, true, false, [], Option, None, Some, IfSome, Ok}
use Rattle.std.proofs.Common.{Err, if◌then◌else◌, nat_eq, refl, sym, ap, subst, ◌∙◌, lt-ltb}
use Rattle.cx_csr.specs.Access.{IsWordAnswer, csr_read, is_illegal}
use Rattle.cx_csr.specs.Keeps.{Keeps}
use Rattle.cx_csr.specs.declared.access.Csr.{Csr}
use Rattle.cx_csr.specs.declared.access.Csr.TheVariants as csr
use Rattle.cx_csr.specs.declared.state.State.{State}
use Rattle.cx_csr.proofs.LegalReads.{csr_read_word}
use Rattle.cx_decode.specs.declared.ins.Ins.{Ins}
use Rattle.cx_decode.specs.declared.op.Op.{Op}
use Rattle.cx_decode.specs.declared.op.Op.TheVariants.{Ecall, Ebreak, Mret, Sret}
use Rattle.cx_exec.specs.Asking.{ask_of, need_of}
use Rattle.cx_exec.specs.Control.{reads_control, writes_control}
use Rattle.cx_exec.specs.Effect.{effect_of}
use Rattle.cx_exec.specs.User.{user_retires}
use Rattle.cx_exec.specs.Values.{got_number, values_of}
use Rattle.cx_exec.specs.declared.asks.Access.TheVariants as access
use Rattle.cx_exec.specs.declared.asks.Ask.{Ask}
use Rattle.cx_exec.specs.declared.asks.Ask.TheVariants as ask
use Rattle.cx_exec.specs.declared.asks.Need.{Need}
use Rattle.cx_exec.specs.declared.effect.Effect.{Effect}
use Rattle.cx_exec.specs.declared.got.Got.TheVariants.{Nothing, Old}
use Rattle.cx_hart.specs.Accesses.{accessed, inner_reading, outer_reading}
use Rattle.cx_hart.specs.Control.{control_carried_out, control_done, controlled, counter_result, half_of_time, old_of}
use Rattle.cx_hart.specs.Control.{new_value, old_value}
use Rattle.cx_hart.specs.Effects.{instruction_effect, retired_with}
use Rattle.cx_hart.specs.Ends.{End, answered, found, ◌>>=◌}
use Rattle.cx_hart.specs.Legal.{illegal, is_barred}
use Rattle.cx_hart.specs.Phases.{Phase, unseen}
use Rattle.cx_hart.specs.Surroundings.{Surroundings}
use Rattle.cx_hart.specs.System.{computed, returned, system}
use Rattle.cx_hart.specs.Turn.{done_by_need, done_without_access, executed}
use Rattle.cx_hart.specs.declared.findings.Control.TheVariants.{Untouched, Write}
use Rattle.cx_hart.specs.declared.findings.Control.TheVariants as control
use Rattle.cx_hart.specs.declared.findings.Reading.{Reading}
use Rattle.cx_hart.specs.declared.findings.Retired.{Retired}
use Rattle.cx_hart.proofs.Keepable.{FitsGiven}
use Rattle.cx_hart.proofs.Needs.{IsNeed, row_need}
use Rattle.cx_hart.proofs.Ready.{register_fits}
use Rattle.cx_map.specs.Bytes.{AreBytes}
use Rattle.cx_trap.specs.Return.{can_mret, can_sret}
use Rattle.cx_observe.specs.Asked.{got_of, stored_at, takes_value}
use Rattle.cx_observe.specs.Possible.{is_word_or_none}
use Rattle.cx_observe.proofs.UserAccesses.{
  RetiredBy,
  amo_retires,
  conditional_retires,
  found_effect,
  load_retires,
  read_in,
  reserve_retires,
  store_retires,
}
use Rattle.cx_observe.proofs.UserControls.{IsUserRead, user_reads}
use Rattle.cx_observe.proofs.UserPlaces.{not_Ok, same_Ok}
use Rattle.cx_observe.proofs.UserRows.{csr_reads, csr_user, need_user, nothing_user}

-- ---- an end that finds something

record EndedOn {Y Z : Type 0} (e : End Y) (next : Y → End Z) (z : Z) : Type 0 where
  pub value : Y
  pub is : e ≡ Ok value
  pub goes : next value ≡ Ok z

ended_on : {Y Z : Type 0} (e : End Y) (next : Y → End Z) (z : Z) → (e >>= next) ≡ Ok z → EndedOn e next z
ended_on (Ok y) next z is = record { value = y; is = refl; goes = is }
ended_on (Err stop) next z is = not_Ok stop z is

stored_nowhere : (w : Option ℕ) → stored_at None w ≡ None
stored_nowhere None = refl
stored_nowhere (Some v) = refl

-- ---- what asks for nothing

record Computes (s : State) (i : Ins) (r : Retired) : Type 0 where
  pub free : is_barred s i.op ≡ false
  pub effect : Effect
  pub is : instruction_effect s i Nothing ≡ Ok effect
  pub done : retired_with s effect ≡ r

computes_by : (word : ℕ) (s : State) (i : Ins) (r : Retired) (t : Bool) → is_barred s i.op ≡ t
    → (if t then illegal word else (instruction_effect s i Nothing >>= λ effect. found (retired_with s effect))) ≡ Ok r
    → Computes s i r
computes_by word s i r true barred went = not_Ok _ r went
computes_by word s i r false free went =
    let by : EndedOn (instruction_effect s i Nothing) (λ effect. found (retired_with s effect)) r
    = ended_on (instruction_effect s i Nothing) (λ effect. found (retired_with s effect)) r went in
    record { free = free; effect = by.value; is = by.is; done = same_Ok (retired_with s by.value) r by.goes }

computes : (word : ℕ) (s : State) (i : Ins) (r : Retired) → computed word s i ≡ Ok r → Computes s i r
unfolding computed
computes word s i r went = computes_by word s i r (is_barred s i.op) refl went

computed_retires : (here : Surroundings) (i : Ins) (r : Retired) → Computes here.state i r
    → RetiredBy here i ask.Nothing r None
computed_retires here i r by = subst (λ (q : Retired). RetiredBy here i ask.Nothing q None) by.done (record {
  aligned = refl;
  reads = tt;
  device = [];
  shows = tt;
  takes = refl;
  does = found_effect here i Nothing by.effect by.is;
  writes = sym (stored_nowhere by.effect.write);
  value = refl;
  control = refl;
})

-- ---- what reads a counter

record OldKnown (reading : Reading) : Type 0 where
  pub value : ℕ
  pub got : reading.got ≡ Old value
  pub fits : value < 2 ^ 32

time_known : (high : Bool) (given : Option ℕ) (reading : Reading) → FitsGiven given
    → (answered given (half_of_time high) >>= λ value. found (outer_reading (Old value) value)) ≡ Ok reading
    → OldKnown reading
time_known high None reading fits went = not_Ok _ reading went
time_known high (Some v) reading fits went = subst OldKnown (same_Ok (outer_reading (Old v) v) reading went)
    (record { value = v; got = refl; fits = fits })

old_known : (given : Option ℕ) (word : ℕ) (c : Csr) (reading : Reading) → FitsGiven given → IsWordAnswer c
    → old_of given word c ≡ Ok reading → OldKnown reading
old_known given word (csr.Value v) reading fits is went =
    subst OldKnown (same_Ok (inner_reading (Old v)) reading went) (record { value = v; got = refl; fits = is })
old_known given word (csr.Time high) reading fits is went = time_known high given reading fits went
old_known given word csr.Illegal reading fits is went = not_Ok _ reading went

record Controls (here : Surroundings) (i : Ins) (r : Retired) : Type 0 where
  pub read : IsUserRead (writes_control i) i.imm
  pub reading : Reading
  pub known : OldKnown reading
  pub effect : Effect
  pub is : instruction_effect here.state i reading.got ≡ Ok effect
  pub done : control_done here.state i (got_number reading.got) reading.value effect ≡ r

controls_by : (pages : ℕ) (here : Surroundings) (word : ℕ) (i : Ins) (r : Retired) (t : Bool) → Keeps pages here.state
    → here.state.mode ≡ 0 → FitsGiven here.given → ask_of i here.state.pc here.state.x ≡ ask.Csr
    → is_illegal (writes_control i) here.state i.imm ≡ t
    → (if t then illegal word else (old_value here word i >>= control_carried_out here.state i)) ≡ Ok r
    → Controls here i r
unfolding old_value
controls_by pages here word i r true keeps user fits asked legal went = not_Ok _ r went
controls_by pages here word i r false keeps user fits asked legal went =
    let read : IsUserRead (writes_control i) i.imm = user_reads pages here.state (writes_control i) i.imm keeps user legal in
    let reads : reads_control i ≡ true
    = csr_reads i.op (values_of i here.state.pc here.state.x Nothing) i.rd i.rs1 asked read.reads in
    let old : EndedOn (old_value here word i) (control_carried_out here.state i) r
    = ended_on (old_value here word i) (control_carried_out here.state i) r went in
    let old_is : old_of here.given word (csr_read here.state i.imm) ≡ Ok old.value
    = sym (ap (λ t. if t then old_of here.given word (csr_read here.state i.imm) else found (inner_reading (Old 0)))
    reads) ∙ old.is in
    let done : EndedOn (instruction_effect here.state i old.value.got)
    (λ effect. found (control_done here.state i (got_number old.value.got) old.value.value effect)) r
    = ended_on (instruction_effect here.state i old.value.got)
    (λ effect. found (control_done here.state i (got_number old.value.got) old.value.value effect)) r old.goes in
    record {
      read = read;
      reading = old.value;
      known = old_known here.given word (csr_read here.state i.imm) old.value fits
          (csr_read_word pages here.state i.imm keeps) old_is;
      effect = done.value;
      is = done.is;
      done = same_Ok (control_done here.state i (got_number old.value.got) old.value.value done.value) r done.goes;
    }

controls : (pages : ℕ) (here : Surroundings) (word : ℕ) (i : Ins) (r : Retired) → Keeps pages here.state
    → here.state.mode ≡ 0 → FitsGiven here.given → ask_of i here.state.pc here.state.x ≡ ask.Csr
    → controlled here word i ≡ Ok r → Controls here i r
unfolding controlled
controls pages here word i r keeps user fits asked went = controls_by pages here word i r
    (is_illegal (writes_control i) here.state i.imm) keeps user fits asked refl went

controlled_retires : (here : Surroundings) (i : Ins) (r : Retired) → Controls here i r → RetiredBy here i ask.Csr r None
controlled_retires here i r by =
    let number : got_number by.reading.got ≡ by.known.value = ap got_number by.known.got in
    let result : counter_result i (got_number by.reading.got) ≡ Some by.known.value
    = ap (λ t. if t then Some (got_number by.reading.got) else None) by.read.counter
    ∙ ap {B = Option ℕ} Some number in
    subst (λ (q : Retired). RetiredBy here i ask.Csr q None) by.done (record {
      aligned = refl;
      reads = tt;
      device = [];
      shows = tt;
      takes = ap (takes_value ask.Csr) result;
      does = ap (λ (o : Option ℕ). effect_of i here.state.pc here.state.x
          (got_of ask.Csr None o)) result
          ∙ (ap (effect_of i here.state.pc here.state.x) (sym by.known.got)
          ∙ found_effect here i by.reading.got by.effect by.is);
      writes = sym (stored_nowhere by.effect.write);
      value = ap is_word_or_none result ∙ lt-ltb by.known.value (2 ^ 32) by.known.fits;
      control = ap (λ t. if t then Write i.imm (new_value here.state i (got_number by.reading.got)) else Untouched)
          by.read.reads;
    })

-- ---- what calls, breaks and returns doesn't retire in user mode

not_machine : (s : State) → s.mode ≡ 0 → can_mret s ≡ false
not_machine s user = ap (λ (n : ℕ). n == 3) user

not_supervisor : (s : State) → s.mode ≡ 0 → can_sret s ≡ false
not_supervisor s user = rw user refl

system_never : {P : Type 0} (word : ℕ) (s : State) (op : Op) (r : Retired) → s.mode ≡ 0 → system word s op ≡ Ok r → P
unfolding system
system_never word s Ecall r user went = not_Ok _ r went
system_never word s Ebreak r user went = not_Ok _ r went
system_never word s Mret r user went = not_Ok _ r
    (sym (ap (λ t. if t then found (returned s control.Mret s.csr.mepc) else illegal word) (not_machine s user)) ∙ went)
system_never word s Sret r user went = not_Ok _ r
    (sym (ap (λ t. if t then found (returned s control.Sret s.csr.sepc) else illegal word) (not_supervisor s user)) ∙ went)
system_never word s op r user went = not_Ok _ r went

-- ---- any instruction

abbrev done_for : Surroundings → ℕ → Ins → Ask → Option Need → Phase Retired
done_for here word i what None = unseen (done_without_access here word i what)
done_for here word i what (Some n) = accessed here i n

same_done : (here : Surroundings) (word : ℕ) (i : Ins) (o : Option Need)
    → done_by_need here word i o ≡ done_for here word i (ask_of i here.state.pc here.state.x) o
same_done here word i None = refl
same_done here word i (Some n) = refl

-- What it asked for, and what it did with that, as user mode can.
pub record UserRetires (here : Surroundings) (i : Ins) (r : Retired) (p : Phase Retired) : Type 0 where
  pub user : user_retires i ≡ true
  pub did : RetiredBy here i (ask_of i here.state.pc here.state.x) r (read_in p)

module _ (pages : ℕ) (here : Surroundings) (word : ℕ) (i : Ins) (r : Retired) (keeps : Keeps pages here.state)
    (user : here.state.mode ≡ 0) (fit : AreBytes here.memory) (fits : FitsGiven here.given) where
  the_need : (what : Ask) → ask_of i here.state.pc here.state.x ≡ what → IfSome (need_of what) IsNeed
  the_need what asked = subst (λ (a : Ask). IfSome (need_of a) IsNeed) asked
      (row_need i.op (values_of i here.state.pc here.state.x Nothing)
      (register_fits here.state.x i.rs1 (nat_eq i.rs1 0) keeps.wide))

  needs : (n : Need) (what : Ask) → ask_of i here.state.pc here.state.x ≡ what → need_of what ≡ Some n
      → user_retires i ≡ true
  needs n what asked is = need_user i.op (values_of i here.state.pc here.state.x Nothing) i.rs1 i.imm n
      (ap need_of asked ∙ is)

  retires_for : (what : Ask) → ask_of i here.state.pc here.state.x ≡ what
      → (done_for here word i what (need_of what)).end ≡ Ok r
      → (user_retires i ≡ true) × RetiredBy here i what r (read_in (done_for here word i what (need_of what)))
  retires_for ask.Nothing asked went =
      let by : Computes here.state i r = computes word here.state i r went in (
        nothing_user i.op (values_of i here.state.pc here.state.x Nothing) i.rs1 i.imm here.state user asked by.free,
        computed_retires here i r by,
      )
  retires_for (ask.Load va len) asked went =
      let need : IsNeed (record { access = access.Load; va = va; len = len }) = the_need (ask.Load va len) asked in (
        needs _ (ask.Load va len) asked refl,
        load_retires here i r user fit fits va len asked need.address need.length went,
      )
  retires_for (ask.Store va len) asked went =
      let need : IsNeed (record { access = access.Store; va = va; len = len }) = the_need (ask.Store va len) asked in (
        needs _ (ask.Store va len) asked refl,
        store_retires here i r user fit fits va len need.address need.length went,
      )
  retires_for (ask.Reserve va) asked went =
      let need : IsNeed (record { access = access.Reserve; va = va; len = 4 }) = the_need (ask.Reserve va) asked in
      (needs _ (ask.Reserve va) asked refl, reserve_retires here i r user fit fits va asked need.address went)
  retires_for (ask.Conditional va) asked went =
      let need : IsNeed (record { access = access.Conditional; va = va; len = 4 })
      = the_need (ask.Conditional va) asked in
      (needs _ (ask.Conditional va) asked refl, conditional_retires here i r user fit fits va need.address went)
  retires_for (ask.Amo va) asked went =
      let need : IsNeed (record { access = access.Amo; va = va; len = 4 }) = the_need (ask.Amo va) asked in
      (needs _ (ask.Amo va) asked refl, amo_retires here i r user fit fits va need.address went)
  retires_for ask.Csr asked went =
      let by : Controls here i r = controls pages here word i r keeps user fits asked went in (
        csr_user i.op (values_of i here.state.pc here.state.x Nothing) i.rs1 i.imm asked by.read.reads by.read.counter,
        controlled_retires here i r by,
      )
  retires_for ask.System asked went = system_never word here.state i.op r user went

  pub executed_retires : (executed here word i).end ≡ Ok r → UserRetires here i r (executed here word i)
  unfolding executed
  executed_retires went =
      let same : executed here word i ≡ done_for here word i (ask_of i here.state.pc here.state.x)
      (need_of (ask_of i here.state.pc here.state.x))
      = same_done here word i (need_of (ask_of i here.state.pc here.state.x)) in
      let both : (user_retires i ≡ true) × RetiredBy here i (ask_of i here.state.pc here.state.x) r
      (read_in (done_for here word i (ask_of i here.state.pc here.state.x)
      (need_of (ask_of i here.state.pc here.state.x))))
      = retires_for (ask_of i here.state.pc here.state.x) refl (ap (λ (p : Phase Retired). p.end) (sym same) ∙ went) in
      record {
        user = both.0;
        did = subst (λ (p : Phase Retired). RetiredBy here i (ask_of i here.state.pc here.state.x) r (read_in p))
            (sym same) both.1;
      }
