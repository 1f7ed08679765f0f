-- What a step that goes alone took, and that it goes with that alone.
use Rattle.std.proofs.Common.{◌≡◌, ℕ, ◌==◌, ◌&&◌, Bool, true, false, ◌⊎◌, inl, inr, List, length, replicate}
use Rattle.std.proofs.Common.{◌-◌, Option, None, Some, Result, Ok, Err, if◌then◌else◌, refl, sym, ap, subst, ◌∙◌}
use Rattle.std.proofs.Common.{eq-eqb, eqb-true, take_at, true≢false}
use Rattle.std.proofs.lemmas.Bool.{and_from, and_parts, ne_eqb}
use Rattle.cx_decode.specs.Decoding.{decoded}
use Rattle.cx_decode.specs.declared.ins.Ins.{Ins}
use Rattle.cx_exec.specs.Asking.{ask_of}
use Rattle.cx_exec.specs.Effect.{effect_of}
use Rattle.cx_exec.specs.User.{user_retires}
use Rattle.cx_exec.specs.declared.asks.Ask.{Ask}
use Rattle.cx_exec.specs.declared.effect.Effect.{Effect}
use Rattle.cx_exec.specs.declared.effect.Misaligned.{Misaligned}
use Rattle.cx_slices.specs.Bytes.{Map, Shows}
use Rattle.cx_slices.proofs.Small.{none_is_some, some_is_same}
use Rattle.cx_observe.specs.Asked.{Extent, got_of, is_aligned, read_of, takes_value}
use Rattle.cx_observe.specs.Possible.{IsEnvironmentCall, IsReadOf, IsReading, Retires}
use Rattle.cx_observe.specs.Seeing.{bytes_on, bytes_shown, seen_with}
use Rattle.cx_observe.specs.Stepping.{
  asking,
  bytes_given,
  calling,
  carrying_out,
  effect_given,
  observed,
  read_given,
  retiring,
  ◌>>=◌,
}
use Rattle.cx_observe.specs.declared.TheConstants.{ECALL}
use Rattle.cx_observe.specs.declared.obs.Obs.{Obs}
use Rattle.cx_observe.specs.declared.obs.Seen.{Seen}
use Rattle.cx_observe.proofs.Given.{AreGiven, Bound, bind_some, bytes_given-are, bytes_given-from}

-- ---- what is read

pub bytes_shown-seen_with : (va : ℕ) (bs : List ℕ) → bytes_shown (Some (seen_with va bs)) ≡ bytes_on va bs
bytes_shown-seen_with va bs = ap (bytes_on va) (take_at bs (replicate (4 - length bs) 0) (length bs) refl)

-- what was read is what was asked for, and it is there
pub record HasRead (map : Map) (place : Option Extent) (read : Option Seen) : Type 0 where
  pub is : IsReadOf place read
  pub shows : Shows map (bytes_shown read)

pub read_given-is : (map : Map) (place : Option Extent) (read : Option Seen) → read_given map place ≡ Some read
    → HasRead map place read
read_given-is map None read is = subst (HasRead map None) (some_is_same None read is) (record { is = tt; shows = tt })
read_given-is map (Some p) read is =
    let got : Bound (bytes_given map p.va p.len) (λ bytes. Some (Some (seen_with p.va bytes))) read
    = bind_some (bytes_given map p.va p.len) (λ bytes. Some (Some (seen_with p.va bytes))) read is in
    let given : AreGiven map p.va p.len got.value = bytes_given-are map p.va p.len got.value got.is in
    subst (HasRead map (Some p)) (some_is_same (Some (seen_with p.va got.value)) read got.goes) (record {
      is = record { bytes = got.value; are = given.are; len = given.size; is = refl };
      shows = subst (Shows map) (sym (bytes_shown-seen_with p.va got.value)) given.shows;
    })

reading_from : (map : Map) (p : Extent) (s : Seen) → IsReading p s → Shows map (bytes_shown (Some s))
    → read_given map (Some p) ≡ Some (Some s)
reading_from map p s reading shows =
    let there : Shows map (bytes_on p.va reading.bytes)
    = subst (Shows map) (ap (λ (t : Seen). bytes_shown (Some t)) reading.is
    ∙ bytes_shown-seen_with p.va reading.bytes) shows in
    let bytes : bytes_given map p.va p.len ≡ Some reading.bytes
    = ap (bytes_given map p.va) (sym reading.len) ∙ bytes_given-from map p.va reading.bytes there reading.are in
    ap (λ o. o >>= (λ bs. Some (Some (seen_with p.va bs)))) bytes
    ∙ ap (λ (t : Seen). Some (Some t)) (sym reading.is)

pub read_given-from : (map : Map) (place : Option Extent) (read : Option Seen) → IsReadOf place read
    → Shows map (bytes_shown read) → read_given map place ≡ Some read
read_given-from map None None is shows = refl
read_given-from map None (Some s) is shows = absurd is
read_given-from map (Some p) None is shows = absurd is
read_given-from map (Some p) (Some s) is shows = reading_from map p s is shows

-- ---- an instruction

-- User mode can retire the instruction, it got what it asked for, and it has this effect.
pub record Went (pc : ℕ) (x : List ℕ) (map : Map) (value : Option ℕ) (word : ℕ) (i : Ins) (ask : Ask) (o : Obs)
    : Type 0 where
  pub user : user_retires i ≡ true
  pub aligned : is_aligned ask ≡ true
  pub takes : takes_value ask value ≡ true
  pub read : Option Seen
  pub has : HasRead map (read_of ask) read
  pub effect : Effect
  pub does : effect_of i pc x (got_of ask read value) ≡ Ok effect
  pub is : observed pc x word ask read value effect ≡ o

effect_given-is : (r : Result Effect Misaligned) (e : Effect) → effect_given r ≡ Some e → r ≡ Ok e
effect_given-is (Ok f) e is = ap {B = Result Effect Misaligned} Ok (some_is_same f e is)
effect_given-is (Err m) e is = none_is_some e is

abbrev pub with_effect : ℕ → List ℕ → Option ℕ → ℕ → Ins → Ask → Option Seen → Option Obs
with_effect pc x value word i ask read =
    effect_given (effect_of i pc x (got_of ask read value)) >>= (λ effect.
    Some (observed pc x word ask read value effect))

asking_by : (pc : ℕ) (x : List ℕ) (map : Map) (value : Option ℕ) (word : ℕ) (i : Ins) (ask : Ask) (o : Obs) (t : Bool)
    → (user_retires i && (is_aligned ask && takes_value ask value)) ≡ t
    → (if t then read_given map (read_of ask) >>= with_effect pc x value word i ask else None) ≡ Some o
    → Went pc x map value word i ask o
asking_by pc x map value word i ask o true is went =
    let first : (user_retires i ≡ true) × ((is_aligned ask && takes_value ask value) ≡ true)
    = and_parts (user_retires i) (is_aligned ask && takes_value ask value) is in
    let second : (is_aligned ask ≡ true) × (takes_value ask value ≡ true)
    = and_parts (is_aligned ask) (takes_value ask value) first.1 in
    let got : Bound (read_given map (read_of ask)) (with_effect pc x value word i ask) o
    = bind_some (read_given map (read_of ask)) (with_effect pc x value word i ask) o went in
    let done : Bound (effect_given (effect_of i pc x (got_of ask got.value value)))
    (λ effect. Some (observed pc x word ask got.value value effect)) o
    = bind_some (effect_given (effect_of i pc x (got_of ask got.value value)))
    (λ effect. Some (observed pc x word ask got.value value effect)) o got.goes in
    record {
      user = first.0;
      aligned = second.0;
      takes = second.1;
      read = got.value;
      has = read_given-is map (read_of ask) got.value got.is;
      effect = done.value;
      does = effect_given-is (effect_of i pc x (got_of ask got.value value)) done.value done.is;
      is = some_is_same (observed pc x word ask got.value value done.value) o done.goes;
    }
asking_by pc x map value word i ask o false is went = none_is_some o went

pub asking-went : (pc : ℕ) (x : List ℕ) (map : Map) (value : Option ℕ) (word : ℕ) (i : Ins) (ask : Ask) (o : Obs)
    → asking pc x map value word i ask ≡ Some o → Went pc x map value word i ask o
asking-went pc x map value word i ask o went = asking_by pc x map value word i ask o
    (user_retires i && (is_aligned ask && takes_value ask value)) refl went

pub asking-goes : (pc : ℕ) (x : List ℕ) (map : Map) (value : Option ℕ) (word : ℕ) (i : Ins) (ask : Ask)
    (read : Option Seen) (effect : Effect) → user_retires i ≡ true → is_aligned ask ≡ true
    → takes_value ask value ≡ true → IsReadOf (read_of ask) read → Shows map (bytes_shown read)
    → effect_of i pc x (got_of ask read value) ≡ Ok effect
    → asking pc x map value word i ask ≡ Some (observed pc x word ask read value effect)
asking-goes pc x map value word i ask read effect user aligned takes is shows does =
    let test : (user_retires i && (is_aligned ask && takes_value ask value)) ≡ true
    = and_from (user_retires i) (is_aligned ask && takes_value ask value) user
    (and_from (is_aligned ask) (takes_value ask value) aligned takes) in
    ap (λ t. if t then read_given map (read_of ask) >>= with_effect pc x value word i ask else None) test
    ∙ (ap (λ o. o >>= with_effect pc x value word i ask) (read_given-from map (read_of ask) read is shows)
    ∙ ap (λ r. effect_given r >>= (λ e. Some (observed pc x word ask read value e))) does)

-- ---- a step

-- The observation is of these words, this word and this value, and the map has what it read.
pub record Took (pc : ℕ) (x : List ℕ) (map : Map) (value : Option ℕ) (word : ℕ) (o : Obs) : Type 0 where
  pub pc_is : o.pc ≡ pc
  pub x_is : o.x ≡ x
  pub word_is : o.word ≡ word
  pub value_is : o.value ≡ value
  pub shows : Shows map (bytes_shown o.read)
  pub does : IsEnvironmentCall o ⊎ Retires o

took_call : (pc : ℕ) (x : List ℕ) (map : Map) (value : Option ℕ) (word : ℕ) (o : Obs) → word ≡ ECALL
    → calling pc x value word ≡ Some o → Took pc x map value word o
took_call pc x map None word o is went = subst (Took pc x map None word)
    (some_is_same (record { pc = pc; x = x; word = word; read = None; value = None; write = None }) o went)
    (record {
      pc_is = refl;
      x_is = refl;
      word_is = refl;
      value_is = refl;
      shows = tt;
      does = inl (record { word = is; read = refl; value = refl; write = refl });
    })
took_call pc x map (Some v) word o is went = none_is_some o went

took_instruction : (pc : ℕ) (x : List ℕ) (map : Map) (value : Option ℕ) (word : ℕ) (i : Ins) (o : Obs)
    → decoded word ≡ Some i → Went pc x map value word i (ask_of i pc x) o → Took pc x map value word o
took_instruction pc x map value word i o spelled went = subst (Took pc x map value word) went.is (record {
  pc_is = refl;
  x_is = refl;
  word_is = refl;
  value_is = refl;
  shows = went.has.shows;
  does = inr (record {
    ins = i;
    spelled = spelled;
    user = went.user;
    aligned = went.aligned;
    read = went.has.is;
    value = went.takes;
    effect = went.effect;
    does = went.does;
    write = refl;
  });
})

carrying_by : (pc : ℕ) (x : List ℕ) (map : Map) (value : Option ℕ) (word : ℕ) (o : Obs) (t : Bool)
    → (word == ECALL) ≡ t
    → (if t then calling pc x value word else decoded word >>= retiring pc x map value word) ≡ Some o
    → Took pc x map value word o
carrying_by pc x map value word o true is went = took_call pc x map value word o (eqb-true word ECALL is) went
carrying_by pc x map value word o false is went =
    let row : Bound (decoded word) (retiring pc x map value word) o
    = bind_some (decoded word) (retiring pc x map value word) o went in
    took_instruction pc x map value word row.value o row.is
    (asking-went pc x map value word row.value (ask_of row.value pc x) o row.goes)

pub carrying_out-took : (pc : ℕ) (x : List ℕ) (map : Map) (value : Option ℕ) (word : ℕ) (o : Obs)
    → carrying_out pc x map value word ≡ Some o → Took pc x map value word o
carrying_out-took pc x map value word o went = carrying_by pc x map value word o (word == ECALL) refl went

pub same_obs : (o p : Obs) → o.pc ≡ p.pc → o.x ≡ p.x → o.word ≡ p.word → o.read ≡ p.read → o.value ≡ p.value
    → o.write ≡ p.write → o ≡ p
same_obs o p pc x word read value write = rw (pc, x, word, read, value, write) refl

ecall_row : (i : Ins) → decoded ECALL ≡ Some i → user_retires i ≡ false
unfolding decoded
ecall_row i is = ap user_retires (sym (some_is_same _ i is))

no_call : (word : ℕ) (i : Ins) → decoded word ≡ Some i → user_retires i ≡ true → word ≡ ECALL → ⊥
no_call word i spelled user is =
    true≢false (sym user ∙ ecall_row i (ap decoded (sym is) ∙ spelled))

carrying_out-retires : (map : Map) (o : Obs) → (r : Retires o) → Shows map (bytes_shown o.read)
    → carrying_out o.pc o.x map o.value o.word ≡ Some o
carrying_out-retires map o r shows =
    ap (λ t. if t then calling o.pc o.x o.value o.word else decoded o.word >>= retiring o.pc o.x map o.value o.word)
    (ne_eqb o.word ECALL (no_call o.word r.ins r.spelled r.user))
    ∙ (ap (λ row. row >>= retiring o.pc o.x map o.value o.word) r.spelled
    ∙ (asking-goes o.pc o.x map o.value o.word r.ins (ask_of r.ins o.pc o.x) o.read r.effect r.user r.aligned r.value
    r.read shows r.does
    ∙ ap {B = Option Obs} Some (same_obs (observed o.pc o.x o.word (ask_of r.ins o.pc o.x) o.read o.value r.effect) o
    refl refl refl refl refl (sym r.write))))

calling_goes : (o : Obs) (value : Option ℕ) → o.value ≡ value → value ≡ None → IsEnvironmentCall o
    → calling o.pc o.x value o.word ≡ Some o
calling_goes o None is none call = ap {B = Option Obs} Some
    (same_obs (record { pc = o.pc; x = o.x; word = o.word; read = None; value = None; write = None }) o refl refl refl
    (sym call.read) (sym call.value) (sym call.write))
calling_goes o (Some v) is none call = none_is_some v (sym none)

carrying_out-call : (map : Map) (o : Obs) → IsEnvironmentCall o → carrying_out o.pc o.x map o.value o.word ≡ Some o
carrying_out-call map o call =
    ap (λ t. if t then calling o.pc o.x o.value o.word else decoded o.word >>= retiring o.pc o.x map o.value o.word)
    (eq-eqb o.word ECALL call.word)
    ∙ calling_goes o o.value refl call.value call

pub carrying_out-goes : (map : Map) (o : Obs) → IsEnvironmentCall o ⊎ Retires o → Shows map (bytes_shown o.read)
    → carrying_out o.pc o.x map o.value o.word ≡ Some o
carrying_out-goes map o (inl call) shows = carrying_out-call map o call
carrying_out-goes map o (inr retires) shows = carrying_out-retires map o retires shows
