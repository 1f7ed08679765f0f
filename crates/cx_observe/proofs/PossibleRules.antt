-- What passes the tests is possible, and the other way round.
use Rattle.std.proofs.Common.{◌≡◌, ◌↔◌, ℕ, zero, suc, ◌-◌, ◌%◌, ◌^◌, ◌<◌, ◌≤◌, ◌==◌, ◌&&◌, ◌||◌, nat_lt, Bool, true}
use Rattle.std.proofs.Common.{◌⊎◌, inl, inr, List, [], ◌∷◌, ◌++◌, length, take, get_or, replicate, slice_index, Option}
use Rattle.std.proofs.Common.{None, Some, IfSome, Result, Ok, Err, refl, sym, ap, subst, ◌∙◌, arith, eq-eqb}
use Rattle.std.proofs.Common.{eqb-true, w32, lt-ltb, length-take, length-append, ⊎_elim}
use Rattle.std.proofs.lemmas.Bool.{and_from, and_parts, or_cases, or_left, or_right, ltb-true}
use Rattle.std.proofs.lemmas.List.{length-replicate}
use Rattle.std.proofs.lemmas.Nat.{le_bytes_4}
use Rattle.std.specs.Int.{from_le_bytes}
use Rattle.cx_decode.specs.Decoding.{decoded}
use Rattle.cx_decode.specs.declared.ins.Ins.{Ins}
use Rattle.cx_exec.specs.Asking.{ask_of}
use Rattle.cx_exec.specs.Effect.{effect_of}
use Rattle.cx_exec.specs.User.{user_retires}
use Rattle.cx_exec.specs.declared.effect.Effect.{Effect}
use Rattle.cx_exec.specs.declared.effect.Misaligned.{Misaligned}
use Rattle.cx_hart.specs.Touches.{padded}
use Rattle.cx_ram.specs.LittleEndian.{low_bytes}
use Rattle.cx_ram.specs.PhysicalMemory.{IsAccessLength}
use Rattle.cx_slices.specs.Bytes.{Shows, byte_found}
use Rattle.cx_observe.specs.Asked.{Extent, got_of, is_aligned, read_of, stored_at, takes_value, write_of}
use Rattle.cx_observe.specs.Possible.{IsEnvironmentCall, IsReadOf, Possible, Retires, are_bytes, are_words, is_word}
use Rattle.cx_observe.specs.Possible.{is_word_or_none}
use Rattle.cx_observe.specs.Seeing.{bytes_on, bytes_shown, seen_with, sights}
use Rattle.cx_observe.specs.Typed.{IsFour, IsTypedSeen, IsTyped}
use Rattle.cx_observe.specs.Tests.{
  calls_only,
  carried_as,
  carried_by,
  has_effect,
  passes_all,
  reads_as_fetched,
  reads_asked,
  same_access,
}
use Rattle.cx_observe.specs.declared.obs.Obs.{Obs}
use Rattle.cx_observe.specs.declared.obs.Seen.{Seen}
use Rattle.cx_observe.proofs.Agreeing.{agree_so, agrees_is, so_agree}
use Rattle.cx_observe.proofs.Given.{are_bytes-low_bytes, length-low_bytes}
use Rattle.cx_observe.proofs.PossibleTests.{call_passes, is_call, is_reading, reading_passes, reads_sized, writes_sized}

bytes_so : (bs : List ℕ) → ((k : ℕ) → get_or bs k 0 < 256) → are_bytes bs ≡ true
bytes_so [] fit = refl
bytes_so (b ∷ bs) fit = and_from (nat_lt b 256) (are_bytes bs) (lt-ltb b 256 (fit 0))
    (bytes_so bs (λ k. fit (suc k)))

-- ---- what is read

read_so : (place : Option Extent) (read : Option Seen) → IfSome place (λ p. IsAccessLength p.len) → IfSome read IsTypedSeen
    → reads_asked place read ≡ true → IsReadOf place read
read_so None None sized typed test = tt
read_so None (Some s) sized typed test = cc
read_so (Some p) None sized typed test = cc
read_so (Some p) (Some s) sized typed test = is_reading p.va p.len s sized.1 typed.size (bytes_so s.bytes typed.fit) test

so_read : (place : Option Extent) (read : Option Seen) → IsReadOf place read → reads_asked place read ≡ true
so_read None None is = refl
so_read None (Some s) is = absurd is
so_read (Some p) None is = absurd is
so_read (Some p) (Some s) is = reading_passes p.va p.len s is

read_sized : (place : Option Extent) (read : Option Seen) → IfSome place (λ p. IsAccessLength p.len)
    → IsReadOf place read → IfSome read (λ s. IsAccessLength s.len)
read_sized None None sized is = tt
read_sized None (Some s) sized is = absurd is
read_sized (Some p) None sized is = absurd is
read_sized (Some p) (Some s) sized is =
    let len : s.len ≡ p.len = ap (λ (t : Seen). t.len) is.is ∙ is.len in
    subst IsAccessLength (sym len) sized

-- ---- where the fetch and the read share an address

take_short : (n : ℕ) (bs : List ℕ) → length bs ≡ 4 → length (take n bs) ≤ 4
take_short n bs size = omega (arith, length-take n bs)

agree_by : (pc word : ℕ) (read : Option Seen) → pc < 2 ^ 32 → IfSome read IsTypedSeen
    → IfSome read (λ s. IsAccessLength s.len) → reads_as_fetched pc word read ≡ true
    → Shows (byte_found (bytes_on pc (low_bytes 4 word) ++ bytes_shown read))
    (bytes_on pc (low_bytes 4 word) ++ bytes_shown read)
agree_by pc word None fits typed sized test =
    agree_so pc 0 (low_bytes 4 word) [] (omega (arith, length-low_bytes 4 word)) (omega arith) refl
agree_by pc word (Some s) fits typed sized test =
    agree_so pc s.va (low_bytes 4 word) (take s.len s.bytes) (omega (arith, length-low_bytes 4 word))
    (take_short s.len s.bytes typed.size)
    (sym (agrees_is pc word s fits typed.va typed.size sized.0 sized.1) ∙ test)

by_agree : (pc word : ℕ) (read : Option Seen) → pc < 2 ^ 32 → IfSome read IsTypedSeen
    → IfSome read (λ s. IsAccessLength s.len)
    → Shows (byte_found (bytes_on pc (low_bytes 4 word) ++ bytes_shown read))
    (bytes_on pc (low_bytes 4 word) ++ bytes_shown read) → reads_as_fetched pc word read ≡ true
by_agree pc word None fits typed sized shows = refl
by_agree pc word (Some s) fits typed sized shows =
    agrees_is pc word s fits typed.va typed.size sized.0 sized.1
    ∙ so_agree pc s.va (low_bytes 4 word) (take s.len s.bytes) shows

-- ---- what is written

same_self : (a : Option Seen) → same_access a a ≡ true
same_self None = refl
same_self (Some s) = and_from (s.va == s.va)
    ((s.len == s.len) && (from_le_bytes w32 s.bytes == from_le_bytes w32 s.bytes)) (eq-eqb s.va s.va refl)
    (and_from (s.len == s.len) (from_le_bytes w32 s.bytes == from_le_bytes w32 s.bytes) (eq-eqb s.len s.len refl)
    (eq-eqb (from_le_bytes w32 s.bytes) (from_le_bytes w32 s.bytes) refl))

same_seen : (s t : Seen) → s.va ≡ t.va → s.len ≡ t.len → s.bytes ≡ t.bytes → s ≡ t
same_seen s t va len bytes = rw (va, len, bytes) refl

same_bytes : (bs cs : List ℕ) → length bs ≡ 4 → length cs ≡ 4 → ((k : ℕ) → get_or bs k 0 < 256)
    → ((k : ℕ) → get_or cs k 0 < 256) → from_le_bytes w32 bs ≡ from_le_bytes w32 cs → bs ≡ cs
same_bytes bs cs first second fit fits is =
    sym (le_bytes_4 bs (from_le_bytes w32 bs) first fit refl)
    ∙ le_bytes_4 cs (from_le_bytes w32 bs) second fits is

same_so : (a b : Option Seen) → IfSome a IsFour → IfSome b IsFour → same_access a b ≡ true → a ≡ b
same_so None None first second test = refl
same_so None (Some t) first second test = cc
same_so (Some s) None first second test = cc
same_so (Some s) (Some t) first second test =
    let one : ((s.va == t.va) ≡ true)
    × (((s.len == t.len) && (from_le_bytes w32 s.bytes == from_le_bytes w32 t.bytes)) ≡ true)
    = and_parts (s.va == t.va) ((s.len == t.len) && (from_le_bytes w32 s.bytes == from_le_bytes w32 t.bytes)) test in
    let two : ((s.len == t.len) ≡ true) × ((from_le_bytes w32 s.bytes == from_le_bytes w32 t.bytes) ≡ true)
    = and_parts (s.len == t.len) (from_le_bytes w32 s.bytes == from_le_bytes w32 t.bytes) one.1 in
    ap {B = Option Seen} Some (same_seen s t (eqb-true s.va t.va one.0) (eqb-true s.len t.len two.0)
    (same_bytes s.bytes t.bytes first.size second.size first.fit second.fit
    (eqb-true (from_le_bytes w32 s.bytes) (from_le_bytes w32 t.bytes) two.1)))

fit_of : (bs : List ℕ) → are_bytes bs ≡ true → (k : ℕ) → get_or bs k 0 < 256
fit_of [] are k = omega arith
fit_of (b ∷ bs) are zero = ltb-true b 256 (and_parts (nat_lt b 256) (are_bytes bs) are).0
fit_of (b ∷ bs) are (suc k) = fit_of bs (and_parts (nat_lt b 256) (are_bytes bs) are).1 k

append_bytes : (bs cs : List ℕ) → are_bytes bs ≡ true → are_bytes cs ≡ true → are_bytes (bs ++ cs) ≡ true
append_bytes [] cs first second = second
append_bytes (b ∷ bs) cs first second =
    let parts : (nat_lt b 256 ≡ true) × (are_bytes bs ≡ true) = and_parts (nat_lt b 256) (are_bytes bs) first in
    and_from (nat_lt b 256) (are_bytes (bs ++ cs)) parts.0 (append_bytes bs cs parts.1 second)

zero_bytes : (n : ℕ) → are_bytes (replicate n 0) ≡ true
zero_bytes zero = refl
zero_bytes (suc n) = zero_bytes n

four_of : (va n v : ℕ) → n ≤ 4 → IsFour (seen_with va (low_bytes n v))
four_of va n v few = record {
  size = omega (
    arith,
    length-append (low_bytes n v) (replicate (4 - length (low_bytes n v)) 0),
    length-low_bytes n v,
    length-replicate {A = ℕ} (4 - length (low_bytes n v)) 0,
  );
  fit = fit_of (padded 4 (low_bytes n v))
      (append_bytes (low_bytes n v) (replicate (4 - length (low_bytes n v)) 0) (are_bytes-low_bytes n v)
      (zero_bytes (4 - length (low_bytes n v))));
}

stored_four : (place : Option Extent) (w : Option ℕ) → IfSome place (λ p. IsAccessLength p.len)
    → IfSome (stored_at place w) IsFour
stored_four place None sized = tt
stored_four None (Some v) sized = tt
stored_four (Some p) (Some v) sized = four_of p.va p.len v sized.1

-- the effect that an instruction has, and that it wrote that
record HasEffect (place : Option Extent) (write : Option Seen) (r : Result Effect Misaligned) : Type 0 where
  pub effect : Effect
  pub does : r ≡ Ok effect
  pub write_is : write ≡ stored_at place effect.write

effect_so : (place : Option Extent) (write : Option Seen) (r : Result Effect Misaligned)
    → IfSome place (λ p. IsAccessLength p.len) → IfSome write IsFour → has_effect place write r ≡ true
    → HasEffect place write r
effect_so place write (Ok e) sized typed test = record {
  effect = e;
  does = refl;
  write_is = same_so write (stored_at place e.write) typed (stored_four place e.write sized) test;
}
effect_so place write (Err m) sized typed test = cc

so_effect : (place : Option Extent) (write : Option Seen) (e : Effect) → write ≡ stored_at place e.write
    → same_access write (stored_at place e.write) ≡ true
so_effect place write e is = subst (λ (w : Option Seen). same_access w (stored_at place e.write) ≡ true) (sym is)
    (same_self (stored_at place e.write))

-- ---- an instruction

retires_so : (o : Obs) (i : Ins) → IsTyped o → decoded o.word ≡ Some i
    → carried_as o i (ask_of i o.pc o.x) ≡ true
    → Retires o × (reads_as_fetched o.pc o.word o.read ≡ true) × IfSome o.read (λ s. IsAccessLength s.len)
unfolding carried_as
retires_so o i typed spelled test =
    let what_reads : IfSome (read_of (ask_of i o.pc o.x)) (λ p. IsAccessLength p.len) = reads_sized i o.pc o.x in
    let one : (reads_asked (read_of (ask_of i o.pc o.x)) o.read ≡ true) × (_ ≡ true)
    = and_parts (reads_asked (read_of (ask_of i o.pc o.x)) o.read) _ test in
    let two : (user_retires i ≡ true) × (_ ≡ true) = and_parts (user_retires i) _ one.1 in
    let three : (is_aligned (ask_of i o.pc o.x) ≡ true) × (_ ≡ true)
    = and_parts (is_aligned (ask_of i o.pc o.x)) _ two.1 in
    let four : (takes_value (ask_of i o.pc o.x) o.value ≡ true) × (_ ≡ true)
    = and_parts (takes_value (ask_of i o.pc o.x) o.value) _ three.1 in
    let five : (reads_as_fetched o.pc o.word o.read ≡ true)
    × (has_effect (write_of (ask_of i o.pc o.x)) o.write
    (effect_of i o.pc o.x (got_of (ask_of i o.pc o.x) o.read o.value)) ≡ true)
    = and_parts (reads_as_fetched o.pc o.word o.read)
    (has_effect (write_of (ask_of i o.pc o.x)) o.write
    (effect_of i o.pc o.x (got_of (ask_of i o.pc o.x) o.read o.value))) four.1 in
    let read : IsReadOf (read_of (ask_of i o.pc o.x)) o.read
    = read_so (read_of (ask_of i o.pc o.x)) o.read what_reads typed.read one.0 in
    let effect : HasEffect (write_of (ask_of i o.pc o.x)) o.write
    (effect_of i o.pc o.x (got_of (ask_of i o.pc o.x) o.read o.value))
    = effect_so (write_of (ask_of i o.pc o.x)) o.write
    (effect_of i o.pc o.x (got_of (ask_of i o.pc o.x) o.read o.value)) (writes_sized i o.pc o.x) typed.write
    five.1 in (
      record {
        ins = i;
        spelled = spelled;
        user = two.0;
        aligned = three.0;
        read = read;
        value = four.0;
        effect = effect.effect;
        does = effect.does;
        write = effect.write_is;
      },
      five.0,
      read_sized (read_of (ask_of i o.pc o.x)) o.read what_reads read,
    )

carried_so : (o : Obs) (row : Option Ins) → IsTyped o → decoded o.word ≡ row → carried_by o row ≡ true
    → Retires o × (reads_as_fetched o.pc o.word o.read ≡ true) × IfSome o.read (λ s. IsAccessLength s.len)
carried_so o None typed spelled test = cc
carried_so o (Some i) typed spelled test = retires_so o i typed spelled test

so_carried : (o : Obs) → IsTyped o → (r : Retires o) → Shows (byte_found (sights o)) (sights o)
    → carried_by o (decoded o.word) ≡ true
unfolding carried_as sights
so_carried o typed r agree =
    ap (carried_by o) r.spelled
    ∙ and_from (reads_asked (read_of (ask_of r.ins o.pc o.x)) o.read) _
    (so_read (read_of (ask_of r.ins o.pc o.x)) o.read r.read)
    (and_from (user_retires r.ins) _ r.user
    (and_from (is_aligned (ask_of r.ins o.pc o.x)) _ r.aligned
    (and_from (takes_value (ask_of r.ins o.pc o.x) o.value) _ r.value
    (and_from (reads_as_fetched o.pc o.word o.read) _
    (by_agree o.pc o.word o.read typed.pc typed.read
    (read_sized (read_of (ask_of r.ins o.pc o.x)) o.read (reads_sized r.ins o.pc o.x) r.read) agree)
    (ap (has_effect (write_of (ask_of r.ins o.pc o.x)) o.write) r.does
    ∙ so_effect (write_of (ask_of r.ins o.pc o.x)) o.write r.effect r.write)))))

words_so : (xs : List ℕ) → ((k : ℕ) → get_or xs k 0 < 2 ^ 32) → are_words xs ≡ true
words_so [] fit = refl
words_so (x ∷ xs) fit = and_from (is_word x) (are_words xs) (lt-ltb x (2 ^ 32) (fit 0))
    (words_so xs (λ k. fit (suc k)))

value_so : (value : Option ℕ) → IfSome value (λ v. v < 2 ^ 32) → is_word_or_none value ≡ true
value_so None fits = refl
value_so (Some v) fits = lt-ltb v (2 ^ 32) fits

-- ---- an observation

none_fetched : (pc word : ℕ) (read : Option Seen) → read ≡ None → reads_as_fetched pc word read ≡ true
none_fetched pc word read is = ap (reads_as_fetched pc word) is

none_sized : (read : Option Seen) → read ≡ None → IfSome read (λ s. IsAccessLength s.len)
none_sized read is = subst (λ (r : Option Seen). IfSome r (λ s. IsAccessLength s.len)) (sym is) tt

possible_by : (o : Obs) → IsTyped o → slice_index o.x 0 ≡ 0 → o.pc % 4 ≡ 0 → (IsEnvironmentCall o ⊎ Retires o)
    → reads_as_fetched o.pc o.word o.read ≡ true → IfSome o.read (λ s. IsAccessLength s.len) → Possible o
unfolding sights
possible_by o typed first aligned does fetched sized = record {
  pc = lt-ltb o.pc (2 ^ 32) typed.pc;
  count = typed.count;
  zero = first;
  words = words_so o.x typed.words;
  word = typed.word;
  value = value_so o.value typed.value;
  aligned = aligned;
  agree = agree_by o.pc o.word o.read typed.pc typed.read sized fetched;
  does = does;
}

possible_so : (o : Obs) → IsTyped o → passes_all o ≡ true → Possible o
possible_so o typed test =
    let one : ((slice_index o.x 0 == 0) ≡ true)
    × (((o.pc % 4 == 0) && (calls_only o || carried_by o (decoded o.word))) ≡ true)
    = and_parts (slice_index o.x 0 == 0) ((o.pc % 4 == 0) && (calls_only o || carried_by o (decoded o.word))) test in
    let two : ((o.pc % 4 == 0) ≡ true) × ((calls_only o || carried_by o (decoded o.word)) ≡ true)
    = and_parts (o.pc % 4 == 0) (calls_only o || carried_by o (decoded o.word)) one.1 in
    ⊎_elim
    (λ calls. let call : IsEnvironmentCall o = is_call o calls in
    possible_by o typed (eqb-true (slice_index o.x 0) 0 one.0) (eqb-true (o.pc % 4) 0 two.0) (inl call)
    (none_fetched o.pc o.word o.read call.read) (none_sized o.read call.read))
    (λ carried.
    let by : Retires o × (reads_as_fetched o.pc o.word o.read ≡ true) × IfSome o.read (λ s. IsAccessLength s.len)
    = carried_so o (decoded o.word) typed refl carried in
    possible_by o typed (eqb-true (slice_index o.x 0) 0 one.0) (eqb-true (o.pc % 4) 0 two.0) (inr by.0) by.1 by.2)
    (or_cases (calls_only o) (carried_by o (decoded o.word)) two.1)

so_possible : (o : Obs) → IsTyped o → Possible o → passes_all o ≡ true
so_possible o typed possible = and_from (slice_index o.x 0 == 0)
    ((o.pc % 4 == 0) && (calls_only o || carried_by o (decoded o.word)))
    (eq-eqb (slice_index o.x 0) 0 possible.zero)
    (and_from (o.pc % 4 == 0) (calls_only o || carried_by o (decoded o.word)) (eq-eqb (o.pc % 4) 0 possible.aligned)
    (⊎_elim (λ call. or_left (calls_only o) (carried_by o (decoded o.word)) (call_passes o call))
    (λ retires. or_right (calls_only o) (carried_by o (decoded o.word))
    (so_carried o typed retires possible.agree))
    possible.does))

pub tests_are_rules : (o : Obs) (passed : Bool) → passed ≡ passes_all o → IsTyped o → (passed ≡ true) ↔ Possible o
tests_are_rules o passed is typed =
    (λ test. possible_so o typed (sym is ∙ test), λ possible. is ∙ so_possible o typed possible)
