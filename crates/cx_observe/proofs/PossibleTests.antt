-- The tests of a possible observation are its rules.
use Rattle.std.proofs.Common.{◌≡◌, ℕ, zero, suc, ◌-◌, ◌≤◌, ◌==◌, ◌&&◌, nat_lt, nat_le, Bool, true}
use Rattle.std.proofs.Common.{List, [], ◌∷◌, ◌++◌, length, take, drop, replicate, Option, None, Some, IfSome}
use Rattle.std.proofs.Common.{is_none, refl, sym, ap, ap₂, ◌∙◌, arith, eq-eqb, eqb-true}
use Rattle.std.proofs.Common.{length-take-le, drop_at}
use Rattle.std.proofs.lemmas.Bool.{and_from, and_parts, leb-true}
use Rattle.std.proofs.lemmas.List.{take-append-drop, length-drop}
use Rattle.cx_ram.specs.LittleEndian.{low_bytes}
use Rattle.cx_observe.proofs.Given.{length-low_bytes}
use Rattle.cx_ram.specs.PhysicalMemory.{IsAccessLength, is_zero}
use Rattle.cx_decode.specs.declared.ins.Ins.{Ins}
use Rattle.cx_decode.specs.declared.op.Op.{Op}
use Rattle.cx_decode.specs.declared.op.Op.TheVariants as rows
use Rattle.cx_exec.specs.Asking.{ask_of, row_ask}
use Rattle.cx_exec.specs.Values.{values_of}
use Rattle.cx_exec.specs.declared.got.Got.TheVariants.{Nothing}
use Rattle.cx_exec.specs.declared.values.Values.{Values}
use Rattle.cx_observe.specs.Asked.{Extent, read_of, write_of}
use Rattle.cx_observe.specs.Possible.{IsEnvironmentCall, IsReading, are_bytes}
use Rattle.cx_observe.specs.Seeing.{seen_with}
use Rattle.cx_observe.specs.Tests.{calls_only, reads_extent}
use Rattle.cx_observe.specs.declared.TheConstants.{ECALL}
use Rattle.cx_observe.specs.declared.obs.Obs.{Obs}
use Rattle.cx_observe.specs.declared.obs.Seen.{Seen}

pub low_size : (n v : ℕ) → length (low_bytes n v) ≡ n
low_size n v = length-low_bytes n v

pub none_from : {X : Type 0} (o : Option X) → is_none o ≡ true → o ≡ None
none_from None is = refl
none_from (Some x) is = cc

pub is_call : (o : Obs) → calls_only o ≡ true → IsEnvironmentCall o
is_call o test =
    let one : ((o.word == ECALL) ≡ true) × ((is_none o.read && (is_none o.value && is_none o.write)) ≡ true)
    = and_parts (o.word == ECALL) (is_none o.read && (is_none o.value && is_none o.write)) test in
    let two : (is_none o.read ≡ true) × ((is_none o.value && is_none o.write) ≡ true)
    = and_parts (is_none o.read) (is_none o.value && is_none o.write) one.1 in
    let three : (is_none o.value ≡ true) × (is_none o.write ≡ true)
    = and_parts (is_none o.value) (is_none o.write) two.1 in
    record {
      word = eqb-true o.word ECALL one.0;
      read = none_from o.read two.0;
      value = none_from o.value three.0;
      write = none_from o.write three.1;
    }

pub call_passes : (o : Obs) → IsEnvironmentCall o → calls_only o ≡ true
call_passes o call = and_from (o.word == ECALL) (is_none o.read && (is_none o.value && is_none o.write))
    (eq-eqb o.word ECALL call.word)
    (and_from (is_none o.read) (is_none o.value && is_none o.write) (ap is_none call.read)
    (and_from (is_none o.value) (is_none o.write) (ap is_none call.value) (ap is_none call.write)))

-- ---- what is read

zeros_are : (bs : List ℕ) → is_zero bs ≡ true → bs ≡ replicate (length bs) 0
zeros_are [] test = refl
zeros_are (b ∷ bs) test =
    let parts : ((b == 0) ≡ true) × (is_zero bs ≡ true) = and_parts (b == 0) (is_zero bs) test in
    ap₂ (λ (x : ℕ) xs. x ∷ xs) (eqb-true b 0 parts.0) (zeros_are bs parts.1)

zeros_pass : (n : ℕ) → is_zero (replicate n 0) ≡ true
zeros_pass zero = refl
zeros_pass (suc n) = zeros_pass n

take_bytes : (n : ℕ) (bs : List ℕ) → are_bytes bs ≡ true → are_bytes (take n bs) ≡ true
take_bytes zero bs are = refl
take_bytes (suc n) [] are = refl
take_bytes (suc n) (b ∷ bs) are =
    let parts : (nat_lt b 256 ≡ true) × (are_bytes bs ≡ true) = and_parts (nat_lt b 256) (are_bytes bs) are in
    and_from (nat_lt b 256) (are_bytes (take n bs)) parts.0 (take_bytes n bs parts.1)

same_seen : (s t : Seen) → s.va ≡ t.va → s.len ≡ t.len → s.bytes ≡ t.bytes → s ≡ t
same_seen s t va len bytes = rw (va, len, bytes) refl

pub is_reading : (va len : ℕ) (s : Seen) → len ≤ 4 → length s.bytes ≡ 4 → are_bytes s.bytes ≡ true
    → reads_extent va len s ≡ true → IsReading (record { va = va; len = len }) s
is_reading va len s few size are test =
    let one : ((s.va == va) ≡ true) × (((s.len == len) && is_zero (drop len s.bytes)) ≡ true)
    = and_parts (s.va == va) ((s.len == len) && is_zero (drop len s.bytes)) test in
    let two : ((s.len == len) ≡ true) × (is_zero (drop len s.bytes) ≡ true)
    = and_parts (s.len == len) (is_zero (drop len s.bytes)) one.1 in
    let taken : length (take len s.bytes) ≡ len = length-take-le len s.bytes (omega arith) in
    let left : length (drop len s.bytes) ≡ 4 - length (take len s.bytes)
    = length-drop len s.bytes ∙ ap₂ (λ (a b : ℕ). a - b) size (sym taken) in
    let zeros : drop len s.bytes ≡ replicate (4 - length (take len s.bytes)) 0
    = zeros_are (drop len s.bytes) two.1 ∙ ap (λ (n : ℕ). replicate n 0) left in
    record {
      bytes = take len s.bytes;
      are = take_bytes len s.bytes are;
      len = taken;
      is = same_seen s (seen_with va (take len s.bytes)) (eqb-true s.va va one.0)
          (eqb-true s.len len two.0 ∙ sym taken)
          (sym (take-append-drop len s.bytes) ∙ ap (λ zs. take len s.bytes ++ zs) zeros);
    }

pub reading_passes : (va len : ℕ) (s : Seen) → IsReading (record { va = va; len = len }) s
    → reads_extent va len s ≡ true
reading_passes va len s is =
    let va_is : s.va ≡ va = ap (λ (t : Seen). t.va) is.is in
    let len_is : s.len ≡ len = ap (λ (t : Seen). t.len) is.is ∙ is.len in
    let behind : drop len s.bytes ≡ replicate (4 - length is.bytes) 0
    = ap (λ (t : Seen). drop len t.bytes) is.is
    ∙ drop_at is.bytes (replicate (4 - length is.bytes) 0) len is.len in
    and_from (s.va == va) ((s.len == len) && is_zero (drop len s.bytes)) (eq-eqb s.va va va_is)
    (and_from (s.len == len) (is_zero (drop len s.bytes)) (eq-eqb s.len len len_is)
    (ap is_zero behind ∙ zeros_pass (4 - length is.bytes)))

-- ---- how many bytes rows ask for

abbrev is_sized : Option Extent → Bool
is_sized None = true
is_sized (Some p) = nat_le 1 p.len && nat_le p.len 4

sized : (place : Option Extent) → is_sized place ≡ true → IfSome place (λ p. IsAccessLength p.len)
sized None is = tt
sized (Some p) is =
    let parts : (nat_le 1 p.len ≡ true) × (nat_le p.len 4 ≡ true) = and_parts (nat_le 1 p.len) (nat_le p.len 4) is in
    (leb-true 1 p.len parts.0, leb-true p.len 4 parts.1)

row_reads : (op : Op) (v : Values) → is_sized (read_of (row_ask op v)) ≡ true
row_reads rows.Lui v = refl
row_reads op v = refl

row_writes : (op : Op) (v : Values) → is_sized (write_of (row_ask op v)) ≡ true
row_writes rows.Lui v = refl
row_writes op v = refl

pub reads_sized : (i : Ins) (pc : ℕ) (x : List ℕ) → IfSome (read_of (ask_of i pc x)) (λ p. IsAccessLength p.len)
reads_sized i pc x = sized (read_of (ask_of i pc x)) (row_reads i.op (values_of i pc x Nothing))

pub writes_sized : (i : Ins) (pc : ℕ) (x : List ℕ) → IfSome (write_of (ask_of i pc x)) (λ p. IsAccessLength p.len)
writes_sized i pc x = sized (write_of (ask_of i pc x)) (row_writes i.op (values_of i pc x Nothing))
