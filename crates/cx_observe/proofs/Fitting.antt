-- The slice of a possible run can be spelled: it begins at 0, its numbers are words and bytes, and no group has more
-- than eight bytes.
use Rattle.std.proofs.Common.{◌≡◌, ℕ, suc, ◌+◌, ◌%◌, ◌^◌, ◌<◌, ◌≤◌, ◌==◌, ◌&&◌, nat_lt, nat_le, Bool, true, false, not}
use Rattle.std.proofs.Common.{◌⊎◌, inl, inr, List, [], ◌∷◌, ◌++◌, length, filter, Option, None, Some, IfSome}
use Rattle.std.proofs.Common.{if◌then◌else◌, refl, sym, ap, subst, ◌∙◌, arith, length-append}
use Rattle.std.proofs.lemmas.Bool.{and_parts, cond_both, leb-true, ltb-true}
use Rattle.std.specs.List.{AllByRecursion}
use Rattle.cx_decode.specs.declared.op.Op.{Op}
use Rattle.cx_decode.specs.declared.op.Op.TheVariants as rows
use Rattle.cx_exec.specs.Arithmetic.{wrapped}
use Rattle.cx_exec.specs.Asking.{ask_of, row_ask}
use Rattle.cx_exec.specs.declared.values.Values.{Values}
use Rattle.cx_ram.specs.LittleEndian.{low_bytes}
use Rattle.cx_slices.specs.Bytes.{Byte, inserted, missing, nothing, sorted, stands}
use Rattle.cx_slices.specs.Groups.{groups_from, groups_of}
use Rattle.cx_slices.specs.Items.{IsByteAt, ItemsFit, Known, ObservationFits, after, are_none, is_nil, items_at, items_of, start}
use Rattle.cx_slices.proofs.Streams.{groups_of-fit}
use Rattle.cx_observe.specs.Asked.{Extent, read_of}
use Rattle.cx_observe.specs.Effects.{program_words}
use Rattle.cx_observe.specs.Possible.{IsEnvironmentCall, IsReadOf, IsReading, Possible, Retires, are_bytes, are_words, is_word}
use Rattle.cx_observe.specs.Possible.{is_word_or_none}
use Rattle.cx_observe.specs.Seeing.{bytes_on, bytes_shown, seen_by, sights}
use Rattle.cx_observe.specs.User.{user}
use Rattle.cx_observe.specs.declared.obs.Obs.{Obs}
use Rattle.cx_observe.specs.declared.obs.Seen.{Seen}
use Rattle.cx_observe.proofs.Given.{are_bytes-low_bytes, length-low_bytes}
use Rattle.cx_observe.proofs.Stepping.{bytes_shown-seen_with}

-- ---- words

words_fit : (ws : List ℕ) → are_words ws ≡ true → AllByRecursion (λ w. w < 2 ^ 32) ws
words_fit [] are = tt
words_fit (w ∷ ws) are =
    let parts : (is_word w ≡ true) × (are_words ws ≡ true) = and_parts (is_word w) (are_words ws) are in
    (ltb-true w (2 ^ 32) parts.0, words_fit ws parts.1)

registers_fit : (pc : ℕ) (x : List ℕ) → is_word pc ≡ true → are_words x ≡ true
    → AllByRecursion (λ w. w < 2 ^ 32) (program_words pc x)
registers_fit pc [] fits are = tt
registers_fit pc (x ∷ xs) fits are =
    let parts : (is_word x ≡ true) × (are_words xs ≡ true) = and_parts (is_word x) (are_words xs) are in
    (ltb-true pc (2 ^ 32) fits, words_fit xs parts.1)

value_fits : (value : Option ℕ) → is_word_or_none value ≡ true → IfSome value (λ v. is_word v ≡ true)
value_fits None fits = tt
value_fits (Some v) fits = fits

-- ---- bytes

wrapped_fits : (a : ℕ) → wrapped a < 2 ^ 32
wrapped_fits a = omega arith

bytes_on_fit : (va : ℕ) (bs : List ℕ) → are_bytes bs ≡ true → AllByRecursion IsByteAt (bytes_on va bs)
bytes_on_fit va [] are = tt
bytes_on_fit va (b ∷ bs) are =
    let parts : (nat_lt b 256 ≡ true) × (are_bytes bs ≡ true) = and_parts (nat_lt b 256) (are_bytes bs) are in
    ((wrapped_fits va, ltb-true b 256 parts.0), bytes_on_fit (va + 1) bs parts.1)

pub both_fit : (es fs : List Byte) → AllByRecursion IsByteAt es → AllByRecursion IsByteAt fs
    → AllByRecursion IsByteAt (es ++ fs)
both_fit [] fs first second = second
both_fit (e ∷ es) fs first second = (first.0, both_fit es fs first.1 second)

inserted_fit : (e : Byte) (es : List Byte) → IsByteAt e → AllByRecursion IsByteAt es
    → AllByRecursion IsByteAt (inserted e es)
inserted_fit e [] fits fit = (fits, tt)
inserted_fit e (f ∷ fs) fits fit =
    let rest : AllByRecursion IsByteAt (inserted e fs) = inserted_fit e fs fits fit.1 in
    cond_both (nat_lt e.0 f.0) (e ∷ f ∷ fs) (if e.0 == f.0 then e ∷ fs else f ∷ inserted e fs)
    (AllByRecursion IsByteAt) (λ less. (fits, fit))
    (λ not_less. cond_both (e.0 == f.0) (e ∷ fs) (f ∷ inserted e fs) (AllByRecursion IsByteAt)
    (λ same. (fits, fit.1)) (λ other. (fit.0, rest)))

pub sorted_fit : (es : List Byte) → AllByRecursion IsByteAt es → AllByRecursion IsByteAt (sorted es)
sorted_fit [] fit = tt
sorted_fit (e ∷ es) fit = inserted_fit e (sorted es) fit.0 (sorted_fit es fit.1)

reading_fits : (place : Extent) (s : Seen) → IsReading place s → AllByRecursion IsByteAt (bytes_shown (Some s))
reading_fits place s reading = subst (AllByRecursion IsByteAt)
    (sym (ap (λ (t : Seen). bytes_shown (Some t)) reading.is ∙ bytes_shown-seen_with place.va reading.bytes))
    (bytes_on_fit place.va reading.bytes reading.are)

read_fits : (place : Option Extent) (read : Option Seen) → IsReadOf place read
    → AllByRecursion IsByteAt (bytes_shown read)
read_fits None None is = tt
read_fits None (Some s) is = absurd is
read_fits (Some p) None is = absurd is
read_fits (Some p) (Some s) is = reading_fits p s is

does_fit : (o : Obs) → IsEnvironmentCall o ⊎ Retires o → AllByRecursion IsByteAt (bytes_shown o.read)
does_fit o (inl call) = subst (λ (r : Option Seen). AllByRecursion IsByteAt (bytes_shown r)) (sym call.read) tt
does_fit o (inr r) = read_fits (read_of (ask_of r.ins o.pc o.x)) o.read r.read

sights_fit : (o : Obs) → Possible o → AllByRecursion IsByteAt (sights o)
unfolding sights
sights_fit o possible = both_fit (bytes_on o.pc (low_bytes 4 o.word)) (bytes_shown o.read)
    (bytes_on_fit o.pc (low_bytes 4 o.word) (are_bytes-low_bytes 4 o.word)) (does_fit o possible.does)

pub observation_fits : (o : Obs) → Possible o → ObservationFits user is_word o
observation_fits o possible = record {
  words = registers_fit o.pc o.x possible.pc possible.words;
  bytes = sorted_fit (sights o) (sights_fit o possible);
  given = value_fits o.value possible.value;
}

pub each_fits : (os : List Obs) → AllByRecursion Possible os → AllByRecursion (ObservationFits user is_word) os
each_fits [] possible = tt
each_fits (o ∷ os) possible = (observation_fits o possible.0, each_fits os possible.1)

pub slice_fits : (os : List Obs) → AllByRecursion Possible os
    → AllByRecursion (λ g. ItemsFit is_word g.items) (groups_of user os)
slice_fits os possible = groups_of-fit user is_word os (each_fits os possible)

-- ---- the first group

inserted_some : (e : Byte) (es : List Byte) → is_nil (inserted e es) ≡ false
inserted_some e [] = refl
inserted_some e (f ∷ fs) =
    cond_both (nat_lt e.0 f.0) (e ∷ f ∷ fs) (if e.0 == f.0 then e ∷ fs else f ∷ inserted e fs)
    (λ es. is_nil es ≡ false) (λ less. refl)
    (λ not_less. cond_both (e.0 == f.0) (e ∷ fs) (f ∷ inserted e fs) (λ es. is_nil es ≡ false) (λ same. refl)
    (λ other. refl))

all_missing : (es : List Byte) → missing nothing es ≡ es
all_missing [] = refl
all_missing (e ∷ es) = ap (λ fs. e ∷ fs) (all_missing es)

first_seen : (pc word : ℕ) (es : List Byte) → is_nil (sorted (bytes_on pc (low_bytes 4 word) ++ es)) ≡ false
unfolding low_bytes
first_seen pc word es = inserted_some (wrapped pc, word % 256) _

seen_some : (o : Obs) → is_nil (seen_by o) ≡ false
unfolding sights
seen_some o = first_seen o.pc o.word (bytes_shown o.read)

no_items_false : (words bytes given : Bool) → bytes ≡ false → (words && (bytes && given)) ≡ false
no_items_false true bytes given is = ap (λ t. t && given) is
no_items_false false bytes given is = refl

pub first_items : (o : Obs) → are_none (items_at user (start user) o) ≡ false
first_items o = no_items_false _ (is_nil (missing nothing (seen_by o))) _
    (ap is_nil (all_missing (seen_by o)) ∙ seen_some o)

pub first_group : (o : Obs) (os : List Obs) → groups_of user (o ∷ os)
    ≡ record { index = 0; items = items_at user (start user) o }
    ∷ groups_from 1 (items_of user (after user (start user) o) os)
first_group o os = ap (λ t. if t then groups_from 1 (items_of user (after user (start user) o) os)
    else record { index = 0; items = items_at user (start user) o }
    ∷ groups_from 1 (items_of user (after user (start user) o) os)) (first_items o)

-- ---- how many bytes

length-inserted : (e : Byte) (es : List Byte) → length (inserted e es) ≤ suc (length es)
length-inserted e [] = omega arith
length-inserted e (f ∷ fs) =
    let rest : length (inserted e fs) ≤ suc (length fs) = length-inserted e fs in
    cond_both (nat_lt e.0 f.0) (e ∷ f ∷ fs) (if e.0 == f.0 then e ∷ fs else f ∷ inserted e fs)
    (λ es. length es ≤ suc (suc (length fs))) (λ less. omega arith)
    (λ not_less. cond_both (e.0 == f.0) (e ∷ fs) (f ∷ inserted e fs) (λ es. length es ≤ suc (suc (length fs)))
    (λ same. omega arith) (λ other. omega arith))

pub length-sorted : (es : List Byte) → length (sorted es) ≤ length es
length-sorted [] = omega arith
length-sorted (e ∷ es) =
    let rest : length (sorted es) ≤ length es = length-sorted es in
    let more : length (inserted e (sorted es)) ≤ suc (length (sorted es)) = length-inserted e (sorted es) in
    omega arith

pub length-filter : (keep : Byte → Bool) (es : List Byte) → length (filter keep es) ≤ length es
length-filter keep [] = omega arith
length-filter keep (e ∷ es) =
    let rest : length (filter keep es) ≤ length es = length-filter keep es in
    cond_both (keep e) (e ∷ filter keep es) (filter keep es) (λ fs. length fs ≤ suc (length es)) (λ kept. omega arith)
    (λ dropped. omega arith)

length-bytes_on : (va : ℕ) (bs : List ℕ) → length (bytes_on va bs) ≡ length bs
length-bytes_on va [] = refl
length-bytes_on va (b ∷ bs) = ap suc (length-bytes_on (va + 1) bs)

abbrev is_few : Option Extent → Bool
is_few None = true
is_few (Some p) = nat_le p.len 4

row_few : (op : Op) (v : Values) → is_few (read_of (row_ask op v)) ≡ true
row_few rows.Lui v = refl
row_few op v = refl

few_read : (place : Option Extent) (read : Option Seen) → IsReadOf place read → is_few place ≡ true
    → length (bytes_shown read) ≤ 4
few_read None None is few = omega arith
few_read None (Some s) is few = absurd is
few_read (Some p) None is few = absurd is
few_read (Some p) (Some s) is few =
    let size : length (bytes_shown (Some s)) ≡ p.len
    = ap length (ap (λ (t : Seen). bytes_shown (Some t)) is.is ∙ bytes_shown-seen_with p.va is.bytes)
    ∙ (length-bytes_on p.va is.bytes ∙ is.len) in
    let most : p.len ≤ 4 = leb-true p.len 4 few in
    omega arith

does_few : (o : Obs) → IsEnvironmentCall o ⊎ Retires o → length (bytes_shown o.read) ≤ 4
does_few o (inl call) =
    let none : length (bytes_shown o.read) ≡ 0 = ap (λ (r : Option Seen). length (bytes_shown r)) call.read in
    omega arith
does_few o (inr r) = few_read (read_of (ask_of r.ins o.pc o.x)) o.read r.read (row_few r.ins.op _)

sights_few : (o : Obs) → Possible o → length (sights o) ≤ 8
unfolding sights
sights_few o possible =
    let size : length (bytes_on o.pc (low_bytes 4 o.word) ++ bytes_shown o.read)
    ≡ length (bytes_on o.pc (low_bytes 4 o.word)) + length (bytes_shown o.read)
    = length-append (bytes_on o.pc (low_bytes 4 o.word)) (bytes_shown o.read) in
    let fetch : length (bytes_on o.pc (low_bytes 4 o.word)) ≡ 4
    = length-bytes_on o.pc (low_bytes 4 o.word) ∙ length-low_bytes 4 o.word in
    let read : length (bytes_shown o.read) ≤ 4 = does_few o possible.does in
    omega arith

pub few_items : (w : Known) (o : Obs) → Possible o → length (items_at user w o).bytes ≤ 8
few_items w o possible =
    let kept : length (missing w.map (seen_by o)) ≤ length (seen_by o)
    = length-filter (λ e. not (stands w.map e)) (seen_by o) in
    let order : length (seen_by o) ≤ length (sights o) = length-sorted (sights o) in
    let few : length (sights o) ≤ 8 = sights_few o possible in
    omega arith
