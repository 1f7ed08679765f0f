-- What is gathered is the slice by calls, and what was put stands before its last call.
use Rattle.std.proofs.Common.{◌≡◌, ℕ, suc, ◌||◌, Bool, true, false, List, [], ◌∷◌, ◌++◌, length, Option, None}
use Rattle.std.proofs.Common.{Some, is_some, if◌then◌else◌, refl, sym, ap, ◌∙◌, append_assoc, ◌+◌, arith}
use Rattle.std.proofs.lemmas.Bool.{or_from, or_right}
use Rattle.std.proofs.lemmas.List.{append-nil}
use Rattle.std.proofs.lemmas.List.Folds.{list_any-append}
use Rattle.std.specs.List.{list_any}
use Rattle.std.specs.Option.{option_map}
use Rattle.cx_slicefmt.specs.Rules.{Head, head_in, is_empty}
use Rattle.cx_slices.specs.Bytes.{Byte, missing, sorted}
use Rattle.cx_slices.specs.Items.{Items, after, known_at}
use Rattle.cx_slices.specs.Observed.{Watch}
use Rattle.cx_placing.specs.Gathering.{
  Gathered,
  all_gathered,
  behind_now,
  call_put,
  gathered_by,
  gathered_none,
  gathered_of,
  gathered_on,
  let_go,
  missed_now,
  put_now,
  with_head,
  with_records,
  words_now,
}
use Rattle.cx_placing.specs.Placing.{
  call_with,
  calls_of,
  first_missing,
  head_of,
  placed_at,
  placed_from,
  touched_behind,
  up_to_call,
}
use Rattle.cx_placing.specs.Records.{Async, CallFront, Calls, Record, async_records, before_last_call, is_call_record, item_records, nothing_put, records_from, step_records, up_to_last_call, value_records, whole_front}
use Rattle.cx_placing.specs.Touched.{first_touched, touching, untouched}

-- ---- what is gathered, with what comes

abbrev words_then : {O : Type 0} → Watch O ℕ → Gathered → List O → List (Option ℕ)
words_then m g [] = g.words
words_then m g (o ∷ os) = words_now m g o

-- the slice of what was gathered and of what comes
abbrev written : {O : Type 0} → Watch O ℕ → (O → Option ℕ) → Gathered → List O → CallFront
written m called g os = let_go g.put g.last (words_then m g os)
    (g.missed ++ first_missing m called g.known g.touched os)
    (g.behind ++ records_from g.count (placed_from m called g.known g.touched g.first os))

plain_words : {O : Type 0} (m : Watch O ℕ) (g : Gathered) (o : O) (os : List O)
    → words_now m g o ≡ words_then m (gathered_by m g o None) os
plain_words m g o [] = refl
plain_words m g o (p ∷ os) = refl

plain_records : (k : ℕ) (i : Items ℕ) (behind rest : List Record)
    → behind ++ (step_records k (record { items = i; call = None }) ++ rest) ≡ (behind ++ item_records k i) ++ rest
plain_records k i behind rest =
    ap (λ rs. behind ++ ((async_records k (head_in i) ++ rs) ++ rest)) (append-nil (value_records k i.given))
    ∙ sym (append_assoc behind (item_records k i) rest)

same_let_go : (put : CallFront) (last : Option (ℕ × ℕ)) (ws vs : List (Option ℕ)) (es fs : List Byte)
    (rs qs : List Record) → ws ≡ vs → es ≡ fs → rs ≡ qs → let_go put last ws es rs ≡ let_go put last vs fs qs
same_let_go put last ws vs es fs rs qs words bytes records = rw (words, bytes, records) refl

-- the records of a call come between those of its step and those behind it
between : (R behind items : List Record) (c : Record) (rest : List Record)
    → R ++ (behind ++ ((items ++ c ∷ []) ++ rest)) ≡ ((R ++ (behind ++ items)) ++ c ∷ []) ++ rest
between R behind items c rest =
    ap (λ (rs : List Record). R ++ rs) (ap (λ (rs : List Record). behind ++ rs) (append_assoc items (c ∷ []) rest)
    ∙ sym (append_assoc behind items (c ∷ rest)))
    ∙ (sym (append_assoc R (behind ++ items) (c ∷ rest))
    ∙ sym (append_assoc (R ++ (behind ++ items)) (c ∷ []) rest))

call_step : (k : ℕ) (i : Items ℕ) (number : ℕ) (head : Head)
    → step_records k (record { items = i; call = Some (call_with head number) })
    ≡ item_records k i ++ record { index = k; what = Calls number head } ∷ []
call_step k i number head = sym (append_assoc (async_records k (head_in i)) (value_records k i.given)
    (record { index = k; what = Calls number head } ∷ []))

head_then : {O : Type 0} (m : Watch O ℕ) (called : O → Option ℕ) (g : Gathered) (o : O) (number : ℕ) (os : List O)
    → head_of m called (after m g.known o) os
    ≡ record {
      words = words_then m (gathered_by m g o (Some number)) os;
      bytes = sorted (first_missing m called (after m g.known o) untouched os);
    }
head_then m called g o number [] = refl
head_then m called g o number (p ∷ os) = refl

same_front : (f : CallFront) (rs qs : List Record) → rs ≡ qs
    → ◌≡◌ {A = CallFront} (record { start = f.start; records = rs }) (record { start = f.start; records = qs })
same_front f rs qs is = ap {B = CallFront} (λ (rs : List Record). record { start = f.start; records = rs }) is

-- what a call lets go, and it itself with what comes behind it
call_written : (put : CallFront) (last : Option (ℕ × ℕ)) (words : List (Option ℕ)) (es : List Byte)
    (behind rest : List Record) (k number : ℕ) (i : Items ℕ) (head : Head)
    → let_go put last words es
    (behind ++ (step_records k (record { items = i; call = Some (call_with head number) }) ++ rest))
    ≡ with_records (with_head (let_go put last words es (behind ++ item_records k i)) (Some (k, number)) head) rest
call_written put last words es behind rest k number i head =
    ap (λ rs. let_go put last words es (behind ++ (rs ++ rest))) (call_step k i number head)
    ∙ same_front (with_head put last (record { words = words; bytes = sorted es }))
    ((with_head put last (record { words = words; bytes = sorted es })).records
    ++ (behind ++ ((item_records k i ++ record { index = k; what = Calls number head } ∷ []) ++ rest)))
    ((((with_head put last (record { words = words; bytes = sorted es })).records ++ (behind ++ item_records k i))
    ++ record { index = k; what = Calls number head } ∷ []) ++ rest)
    (between (with_head put last (record { words = words; bytes = sorted es })).records behind (item_records k i)
    (record { index = k; what = Calls number head }) rest)

step_by : {O : Type 0} (m : Watch O ℕ) (called : O → Option ℕ) (g : Gathered) (o : O) (os : List O)
    (call : Option ℕ)
    → let_go g.put g.last (words_now m g o)
    (g.missed ++ (first_touched g.touched (missing g.known.map (m.seen o))
    ++ up_to_call call (first_missing m called (after m g.known o) (touching m o g.touched) os)))
    (g.behind ++ (step_records g.count (record {
      items = placed_at m g.known g.touched g.first o;
      call = option_map (call_with (head_of m called (after m g.known o) os)) call;
    }) ++ records_from (suc g.count)
    (placed_from m called (after m g.known o) (touched_behind m call o g.touched) (is_some call) os)))
    ≡ written m called (gathered_by m g o call) os
step_by m called g o os None = same_let_go g.put g.last (words_now m g o)
    (words_then m (gathered_by m g o None) os)
    (g.missed ++ (first_touched g.touched (missing g.known.map (m.seen o))
    ++ first_missing m called (after m g.known o) (touching m o g.touched) os))
    (missed_now m g o ++ first_missing m called (after m g.known o) (touching m o g.touched) os)
    (g.behind ++ (step_records g.count (record { items = placed_at m g.known g.touched g.first o; call = None })
    ++ records_from (suc g.count) (placed_from m called (after m g.known o) (touching m o g.touched) false os)))
    (behind_now m g o
    ++ records_from (suc g.count) (placed_from m called (after m g.known o) (touching m o g.touched) false os))
    (plain_words m g o os)
    (sym (append_assoc g.missed (first_touched g.touched (missing g.known.map (m.seen o)))
    (first_missing m called (after m g.known o) (touching m o g.touched) os)))
    (plain_records g.count (placed_at m g.known g.touched g.first o) g.behind
    (records_from (suc g.count) (placed_from m called (after m g.known o) (touching m o g.touched) false os)))
step_by m called g o os (Some number) =
    ap (λ (es : List Byte). let_go g.put g.last (words_now m g o) (g.missed ++ es) (g.behind ++ (step_records g.count
    (record {
      items = placed_at m g.known g.touched g.first o;
      call = Some (call_with (head_of m called (after m g.known o) os) number);
    })
    ++ records_from (suc g.count) (placed_from m called (after m g.known o) untouched true os))))
    (append-nil (first_touched g.touched (missing g.known.map (m.seen o))))
    ∙ (call_written g.put g.last (words_now m g o) (missed_now m g o) g.behind
    (records_from (suc g.count) (placed_from m called (after m g.known o) untouched true os)) g.count number
    (placed_at m g.known g.touched g.first o) (head_of m called (after m g.known o) os)
    ∙ ap (λ head. with_records (with_head (put_now m g o (Some number)) (Some (g.count, number)) head)
    (records_from (suc g.count) (placed_from m called (after m g.known o) untouched true os)))
    (head_then m called g o number os))

written-step : {O : Type 0} (m : Watch O ℕ) (called : O → Option ℕ) (g : Gathered) (o : O) (os : List O)
    → written m called g (o ∷ os) ≡ written m called (gathered_by m g o (called o)) os
written-step m called g o os = step_by m called g o os (called o)

written-all : {O : Type 0} (m : Watch O ℕ) (called : O → Option ℕ) (g : Gathered) (os : List O)
    → written m called g os ≡ all_gathered (gathered_on m called g os)
written-all m called g [] = same_let_go g.put g.last g.words g.words (g.missed ++ []) g.missed (g.behind ++ [])
    g.behind refl (append-nil g.missed) (append-nil g.behind)
written-all m called g (o ∷ os) = written-step m called g o os
    ∙ written-all m called (gathered_by m g o (called o)) os

whole_is_written : {O : Type 0} (m : Watch O ℕ) (called : O → Option ℕ) (os : List O)
    → whole_front (calls_of m called os) ≡ written m called (gathered_none m) os
whole_is_written m called [] = refl
whole_is_written m called (o ∷ os) = refl

pub whole-gathered : {O : Type 0} (m : Watch O ℕ) (called : O → Option ℕ) (os : List O)
    → whole_front (calls_of m called os) ≡ all_gathered (gathered_of m called os)
whole-gathered m called os = whole_is_written m called os ∙ written-all m called (gathered_none m) os

-- ---- what was put

-- No call stands behind the last one, and before the first nothing was put.
abbrev pub PutBefore : Option (ℕ × ℕ) → CallFront → Type 0
PutBefore None put = put ≡ nothing_put
PutBefore (Some call) put = Unit {0}

pub record IsOrderly (g : Gathered) : Type 0 where
  pub behind : list_any is_call_record g.behind ≡ false
  pub before : PutBefore g.last g.put

no_call_async : (k : ℕ) (head : Head) (t : Bool)
    → list_any is_call_record (if t then [] else record { index = k; what = Async head } ∷ []) ≡ false
no_call_async k head true = refl
no_call_async k head false = refl

no_call_value : (k : ℕ) (given : Option ℕ) → list_any is_call_record (value_records k given) ≡ false
no_call_value k None = refl
no_call_value k (Some word) = refl

none_of_both : (rs qs : List Record) → list_any is_call_record rs ≡ false → list_any is_call_record qs ≡ false
    → list_any is_call_record (rs ++ qs) ≡ false
none_of_both rs qs first second = list_any-append is_call_record rs qs
    ∙ or_from (list_any is_call_record rs) (list_any is_call_record qs) first second

no_call_items : (k : ℕ) (i : Items ℕ) → list_any is_call_record (item_records k i) ≡ false
no_call_items k i = none_of_both (async_records k (head_in i)) (value_records k i.given)
    (no_call_async k (head_in i) (is_empty (head_in i))) (no_call_value k i.given)

orderly_by : {O : Type 0} (m : Watch O ℕ) (g : Gathered) (o : O) (call : Option ℕ) → IsOrderly g
    → IsOrderly (gathered_by m g o call)
orderly_by m g o None orderly = record {
  behind = none_of_both g.behind (item_records g.count (placed_at m g.known g.touched g.first o)) orderly.behind
      (no_call_items g.count (placed_at m g.known g.touched g.first o));
  before = orderly.before;
}
orderly_by m g o (Some number) orderly = record { behind = refl; before = tt }

pub orderly_on : {O : Type 0} (m : Watch O ℕ) (called : O → Option ℕ) (g : Gathered) (os : List O) → IsOrderly g
    → IsOrderly (gathered_on m called g os)
orderly_on m called g [] orderly = orderly
orderly_on m called g (o ∷ os) orderly = orderly_on m called (gathered_by m g o (called o)) os
    (orderly_by m g o (called o) orderly)

pub orderly_of : {O : Type 0} (m : Watch O ℕ) (called : O → Option ℕ) (os : List O)
    → IsOrderly (gathered_of m called os)
orderly_of m called os = orderly_on m called (gathered_none m) os (record { behind = refl; before = refl })

any_in : (R behind : List Record) (c : Record) → is_call_record c ≡ true
    → list_any is_call_record ((R ++ c ∷ []) ++ behind) ≡ true
any_in [] behind c is = ap (λ t. t || list_any is_call_record behind) is
any_in (r ∷ R) behind c is =
    or_right (is_call_record r) (list_any is_call_record ((R ++ c ∷ []) ++ behind)) (any_in R behind c is)

before_it : (R behind : List Record) (c : Record) → is_call_record c ≡ true → list_any is_call_record behind ≡ false
    → before_last_call ((R ++ c ∷ []) ++ behind) ≡ R
before_it [] behind c is none = ap (λ t. if t then c ∷ before_last_call behind else []) none
before_it (r ∷ R) behind c is none =
    ap (λ t. if t then r ∷ before_last_call ((R ++ c ∷ []) ++ behind) else []) (any_in R behind c is)
    ∙ ap (λ (rs : List Record). r ∷ rs) (before_it R behind c is none)

put_before : (put : CallFront) (last : Option (ℕ × ℕ)) (words : List (Option ℕ)) (missed : List Byte)
    (behind : List Record) → list_any is_call_record behind ≡ false → PutBefore last put
    → up_to_last_call (let_go put last words missed behind) ≡ put
put_before put None words missed behind none before = rw (before, none) refl
put_before put (Some call) words missed behind none before =
    rw (
      any_in put.records behind
          (record { index = call.0; what = Calls call.1 (record { words = words; bytes = sorted missed }) }) refl,
      before_it put.records behind
          (record { index = call.0; what = Calls call.1 (record { words = words; bytes = sorted missed }) }) refl none,
    ) refl

pub put-gathered : {O : Type 0} (m : Watch O ℕ) (called : O → Option ℕ) (os : List O)
    → (gathered_of m called os).put ≡ call_put m called os
unfolding call_put
put-gathered m called os =
    let orderly : IsOrderly (gathered_of m called os) = orderly_of m called os in
    let g : Gathered = gathered_of m called os in
    sym (ap up_to_last_call (whole-gathered m called os)
    ∙ put_before g.put g.last g.words g.missed g.behind orderly.behind orderly.before)

-- ---- one more

pub gathered_on-push : {O : Type 0} (m : Watch O ℕ) (called : O → Option ℕ) (g : Gathered) (os : List O) (o : O)
    → gathered_on m called g (os ++ o ∷ [])
    ≡ gathered_by m (gathered_on m called g os) o (called o)
gathered_on-push m called g [] o = refl
gathered_on-push m called g (p ∷ os) o = gathered_on-push m called (gathered_by m g p (called p)) os o

put_of_step : {O : Type 0} (m : Watch O ℕ) (g : Gathered) (o : O) (call : Option ℕ)
    → (gathered_by m g o call).put ≡ put_now m g o call
put_of_step m g o None = refl
put_of_step m g o (Some number) = refl

pub call_put-push : {O : Type 0} (m : Watch O ℕ) (called : O → Option ℕ) (os : List O) (o : O)
    → call_put m called (os ++ o ∷ []) ≡ put_now m (gathered_of m called os) o (called o)
call_put-push m called os o = sym (put-gathered m called (os ++ o ∷ []))
    ∙ (ap (λ (g : Gathered). g.put) (gathered_on-push m called (gathered_none m) os o)
    ∙ put_of_step m (gathered_of m called os) o (called o))

known_by : {O : Type 0} (m : Watch O ℕ) (g : Gathered) (o : O) (call : Option ℕ)
    → (gathered_by m g o call).known ≡ after m g.known o
known_by m g o None = refl
known_by m g o (Some number) = refl

pub known_on : {O : Type 0} (m : Watch O ℕ) (called : O → Option ℕ) (g : Gathered) (os : List O)
    → (gathered_on m called g os).known ≡ known_at m g.known os
known_on m called g [] = refl
known_on m called g (o ∷ os) = known_on m called (gathered_by m g o (called o)) os
    ∙ ap (λ w. known_at m w os) (known_by m g o (called o))

count_by : {O : Type 0} (m : Watch O ℕ) (g : Gathered) (o : O) (call : Option ℕ)
    → (gathered_by m g o call).count ≡ suc g.count
count_by m g o None = refl
count_by m g o (Some number) = refl

count_on : {O : Type 0} (m : Watch O ℕ) (called : O → Option ℕ) (g : Gathered) (os : List O)
    → (gathered_on m called g os).count ≡ g.count + length os
count_on m called g [] = nothing_more g.count
  where
    nothing_more : (n : ℕ) → n ≡ n + 0
    nothing_more n = omega arith
count_on m called g (o ∷ os) = count_on m called (gathered_by m g o (called o)) os
    ∙ (ap (λ (n : ℕ). n + length os) (count_by m g o (called o)) ∙ one_up g.count (length os))
  where
    one_up : (k n : ℕ) → suc k + n ≡ k + suc n
    one_up k n = omega arith

pub count_of : {O : Type 0} (m : Watch O ℕ) (called : O → Option ℕ) (os : List O)
    → (gathered_of m called os).count ≡ length os
count_of m called os = count_on m called (gathered_none m) os ∙ from_zero (length os)
  where
    from_zero : (n : ℕ) → 0 + n ≡ n
    from_zero n = omega arith
