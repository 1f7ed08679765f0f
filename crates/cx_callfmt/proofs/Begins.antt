-- Records in two parts: what stands up to the number of runs, and the bytes of the runs.
use Rattle.std.proofs.Common.{◌≡◌, ℕ, zero, suc, ◌^◌, ◌&&◌, cond, refl, Bool, true, false, Result, Ok, Err, List, [], ◌++◌, Option, is_none}
use Rattle.std.specs.List.{list_all}
use Rattle.cx_codec.specs.Checks.{checked, is_between}
use Rattle.cx_codec.specs.Fields.{byte_at, varint_at, word_at}
use Rattle.cx_codec.specs.Place.{Place, Reader, done, read_on}
use Rattle.cx_slices.specs.Bytes.{Byte}
use Rattle.cx_slices.specs.Stretches.{Stretch, bytes_from, bytes_of_stretches}
use Rattle.cx_slicefmt.specs.Reading.{counted_at, head_at, masked_at, runs_at}
use Rattle.cx_slicefmt.specs.Rules.{Head}
use Rattle.cx_placing.specs.Records.{Async, Calls, Value, What}
use Rattle.cx_callfmt.specs.Beginning.{BegunCall, BegunEnd, BegunItems, BegunValue, HeadBegun, begun_at, begun_behind, begun_by, call_begun_at, end_begun_at, head_begun_at, head_behind, items_begun_at, value_begun_at}
use Rattle.cx_callfmt.specs.Handing.{rest_at}
use Rattle.cx_callfmt.specs.Reading.{async_at, call_at, count_at, record_at, record_by, record_index_at, told_at, value_at}
use Rattle.cx_callfmt.specs.Rules.{Behind, CallEntry, EndsAt, RecordOf, calls}
use Rattle.cx_callfmt.proofs.HandedOut.{no_bytes}

-- ---- heads

abbrev with_words : List (Option ℕ) → List Stretch → Reader Head
with_words words runs = done (record { words = words; bytes = bytes_of_stretches runs })

abbrev with_bytes : List (Option ℕ) → List Byte → Reader Head
with_bytes words bytes = done (record { words = words; bytes = bytes })

runs_part : (words : List (Option ℕ)) (r : Result (List Stretch × Place) ℕ)
    → read_on r (with_words words)
    ≡ read_on (read_on r (λ ss. done (bytes_from 0 [] ++ bytes_of_stretches ss))) (with_bytes words)
runs_part words (Ok x) = refl
runs_part words (Err o) = refl

count_part : (words : List (Option ℕ)) (r : Result (ℕ × Place) ℕ)
    → read_on (read_on r (λ count. runs_at (2 ^ 32) count 0)) (with_words words)
    ≡ read_on (read_on r (λ runs. done (record { words = words; runs = runs }))) head_behind
unfolding rest_at
count_part words (Ok x) = rw (no_bytes x.1) (runs_part words (runs_at (2 ^ 32) x.0 0 x.1))
count_part words (Err o) = refl

words_part : (needed : Bool) (r : Result (List (Option ℕ) × Place) ℕ)
    → read_on r (λ words q. read_on (counted_at calls (needed && list_all is_none words) q) (with_words words))
    ≡ read_on (read_on r (λ words q.
    read_on (checked (is_between (cond (needed && list_all is_none words) 1 0) calls.runs) varint_at q)
    (λ runs. done (record { words = words; runs = runs })))) head_behind
unfolding counted_at
words_part needed (Ok x) =
    count_part x.0 (checked (is_between (cond (needed && list_all is_none x.0) 1 0) calls.runs) varint_at x.1)
words_part needed (Err o) = refl

pub head_parts : (needed : Bool) (p : Place)
    → head_at calls needed p ≡ read_on (head_begun_at needed p) head_behind
unfolding head_at head_begun_at
head_parts needed p = words_part needed (masked_at p)

-- ---- records

told_part : (index : ℕ) (what : Head → What) (r : Result (Head × Place) ℕ)
    → read_on (read_on r (λ h. done (what h))) (λ told. done (RecordOf (record { index = index; what = told })))
    ≡ read_on r (λ h. done (RecordOf (record { index = index; what = what h })))
told_part index what (Ok x) = refl
told_part index what (Err o) = refl

abbrev as_told : ℕ → What → Reader CallEntry
as_told index told = done (RecordOf (record { index = index; what = told }))

items_head : (index : ℕ) (r : Result (HeadBegun × Place) ℕ)
    → read_on (read_on (read_on r head_behind) (λ h. done (Async h))) (as_told index)
    ≡ read_on (read_on r (λ b. done (BegunItems index b))) begun_behind
items_head index (Ok x) = told_part index Async (head_behind x.0 x.1)
items_head index (Err o) = refl

items_part : (r : Result (ℕ × Place) ℕ)
    → read_on r (λ index p. read_on (async_at p) (as_told index))
    ≡ read_on (read_on r (λ index p. read_on (head_begun_at true p) (λ b. done (BegunItems index b)))) begun_behind
unfolding async_at
items_part (Ok x) = rw (head_parts true x.1) (items_head x.0 (head_begun_at true x.1))
items_part (Err o) = refl

call_head : (index number : ℕ) (r : Result (HeadBegun × Place) ℕ)
    → read_on (read_on (read_on r head_behind) (λ h. done (Calls number h))) (as_told index)
    ≡ read_on (read_on r (λ b. done (BegunCall index number b))) begun_behind
call_head index number (Ok x) = told_part index (Calls number) (head_behind x.0 x.1)
call_head index number (Err o) = refl

call_number : (index : ℕ) (r : Result (ℕ × Place) ℕ)
    → read_on (read_on r (λ number p. read_on (head_at calls false p) (λ h. done (Calls number h)))) (as_told index)
    ≡ read_on (read_on r (λ number p. read_on (head_begun_at false p) (λ b. done (BegunCall index number b))))
    begun_behind
call_number index (Ok x) = rw (head_parts false x.1) (call_head index x.0 (head_begun_at false x.1))
call_number index (Err o) = refl

call_part : (r : Result (ℕ × Place) ℕ)
    → read_on r (λ index p. read_on (call_at p) (as_told index))
    ≡ read_on (read_on r (λ index p. read_on (word_at p)
    (λ number q. read_on (head_begun_at false q) (λ b. done (BegunCall index number b))))) begun_behind
unfolding call_at
call_part (Ok x) = call_number x.0 (word_at x.1)
call_part (Err o) = refl

value_word : (index : ℕ) (r : Result (ℕ × Place) ℕ)
    → read_on (read_on r (λ word. done (Value word))) (as_told index)
    ≡ read_on (read_on r (λ word. done (BegunValue index word))) begun_behind
value_word index (Ok x) = refl
value_word index (Err o) = refl

value_part : (r : Result (ℕ × Place) ℕ)
    → read_on r (λ index p. read_on (value_at p) (as_told index))
    ≡ read_on (read_on r (λ index p. read_on (word_at p) (λ word. done (BegunValue index word)))) begun_behind
unfolding value_at
value_part (Ok x) = value_word x.0 (word_at x.1)
value_part (Err o) = refl

end_part : (r : Result (ℕ × Place) ℕ)
    → read_on r (λ count. done (EndsAt count)) ≡ read_on (read_on r (λ count. done (BegunEnd count))) begun_behind
end_part (Ok x) = refl
end_part (Err o) = refl

by_tag : (behind : Behind) (t : ℕ) (p : Place)
    → record_by behind t p ≡ read_on (begun_by behind t p) begun_behind
unfolding told_at items_begun_at value_begun_at call_begun_at end_begun_at
by_tag behind zero p = end_part (count_at behind p)
by_tag behind (suc zero) p = call_part (record_index_at behind 2 p)
by_tag behind (suc (suc zero)) p = items_part (record_index_at behind 0 p)
by_tag behind (suc (suc (suc n))) p = value_part (record_index_at behind 1 p)

tag_part : (behind : Behind) (r : Result (ℕ × Place) ℕ)
    → read_on r (record_by behind) ≡ read_on (read_on r (begun_by behind)) begun_behind
tag_part behind (Ok x) = by_tag behind x.0 x.1
tag_part behind (Err o) = refl

pub records_begin : (behind : Behind) (p : Place) → record_at behind p ≡ read_on (begun_at behind p) begun_behind
unfolding record_at begun_at
records_begin behind p = tag_part behind (checked (is_between 0 3) byte_at p)
