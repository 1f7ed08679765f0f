-- Records and the end of a call slice: their text reads back, and what was read is their text.
use Rattle.std.proofs.Common.{◌≡◌, ℕ, zero, suc, ◌+◌, ◌-◌, ◌^◌, ◌<◌, ◌≤◌, ◌&&◌, ◌||◌, ltb, eqb, leb, arith, refl, ap, sym, subst}
use Rattle.std.proofs.Common.{List, [], ◌∷◌, ◌++◌, length, Bool, true, false, cond, Ok, is_none}
use Rattle.std.proofs.lemmas.Bool.{ltb-true, eqb-true, leb-true, lt-ltb, le-leb, and_from, and_parts}
use Rattle.std.specs.List.{list_all}
use Rattle.std.specs.Int.{w32, to_le_bytes}
use Rattle.cx_map.specs.Bytes.{AreBytes}
use Rattle.cx_codec.specs.Again.{Once, ReadsAs}
use Rattle.cx_codec.specs.Fields.{byte_at, varint_at, word_at}
use Rattle.cx_codec.specs.Checks.{checked, is_between}
use Rattle.cx_codec.specs.Place.{Place, Reader, Takes, done, read_on}
use Rattle.cx_codec.specs.Varint.{varint}
use Rattle.cx_codec.proofs.Again.{reads_both, reads_byte, reads_checked, reads_then, reads_varint, reads_word}
use Rattle.cx_codec.proofs.Once.{part, finish, once_byte, once_checked, once_varint, once_word}
use Rattle.cx_codec.proofs.Texts.{takes_along, takes_both}
use Rattle.cx_slices.specs.Bytes.{Byte}
use Rattle.cx_slices.specs.Items.{is_nil}
use Rattle.cx_slices.specs.Stretches.{Stretch, put_before, single, stretches_of}
use Rattle.cx_slicefmt.specs.Reading.{head_at}
use Rattle.cx_slicefmt.specs.Rules.{Head, IsHead, is_empty}
use Rattle.cx_slicefmt.specs.Text.{head_text}
use Rattle.cx_slicefmt.proofs.Heads.{HasNeeded, once_head, one_if, reads_head, reads_same}
use Rattle.cx_slicefmt.proofs.Runs.{between, lies_between}
use Rattle.cx_callfmt.specs.Reading.{async_at, call_at, count_at, record_at, record_by, record_index_at, told_at, value_at}
use Rattle.cx_placing.specs.Records.{Async, Calls, Record, Value, What}
use Rattle.cx_callfmt.specs.Rules.{
  Behind,
  CallEntry,
  CallStands,
  EndsAt,
  IsWhat,
  MayEnd,
  MayFollow,
  RecordOf,
  calls,
  may_come,
  may_end,
  rank,
}
use Rattle.cx_callfmt.specs.Text.{call_end_text, call_entry_text, payload, record_text, tag}

-- ---- where a record may stand

pub record Comes (behind : Behind) (index : ℕ) : Type 0 where
  pub from : behind.index ≤ index
  pub below : index < 2 ^ 48

pub comes : (behind : Behind) (place index : ℕ) → may_come behind place index ≡ true → Comes behind index
comes behind place index is =
    let parts = and_parts (ltb index (2 ^ 48)) _ is in
    record {
      from = by_order (ltb behind.index index) (eqb behind.index index) refl refl parts.1;
      below = ltb-true index (2 ^ 48) parts.0;
    }
  where
    by_order : (s t : Bool) → ltb behind.index index ≡ s → eqb behind.index index ≡ t
        → (s || (t && leb behind.least place)) ≡ true → behind.index ≤ index
    by_order true t less same is = omega (arith, ltb-true behind.index index less)
    by_order false true less same is = omega (arith, eqb-true behind.index index same)
    by_order false false less same is = cc

pub ends_above : (behind : Behind) (count : ℕ) → may_end behind count ≡ true → MayEnd behind count
ends_above behind count is =
    let parts = and_parts (ltb behind.index count) (leb count (2 ^ 48)) is in
    record { above = ltb-true behind.index count parts.0; most = leb-true count (2 ^ 48) parts.1 }

may_end_is : (behind : Behind) (count : ℕ) → MayEnd behind count → may_end behind count ≡ true
may_end_is behind count is = and_from (ltb behind.index count) (leb count (2 ^ 48))
    (lt-ltb behind.index count is.above) (le-leb count (2 ^ 48) is.most)

-- ---- an index or a count, by its distance

reads_distance : (test : ℕ → Bool) (least n : ℕ) → test n ≡ true → least ≤ n → n < 2 ^ 64
    → ReadsAs (λ p. read_on (checked (λ d. test (least + d)) varint_at p) (λ d. done (least + d)))
    (varint (n - least)) n
reads_distance test least n good low fits =
    let d : ℕ = n - least in
    let back : least + d ≡ n = omega (arith, low) in
    let near : ℕ → Bool = λ d. test (least + d) in
    reads_same (λ p. read_on (checked near varint_at p) (λ d. done (least + d))) (varint d) (least + d) n back
    (reads_then (checked near varint_at) (λ d. least + d) (varint d) d
    (reads_checked near varint_at (varint d) d (rw back good) (reads_varint d (omega (arith, fits)))))

once_distance : (test : ℕ → Bool) (least : ℕ)
    → Once (λ p. read_on (checked (λ d. test (least + d)) varint_at p) (λ d. done (least + d)))
    (λ n. test n ≡ true) (λ n. varint (n - least))
once_distance test least p after are x read =
    let near : ℕ → Bool = λ d. test (least + d) in
    let d = part (checked near varint_at) (λ n. Unit {0} × (near n ≡ true)) varint (λ d. done (least + d))
    (once_checked near varint_at (λ n. Unit {0}) varint once_varint) p after are x read in
    let same : d.value ≡ least + d.value - least = omega arith in
    finish (λ n. test n ≡ true) (λ n. varint (n - least)) p d.mid after (least + d.value) x d.then d.keeps.1
    (takes_along p d.mid d.mid (varint d.value) (varint (least + d.value - least)) (ap varint same) refl d.takes)

reads_record_index : (behind : Behind) (place n : ℕ) → may_come behind place n ≡ true
    → ReadsAs (record_index_at behind place) (varint (n - behind.index)) n
unfolding record_index_at
reads_record_index behind place n good =
    let is = comes behind place n good in
    reads_distance (may_come behind place) behind.index n good is.from (omega (arith, is.below))

once_record_index : (behind : Behind) (place : ℕ)
    → Once (record_index_at behind place) (λ n. may_come behind place n ≡ true) (λ n. varint (n - behind.index))
unfolding record_index_at
once_record_index behind place = once_distance (may_come behind place) behind.index

reads_count : (behind : Behind) (count : ℕ) → MayEnd behind count
    → ReadsAs (count_at behind) (varint (count - behind.index)) count
unfolding count_at
reads_count behind count is = reads_distance (may_end behind) behind.index count (may_end_is behind count is)
    (omega (arith, is.above)) (omega (arith, is.most))

once_count : (behind : Behind) → Once (count_at behind) (MayEnd behind) (λ n. varint (n - behind.index))
unfolding count_at
once_count behind p after are x read =
    let there = once_distance (may_end behind) behind.index p after are x read in
    (ends_above behind x there.0, there.1)

-- ---- what records tell

-- an item is needed, and there is one
runs_some : (es : List Byte) → is_nil es ≡ false → 1 ≤ length (stretches_of es)
runs_some [] some = cc
runs_some (e ∷ es) some = put_some e (stretches_of es)
  where
    by_test : (e : Byte) (s : Stretch) (ss : List Stretch) (t : Bool)
        → 1 ≤ length (cond {A = List Stretch} t (record { va = e.0; bytes = e.1 ∷ s.bytes } ∷ ss) (single e ∷ s ∷ ss))
    by_test e s ss true = omega arith
    by_test e s ss false = omega arith

    put_some : (e : Byte) (ss : List Stretch) → 1 ≤ length (put_before e ss)
    put_some e [] = omega arith
    put_some e (s ∷ ss) = by_test e s ss (eqb (e.0 + 1) s.va)

runs_none : (es : List Byte) → 1 ≤ length (stretches_of es) → is_nil es ≡ false
runs_none [] some = absurd (omega (arith, some))
runs_none (e ∷ es) some = refl

needed_is : (h : Head) → is_empty h ≡ false → HasNeeded true h
needed_is h some = by_words (list_all is_none h.words) some
  where
    by_words : (t : Bool) → (t && is_nil h.bytes) ≡ false → one_if (true && t) ≤ length (stretches_of h.bytes)
    by_words true some = runs_some h.bytes some
    by_words false some = omega arith

is_needed : (h : Head) → HasNeeded true h → is_empty h ≡ false
is_needed h some = by_words (list_all is_none h.words) some
  where
    by_words : (t : Bool) → one_if (true && t) ≤ length (stretches_of h.bytes) → (t && is_nil h.bytes) ≡ false
    by_words true some = runs_none h.bytes some
    by_words false some = refl

pub reads_call : (number : ℕ) (head : Head) → IsWhat (Calls number head)
    → ReadsAs call_at (payload (Calls number head)) (Calls number head)
unfolding call_at
reads_call number head is = reads_both word_at (λ n p. read_on (head_at calls false p) (λ h. done (Calls n h)))
    (to_le_bytes w32 number) (head_text head) number (Calls number head) (reads_word number is.0)
    (reads_then (head_at calls false) (λ h. Calls number h) (head_text head) head
    (reads_head calls false head (omega arith) is.1 (omega arith)))

pub reads_async : (head : Head) → IsWhat (Async head) → ReadsAs async_at (payload (Async head)) (Async head)
unfolding async_at
reads_async head is = reads_then (head_at calls true) Async (head_text head) head
    (reads_head calls true head (omega arith) is.0 (needed_is head is.1))

pub reads_value : (word : ℕ) → IsWhat (Value word) → ReadsAs value_at (payload (Value word)) (Value word)
unfolding value_at
reads_value word is = reads_then word_at Value (to_le_bytes w32 word) word (reads_word word is)

-- what a record of a rank tells
pub record Tells (place : ℕ) (what : What) : Type 0 where
  pub rank : rank what ≡ place
  pub is : IsWhat what

once_call : Once call_at (Tells 2) payload
unfolding call_at
once_call p after are x read =
    let number = part word_at (λ w. w < 2 ^ 32) (λ w. to_le_bytes w32 w)
    (λ n p. read_on (head_at calls false p) (λ h. done (Calls n h))) once_word p after are x read in
    let head = part (head_at calls false) (λ h. IsHead calls h × HasNeeded false h) head_text
    (λ h. done (Calls number.value h)) (once_head calls false) number.mid after number.bytes x number.then in
    finish (Tells 2) payload p head.mid after (Calls number.value head.value) x head.then
    (record { rank = refl; is = (number.keeps, head.keeps.0) })
    (takes_both p number.mid head.mid (to_le_bytes w32 number.value) (head_text head.value) number.takes head.takes)

once_async : Once async_at (Tells 0) payload
unfolding async_at
once_async p after are x read =
    let head = part (head_at calls true) (λ h. IsHead calls h × HasNeeded true h) head_text
    (λ h. done (Async h)) (once_head calls true) p after are x read in
    finish (Tells 0) payload p head.mid after (Async head.value) x head.then
    (record { rank = refl; is = (head.keeps.0, is_needed head.value head.keeps.1) }) head.takes

once_value : Once value_at (Tells 1) payload
unfolding value_at
once_value p after are x read =
    let word = part word_at (λ w. w < 2 ^ 32) (λ w. to_le_bytes w32 w) (λ w. done (Value w)) once_word p after are x
    read in
    finish (Tells 1) payload p word.mid after (Value word.value) x word.then
    (record { rank = refl; is = word.keeps }) word.takes

-- ---- records

abbrev behind_index : Reader What → ℕ → Reader CallEntry
behind_index what index p = read_on (what p) (λ told. done (RecordOf (record { index = index; what = told })))

reads_told : (behind : Behind) (place : ℕ) (what : Reader What) (r : Record) → may_come behind place r.index ≡ true
    → ReadsAs what (payload r.what) r.what
    → ReadsAs (told_at behind place what) (varint (r.index - behind.index) ++ payload r.what) (RecordOf r)
unfolding told_at
reads_told behind place what r good told =
    reads_both (record_index_at behind place) (behind_index what) (varint (r.index - behind.index)) (payload r.what)
    r.index (RecordOf r) (reads_record_index behind place r.index good)
    (reads_then what (λ told. RecordOf (record { index = r.index; what = told })) (payload r.what) r.what told)

reads_tagged : (behind : Behind) (t : ℕ) (text : List ℕ) (e : CallEntry) → t ≤ 3
    → ReadsAs (record_by behind t) text e → ReadsAs (record_at behind) ((t ∷ []) ++ text) e
unfolding record_at
reads_tagged behind t text e few then = reads_both (checked (is_between 0 3) byte_at) (record_by behind) (t ∷ []) text t e
    (reads_checked (is_between 0 3) byte_at (t ∷ []) t (between 0 3 t (omega arith) few) (reads_byte t)) then

pub reads_record : (behind : Behind) (r : Record) → MayFollow behind r
    → ReadsAs (record_at behind) (record_text behind.index r) (RecordOf r)
unfolding record_text
reads_record behind r is = by_what r.index r.what is.comes is.what
  where
    by_what : (index : ℕ) (what : What) → may_come behind (rank what) index ≡ true → IsWhat what
        → ReadsAs (record_at behind) ((tag what ∷ []) ++ (varint (index - behind.index) ++ payload what))
        (RecordOf (record { index = index; what = what }))
    by_what index (Async head) comes is = reads_tagged behind 2 _ _ (omega arith)
        (reads_told behind 0 async_at (record { index = index; what = Async head }) comes (reads_async head is))
    by_what index (Value word) comes is = reads_tagged behind 3 _ _ (omega arith)
        (reads_told behind 1 value_at (record { index = index; what = Value word }) comes (reads_value word is))
    by_what index (Calls number head) comes is = reads_tagged behind 1 _ _ (omega arith)
        (reads_told behind 2 call_at (record { index = index; what = Calls number head }) comes
        (reads_call number head is))

pub reads_last : (behind : Behind) (count : ℕ) → MayEnd behind count
    → ReadsAs (record_at behind) (call_end_text behind.index count) (EndsAt count)
unfolding call_end_text
reads_last behind count is = reads_tagged behind 0 (varint (count - behind.index)) (EndsAt count) (omega arith)
    (reads_then (count_at behind) EndsAt (varint (count - behind.index)) count (reads_count behind count is))

told_once : (behind : Behind) (place t : ℕ) (what : Reader What) (p mid after : Place) (x : CallEntry)
    → Once what (Tells place) payload → ((w : What) → Tells place w → tag w ≡ t) → Takes p (t ∷ []) mid → AreBytes mid.ahead
    → told_at behind place what mid ≡ Ok (x, after)
    → CallStands behind x × Takes p (call_entry_text behind.index x) after
unfolding record_text told_at
told_once behind place t what p mid after x once tagged takes are read =
    let index = part (record_index_at behind place) (λ n. may_come behind place n ≡ true) (λ n. varint (n - behind.index))
    (behind_index what) (once_record_index behind place) mid after are x read in
    let told = part what (Tells place) payload (λ told. done (RecordOf (record { index = index.value; what = told }))) once
    index.mid after index.bytes x index.then in
    let rest : List ℕ = varint (index.value - behind.index) ++ payload told.value in
    finish (CallStands behind) (call_entry_text behind.index) p told.mid after
    (RecordOf (record { index = index.value; what = told.value })) x told.then
    (record { comes = rw told.keeps.rank index.keeps; what = told.keeps.is })
    (takes_along p told.mid told.mid ((t ∷ []) ++ rest) ((tag told.value ∷ []) ++ rest)
    (ap (λ (n : ℕ). (n ∷ []) ++ rest) (sym (tagged told.value told.keeps))) refl
    (takes_both p mid told.mid (t ∷ []) rest takes
    (takes_both mid index.mid told.mid (varint (index.value - behind.index)) (payload told.value) index.takes told.takes)))

end_once : (behind : Behind) (p mid after : Place) (x : CallEntry) → Takes p (0 ∷ []) mid → AreBytes mid.ahead
    → read_on (count_at behind mid) (λ count. done (EndsAt count)) ≡ Ok (x, after)
    → CallStands behind x × Takes p (call_entry_text behind.index x) after
unfolding call_end_text
end_once behind p mid after x takes are read =
    let count = part (count_at behind) (MayEnd behind) (λ n. varint (n - behind.index))
    (λ count. done (EndsAt count)) (once_count behind) mid after are x read in
    finish (CallStands behind) (call_entry_text behind.index) p count.mid after (EndsAt count.value) x count.then
    count.keeps
    (takes_both p mid count.mid (0 ∷ []) (varint (count.value - behind.index)) takes count.takes)

tagged_call : (w : What) → Tells 2 w → tag w ≡ 1
tagged_call (Calls number head) is = refl
tagged_call (Async head) is = absurd (omega (arith, is.rank))
tagged_call (Value word) is = absurd (omega (arith, is.rank))

tagged_async : (w : What) → Tells 0 w → tag w ≡ 2
tagged_async (Calls number head) is = absurd (omega (arith, is.rank))
tagged_async (Async head) is = refl
tagged_async (Value word) is = absurd (omega (arith, is.rank))

tagged_value : (w : What) → Tells 1 w → tag w ≡ 3
tagged_value (Calls number head) is = absurd (omega (arith, is.rank))
tagged_value (Async head) is = absurd (omega (arith, is.rank))
tagged_value (Value word) is = refl

by_tag : (behind : Behind) (t : ℕ) (p mid after : Place) (x : CallEntry) → t ≤ 3 → Takes p (t ∷ []) mid
    → AreBytes mid.ahead → record_by behind t mid ≡ Ok (x, after)
    → CallStands behind x × Takes p (call_entry_text behind.index x) after
by_tag behind zero p mid after x few takes are read = end_once behind p mid after x takes are read
by_tag behind (suc zero) p mid after x few takes are read =
    told_once behind 2 1 call_at p mid after x once_call tagged_call takes are read
by_tag behind (suc (suc zero)) p mid after x few takes are read =
    told_once behind 0 2 async_at p mid after x once_async tagged_async takes are read
by_tag behind (suc (suc (suc n))) p mid after x few takes are read =
    let three : suc (suc (suc n)) ≡ 3 = omega (arith, few) in
    told_once behind 1 3 value_at p mid after x once_value tagged_value
    (subst (λ (t : ℕ). Takes p (t ∷ []) mid) three takes) are read

pub once_record : (behind : Behind) → Once (record_at behind) (CallStands behind) (call_entry_text behind.index)
unfolding record_at
once_record behind p after are x read =
    let tag = part (checked (is_between 0 3) byte_at) (λ n. Unit {0} × (is_between 0 3 n ≡ true)) (λ b. b ∷ [])
    (record_by behind) (once_checked (is_between 0 3) byte_at (λ n. Unit {0}) (λ b. b ∷ []) once_byte) p after are x
    read in
    by_tag behind tag.value p tag.mid after x (lies_between 0 3 tag.value tag.keeps.1).1 tag.takes tag.bytes tag.then
