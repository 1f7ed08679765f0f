-- How long the text of a slice by its calls is at most.
use Rattle.std.proofs.Common.{◌≡◌, ℕ, suc, ◌+◌, ◌-◌, ◌*◌, ◌≤◌, arith, refl, ap, Bool, true, false, if◌then◌else◌}
use Rattle.std.proofs.Common.{List, [], ◌∷◌, ◌++◌, length, Option, None, Some, IfSome, length-append}
use Rattle.std.specs.Int.{w32, to_le_bytes}
use Rattle.cx_codec.specs.Varint.{varint}
use Rattle.cx_codec.proofs.Sizes.{varint_few}
use Rattle.cx_slices.specs.Bytes.{Byte}
use Rattle.cx_slices.specs.Stretches.{AreStretches, Stretch, bytes_from, bytes_of_stretches, stretches_of}
use Rattle.cx_slices.proofs.Stretches.{AreStretches-stretches_of, bytes_of-stretches_of}
use Rattle.cx_slicefmt.specs.Rules.{Head, head_in, is_empty}
use Rattle.cx_slicefmt.specs.Text.{head_text, present_text, run_text, runs_text}
use Rattle.cx_slicefmt.proofs.Texts.{present_few}
use Rattle.cx_placing.specs.CallsAlone.{ArePlaced, IsCallSlice, IsHanded}
use Rattle.cx_placing.specs.Placing.{Call, CallSlice, Placed}
use Rattle.cx_placing.specs.Records.{
  Async,
  Calls,
  Record,
  Value,
  async_records,
  call_records,
  records_from,
  step_records,
  value_records,
}
use Rattle.cx_callfmt.specs.Steps.{text_of_calls}
use Rattle.cx_callfmt.specs.Text.{call_end_text, call_slice_text, ended_records_text, last_index, record_text, records_text}
use Rattle.cx_callfmt.proofs.Texts.{ended_parts, records_more}

-- ---- a head

length-bytes_from : (va : ℕ) (bs : List ℕ) → length (bytes_from va bs) ≡ length bs
length-bytes_from va [] = refl
length-bytes_from va (b ∷ bs) = ap suc (length-bytes_from (va + 1) bs)

run_few : (s : Stretch) → 1 ≤ length s.bytes → length (run_text s) ≤ 15 * length s.bytes
run_few s some = omega (
  arith,
  some,
  length-append (varint (length s.bytes)) s.bytes,
  varint_few (length s.bytes),
  length-append (to_le_bytes w32 s.va) (varint (length s.bytes) ++ s.bytes),
)

runs_few : (least : ℕ) (ss : List Stretch) → AreStretches least ss
    → length (runs_text ss) ≤ 15 * length (bytes_of_stretches ss)
runs_few least [] are = omega arith
runs_few least (s ∷ ss) are = omega (
  arith,
  length-append (run_text s) (runs_text ss),
  length-append (bytes_from s.va s.bytes) (bytes_of_stretches ss),
  length-bytes_from s.va s.bytes,
  run_few s are.1,
  runs_few (s.va + length s.bytes + 1) ss are.2,
)

head_few : (h : Head) → IsHanded 32 h → length (head_text h) ≤ 142 + 15 * length h.bytes
unfolding head_text
head_few h is =
    let masked : List ℕ = present_text h.words in
    let ss : List Stretch = stretches_of h.bytes in
    omega (
      arith,
      length-append (to_le_bytes w32 0 ++ masked) (varint (length ss) ++ runs_text ss),
      length-append (varint (length ss)) (runs_text ss),
      varint_few (length ss),
      runs_few 0 ss (AreStretches-stretches_of 0 h.bytes is.bytes),
      ap length (bytes_of-stretches_of h.bytes),
      is.words,
      present_few h.words,
    )

-- ---- the records of a step

-- how many bytes a step is handed, and its call
abbrev call_bytes : Option Call → ℕ
call_bytes None = 0
call_bytes (Some call) = length call.head.bytes

abbrev pub bytes_placed : List (Placed ℕ) → ℕ
bytes_placed [] = 0
bytes_placed (p ∷ ps) = length p.items.bytes + (call_bytes p.call + bytes_placed ps)

async_few : (before k : ℕ) (head : Head) → IsHanded 32 head
    → length (records_text before (async_records k head)) ≤ 153 + 15 * length head.bytes
unfolding record_text
async_few before k head is = by_test (is_empty head)
  where
    by_test : (t : Bool)
        → length (records_text before (if t then [] else record { index = k; what = Async head } ∷ []))
        ≤ 153 + 15 * length head.bytes
    by_test true = omega arith
    by_test false = omega (
      arith,
      length-append (record_text before (record { index = k; what = Async head })) [],
      length-append (varint (k - before)) (head_text head),
      varint_few (k - before),
      head_few head is,
    )

value_few : (before k : ℕ) (given : Option ℕ) → length (records_text before (value_records k given)) ≤ 15
unfolding record_text
value_few before k None = omega arith
value_few before k (Some word) = omega (
  arith,
  length-append (record_text before (record { index = k; what = Value word })) [],
  length-append (varint (k - before)) (to_le_bytes w32 word),
  varint_few (k - before),
)

call_few : (before k : ℕ) (call : Option Call) → IfSome call (λ call. IsHanded 32 call.head)
    → length (records_text before (call_records k call)) ≤ 157 + 15 * call_bytes call
unfolding record_text
call_few before k None is = omega arith
call_few before k (Some call) is = omega (
  arith,
  length-append (record_text before (record { index = k; what = Calls call.number call.head })) [],
  length-append (varint (k - before)) (to_le_bytes w32 call.number ++ head_text call.head),
  varint_few (k - before),
  length-append (to_le_bytes w32 call.number) (head_text call.head),
  head_few call.head is,
)

step_few : (before k : ℕ) (p : Placed ℕ) → IsHanded 32 (head_in p.items)
    → IfSome p.call (λ call. IsHanded 32 call.head)
    → length (records_text before (step_records k p)) ≤ 325 + 15 * (length p.items.bytes + call_bytes p.call)
step_few before k p items call =
    let first : List Record = async_records k (head_in p.items) in
    let second : List Record = value_records k p.items.given in
    let third : List Record = call_records k p.call in
    let mid : ℕ = last_index before first in
    let last : ℕ = last_index mid second in
    omega (
      arith,
      ap length (records_more before first (second ++ third)),
      length-append (records_text before first) (records_text mid (second ++ third)),
      ap length (records_more mid second third),
      length-append (records_text mid second) (records_text last third),
      async_few before k (head_in p.items) items,
      value_few mid k p.items.given,
      call_few last k p.call call,
    )

-- ---- a slice

records_few : (before k : ℕ) (ps : List (Placed ℕ)) → ArePlaced 32 ps
    → length (records_text before (records_from k ps)) ≤ 325 * length ps + 15 * bytes_placed ps
records_few before k [] placed = omega arith
records_few before k (p ∷ ps) placed =
    let first : List Record = step_records k p in
    let last : ℕ = last_index before first in
    omega (
      arith,
      ap length (records_more before first (records_from (suc k) ps)),
      length-append (records_text before first) (records_text last (records_from (suc k) ps)),
      step_few before k p (record { words = placed.0.words; bytes = placed.0.bytes }) placed.1,
      records_few last (suc k) ps placed.2,
    )

end_few : (before count : ℕ) → length (call_end_text before count) ≤ 11
unfolding call_end_text
end_few before count = omega (arith, varint_few (count - before))

pub calls_few : (slice : CallSlice ℕ) → IsCallSlice 32 slice
    → length (text_of_calls slice)
    ≤ 157 + 325 * length slice.steps + 15 * (length slice.head.bytes + bytes_placed slice.steps)
unfolding call_slice_text
calls_few slice is =
    let rs : List Record = records_from 0 slice.steps in
    let count : ℕ = length slice.steps in
    let last : ℕ = last_index 0 rs in
    omega (
      arith,
      ap length (ended_parts 0 rs count),
      length-append (records_text 0 rs) (call_end_text last count),
      length-append (head_text slice.head) (ended_records_text 0 rs count),
      head_few slice.head is.head,
      records_few 0 0 slice.steps is.steps,
      end_few last count,
    )
