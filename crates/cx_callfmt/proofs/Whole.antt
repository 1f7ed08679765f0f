-- Call slices as whole inputs.
use Rattle.std.proofs.Common.{◌≡◌, ℕ, suc, ◌+◌, ◌-◌, ◌^◌, ◌<◌, ◌≤◌, arith, refl, ap, sym, ◌∙◌, List, [], ◌++◌, length, drop, false}
use Rattle.std.proofs.Common.{None, Some, Result, Ok, Err, ⊎_elim, append_assoc, length-append}
use Rattle.std.proofs.lemmas.Bool.{cases_lt}
use Rattle.std.proofs.lemmas.List.{append-nil}
use Rattle.cx_map.specs.Bytes.{AreBytes}
use Rattle.cx_codec.specs.Again.{IsCut}
use Rattle.cx_codec.specs.Place.{Place, Takes, behind_text, end_of}
use Rattle.cx_codec.proofs.Again.{first_cut, second_cut}
use Rattle.cx_codec.proofs.Composing.{done_same}
use Rattle.cx_codec.proofs.Texts.{bytes_behind, takes_first, takes_second}
use Rattle.cx_slicefmt.specs.Reading.{head_at}
use Rattle.cx_slicefmt.specs.Rules.{Head, IsHead}
use Rattle.cx_slicefmt.specs.Text.{head_text}
use Rattle.cx_slicefmt.proofs.Heads.{once_head, reads_head}
use Rattle.cx_placing.specs.Records.{Record}
use Rattle.cx_callfmt.specs.Rules.{AreRecords, behind_start, calls}
use Rattle.cx_callfmt.specs.Scan.{
  CallScan,
  IsCallText,
  IsSameSlice,
  behind_call_magic,
  call_scan,
  call_whole,
  scan_behind_head,
  scan_records,
  with_head,
}
use Rattle.cx_callfmt.specs.Text.{call_magic, call_slice_text, ended_records_text}
use Rattle.cx_callfmt.proofs.Scans.{no_front, scan_again, scan_cut, scan_once, scan_well}

text_behind : (bytes text : List ℕ) → call_magic ++ bytes ≡ call_magic ++ text → bytes ≡ text
text_behind bytes text same = ap (λ (xs : List ℕ). drop 4 xs) same

behind_all : List ℕ → Place
behind_all bytes = record { at = 4 + length bytes; limit = 2 ^ 60; ahead = [] }

all_taken : (bytes text : List ℕ) → bytes ≡ text → length text ≤ 2 ^ 60 - 4
    → Takes (behind_call_magic bytes) text (behind_all bytes)
unfolding behind_all
all_taken bytes text same few = record {
  ahead = same ∙ sym (append-nil text);
  there = ap (λ (xs : List ℕ). 4 + length xs) same;
  limit = refl;
  within = omega (arith, few);
}

pub call_slice_again : (h : Head) (rs : List Record) (count : ℕ) (bytes : List ℕ) → IsHead calls h
    → AreRecords behind_start rs count → length (call_slice_text h rs count) ≤ 2 ^ 60
    → call_magic ++ bytes ≡ call_slice_text h rs count → call_scan bytes ≡ with_head h (call_whole rs count)
unfolding call_slice_text call_scan scan_records behind_all
call_slice_again h rs count bytes is are few same =
    let front : List ℕ = head_text h in
    let back : List ℕ = ended_records_text 0 rs count in
    let p : Place = behind_call_magic bytes in
    let after : Place = behind_all bytes in
    let q : Place = behind_text p front (back ++ []) in
    let takes = all_taken bytes (front ++ back) (text_behind bytes (front ++ back) same) (omega (arith, few)) in
    let first = (reads_head calls false h (omega arith) is (omega arith)).again p q (takes_first p after front back takes)
    in
    let then = scan_again (suc (length q.ahead)) behind_start rs count q after are
    (takes_second p after front back takes) (omega arith) in
    rw first (ap (with_head h) (then ∙ scan_well behind_start rs count (tt, after)))

pub call_slice_cut : (h : Head) (rs : List Record) (count : ℕ) (bytes more : List ℕ) → IsHead calls h
    → AreRecords behind_start rs count → length (call_slice_text h rs count) ≤ 2 ^ 60
    → (call_magic ++ bytes) ++ more ≡ call_slice_text h rs count → 1 ≤ length more
    → (call_scan bytes).bad ≡ Some (length (call_magic ++ bytes))
unfolding call_slice_text call_scan scan_records
call_slice_cut h rs count bytes more is are few same some =
    let front : List ℕ = head_text h in
    let back : List ℕ = ended_records_text 0 rs count in
    let p : Place = behind_call_magic bytes in
    let cut : IsCut p (front ++ back) = record {
      more = more;
      parts = sym (text_behind (bytes ++ more) (front ++ back) same);
      some = some;
      within = omega (arith, few);
    } in
    let heads = reads_head calls false h (omega arith) is (omega arith) in
    let end : Some (end_of p) ≡ Some (length (call_magic ++ bytes)) = ap (λ (n : ℕ). Some n) (omega arith) in
    ⊎_elim (λ (inside : length bytes < length front). rw (heads.cut p (first_cut p front back cut inside)) end)
    (λ (whole : length front ≤ length bytes).
    let behind = second_cut p front back cut whole in
    rw (heads.again p behind.after behind.first)
    (scan_cut (suc (length behind.after.ahead)) behind_start rs count behind.after are behind.then (omega arith)
    ∙ (ap (λ (n : ℕ). Some n) behind.end ∙ end)))
    (cases_lt (length bytes) (length front))

by_head : (bytes : List ℕ) (r : Result (Head × Place) ℕ) → AreBytes bytes
    → head_at calls false (behind_call_magic bytes) ≡ r → (scan_behind_head r).bad ≡ None
    → IsCallText bytes (scan_behind_head r)
unfolding call_slice_text scan_records
by_head bytes (Err o) are read good = cc
by_head bytes (Ok x) are read good =
    let p : Place = behind_call_magic bytes in
    let q : Place = x.1 in
    let stood = once_head calls false p q are x.0 read in
    let there = scan_once (suc (length q.ahead)) behind_start q (bytes_behind p q (head_text x.0) are stood.1) good in
    let s : CallScan = scan_records behind_start q in
    let front : List ℕ = head_text x.0 in
    let back : List ℕ = ended_records_text 0 s.records s.upto in
    let rest : q.ahead ≡ back = there.takes.ahead ∙ (ap (λ (xs : List ℕ). back ++ xs) there.none ∙ append-nil back) in
    record {
      head = x.0;
      there = refl;
      is = stood.0.0;
      ended = there.ended;
      spelled = there.spelled;
      text = ap (λ (xs : List ℕ). call_magic ++ xs)
          (sym (stood.1.ahead ∙ ap (λ (xs : List ℕ). front ++ xs) rest));
    }

pub call_slice_once : (bytes : List ℕ) → AreBytes bytes → (call_scan bytes).bad ≡ None
    → IsCallText bytes (call_scan bytes)
unfolding call_scan
call_slice_once bytes are good = by_head bytes (head_at calls false (behind_call_magic bytes)) are refl good

-- ---- no slice is a front of another

heads_same : (h k : Head) (rest back : List ℕ) → IsHead calls h → IsHead calls k
    → head_text h ++ rest ≡ head_text k ++ back → (h ≡ k) × (rest ≡ back)
heads_same h k rest back is is' same =
    let text : List ℕ = head_text h ++ rest in
    let p : Place = record { at = 0; limit = length text; ahead = text } in
    let q : Place = behind_text p (head_text h) rest in
    let r : Place = behind_text p (head_text k) back in
    let size : length text ≡ length (head_text k) + length back = ap length same ∙ length-append (head_text k) back in
    let first : Takes p (head_text h) q = record {
      ahead = refl;
      there = refl;
      limit = refl;
      within = omega (arith, length-append (head_text h) rest);
    } in
    let second : Takes p (head_text k) r = record { ahead = same; there = refl; limit = refl; within = omega (arith, size) }
    in
    let one = (reads_head calls false h (omega arith) is (omega arith)).again p q first in
    let two = (reads_head calls false k (omega arith) is' (omega arith)).again p r second in
    let both = done_same h k q r (sym one ∙ two) in
    (both.0, ap (λ (x : Place). x.ahead) both.1)

pub no_slice_front : (h k : Head) (rs ss : List Record) (m n : ℕ) (more : List ℕ) → IsHead calls h → IsHead calls k
    → AreRecords behind_start rs m → AreRecords behind_start ss n
    → call_slice_text h rs m ++ more ≡ call_slice_text k ss n → IsSameSlice h k rs ss m n more
unfolding call_slice_text
no_slice_front h k rs ss m n more is is' are are' same =
    let one : List ℕ = ended_records_text 0 rs m in
    let two : List ℕ = ended_records_text 0 ss n in
    let behind : (head_text h ++ one) ++ more ≡ head_text k ++ two =
    text_behind ((head_text h ++ one) ++ more) (head_text k ++ two) same in
    let heads = heads_same h k (one ++ more) two is is' (sym (append_assoc (head_text h) one more) ∙ behind) in
    let rest = no_front behind_start rs ss m n more are are' heads.1 in
    record { head = heads.0; records = rest.0; counts = rest.1; none = rest.2 }
