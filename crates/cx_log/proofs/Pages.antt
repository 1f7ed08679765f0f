-- The pages of a memory are read back from their text, and what was read as pages is the text of the memory that they
-- make.
use Rattle.std.proofs.Common.{◌≡◌, ℕ, zero, suc, ◌+◌, ◌-◌, ◌*◌, ◌<◌, ◌≤◌, List, ◌++◌, length, replicate, cond, arith}
use Rattle.std.proofs.Common.{refl, ap, sym, ◌∙◌, inl, inr, Bool, true, false, Ok}
use Rattle.std.proofs.lemmas.List.{length-replicate}
use Rattle.std.proofs.lemmas.Bool.{cases_Bool, cases_lt}
use Rattle.cx_map.specs.Bytes.{AreBytes}
use Rattle.cx_map.specs.Map.{IsPageCount, size_of_pages}
use Rattle.cx_map.specs.declared.TheConstants.{PAGE_SIZE}
use Rattle.cx_map.proofs.BytesLemmas.{AreBytes-zeros}
use Rattle.cx_codec.specs.Place.{behind_text, Place, Reader, Takes, done, bad}
use Rattle.cx_codec.specs.Fields.{bytes_at}
use Rattle.cx_codec.specs.Varint.{varint}
use Rattle.cx_codec.proofs.ReadBack.{bytes_again}
use Rattle.cx_machine.specs.Machine.{IsMemory}
use Rattle.cx_ram.specs.LittleEndian.{written}
use Rattle.cx_ram.specs.PhysicalMemory.{is_zero, page_of}
use Rattle.cx_ram.proofs.LoadsAndWrites.{length-written}
use Rattle.cx_ram.proofs.Pages.{page_of-written, page_of-written_other}
use Rattle.cx_log.specs.Reading.{Page, page_bytes_at, page_at, pages_at}
use Rattle.cx_log.specs.Text.{page_count, pages_text}
use Rattle.cx_codec.proofs.Composing.{bound}
use Rattle.cx_codec.proofs.ReadOnce.{bytes_once}
use Rattle.cx_codec.proofs.Texts.{takes_first, takes_second, takes_both, takes_along, takes_nothing, bytes_behind}
use Rattle.cx_codec.proofs.Texts.{bytes_taken}
use Rattle.cx_log.proofs.Done.{done_pair, nothing_taken}
use Rattle.cx_log.proofs.FieldTests.{between_again, between_once}
use Rattle.cx_log.proofs.PageParts.{same_zeros, zero_page, size_page, same_memories, bytes_written, text_from}
use Rattle.cx_log.proofs.PageParts.{count_from, text_split, count_split, text_is, count_is, no_text, no_count}

-- one page
page_bytes_again : (p after : Place) (bytes : List ℕ) → length bytes ≡ PAGE_SIZE → is_zero bytes ≡ false
    → Takes p bytes after → page_bytes_at p ≡ Ok (bytes, after)
unfolding page_bytes_at
page_bytes_again p after bytes size some takes =
    let read : bytes_at PAGE_SIZE p ≡ Ok (bytes, after) = rw size at (bytes_again p after bytes takes) in
    rw (read, some) refl

page_again : (pages least number : ℕ) (bytes : List ℕ) (p after : Place) → IsPageCount pages → least ≤ number
    → number < pages → length bytes ≡ PAGE_SIZE → is_zero bytes ≡ false
    → Takes p (varint number ++ bytes) after
    → page_at pages least p ≡ Ok (record { number = number; bytes = bytes }, after)
unfolding page_at
page_again pages least number bytes p after count low high size some takes =
    let q : Place = behind_text p (varint number) (bytes ++ after.ahead) in
    let first = between_again p q least (pages - 1) number low (omega (arith, high)) (omega (arith, high, count.most))
    (takes_first p after (varint number) bytes takes) in
    rw (first, page_bytes_again q after bytes size some (takes_second p after (varint number) bytes takes)) refl

-- Below a page the memory has the pages of the whole one, and from there on zeros.
record Filled (pages : ℕ) (whole m : List ℕ) (first : ℕ) : Type 0 where
  size : length m ≡ size_of_pages pages
  below : (n : ℕ) → n < first → page_of m n ≡ page_of whole n
  zeros : (n : ℕ) → first ≤ n → n < pages → is_zero (page_of m n) ≡ true

fill_zeros : (pages : ℕ) (whole m : List ℕ) (first : ℕ) → length whole ≡ size_of_pages pages → first < pages
    → is_zero (page_of whole first) ≡ true → Filled pages whole m first → Filled pages whole m (first + 1)
fill_zeros pages whole m first size inside zeros filled = record {
  size = filled.size;
  below = λ n less. elim (cases_lt n first) [
    | inl before ↦ filled.below n before
    | inr from ↦
        let same : n ≡ first = omega (arith, less, from) in
        rw same (same_zeros (page_of m first) (page_of whole first) (filled.zeros first (omega arith) inside) zeros
        (size_page pages first m filled.size inside ∙ sym (size_page pages first whole size inside)))
  ];
  zeros = λ n from below. filled.zeros n (omega (arith, from)) below;
}

fill_page : (pages : ℕ) (whole m : List ℕ) (first : ℕ) → length whole ≡ size_of_pages pages → first < pages
    → Filled pages whole m first → Filled pages whole (written m (first * PAGE_SIZE) (page_of whole first)) (first + 1)
fill_page pages whole m first size inside filled =
    let page : List ℕ = page_of whole first in
    let long : length page ≡ PAGE_SIZE = size_page pages first whole size inside in
    let there : first * PAGE_SIZE + PAGE_SIZE ≤ length m = omega (arith, filled.size, inside) in
    record {
      size = length-written m (first * PAGE_SIZE) page (omega (arith, there, long)) ∙ filled.size;
      below = λ n less. elim (cases_lt n first) [
        | inl before ↦ page_of-written_other m first page n there long (λ same. omega (arith, before, same))
            ∙ filled.below n before
        | inr from ↦ let same : n ≡ first = omega (arith, less, from) in rw same
            (page_of-written m first page there long)
      ];
      zeros = λ n from below. ap is_zero (page_of-written_other m first page n there long
          (λ same. omega (arith, from, same))) ∙ filled.zeros n (omega (arith, from)) below;
    }

pages_from : (left pages first least : ℕ) (whole m : List ℕ) (p after : Place) → IsPageCount pages
    → length whole ≡ size_of_pages pages → first + left ≡ pages → least ≤ first → Filled pages whole m first
    → Takes p (text_from whole first left) after
    → pages_at pages (count_from whole first left) least m p ≡ Ok (whole, after)
pages_from zero pages first least whole m p after count size all low filled takes =
    let same : m ≡ whole = same_memories pages m whole filled.size size
    (λ n below. filled.below n (omega (arith, below, all))) in
    rw (same, nothing_taken p after takes) refl
pages_from (suc left) pages first least whole m p after count size all low filled takes = elim
    (cases_Bool (is_zero (page_of whole first))) [
      | inl zeros ↦
          let none : 0 + count_from whole (first + 1) left ≡ count_from whole (first + 1) left = omega arith in
          let rest : Takes p (text_from whole (first + 1) left) after = rw zeros at takes in
          rw (zeros, none) (pages_from left pages (first + 1) least whole m p after count size (omega (arith, all))
          (omega (arith, low)) (fill_zeros pages whole m first size (omega (arith, all)) zeros filled) rest)
      | inr some ↦
          let page : List ℕ = page_of whole first in
          let rest : List ℕ = text_from whole (first + 1) left in
          let one : 1 + count_from whole (first + 1) left ≡ suc (count_from whole (first + 1) left) = omega arith in
          let text : Takes p ((varint first ++ page) ++ rest) after = rw some at takes in
          let q : Place = behind_text p (varint first ++ page) (rest ++ after.ahead) in
          let read = page_again pages least first page p q count low (omega (arith, all))
          (size_page pages first whole size (omega (arith, all))) some
          (takes_first p after (varint first ++ page) rest text) in
          let later = pages_from left pages (first + 1) (first + 1) whole
          (written m (first * PAGE_SIZE) page) q after count size (omega (arith, all)) (omega arith)
          (fill_page pages whole m first size (omega (arith, all)) filled)
          (takes_second p after (varint first ++ page) rest text) in
          rw (some, one) (rw read later)
    ]

pub pages_again : (pages : ℕ) (memory : List ℕ) (p after : Place) → IsPageCount pages → IsMemory pages memory
    → Takes p (pages_text memory pages) after
    → pages_at pages (page_count memory pages) 0 (replicate (size_of_pages pages) 0) p ≡ Ok (memory, after)
pages_again pages memory p after count is takes =
    let text : Takes p (text_from memory 0 pages) after = rw text_is at takes in
    rw (count_is memory pages) (pages_from pages pages 0 0 memory
    (replicate (size_of_pages pages) 0) p after count is.size (omega arith) (omega arith)
    (record {
      size = length-replicate {A = ℕ} (size_of_pages pages) 0;
      below = λ n less. absurd
          (omega (arith, less));
      zeros = λ n from below. zero_page pages n below;
    }) text)

-- what was read as a page
record PageStood (pages least : ℕ) (p : Place) (page : Page) (after : Place) : Type 0 where
  takes : Takes p (varint page.number ++ page.bytes) after
  low : least ≤ page.number
  high : page.number ≤ pages - 1
  size : length page.bytes ≡ PAGE_SIZE
  some : is_zero page.bytes ≡ false
  bytes : AreBytes page.bytes

some_by : (o : ℕ) (page bytes : List ℕ) (q after : Place) (t : Bool) → is_zero page ≡ t
    → cond {A = Reader (List ℕ)} t (bad o) (done page) q ≡ Ok (bytes, after)
    → (is_zero page ≡ false) × (◌≡◌ {A = List ℕ × Place} (page, q) (bytes, after))
some_by o page bytes q after true zeros e = cc
some_by o page bytes q after false some e = (some, done_pair page bytes q after e)

record PageBytes (p : Place) (bytes : List ℕ) (after : Place) : Type 0 where
  takes : Takes p bytes after
  size : length bytes ≡ PAGE_SIZE
  some : is_zero bytes ≡ false

page_bytes_along : (p : Place) (x y : List ℕ × Place) → PageBytes p x.0 x.1 → x ≡ y → PageBytes p y.0 y.1
page_bytes_along p x y stood same = rw (← same) stood

page_bytes_once : (p after : Place) (bytes : List ℕ) → page_bytes_at p ≡ Ok (bytes, after) → PageBytes p bytes after
unfolding page_bytes_at
page_bytes_once p after bytes read =
    let first = bound _ _ (bytes, after) read in
    let stood = bytes_once PAGE_SIZE p first.mid first.value first.read in
    let tested = some_by p.at first.value bytes first.mid after (is_zero first.value) refl first.then in
    page_bytes_along p (first.value, first.mid) (bytes, after)
    (record { takes = stood.stand; size = stood.count; some = tested.0 }) tested.1

page_along : (pages least : ℕ) (p : Place) (x y : Page × Place) → PageStood pages least p x.0 x.1 → x ≡ y
    → PageStood pages least p y.0 y.1
page_along pages least p x y stood same = rw (← same) stood

page_once : (pages least : ℕ) (p after : Place) (page : Page) → AreBytes p.ahead
    → page_at pages least p ≡ Ok (page, after) → PageStood pages least p page after
unfolding page_at
page_once pages least p after page are read =
    let first = bound _ _ (page, after) read in
    let number = between_once p first.mid least (pages - 1) first.value are first.read in
    let second = bound _ _ (page, after) first.then in
    let stood = page_bytes_once first.mid second.mid second.value second.read in
    page_along pages least p (record { number = first.value; bytes = second.value }, second.mid) (page, after)
    (record {
      takes = takes_both p first.mid second.mid (varint first.value) second.value number.takes stood.takes;
      low = number.low;
      high = number.high;
      size = stood.size;
      some = stood.some;
      bytes = bytes_taken first.mid second.mid second.value
          (bytes_behind p first.mid (varint first.value) are number.takes) stood.takes;
    }) (done_pair _ page second.mid after second.then)

-- What was read as so many pages from a number on, put into a memory that has zeros from there on.
record PagesStood (left pages least : ℕ) (m : List ℕ) (p : Place) (memory : List ℕ) (after : Place) : Type 0 where
  size : length memory ≡ size_of_pages pages
  bytes : AreBytes memory
  below : (n : ℕ) → n < least → page_of memory n ≡ page_of m n
  count : count_from memory least (pages - least) ≡ left
  takes : Takes p (text_from memory least (pages - least)) after

pages_along : (left pages least : ℕ) (m : List ℕ) (p : Place) (x y : List ℕ × Place)
    → PagesStood left pages least m p x.0 x.1 → x ≡ y → PagesStood left pages least m p y.0 y.1
pages_along left pages least m p x y stood same = rw (← same) stood

-- one page in front of those behind it
page_in_front : (left pages least : ℕ) (page : Page) (m memory : List ℕ) (p q after : Place)
    → length m ≡ size_of_pages pages → ((n : ℕ) → least ≤ n → n < pages → is_zero (page_of m n) ≡ true) → 0 < pages
    → PageStood pages least p page q
    → PagesStood left pages (page.number + 1) (written m (page.number * PAGE_SIZE) page.bytes) q memory after
    → PagesStood (suc left) pages least m p memory after
page_in_front left pages least page m memory p q after size zeros positive stood rest =
    let number : ℕ = page.number in
    let there : number * PAGE_SIZE + PAGE_SIZE ≤ length m = omega (arith, size, stood.high, positive) in
    let before : ℕ = number - least in
    let behind : ℕ = pages - (number + 1) in
    let parts : pages - least ≡ before + suc behind = omega (arith, stood.low, stood.high, positive) in
    let reached : least + before ≡ number = omega (arith, stood.low) in
    let other : (n : ℕ) → n < number → page_of memory n ≡ page_of m n =
    λ n less. rest.below n (omega (arith, less)) ∙ page_of-written_other m number page.bytes n there stood.size
    (λ same. omega (arith, less, same)) in
    let here : page_of memory number ≡ page.bytes = rest.below number (omega arith)
    ∙ page_of-written m number page.bytes there stood.size in
    let some : is_zero (page_of memory number) ≡ false = ap is_zero here ∙ stood.some in
    let none : (k : ℕ) → least ≤ k → k < least + before → is_zero (page_of memory k) ≡ true =
    λ k from less. ap is_zero (other k (omega (arith, less, reached))) ∙ zeros k from
    (omega (arith, less, reached, stood.high, positive)) in
    let text : (varint number ++ page.bytes) ++ text_from memory (number + 1) behind ≡ text_from memory least
    (pages - least) =
    sym (ap (text_from memory least) parts ∙ text_split memory least before (suc behind) ∙ rw
    (no_text memory least before none, reached, some, here) refl) in
    let counted : count_from memory least (pages - least) ≡ suc left =
    ap (count_from memory least) parts ∙ count_split memory least before (suc behind) ∙ rw
    (no_count memory least before none, reached, some, rest.count) (omega arith) in
    record {
      size = rest.size;
      bytes = rest.bytes;
      below = λ n less. other n (omega (arith, less, stood.low));
      count = counted;
      takes = takes_along p after after _ _ text refl (takes_both p q after (varint number ++ page.bytes)
          (text_from memory (number + 1) behind) stood.takes rest.takes);
    }

pages_back : (left pages least : ℕ) (m : List ℕ) (p after : Place) (memory : List ℕ) → 0 < pages → AreBytes p.ahead
    → length m ≡ size_of_pages pages → AreBytes m
    → ((n : ℕ) → least ≤ n → n < pages → is_zero (page_of m n) ≡ true)
    → pages_at pages left least m p ≡ Ok (memory, after) → PagesStood left pages least m p memory after
pages_back zero pages least m p after memory positive are size bytes zeros read =
    let none : (k : ℕ) → least ≤ k → k < least + (pages - least) → is_zero (page_of m k) ≡ true =
    λ k from less. zeros k from (omega (arith, from, less)) in
    pages_along 0 pages least m p (m, p) (memory, after) (record {
      size = size;
      bytes = bytes;
      below = λ n less. refl;
      count = no_count m least (pages - least) none;
      takes = rw (no_text m least (pages - least) none) (takes_nothing p);
    }) (done_pair m memory p after read)
pages_back (suc left) pages least m p after memory positive are size bytes zeros read =
    let first = bound _ _ (memory, after) read in
    let page = first.value in
    let stood = page_once pages least p first.mid page are first.read in
    let there : page.number * PAGE_SIZE + PAGE_SIZE ≤ length m = omega (arith, size, stood.high, positive) in
    let rest = pages_back left pages (page.number + 1) (written m
    (page.number * PAGE_SIZE) page.bytes) first.mid after memory positive
    (bytes_behind p first.mid _ are stood.takes)
    (length-written m (page.number * PAGE_SIZE) page.bytes (omega (arith, there, stood.size)) ∙ size)
    (bytes_written m (page.number * PAGE_SIZE) page.bytes bytes stood.bytes)
    (λ n from below. ap is_zero (page_of-written_other m page.number page.bytes n there stood.size
    (λ same. omega (arith, from, same))) ∙ zeros n (omega (arith, from, stood.low)) below) first.then in
    page_in_front left pages least page m memory p first.mid after size zeros positive stood rest

-- What was read as the pages of a memory.
pub record MemoryStood (pages count : ℕ) (p : Place) (memory : List ℕ) (after : Place) : Type 0 where
  pub is : IsMemory pages memory
  pub counted : page_count memory pages ≡ count
  pub takes : Takes p (pages_text memory pages) after

pub pages_once : (pages count : ℕ) (p after : Place) (memory : List ℕ) → IsPageCount pages → AreBytes p.ahead
    → pages_at pages count 0 (replicate (size_of_pages pages) 0) p ≡ Ok (memory, after)
    → MemoryStood pages count p memory after
pages_once pages count p after memory is are read =
    let stood = pages_back count pages 0 (replicate (size_of_pages pages) 0) p after memory is.some are
    (length-replicate {A = ℕ} (size_of_pages pages) 0) (AreBytes-zeros (size_of_pages pages))
    (λ n from below. zero_page pages n below) read in
    let all : pages - 0 ≡ pages = omega arith in
    record {
      is = record { size = stood.size; bytes = stood.bytes };
      counted = count_is memory pages ∙ rw all at stood.count;
      takes = rw (text_is memory pages) (rw all at stood.takes);
    }
