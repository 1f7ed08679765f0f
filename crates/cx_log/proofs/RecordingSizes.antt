-- How long the text of a recording is at most.
use Rattle.std.proofs.Common.{◌≡◌, ℕ, zero, suc, ◌+◌, ◌*◌, ◌/◌, ◌%◌, ◌^◌, ◌≤◌, List, [], ◌∷◌, ◌++◌, length, drop, ltb}
use Rattle.std.proofs.Common.{eqb, cond, arith, Bool, true, false, length-append, length-take}
use Rattle.std.specs.Int.{w32, to_le_bytes}
use Rattle.cx_map.specs.declared.TheConstants.{PAGE_SIZE}
use Rattle.cx_csr.specs.Words.{words_of}
use Rattle.cx_csr.proofs.WordLists.{length-words_of}
use Rattle.cx_codec.specs.Varint.{varint, varint_within}
use Rattle.cx_ram.specs.PhysicalMemory.{is_zero, page_of}
use Rattle.cx_log.specs.declared.header.Header.{Header}
use Rattle.cx_log.specs.Order.{KeepsRules}
use Rattle.cx_log.specs.Recording.{Recording}
use Rattle.cx_log.specs.Text.{version_text, words_text, header_text, header_of, page_text, pages_text, records_text}
use Rattle.cx_log.specs.Text.{recording_text}

digits_few : (most n : ℕ) (t : Bool) → length (varint_within most (n / 128)) ≤ most
    → length (cond t (n ∷ []) ((128 + n % 128) ∷ varint_within most (n / 128))) ≤ suc most
digits_few most n true few = omega arith
digits_few most n false few = omega (arith, few)

within_few : (most n : ℕ) → length (varint_within most n) ≤ most
within_few zero n = omega arith
within_few (suc most) n = digits_few most n (ltb n 128) (within_few most (n / 128))

pub varint_few : (n : ℕ) → length (varint n) ≤ 10
unfolding varint
varint_few n = within_few 10 n

version_few : (one split : Bool) → length (cond {A = List ℕ} one [] (0 ∷ cond split 1 0 ∷ [])) ≤ 2
version_few true split = omega arith
version_few false split = omega arith

words_few : (words : List ℕ) → length (words_text words) ≡ 4 * length words
words_few [] = omega arith
words_few (word ∷ words) = omega (arith, length-append (to_le_bytes w32 word) (words_text words), words_few words)

page_few : (zeros : Bool) (number : ℕ) (page : List ℕ) → length page ≤ PAGE_SIZE
    → length (cond zeros [] (varint number ++ page)) ≤ 10 + PAGE_SIZE
page_few true number page few = omega arith
page_few false number page few = omega (arith, length-append (varint number) page, varint_few number, few)

pages_few : (m : List ℕ) (n : ℕ) → length (pages_text m n) ≤ n * (10 + PAGE_SIZE)
pages_few m zero = omega arith
pages_few m (suc n) =
    let page : length (page_of m n) ≤ PAGE_SIZE = omega (arith, length-take PAGE_SIZE (drop (n * PAGE_SIZE) m)) in
    omega (
      arith,
      length-append (pages_text m n) (page_text m n),
      pages_few m n,
      page_few (is_zero (page_of m n)) n
          (page_of m n) page,
    )

header_few : (h : Header) → length (words_of h.start) ≡ 58 → length (header_text h) ≤ 300
unfolding header_text
header_few h size =
    let words : List ℕ = words_text (words_of h.start) in
    let last : List ℕ = words ++ varint h.count in
    let more : List ℕ = varint h.base ++ last in
    let rest : List ℕ = varint h.pages ++ more in
    omega (
      arith,
      length-append (version_text h.version h.split) rest,
      length-append (varint h.pages) more,
      length-append (varint h.base) last,
      length-append words (varint h.count),
      version_few (eqb h.version 1) h.split,
      varint_few h.pages,
      varint_few h.base,
      varint_few h.count,
      words_few (words_of h.start),
      size,
    )

pub recording_size : (R : Recording) → KeepsRules R → length (recording_text R) ≤ 2 ^ 60
unfolding recording_text
recording_size R rules =
    let header : List ℕ = header_text (header_of R) in
    let pages : List ℕ = pages_text R.memory R.pages in
    let records : List ℕ = records_text R.base R.events R.end in
    omega (
      arith,
      length-append header (pages ++ records),
      length-append pages records,
      header_few (header_of R) (length-words_of R.pages R.start rules.start),
      pages_few R.memory R.pages,
      rules.pages.most,
      rules.size,
    )
