-- The pages of a slice that are written.
use Rattle.std.proofs.Common.{◌≡◌, ℕ, zero, suc, ◌+◌, ◌<◌, ◌≤◌, Bool, true, false, not, ◌&&◌, if◌then◌else◌, List, []}
use Rattle.std.proofs.Common.{◌++◌, get_or, inl, inr, arith, refl, ap, sym, append_assoc, ◌∙◌, Ok, Err}
use Rattle.std.proofs.lemmas.Bool.{cases_lt}
use Rattle.cx_ram.specs.PhysicalMemory.{is_zero, page_of}
use Rattle.cx_codec.specs.Puts.{Putting, Puts}
use Rattle.cx_codec.specs.declared.fault.OutFault.{OutFault}
use Rattle.cx_codec.specs.declared.fault.OutFault.TheVariants.{WriteFault}
use Rattle.cx_codec.proofs.Putting.{puts_along, puts_fails, puts_on}
use Rattle.cx_log.specs.declared.header.Header.{Header}
use Rattle.cx_log.specs.Text.{end_text, header_of, header_text, page_count, page_text, pages_text, recording_text}
use Rattle.cx_run.proofs.KeptText.{page_text-kept_pages, page_count-kept_pages}
use Rattle.cx_codec.specs.Varint.{varint}
use Rattle.cx_log.specs.Order.{at_start}
use Rattle.cx_log.specs.Recording.{Recorded}
use Rattle.cx_log.specs.declared.order.Behind.{Behind}
use Rattle.cx_run.specs.SoFar.{behind_all, events_text}
use Rattle.cx_run.proofs.TextSoFar.{records_by_parts}
use Rattle.cx_window.specs.Slice.{IsWhole, Sliced, written_of}

-- one page more, where it is written
pub count_step : (s : Sliced) (k : ℕ) (kept : Bool) → IsWhole s → k < s.header.pages
    → kept ≡ (get_or s.marks k false && not (is_zero (page_of s.memory k))) → page_count (written_of s).memory (k + 1)
    ≡ page_count (written_of s).memory k + (if kept then 1 else 0)
count_step s k kept whole inside is =
    page_count-kept_pages (λ i. get_or s.marks i false) s.memory s.header.pages k (omega (arith, whole.memory)) inside
    ∙ rw is (by_cases (get_or s.marks k false) (is_zero (page_of s.memory k)) (page_count (written_of s).memory k))
  where
    by_cases : (a b : Bool) (n : ℕ) → n + (if a then (if b then 0 else 1) else 0) ≡ n + (if a && not b then 1 else 0)
    by_cases true true n = refl
    by_cases true false n = refl
    by_cases false b n = refl

-- what is written of it
pub text_kept : (s : Sliced) (k : ℕ) → IsWhole s → k < s.header.pages
    → true ≡ (get_or s.marks k false && not (is_zero (page_of s.memory k))) → (is_zero (page_of s.memory k) ≡ false)
    × (page_text (written_of s).memory k ≡ varint k ++ page_of s.memory k)
text_kept s k whole inside is =
    let parts = by_cases (get_or s.marks k false) (is_zero (page_of s.memory k)) is in (
      parts.1,
      page_text-kept_pages (λ i. get_or s.marks i false) s.memory s.header.pages k (omega (arith, whole.memory))
          inside ∙ rw (parts.0, parts.1) refl,
    )
  where
    by_cases : (a b : Bool) → true ≡ (a && not b) → (a ≡ true) × (b ≡ false)
    by_cases true true e = cc
    by_cases true false e = (refl, refl)
    by_cases false b e = cc

pub text_left_out : (s : Sliced) (k : ℕ) → IsWhole s → k < s.header.pages
    → false ≡ (get_or s.marks k false && not (is_zero (page_of s.memory k))) → page_text (written_of s).memory k ≡ []
text_left_out s k whole inside is =
    page_text-kept_pages (λ i. get_or s.marks i false) s.memory s.header.pages k (omega (arith, whole.memory)) inside
    ∙ by_cases (get_or s.marks k false) (is_zero (page_of s.memory k)) (varint k ++ page_of s.memory k) is
  where
    by_cases : (a b : Bool) (text : List ℕ) → false ≡ (a && not b) → (if a then (if b then [] else text) else []) ≡ []
    by_cases true true text e = refl
    by_cases true false text e = cc
    by_cases false b text e = refl

-- there are no fewer pages below a greater number
pub page_count-grows : (memory : List ℕ) (k n : ℕ) → k ≤ n → page_count memory k ≤ page_count memory n
page_count-grows memory k zero less = let e : k ≡ 0 = omega arith in rw e (omega arith)
page_count-grows memory k (suc n) less = elim (cases_lt k (suc n)) [
  | inl below ↦ (let h = page_count-grows memory k n (omega arith) in omega arith)
  | inr above ↦ (let e : k ≡ suc n = omega arith in rw e (omega arith))
]

-- What was put up to a page that is refused is a front of all pages.
pub pages_fail : {X Y : Type 0} {old mid new : Putting} {x : X} {e : OutFault} (memory : List ℕ) (k n : ℕ) → k < n
    → Puts WriteFault (pages_text memory k) old mid (Ok x) → Puts {X = Y} WriteFault (page_text memory k) mid new
    (Err e) → Puts {X = Y} WriteFault (pages_text memory n) old new (Err e)
pages_fail memory k zero below first second = absurd (omega arith)
pages_fail {old} {mid} {new} {x} {e} memory k (suc n) below first second = elim (cases_lt k n) [
  | inl less ↦ puts_fails (pages_text memory n) (page_text memory n) (pages_fail memory k n less first second)
  | inr last ↦ (let same : k ≡ n = omega arith in puts_along (pages_text memory (suc k)) (pages_text memory (suc n))
      (ap (λ (m : ℕ). pages_text memory (suc m)) same) (puts_on (pages_text memory k) (page_text memory k) first
      second))
]

-- the text of a slice, in its parts
pub text_of_slice : (s : Sliced) (header : Header) (behind last : Behind) (events : List Recorded) (to : ℕ)
    → header ≡ header_of (written_of s) → behind ≡ at_start s.header.base s.header.start → events ≡ s.events → to ≡ s.to
    → last ≡ behind_all behind events
    → header_text header ++ ((pages_text (written_of s).memory s.header.pages ++ events_text behind events)
    ++ end_text last.step to) ≡ recording_text (written_of s)
unfolding recording_text
text_of_slice s header behind last events to head from all until behind_last =
    let b : Behind = at_start s.header.base s.header.start in
    let pages : List ℕ = pages_text (written_of s).memory s.header.pages in
    let parts = append_assoc pages (events_text b s.events) (end_text (behind_all b s.events).step s.to)
    ∙ ap (λ (t : List ℕ). pages ++ t) (sym (records_by_parts b s.events s.to)) in
    rw (behind_last, head, from, all, until) (ap (λ (t : List ℕ). header_text (header_of (written_of s)) ++ t) parts)
