-- Pages of a recording, read one after another into a machine's memory.
use Rattle.std.proofs.Common.{◌≡◌, ℕ, zero, suc, ◌+◌, ◌-◌, ◌*◌, List, Option, None, Some, Result, Ok, Err, arith, refl}
use Rattle.std.proofs.Common.{◌∙◌}
use Rattle.cx_map.specs.declared.TheConstants.{PAGE_SIZE}
use Rattle.cx_codec.specs.Place.{Place, Reader, read_on, done}
use Rattle.cx_codec.specs.Reads.{Begins, Standing, Follows, Reads, place_in}
use Rattle.cx_codec.proofs.Composing.{fails}
use Rattle.cx_codec.proofs.Following.{begins_on, follows_on, end_stays}
use Rattle.cx_ram.specs.LittleEndian.{written}
use Rattle.cx_log.specs.declared.fault.LogFault.{LogFault}
use Rattle.cx_log.specs.Engine.{begin_behind, option_page_with, turned_page_at}
use Rattle.cx_log.specs.Fault.{log_met}
use Rattle.cx_log.specs.Reading.{Page, page_at}
use Rattle.cx_commands.specs.Opening.{turned_pages_at}

-- how many pages are left, the least number that the next may have, and the memory so far
pub record Stage : Type 0 where
  pub left : ℕ
  pub least : ℕ
  pub memory : List ℕ

abbrev pub stage : ℕ → ℕ → List ℕ → Stage
stage left least memory = record { left = left; least = least; memory = memory }

abbrev pub pages_from : ℕ → Stage → Reader (List ℕ)
pages_from pages s = turned_pages_at pages s.left s.least s.memory

-- what follows the next page, or none, where so many are left then
abbrev behind_page : ℕ → ℕ → List ℕ → Option Page → Reader (List ℕ)
behind_page pages left memory None = done memory
behind_page pages left memory (Some page) =
    turned_pages_at pages left (page.number + 1) (written memory (page.number * PAGE_SIZE) page.bytes)

among : (pages left n : ℕ) (memory : List ℕ) (x : Page) (q : Place)
    → read_on (begin_behind n q)
    (λ begun. turned_pages_at pages left (x.number + 1) (written memory (x.number * PAGE_SIZE) x.bytes))
    ≡ read_on (read_on (begin_behind n q) (λ begun. done (Some x))) (behind_page pages left memory)
among pages left zero memory x q = refl
among pages left (suc n) memory x q = refl

after_page : (pages left : ℕ) (memory : List ℕ) (read : Result (Page × Place) ℕ)
    → read_on read (λ x q. read_on (begin_behind left q) (λ begun. turned_pages_at pages left (x.number + 1)
    (written memory (x.number * PAGE_SIZE) x.bytes)))
    ≡ read_on (read_on read (λ x q. read_on (begin_behind left q) (λ begun. done (Some x))))
    (behind_page pages left memory)
after_page pages left memory (Ok x) = among pages left left memory x.0 x.1
after_page pages left memory (Err o) = refl

-- the next page, and then the others
pages_step : (pages left least : ℕ) (memory : List ℕ) (p : Place)
    → turned_pages_at pages left least memory p
    ≡ read_on (turned_page_at pages left least p) (behind_page pages (left - 1) memory)
unfolding turned_page_at
pages_step pages zero least memory p = refl
pages_step pages (suc left) least memory p =
    let less : suc left - 1 ≡ left = omega arith in
    rw less (after_page pages left memory (page_at pages least p))

-- In every input that begins with what was given, the pages of the first stage are those of the present one.
pub record FilledTo (pages : ℕ) (first now : Stage) (old new : Standing) : Type 0 where
  pub follows : Follows old new
  pub same : (input : List ℕ) → Begins new.given input → pages_from pages first (place_in old input)
      ≡ pages_from pages now (place_in new input)

-- another page was read, and written to memory
pub filled_on : {pages left least left' least' number : ℕ} {memory memory' bytes : List ℕ} {first : Stage}
    {old mid new : Standing}
    → FilledTo pages first (stage left least memory) old mid
    → left' + 1 ≡ left → least' ≡ number + 1 → memory' ≡ written memory (number * PAGE_SIZE) bytes
    → Reads log_met (option_page_with bytes) (turned_page_at pages left least) mid new (Ok (Some number))
    → FilledTo pages first (stage left' least' memory') old new
filled_on {pages = pages} {left = left} {least = least} {left' = left'} {memory = memory} {mid = mid}
    so_far fewer next put page = record {
      follows = follows_on so_far.follows page.follows;
      same = λ input begins.
          let less : left - 1 ≡ left' = omega (arith, fewer) in
          so_far.same input (begins_on page.follows.grows begins)
          ∙ pages_step pages left least memory (place_in mid input)
          ∙ rw (page.reads input begins, less, next, put) refl;
    }

-- what the pages from the present stage on come to
filled_then : {X : Type 0} {view : X → List ℕ} {pages : ℕ} {first now : Stage} {old mid new : Standing}
    {result : Result X LogFault}
    → FilledTo pages first now old mid → Reads log_met view (pages_from pages now) mid new result
    → Reads log_met view (pages_from pages first) old new result
filled_then so_far then = record {
  follows = follows_on so_far.follows then.follows;
  reads = λ input begins.
      let earlier = begins_on then.follows.grows begins in
      rw (so_far.same input earlier, end_stays so_far.follows input earlier) (then.reads input begins);
}

-- The next page is bad.
pub filled_bad : {X : Type 0} {view : X → List ℕ} {pages left least : ℕ} {memory bytes : List ℕ} {first : Stage}
    {old mid new : Standing} {e : LogFault}
    → FilledTo pages first (stage left least memory) old mid
    → Reads log_met (option_page_with bytes) (turned_page_at pages left least) mid new (Err e)
    → Reads log_met view (pages_from pages first) old new (Err e)
filled_bad {pages = pages} {left = left} {least = least} {memory = memory} so_far page =
    filled_then so_far (fails (λ start. behind_page pages (left - 1) memory)
    (pages_step pages left least memory) refl page)
