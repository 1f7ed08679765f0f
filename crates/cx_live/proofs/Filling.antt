-- Pages of an image, read one after another into a machine's memory.
use Rattle.std.proofs.Common.{◌≡◌, ℕ, zero, suc, ◌+◌, ◌-◌, ◌*◌, ◌<◌, List, Result, Ok, Err, arith, refl, ◌∙◌, IsSome}
use Rattle.cx_map.specs.declared.TheConstants.{PAGE_SIZE}
use Rattle.cx_codec.specs.Place.{Place, Reader, read_on}
use Rattle.cx_codec.specs.Reads.{Begins, Standing, Follows, Met, Other, Reads, place_in}
use Rattle.cx_codec.proofs.Composing.{fails}
use Rattle.cx_codec.proofs.Following.{begins_on, follows_none, follows_on, end_stays}
use Rattle.cx_ram.specs.LittleEndian.{written}
use Rattle.cx_log.specs.declared.fault.LogFault.{LogFault}
use Rattle.cx_log.specs.Engine.{page_with}
use Rattle.cx_log.specs.Fault.{log_met}
use Rattle.cx_log.specs.Reading.{Page, page_at, pages_at}

-- how many pages are left, the least number that the next may have, and the memory so far
pub record Stage : Type 0 where
  pub left : ℕ
  pub least : ℕ
  pub memory : List ℕ

abbrev pub stage : ℕ → ℕ → List ℕ → Stage
stage left least memory = record { left = left; least = least; memory = memory }

abbrev pub pages_from : ℕ → Stage → Reader (List ℕ)
pages_from pages s = pages_at pages s.left s.least s.memory

-- what follows a page, where so many are left then
abbrev behind_page : ℕ → ℕ → List ℕ → Page → Reader (List ℕ)
behind_page pages left memory page =
    pages_at pages left (page.number + 1) (written memory (page.number * PAGE_SIZE) page.bytes)

-- the next page, and then the others
pages_step : (pages left least : ℕ) (memory : List ℕ) (p : Place) → 0 < left
    → pages_at pages left least memory p ≡ read_on (page_at pages least p) (behind_page pages (left - 1) memory)
pages_step pages zero least memory p some = absurd (omega (arith, some))
pages_step pages (suc left) least memory p some = let less : suc left - 1 ≡ left = omega arith in rw less refl

-- In every input that begins with what was given, the pages of the first stage are those of the present one.
pub record FilledTo (pages : ℕ) (first now : Stage) (old new : Standing) : Type 0 where
  pub follows : Follows old new
  pub same : (input : List ℕ) → Begins new.given input → pages_from pages first (place_in old input)
      ≡ pages_from pages now (place_in new input)

pub filled_none : (pages : ℕ) (first : Stage) (s : Standing) → IsSome s.left → FilledTo pages first first s s
filled_none pages first s told = record { follows = follows_none s told; same = λ input begins. refl }

-- another page was read, and written to memory
pub filled_on : {pages left least left' least' number : ℕ} {memory memory' bytes : List ℕ} {first : Stage}
    {old mid new : Standing}
    → FilledTo pages first (stage left least memory) old mid → 0 < left
    → left' + 1 ≡ left → least' ≡ number + 1 → memory' ≡ written memory (number * PAGE_SIZE) bytes
    → Reads log_met (page_with bytes) (page_at pages least) mid new (Ok number)
    → FilledTo pages first (stage left' least' memory') old new
filled_on {pages = pages} {left = left} {least = least} {left' = left'} {memory = memory} {mid = mid}
    so_far some fewer next put page = record {
      follows = follows_on so_far.follows page.follows;
      same = λ input begins.
          let less : left - 1 ≡ left' = omega (arith, fewer) in
          so_far.same input (begins_on page.follows.grows begins)
          ∙ pages_step pages left least memory (place_in mid input) some
          ∙ rw (page.reads input begins, less, next, put) refl;
    }

-- what the pages from the present stage on come to
pub filled_then : {X : Type 0} {view : X → List ℕ} {pages : ℕ} {first now : Stage} {old mid new : Standing}
    {result : Result X LogFault}
    → FilledTo pages first now old mid → Reads log_met view (pages_from pages now) mid new result
    → Reads log_met view (pages_from pages first) old new result
filled_then so_far then = record {
  follows = follows_on so_far.follows then.follows;
  reads = λ input begins.
      let earlier = begins_on then.follows.grows begins in
      rw (so_far.same input earlier, end_stays so_far.follows input earlier) (then.reads input begins);
}

-- The next page is bad.
pub filled_bad : {X : Type 0} {view : X → List ℕ} {pages left least : ℕ} {memory bytes : List ℕ} {first : Stage}
    {old mid new : Standing} {e : LogFault}
    → FilledTo pages first (stage left least memory) old mid → 0 < left
    → Reads log_met (page_with bytes) (page_at pages least) mid new (Err e)
    → Reads log_met view (pages_from pages first) old new (Err e)
filled_bad {pages = pages} {left = left} {least = least} {memory = memory} so_far some page =
    filled_then so_far (fails (λ start. behind_page pages (left - 1) memory)
    (λ p. pages_step pages left least memory p some) refl page)

-- all pages were read
pub filled_all : {X : Type 0} {view : X → List ℕ} {pages left least : ℕ} {memory : List ℕ} {first : Stage}
    {old new : Standing} {x : X}
    → FilledTo pages first (stage left least memory) old new → IsSome new.left → left ≡ 0 → view x ≡ memory
    → Reads log_met view (pages_from pages first) old new (Ok x)
filled_all {view = view} {pages = pages} {least = least} {memory = memory} {new = new} {x = x} so_far told none is =
    filled_then so_far (record { follows = follows_none new told; reads = λ input begins. rw (none, is) refl })

-- A call that is refused for a reason that says nothing of the input.
pub refused_unread : {X Y E : Type 0} {met : E → Met} {view : X → Y} {reader : Reader Y} {old new : Standing} {e : E}
    → Follows old new → met e ≡ Other → Reads met view reader old new (Err e)
refused_unread follows is = record { follows = follows; reads = λ input begins. rw is tt }
