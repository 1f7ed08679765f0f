-- When an item may stand behind the records so far.
use Rattle.std.proofs.Common.{◌≡◌, ◌≢◌, ℕ, List, true, ap}
use Rattle.cx_csr.specs.declared.lines.Lines as lines
use Rattle.cx_log.specs.Item.{HoldsItem, MayStand, entry_of, entry_with, kind_of_what}
use Rattle.cx_log.specs.Order.{Behind}
use Rattle.cx_log.specs.declared.item.Item.{Item}
use Rattle.cx_log.specs.declared.item.What.{What}
use Rattle.cx_log.specs.declared.item.What.TheVariants as what
use Rattle.cx_log.specs.Recording.{Mark}
use Rattle.cx_log.specs.Item.{dma_event, lines_event, value_event}
use Rattle.cx_log.specs.Records.{may_stand}
use Rattle.cx_log.proofs.RecordAgain.{end_stands, event_stands, same_lines}
use Rattle.cx_log.proofs.RecordOnce.{end_stands_once, stands_once}

-- lines differ where their bits do
pub other_lines : (a b : lines.Lines) → a.0 ≢ b.0 → a ≢ b
other_lines a b differ same = differ (ap (λ (x : lines.Lines). x.0) same)

pub other_bits : (a b : lines.Lines) → a ≢ b → a.0 ≢ b.0
other_bits a b differ same = differ (same_lines a b same)

stands_with : (pages step : ℕ) (behind : Behind) (bytes : List ℕ) (w : What) → may_stand behind (kind_of_what w) step
    ≡ true
    → HoldsItem pages behind.lines bytes w → MayStand pages behind (entry_with bytes step w)
stands_with pages step behind bytes (what.Dma place) stands holds =
    stands_once pages behind step (dma_event bytes place) stands holds
stands_with pages step behind bytes (what.Lines set) stands holds =
    stands_once pages behind step (lines_event set) stands holds
stands_with pages step behind bytes (what.Value v) stands holds =
    stands_once pages behind step (value_event v) stands holds
stands_with pages step behind bytes what.Mark stands holds = stands_once pages behind step Mark stands tt
stands_with pages step behind bytes what.End stands holds = end_stands_once behind step stands

stood_with : (pages step : ℕ) (behind : Behind) (bytes : List ℕ) (w : What)
    → MayStand pages behind (entry_with bytes step w)
    → (may_stand behind (kind_of_what w) step ≡ true) × HoldsItem pages behind.lines bytes w
stood_with pages step behind bytes (what.Dma place) may =
    (event_stands pages step behind (dma_event bytes place) may, may.holds)
stood_with pages step behind bytes (what.Lines set) may =
    (event_stands pages step behind (lines_event set) may, may.holds)
stood_with pages step behind bytes (what.Value v) may =
    (event_stands pages step behind (value_event v) may, may.holds)
stood_with pages step behind bytes what.Mark may = (event_stands pages step behind Mark may, tt)
stood_with pages step behind bytes what.End may = (end_stands behind step may, tt)

pub stands : (pages : ℕ) (behind : Behind) (bytes : List ℕ) (item : Item)
    → may_stand behind (kind_of_what item.what) item.step ≡ true → HoldsItem pages behind.lines bytes item.what
    → MayStand pages behind (entry_of bytes item)
stands pages behind bytes item = stands_with pages item.step behind bytes item.what

pub stood : (pages : ℕ) (behind : Behind) (bytes : List ℕ) (item : Item) → MayStand pages behind (entry_of bytes item)
    → (may_stand behind (kind_of_what item.what) item.step ≡ true) × HoldsItem pages behind.lines bytes item.what
stood pages behind bytes item = stood_with pages item.step behind bytes item.what
