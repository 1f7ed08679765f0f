-- Items that may stand: what they leave for those behind them, and their text.
use Rattle.std.proofs.Common.{◌≡◌, ℕ, ◌-◌, true, false, List, [], ◌∷◌, ◌++◌, arith, refl}
use Rattle.cx_codec.specs.Varint.{varint}
use Rattle.cx_log.specs.declared.header.Header.{Header}
use Rattle.cx_log.specs.declared.item.What.{What}
use Rattle.cx_log.specs.declared.item.What.TheVariants as what
use Rattle.cx_log.specs.Engine.{IsAmong}
use Rattle.cx_log.specs.Item.{MayStand, HoldsItem, behind_entry, dma_event, entry_text, entry_with, is_end}
use Rattle.cx_log.specs.Item.{kind_of_what, lines_event, payload_of, value_event}
use Rattle.cx_log.specs.Kind.{tag_of}
use Rattle.cx_log.specs.Order.{Behind}
use Rattle.cx_log.specs.Recording.{Mark}
use Rattle.cx_log.specs.Records.{may_stand}
use Rattle.cx_log.specs.Text.{record_text}
use Rattle.cx_log.proofs.RecordOnce.{stands_once, end_stands_once}

-- What passes the tests may stand.
pub item_stands : (pages step : ℕ) (behind : Behind) (bytes : List ℕ) (w : What)
    → may_stand behind (kind_of_what w) step ≡ true
    → HoldsItem pages behind.lines bytes w → MayStand pages behind (entry_with bytes step w)
item_stands pages step behind bytes (what.Dma place) stands holds =
    stands_once pages behind step (dma_event bytes place) stands holds
item_stands pages step behind bytes (what.Lines lines) stands holds = stands_once pages behind step (lines_event lines)
    stands holds
item_stands pages step behind bytes (what.Value v) stands holds = stands_once pages behind step (value_event v) stands
    holds
item_stands pages step behind bytes what.Mark stands holds = stands_once pages behind step Mark stands holds
item_stands pages step behind bytes what.End stands holds = end_stands_once behind step stands

-- Behind it the steps are small.
among_entry : (header : Header) (pages least step : ℕ) (behind : Behind) (bytes : List ℕ) (w : What)
    → MayStand pages behind (entry_with bytes step w)
    → IsAmong header least behind → IsAmong header least (behind_entry behind (entry_with bytes step w))
among_entry header pages least step behind bytes (what.Dma place) stands before =
    record { rules = before.rules; page = before.page; step = let h = stands.small in omega arith; mark = before.mark }
among_entry header pages least step behind bytes (what.Lines lines) stands before =
    record { rules = before.rules; page = before.page; step = let h = stands.small in omega arith; mark = before.mark }
among_entry header pages least step behind bytes (what.Value v) stands before =
    record { rules = before.rules; page = before.page; step = let h = stands.small in omega arith; mark = before.mark }
among_entry header pages least step behind bytes what.Mark stands before =
    let small = stands.small in
    let there = stands.marks in
    record { rules = before.rules; page = before.page; step = omega arith; mark = omega arith }
among_entry header pages least step behind bytes what.End stands before = before

pub among_behind : (header : Header) (pages least step : ℕ) (behind now : Behind) (bytes : List ℕ) (w : What)
    → MayStand pages behind (entry_with bytes step w)
    → IsAmong header least behind → now ≡ behind_entry behind (entry_with bytes step w) → IsAmong header least now
among_behind header pages least step behind now bytes w stands before is =
    rw is (among_entry header pages least step behind bytes w stands before)

-- The text of one with no bytes beside it.
pub item_text : (pages step : ℕ) (behind : Behind) (w : What) → is_end w ≡ false
    → MayStand pages behind (entry_with [] step w)
    → (tag_of (kind_of_what w) ∷ varint (step - behind.step)) ++ payload_of w ≡ entry_text behind.step
    (entry_with [] step w)
unfolding record_text
item_text pages step behind (what.Dma place) more stands = absurd (let some = stands.holds.some in omega arith)
item_text pages step behind (what.Lines lines) more stands = refl
item_text pages step behind (what.Value v) more stands = refl
item_text pages step behind what.Mark more stands = refl
item_text pages step behind what.End more stands = cc
