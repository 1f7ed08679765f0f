-- What is due to a step of a recording that keeps the rules.
use Rattle.std.proofs.Common.{ℕ, List, [], ◌∷◌, ◌==◌, Bool, true, false, if◌then◌else◌}
use Rattle.std.proofs.lemmas.List.Elements.{All-nil, All-cons}
use Rattle.cx_csr.specs.declared.lines.Lines as lines
use Rattle.cx_log.specs.Recording.{Event, Mark, Dma, Lines, Value, Recorded, Recording}
use Rattle.cx_log.specs.Order.{HoldsWell, InOrder, at_start, behind_it, KeepsRules}
use Rattle.cx_log.specs.declared.order.Behind.{Behind}
use Rattle.cx_map.specs.Map.{size_of_pages}
use Rattle.cx_machine.specs.Transfers.{IsTransfer}
use Rattle.cx_machine.specs.Due.{Due, nothing_due, IsDue}
use Rattle.cx_run.specs.Due.{with_event, due_at}

well_with : (pages : ℕ) (standing : lines.Lines) (event : Event) (due : Due) → HoldsWell pages standing event
    → IsDue pages due → IsDue pages (with_event event due)
well_with pages standing Mark due holds well = well
well_with pages standing (Dma t) due holds well =
    record {
      transfers = All-cons (IsTransfer (size_of_pages pages)) t due.transfers holds well.transfers;
      lines =
          well.lines;
      value = well.value;
    }
well_with pages standing (Lines set) due holds well = record {
  transfers = well.transfers;
  lines = holds.0;
  value =
      well.value;
}
well_with pages standing (Value v) due holds well = record {
  transfers = well.transfers;
  lines = well.lines;
  value =
      holds;
}

well_if : (pages : ℕ) (t : Bool) (due more : Due) → IsDue pages due → IsDue pages more
    → IsDue pages (if t then more else due)
well_if pages true due more well well' = well'
well_if pages false due more well well' = well

nothing_is_well : (pages : ℕ) → IsDue pages nothing_due
nothing_is_well pages = record { transfers = All-nil (IsTransfer (size_of_pages pages)); lines = tt; value = tt }

-- Each event that may follow holds well, and so does what is due at each step.
pub due_at-well : (pages : ℕ) (behind : Behind) (events : List Recorded) (end n : ℕ) → InOrder pages behind events end
    → IsDue pages (due_at events n)
due_at-well pages behind [] end n order = nothing_is_well pages
due_at-well pages behind (r ∷ events) end n order =
    let rest : IsDue pages (due_at events n) = due_at-well pages (behind_it behind r) events end n order.1 in
    well_if pages (r.step == n) (due_at events n) (with_event r.event (due_at events n)) rest
    (well_with pages behind.lines r.event (due_at events n) order.0.holds rest)

pub rules-well : (R : Recording) (n : ℕ) → KeepsRules R → IsDue R.pages (due_at R.events n)
rules-well R n rules = due_at-well R.pages (at_start R.base R.start) R.events R.end n rules.events
