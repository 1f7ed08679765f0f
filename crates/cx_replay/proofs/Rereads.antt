-- Events that were kept, as they are read again.
use Rattle.std.proofs.Common.{◌≡◌, ℕ, ◌+◌, ◌<◌, Bool, List, ◌∷◌, length, take, drop, slice_index_or, refl, sym, ap}
use Rattle.std.proofs.Common.{subst, ◌∙◌}
use Rattle.std.proofs.Common.{arith, false}
use Rattle.cx_log.specs.Item.{entry_of, is_end}
use Rattle.cx_log.specs.Order.{InOrder, behind_it}
use Rattle.cx_log.specs.declared.order.Behind.{Behind}
use Rattle.cx_log.specs.Item.{MayStand, behind_entry}
use Rattle.cx_log.specs.Recording.{Recorded}
use Rattle.cx_log.specs.Records.{Entry, Put, Ends}
use Rattle.cx_log.specs.Scan.{Scan}
use Rattle.cx_log.specs.declared.item.Item.{Item}
use Rattle.cx_run.specs.Events.{NoneBelow}
use Rattle.cx_run.proofs.LaterEvents.{order_is_above}
use Rattle.cx_run.proofs.WindowOrder.{order_ends}
use Rattle.cx_log.specs.Recording.{Mark}
use Rattle.cx_replay.specs.Events.{bytes_of, last_bytes}
use Rattle.cx_replay.specs.KeptRecords.{GivesKept, HasKept, IsOrdered, IsOrderFrom, Rereading, scan_of, seen_again}
use Rattle.cx_replay.specs.Records.{Fits, GaveEntry, GaveItem, IsNext, RisesFrom}
use Rattle.cx_replay.proofs.EventsKept.{bytes_here, from_here}
use Rattle.cx_replay.proofs.Scanning.{fits_of, next_of}
use Rattle.cx_replay.proofs.Turning.{record_is}

-- events in order come at the step of the last record or later
pub order_from : (pages last : ℕ) (events : List Recorded) (end : ℕ) → IsOrderFrom pages last events end
    → RisesFrom last (scan_of events end)
order_from pages last events end from =
    let ends = order_ends pages from.behind events end from.order in
    let above = order_is_above pages from.behind events end from.order in
    record {
      events = subst (λ (n : ℕ). NoneBelow n events) from.step above;
      upto = omega (arith, ends.1, from.step);
    }

-- The next event was passed.
pub record PassesEvent (pages last : ℕ) (bytes : List ℕ) (rest : List Recorded) (end : ℕ) (item : Item) (x : Recorded)
    : Type 0 where
  pub step : item.step ≡ x.step
  pub more : is_end item.what ≡ false
  pub order : IsOrderFrom pages item.step rest end
  pub next : IsNext last item.step item.step (is_end item.what)
  pub fits : Fits pages bytes item.what
  pub rises : RisesFrom x.step (scan_of rest end)

pub passes_event : (pages last : ℕ) (bytes : List ℕ) (ahead rest : List Recorded) (end : ℕ) (item : Item) (x : Recorded)
    → IsOrderFrom pages last ahead end → ahead ≡ x ∷ rest → entry_of bytes item ≡ Put x
    → PassesEvent pages last bytes rest end item x
passes_event pages last bytes ahead rest end item x from parts is =
    let b : Behind = from.behind in
    let order : InOrder pages b (x ∷ rest) end = subst (λ (xs : List Recorded). InOrder pages b xs end) parts from.order
    in
    let at = record_is bytes item x is in
    let stands : MayStand pages b (entry_of bytes item) = subst (MayStand pages b) (sym is) order.0 in
    let now : behind_it b x ≡ behind_entry b (entry_of bytes item) = ap (behind_entry b) (sym is) in
    let here : IsOrderFrom pages x.step rest end = record { behind = behind_it b x; step = refl; order = order.1 } in
    record {
      step = sym at.step;
      more = at.more;
      order = rw (sym at.step) here;
      next = rw (← from.step, sym at.step) (rw (sym at.step) at
          (next_of pages item.step b (behind_it b x) bytes item.what stands now));
      fits = fits_of pages item.step b bytes item.what stands;
      rises = order_from pages x.step rest end here;
    }

-- ---- the reader, from one event to the next

-- it stands before event k, having read a record at step last
abbrev pub standing : (pages last end k : ℕ) (events : List Recorded) (ended : Bool) → Rereading
standing pages last end k events ended = record {
  pages = pages;
  last = last;
  bytes = last_bytes (take k events);
  ahead = drop k events;
  end = end;
  ended = ended;
}

pub record Rereads (pages last end k : ℕ) (events : List Recorded) (ended : Bool) (item : Item) : Type 0 where
  pub order : IsOrdered ended pages item.step (drop (k + 1) events) end
  pub gives : GivesKept (standing pages last end k events ended) (standing pages item.step end (k + 1) events ended)
      (entry_of (last_bytes (take (k + 1) events)) item)
  pub gave : GaveItem (seen_again (standing pages last end k events ended))
      (seen_again (standing pages item.step end (k + 1) events ended)) item

pub rereads : (pages last end k : ℕ) (events : List Recorded) (ended : Bool) (item : Item) → ended ≡ false
    → IsOrdered ended pages last (drop k events) end → k < length events
    → ((d : Recorded) → entry_of (bytes_of (slice_index_or events k d).event) item ≡ Put (slice_index_or events k d))
    → Rereads pages last end k events ended item
rereads pages last end k events ended item more order there reads =
    let d : Recorded = record { step = 0; event = Mark } in
    let x : Recorded = slice_index_or events k d in
    let from : IsOrderFrom pages last (drop k events) end =
    subst (λ (b : Bool). IsOrdered b pages last (drop k events) end) more order in
    let bytes = bytes_here events k d x there refl in
    let entry : entry_of (last_bytes (take (k + 1) events)) item ≡ Put x =
    ap (λ (b : List ℕ). entry_of b item) bytes ∙ reads d in
    let parts = from_here events k d x there refl in
    let passed = passes_event pages last (last_bytes (take (k + 1) events)) (drop k events) (drop (k + 1) events) end
    item x from parts entry in
    record {
      order = subst (λ (b : Bool). IsOrdered b pages item.step (drop (k + 1) events) end) (sym more) passed.order;
      gives = rw entry (parts, passed.rises);
      gave = record {
        next = passed.next;
        fits = passed.fits;
        ended = more ∙ sym passed.more;
        fewer = omega (arith, ap length parts);
      };
    }

-- A record of those that are kept is one of an input that scans as they do.
pub gives_kept : (old new : Rereading) (given given' input : List ℕ) (offset : ℕ) (rest : Scan) (e : Entry)
    → GivesKept old new e → new.end ≡ old.end → HasKept old given input offset rest
    → GaveEntry (HasKept new given' input offset) rest e
gives_kept old new given given' input offset rest (Put r) gives end has = record {
  behind = scan_of new.ahead new.end;
  here = record { is = refl };
  parts = has.is ∙ rw (gives.0, end) refl;
  rises = gives.1;
}
gives_kept old new given given' input offset rest (Ends last) gives end has = record {
  here = record { is = has.is ∙ rw (gives.0, gives.1.0, end) refl };
  none = ap (λ (s : Scan). s.events) has.is ∙ gives.0;
  upto = ap (λ (s : Scan). s.upto) has.is ∙ sym gives.1.1;
}
