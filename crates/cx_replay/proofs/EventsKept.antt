-- Events that are kept: their order and their text, one by one, and how they are read again.
use Rattle.std.proofs.Common.{◌≡◌, ℕ, suc, ◌+◌, ◌<◌, ◌≤◌, ◌↔◌, List, [], ◌∷◌, ◌++◌, length, take, drop, false}
use Rattle.std.proofs.Common.{slice_index_or, Ok, Err, Result, refl, ap, sym, subst, ◌∙◌, append_assoc, arith}
use Rattle.std.proofs.Math.Seq.{take-suc}
use Rattle.std.proofs.lemmas.List.{append-nil, drop_more, take-append-drop}
use Rattle.cx_codec.specs.Puts.{Puts, Putting}
use Rattle.cx_codec.proofs.Putting.{puts_along, puts_fails, puts_on}
use Rattle.cx_log.specs.Item.{entry_of, entry_with, is_end}
use Rattle.cx_log.specs.Order.{InOrder, MarkRule, MayEnd, MayFollow, behind_it}
use Rattle.cx_log.specs.Recording.{Event, Mark, Dma, Lines, Value, Recorded}
use Rattle.cx_log.specs.Records.{Put}
use Rattle.cx_machine.specs.Transfers.{Transfer}
use Rattle.cx_run.specs.StepEvents.{transfer_events}
use Rattle.cx_log.specs.Text.{record_text}
use Rattle.cx_log.specs.declared.item.Item.{Item}
use Rattle.cx_log.specs.declared.item.What.{What}
use Rattle.cx_log.specs.declared.item.What.TheVariants as what
use Rattle.cx_log.specs.declared.limits.TheConstants.{MARK_DISTANCE, STEP_LIMIT}
use Rattle.cx_log.specs.declared.order.Behind.{Behind}
use Rattle.cx_replay.specs.Events.{bytes_of, event_of, last_bytes, last_bytes_behind}
use Rattle.cx_run.specs.SoFar.{behind_all, events_text}
use Rattle.cx_run.proofs.TextSoFar.{text_on}
use Rattle.cx_replay.specs.Events.{recorded_of}

-- an item other than End is a record
pub entry_is : (bytes : List ℕ) (item : Item) → is_end item.what ≡ false
    → entry_of bytes item ≡ Put (recorded_of bytes item)
entry_is bytes item more = by_what item.what more
  where
    by_what : (w : What) → is_end w ≡ false
        → entry_with bytes item.step w ≡ Put (record { step = item.step; event = event_of bytes w })
    by_what (what.Dma place) e = refl
    by_what (what.Lines set) e = refl
    by_what (what.Value v) e = refl
    by_what what.Mark e = refl
    by_what what.End e = cc

-- ---- the order

pub mark_within : (pages : ℕ) (behind : Behind) (r : Recorded) → MayFollow pages behind r
    → behind.mark ≤ STEP_LIMIT + MARK_DISTANCE → (behind_it behind r).mark ≤ STEP_LIMIT + MARK_DISTANCE
mark_within pages behind r may within = by_event r.event may.marks
  where
    by_event : (e : Event) → MarkRule behind.mark r.step e
        → (behind_it behind (record { step = r.step; event = e })).mark ≤ STEP_LIMIT + MARK_DISTANCE
    by_event Mark marks = omega (arith, marks, may.small)
    by_event (Dma t) marks = within
    by_event (Lines set) marks = within
    by_event (Value v) marks = within

-- the events from one on, the first of them apart
pub from_here : (events : List Recorded) (k : ℕ) (d x : Recorded) → k < length events → slice_index_or events k d ≡ x
    → drop k events ≡ x ∷ drop (k + 1) events
from_here events k d x there is = drop_more events k d there ∙ ap (λ y. y ∷ drop (k + 1) events) is

pub order_more : (pages end k : ℕ) (behind : Behind) (events : List Recorded) (d x : Recorded) → k < length events
    → slice_index_or events k d ≡ x → MayFollow pages behind x
    → InOrder pages behind (drop k events) end ↔ InOrder pages (behind_it behind x) (drop (k + 1) events) end
order_more pages end k behind events d x there is may =
    let cut = from_here events k d x there is in (
      λ order. (subst (λ xs. InOrder pages behind xs end) cut order).1,
      λ order. subst (λ xs. InOrder pages behind xs end) (sym cut) (may, order),
    )

pub order_here : (pages end k : ℕ) (behind : Behind) (events : List Recorded) (d x : Recorded) → k < length events
    → slice_index_or events k d ≡ x → InOrder pages behind (drop k events) end → MayFollow pages behind x
order_here pages end k behind events d x there is order =
    (subst (λ xs. InOrder pages behind xs end) (from_here events k d x there is) order).0

pub order_last : (pages end : ℕ) (behind : Behind) (events : List Recorded) → InOrder pages behind events end
    → MayEnd (behind_all behind events) end
order_last pages end behind [] order = order
order_last pages end behind (r ∷ events) order = order_last pages end (behind_it behind r) events order.1

-- ---- the text

pub behind_more : (behind : Behind) (xs : List Recorded) (x : Recorded)
    → behind_all behind (xs ++ x ∷ []) ≡ behind_it (behind_all behind xs) x
behind_more behind [] x = refl
behind_more behind (r ∷ xs) x = behind_more (behind_it behind r) xs x

text_more : (behind : Behind) (xs : List Recorded) (x : Recorded)
    → events_text behind (xs ++ x ∷ []) ≡ events_text behind xs ++ record_text (behind_all behind xs).step x
text_more behind [] x = append-nil (record_text behind.step x)
text_more behind (r ∷ xs) x =
    ap (λ t. record_text behind.step r ++ t) (text_more (behind_it behind r) xs x)
    ∙ sym (append_assoc (record_text behind.step r) (events_text (behind_it behind r) xs)
    (record_text (behind_all (behind_it behind r) xs).step x))

pub taken : (events : List Recorded) (k : ℕ) (d x : Recorded) → k < length events → slice_index_or events k d ≡ x
    → take (k + 1) events ≡ take k events ++ x ∷ []
taken events k d x there is =
    let more : k + 1 ≡ suc k = omega arith in
    ap (λ n. take n events) more ∙ take-suc events k d there ∙ ap (λ y. take k events ++ y ∷ []) is

-- one event more was put
pub puts_more : {X Y E : Type 0} {fault : E} {old mid new : Putting} {y : X} {result : Result Y E} (behind : Behind)
    (events : List Recorded) (k : ℕ) (d x : Recorded) → k < length events → slice_index_or events k d ≡ x
    → Puts fault (events_text behind (take k events)) old mid (Ok y)
    → Puts fault (record_text (behind_all behind (take k events)).step x) mid new result
    → Puts fault (events_text behind (take (k + 1) events)) old new result
puts_more behind events k d x there is first last =
    puts_along _ _ (sym (ap (events_text behind) (taken events k d x there is) ∙ text_more behind (take k events) x))
    (puts_on (events_text behind (take k events)) _ first last)

-- an event was refused
pub puts_stops : {X Y E : Type 0} {fault e : E} {old mid new : Putting} {y : X} (behind : Behind)
    (events : List Recorded)
    (k : ℕ) (d x : Recorded) → k < length events → slice_index_or events k d ≡ x
    → Puts fault (events_text behind (take k events)) old mid (Ok y)
    → Puts {X = Y} fault (record_text (behind_all behind (take k events)).step x) mid new (Err e)
    → Puts {X = Y} fault (events_text behind events) old new (Err e)
puts_stops {X} {Y} behind events k d x there is first last =
    let front : List Recorded = take (k + 1) events in
    let parts = ap (events_text behind) (sym (take-append-drop (k + 1) events))
    ∙ text_on behind front (drop (k + 1) events) in
    puts_along _ _ (sym parts)
    (puts_fails {X = Y} (events_text behind front) (events_text (behind_all behind front) (drop (k + 1) events))
    (puts_more behind events k d x there is first last))

-- ---- the events of a step

transfers_more : (step : ℕ) (xs : List Transfer) (t : Transfer)
    → transfer_events step (xs ++ t ∷ []) ≡ transfer_events step xs ++ record { step = step; event = Dma t } ∷ []
transfers_more step [] t = refl
transfers_more step (x ∷ xs) t = ap (λ events. record { step = step; event = Dma x } ∷ events)
    (transfers_more step xs t)

pub transfer_kept : (step k : ℕ) (ts : List Transfer) (d : Transfer) (old before : List Recorded) → k < length ts
    → before ≡ old ++ transfer_events step (take k ts)
    → before ++ record { step = step; event = Dma (slice_index_or ts k d) } ∷ []
    ≡ old ++ transfer_events step (take (k + 1) ts)
transfer_kept step k ts d old before there so_far =
    let next : k + 1 ≡ suc k = omega arith in
    let more = ap (transfer_events step) (ap (λ n. take n ts) next ∙ take-suc ts k d there)
    ∙ transfers_more step (take k ts) (slice_index_or ts k d) in
    ap (λ xs. xs ++ record { step = step; event = Dma (slice_index_or ts k d) } ∷ []) so_far
    ∙ append_assoc old (transfer_events step (take k ts)) _ ∙ ap (λ xs. old ++ xs) (sym more)

pub parts_kept : (old a b c d : List Recorded) → (((old ++ a) ++ b) ++ c) ++ d ≡ old ++ (a ++ (b ++ (c ++ d)))
parts_kept old a b c d =
    append_assoc ((old ++ a) ++ b) c d ∙ append_assoc (old ++ a) b (c ++ d) ∙ append_assoc old a (b ++ (c ++ d))

-- ---- an event that is read again

-- it is the record that its item is, where a Dma has its bytes
pub entry_again : (bytes : List ℕ) (item : Item) → is_end item.what ≡ false
    → entry_of (bytes_of (event_of bytes item.what)) item ≡ Put (recorded_of bytes item)
entry_again bytes item more = by_what item.what more
  where
    by_what : (w : What) → is_end w ≡ false
        → entry_with (bytes_of (event_of bytes w)) item.step w
        ≡ Put (record { step = item.step; event = event_of bytes w })
    by_what (what.Dma place) e = refl
    by_what (what.Lines set) e = refl
    by_what (what.Value v) e = refl
    by_what what.Mark e = refl
    by_what what.End e = cc

last_bytes-push : (bytes : List ℕ) (xs : List Recorded) (x : Recorded)
    → last_bytes_behind bytes (xs ++ x ∷ []) ≡ bytes_of x.event
last_bytes-push bytes [] x = refl
last_bytes-push bytes (r ∷ xs) x = last_bytes-push (bytes_of r.event) xs x

pub bytes_here : (events : List Recorded) (k : ℕ) (d x : Recorded) → k < length events → slice_index_or events k d ≡ x
    → last_bytes (take (k + 1) events) ≡ bytes_of x.event
bytes_here events k d x there is = ap last_bytes (taken events k d x there is) ∙ last_bytes-push [] (take k events) x
