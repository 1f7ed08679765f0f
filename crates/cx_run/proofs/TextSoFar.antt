-- The text of a recording of which no End was put yet, and that of the whole.
use Rattle.std.proofs.Common.{◌≡◌, ℕ, suc, ◌+◌, Bool, List, [], ◌∷◌, ◌++◌, length, refl, sym, ap, ◌∙◌, append_assoc, arith}
use Rattle.std.proofs.lemmas.List.{append-nil}
use Rattle.cx_codec.specs.Reads.{Begins}
use Rattle.cx_log.specs.Order.{at_start, behind_it}
use Rattle.cx_log.specs.declared.order.Behind.{Behind}
use Rattle.cx_log.specs.Recording.{Recorded}
use Rattle.cx_log.specs.Text.{end_text, header_of, header_text, pages_text, record_text, recording_text, records_text}
use Rattle.cx_machine.specs.Due.{Due}
use Rattle.cx_machine.specs.Machine.{MachineState}
use Rattle.cx_run.specs.Driven.{events_from, is_marked, taped}
use Rattle.cx_run.specs.SoFar.{behind_all, events_text, text_so_far}
use Rattle.cx_run.specs.StepEvents.{step_events}

-- ---- events

events_on : (n : ℕ) (dues more : List Due)
    → events_from n (dues ++ more) ≡ events_from n dues ++ events_from (n + length dues) more
events_on n [] more = ap (λ (m : ℕ). events_from m more) (let e : n ≡ n + 0 = omega arith in e)
events_on n (due ∷ dues) more =
    let place : suc n + length dues ≡ n + suc (length dues) = omega arith in
    ap (λ (xs : List Recorded). step_events n (is_marked n) due ++ xs) (events_on (suc n) dues more
    ∙ ap (λ (m : ℕ). events_from (suc n) dues ++ events_from m more) place)
    ∙ sym (append_assoc (step_events n (is_marked n) due) (events_from (suc n) dues)
    (events_from (n + suc (length dues)) more))

pub events_more : (dues : List Due) (due : Due)
    → events_from 0 (dues ++ due ∷ [])
    ≡ events_from 0 dues ++ step_events (length dues) (is_marked (length dues)) due
events_more dues due =
    let place : 0 + length dues ≡ length dues = omega arith in
    events_on 0 dues (due ∷ [])
    ∙ ap (λ (m : ℕ). events_from 0 dues ++ events_from m (due ∷ [])) place
    ∙ ap (λ (xs : List Recorded). events_from 0 dues ++ xs)
    (append-nil (step_events (length dues) (is_marked (length dues)) due))

pub text_on : (behind : Behind) (xs ys : List Recorded)
    → events_text behind (xs ++ ys) ≡ events_text behind xs ++ events_text (behind_all behind xs) ys
text_on behind [] ys = refl
text_on behind (r ∷ xs) ys =
    ap (λ t. record_text behind.step r ++ t) (text_on (behind_it behind r) xs ys)
    ∙ sym (append_assoc (record_text behind.step r) (events_text (behind_it behind r) xs)
    (events_text (behind_all (behind_it behind r) xs) ys))

pub behind_on : (behind : Behind) (xs ys : List Recorded)
    → behind_all behind (xs ++ ys) ≡ behind_all (behind_all behind xs) ys
behind_on behind [] ys = refl
behind_on behind (r ∷ xs) ys = behind_on (behind_it behind r) xs ys

-- The text of records up to End.
pub records_by_parts : (behind : Behind) (events : List Recorded) (end : ℕ)
    → records_text behind.step events end
    ≡ events_text behind events ++ end_text (behind_all behind events).step end
records_by_parts behind [] end = refl
records_by_parts behind (r ∷ events) end =
    ap (λ t. record_text behind.step r ++ t) (records_by_parts (behind_it behind r) events end)
    ∙ sym (append_assoc (record_text behind.step r) (events_text (behind_it behind r) events)
    (end_text (behind_all (behind_it behind r) events).step end))

-- ---- texts

behind_front : (h p a b : List ℕ) → h ++ (p ++ (a ++ b)) ≡ (h ++ (p ++ a)) ++ b
behind_front h p a b =
    ap (λ (t : List ℕ). h ++ t) (sym (append_assoc p a b)) ∙ sym (append_assoc h (p ++ a) b)

pub so_far_more : (version : ℕ) (split : Bool) (pages : ℕ) (start : MachineState) (dues : List Due) (due : Due)
    → text_so_far version split pages start (dues ++ due ∷ [])
    ≡ text_so_far version split pages start dues
    ++ events_text (behind_all (at_start 0 start.state) (events_from 0 dues))
    (step_events (length dues) (is_marked (length dues)) due)
unfolding text_so_far
so_far_more version split pages start dues due =
    let b = at_start 0 start.state in
    let header = header_text (header_of (taped version split pages start dues)) in
    let memory = pages_text start.memory pages in
    ap (λ (t : List ℕ). header ++ (memory ++ t)) (ap (events_text b) (events_more dues due)
    ∙ text_on b (events_from 0 dues) (step_events (length dues) (is_marked (length dues)) due))
    ∙ behind_front header memory (events_text b (events_from 0 dues)) _

pub so_far_whole : (version : ℕ) (split : Bool) (pages : ℕ) (start : MachineState) (dues : List Due)
    → recording_text (taped version split pages start dues)
    ≡ text_so_far version split pages start dues
    ++ end_text (behind_all (at_start 0 start.state) (events_from 0 dues)).step (length dues)
unfolding text_so_far recording_text
so_far_whole version split pages start dues =
    let b = at_start 0 start.state in
    let header = header_text (header_of (taped version split pages start dues)) in
    let memory = pages_text start.memory pages in
    ap (λ (t : List ℕ). header ++ (memory ++ t)) (records_by_parts b (events_from 0 dues) (length dues))
    ∙ behind_front header memory (events_text b (events_from 0 dues)) _

pub so_far_begins : (version : ℕ) (split : Bool) (pages : ℕ) (start : MachineState) (dues more : List Due)
    → Begins (text_so_far version split pages start dues)
    (recording_text (taped version split pages start (dues ++ more)))
unfolding text_so_far recording_text
so_far_begins version split pages start dues more =
    let b = at_start 0 start.state in
    let header = header_text (header_of (taped version split pages start dues)) in
    let memory = pages_text start.memory pages in
    let xs = events_from 0 dues in
    let ys = events_from (0 + length dues) more in
    let end = end_text (behind_all b (events_from 0 (dues ++ more))).step (length (dues ++ more)) in
    record {
      rest = events_text (behind_all b xs) ys ++ end;
      parts =
          ap (λ (t : List ℕ). header ++ (memory ++ t))
          (records_by_parts b (events_from 0 (dues ++ more)) (length (dues ++ more))
          ∙ ap (λ (t : List ℕ). t ++ end) (ap (events_text b) (events_on 0 dues more) ∙ text_on b xs ys)
          ∙ append_assoc (events_text b xs) (events_text (behind_all b xs) ys) end)
          ∙ behind_front header memory (events_text b xs) (events_text (behind_all b xs) ys ++ end);
    }
