-- The text of more steps begins with that of the first.
use Rattle.std.specs.Prelude.{◌≡◌, true, false, ℕ, zero, suc, ◌+◌, ◌≤◌, ◌==◌, ◌&&◌, not, List, [], ◌∷◌, ◌++◌, length}
use Rattle.std.proofs.Common.{append_assoc, arith, ap, length-append, sym, subst, ◌∙◌, refl}
use Rattle.std.proofs.lemmas.List.{append-nil}
use Rattle.cx_calls.specs.Begun.{calls_added, calls_begun}
use Rattle.cx_calls.proofs.Growing.{begins, grows}
use Rattle.cx_codec.specs.Blocks.{whole}
use Rattle.cx_codec.specs.Reads.{Begins}
use Rattle.cx_hart.specs.declared.record.StepRec.{StepRec}
use Rattle.cx_log.specs.Order.{InOrder}
use Rattle.cx_log.specs.declared.order.Behind.{Behind}
use Rattle.cx_log.specs.Recording.{Recorded}
use Rattle.cx_log.specs.Reading.{Opened}
use Rattle.cx_log.specs.Scan.{Scan}
use Rattle.cx_observe.specs.declared.obs.Obs.{Obs}
use Rattle.cx_print.specs.Lines.{step_line}
use Rattle.cx_process.specs.Slicing.{added_text}
use Rattle.cx_process.proofs.Standing.{body_grows}
use Rattle.cx_slicefmt.specs.Text.{slice_body}
use Rattle.cx_run.specs.Due.{due_at}
use Rattle.cx_run.specs.StepEvents.{has_mark, step_events}
use Rattle.cx_run.specs.Window.{events_between}
use Rattle.cx_run.proofs.StepEvents.{step_more}
use Rattle.cx_run.specs.SoFar.{behind_all, events_text}
use Rattle.cx_run.proofs.TextSoFar.{text_on}
use Rattle.cx_commands.specs.Process.{slice_begun}
use Rattle.cx_commands.specs.Streaming.{IsOrdered}
use Rattle.cx_commands.specs.Upgrade.{first_events, front_text, start_of_records, upgrade_text}
use Rattle.cx_commands.specs.Trace.{line_text, lines_from}

pub lines_on : (step : ℕ) (xs ys : List StepRec)
    → lines_from step (xs ++ ys) ≡ lines_from step xs ++ lines_from (step + length xs) ys
lines_on step [] ys = ap (λ (n : ℕ). lines_from n ys) (omega arith)
lines_on step (rec ∷ xs) ys =
    let next : suc step + length xs ≡ step + length (rec ∷ xs) = omega arith in
    ap (λ (t : List ℕ). step_line step rec ++ t)
    (lines_on (suc step) xs ys ∙ ap (λ (n : ℕ). lines_from (suc step) xs ++ lines_from n ys) next)
    ∙ sym (append_assoc (step_line step rec) (lines_from (suc step) xs) (lines_from (step + length (rec ∷ xs)) ys))

pub line_more : (step : ℕ) (xs : List StepRec) (rec : StepRec)
    → lines_from step (xs ++ rec ∷ []) ≡ lines_from step xs ++ step_line (step + length xs) rec
line_more step xs rec =
    lines_on step xs (rec ∷ []) ∙ ap (λ (t : List ℕ). lines_from step xs ++ t)
    (append-nil (step_line (step + length xs) rec))

pub lines_grow : (o : Opened) (s : Scan) (xs ys : List StepRec) → IsOrdered o s
    → Begins (line_text o s xs) (line_text o s (xs ++ ys))
lines_grow o s xs ys ordered = record {
  rest = lines_from (o.header.base + length xs) ys;
  parts = lines_on o.header.base xs ys;
}

-- ---- what is sought

-- what is always there is never missing
pub never_missing : {X : Type 0} → true ≡ false → X
never_missing never = absurd (true_is_not_false never)
  where
    true_is_not_false : true ≡ false → ⊥
    true_is_not_false same = cc

-- ---- slices

-- where each observation adds something, the text of more begins with that of fewer
begun_grows : (text : List Obs → List ℕ) (added : List Obs → Obs → List ℕ)
    → ((os : List Obs) (o : Obs) → text (os ++ o ∷ []) ≡ text os ++ added os o) → (os more : List Obs)
    → Begins (text os) (text (os ++ more))
begun_grows text added adds os [] = record { rest = []; parts = ap text (append-nil os) ∙ sym (append-nil (text os)) }
begun_grows text added adds os (o ∷ more) =
    let rest = begun_grows text added adds (os ++ o ∷ []) more in
    record {
      rest = added os o ++ rest.rest;
      parts = ap text (sym (append_assoc os (o ∷ []) more))
          ∙ rest.parts ∙ ap (λ (t : List ℕ). t ++ rest.rest) (adds os o)
          ∙ append_assoc (text os) (added os o) rest.rest;
    }

pub slice_grows : (os more : List Obs) → Begins (slice_begun os) (slice_begun (os ++ more))
slice_grows = begun_grows slice_begun added_text body_grows

pub call_slice_grows : (os more : List Obs) → Begins (calls_begun os) (calls_begun (os ++ more))
call_slice_grows = begun_grows calls_begun calls_added grows

-- nothing but the magic stands before the first observation, and that fills no block
pub slice_unwritten : whole (slice_begun []) ≡ []
unfolding whole slice_body
slice_unwritten = refl

pub call_slice_unwritten : whole (calls_begun []) ≡ []
unfolding whole
call_slice_unwritten = ap whole begins

-- ---- records

-- the records of so many steps more
steps_more : (pages a n count : ℕ) (behind : Behind) (events : List Recorded) (end : ℕ)
    → InOrder pages behind events end → a ≤ n
    → (more : List Recorded) × (events_between a (n + count) events ≡ events_between a n events ++ more)
steps_more pages a n zero behind events end order from =
    let same : n + zero ≡ n = omega arith in
    ([], ap (λ (m : ℕ). events_between a m events) same ∙ sym (append-nil (events_between a n events)))
steps_more pages a n (suc count) behind events end order from =
    let rest = steps_more pages a n count behind events end order from in
    let at : ℕ = n + count in
    let here : List Recorded = step_events at (not (at == a) && has_mark at events) (due_at events at) in
    let next : n + suc count ≡ suc at = omega arith in (
      rest.0 ++ here,
      ap (λ (m : ℕ). events_between a m events) next
          ∙ step_more pages a at behind events end order (omega (arith, from))
          ∙ ap (λ (xs : List Recorded). xs ++ here) rest.1 ∙ append_assoc (events_between a n events) rest.0 here,
    )

pub upgrade_grows : (o : Opened) (s : Scan) (xs ys : List StepRec) → IsOrdered o s
    → Begins (upgrade_text o s xs) (upgrade_text o s (xs ++ ys))
upgrade_grows o s xs ys ordered =
    let base : ℕ = o.header.base in
    let front : List ℕ = front_text o.header o.memory in
    let first : List Recorded = first_events o s (length xs) in
    let count : base + length (xs ++ ys) ≡ (base + length xs) + length ys = omega (arith, length-append xs ys) in
    let more = steps_more o.header.pages base (base + length xs) (length ys) (start_of_records o) s.events ordered.end
    ordered.order (omega arith) in
    let all : first_events o s (length (xs ++ ys)) ≡ first ++ more.0 =
    ap (λ (m : ℕ). events_between base m s.events) count ∙ more.1 in
    record {
      rest = events_text (behind_all (start_of_records o) first) more.0;
      parts = ap (λ (es : List Recorded). front ++ events_text (start_of_records o) es) all
          ∙ ap (λ (t : List ℕ). front ++ t) (text_on (start_of_records o) first more.0)
          ∙ sym (append_assoc front (events_text (start_of_records o) first) _);
    }
