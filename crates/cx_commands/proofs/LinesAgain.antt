-- The lines of a window's steps, as the steps of its slice run again.
use Rattle.std.proofs.Common.{◌≡◌, ℕ, ◌+◌, ◌-◌, ◌<◌, ◌≤◌, List, [], take, drop, Option, None, Some, arith, refl, ap}
use Rattle.std.proofs.Common.{sym, subst, ◌∙◌}
use Rattle.std.proofs.lemmas.List.{append-nil, drop-take}
use Rattle.std.specs.Io.KnownBytes.{Appends}
use Rattle.cx_codec.specs.Blocks.{HasFront}
use Rattle.cx_codec.specs.Reads.{Begins}
use Rattle.cx_codec.proofs.Putting.{nothing_put}
use Rattle.cx_hart.specs.HartStep.{hart_step}
use Rattle.cx_hart.specs.Reads.{read_indices}
use Rattle.cx_hart.specs.declared.record.StepRec.{StepRec}
use Rattle.cx_hart.proofs.SameStep.{is_framed}
use Rattle.cx_hart.proofs.StepKeeps.{keeps_machine}
use Rattle.cx_hart.proofs.StepSizes.{sets_lines}
use Rattle.cx_log.specs.Order.{InOrder, at_start}
use Rattle.cx_log.specs.Reading.{Opened}
use Rattle.cx_log.specs.Recording.{Recording}
use Rattle.cx_log.specs.Scan.{Scan, decoded}
use Rattle.cx_replay.specs.KeptRecords.{scan_of}
use Rattle.cx_replay.specs.Records.{MayBeWhole}
use Rattle.cx_run.specs.FirstBad.{bad_behind, carried}
use Rattle.cx_run.specs.Run.{Run, run_of}
use Rattle.cx_run.proofs.Accepted.{window_is_accepted}
use Rattle.cx_run.proofs.BuiltSteps.{built_steps-whole}
use Rattle.cx_run.proofs.Runs.{run_of-front, some_run}
use Rattle.cx_window.specs.Cut.{CutsOff, IsJudged}
use Rattle.cx_window.specs.Slice.{Sliced, opened_of, written_of}
use Rattle.cx_window.proofs.Again.{runs_again}
use Rattle.cx_commands.specs.Streaming.{IsAll, IsOrdered, IsRun, StopsTelling, Told, records_of, settled_by}
use Rattle.cx_commands.specs.Streaming.{settled_steps}
use Rattle.cx_commands.specs.Trace.{line_text, lines_from}
use Rattle.cx_commands.specs.TraceWindow.{window_lines}
use Rattle.cx_commands.specs.declared.status.Status.{Status}
use Rattle.cx_commands.specs.declared.status.Status.TheVariants as status
use Rattle.cx_commands.proofs.Streams.{whole_front}

-- ---- the records

-- all steps are settled of a recording whose whole run is there
pub steps_of : (R : Recording) (n : ℕ) (run : Run StepRec) → R.end - R.base ≡ n
    → run_of (hart_step R.split) R n ≡ Some run
    → records_of (run_of (hart_step R.split) R (carried hart_step R)) ≡ run.records
steps_of R n run long is =
    let all : carried hart_step R ≡ n =
    (built_steps-whole (hart_step R.split) R (R.end - R.base)).1 (rw (long, is) refl) ∙ long in
    rw (all, is) refl

-- the records from a on, of the run up to b and of the whole run
between : (R : Recording) (a b : ℕ) (run all : Run StepRec) → R.base ≤ a → a < b → b ≤ R.end
    → run_of (hart_step R.split) R (b - R.base) ≡ Some run
    → run_of (hart_step R.split) R (R.end - R.base) ≡ Some all
    → drop (a - R.base) run.records ≡ take (b - a) (drop (a - R.base) all.records)
between R a b run all from some to is whole =
    let fewer : b - R.base ≤ R.end - R.base = omega (arith, to) in
    let parts : b - R.base ≡ (a - R.base) + (b - a) = omega (arith, from, some) in
    let first : run.records ≡ take (b - R.base) all.records =
    rw is at (run_of-front (hart_step R.split) R (b - R.base) (R.end - R.base) all fewer whole) in
    ap (drop (a - R.base)) first ∙ ap (λ (n : ℕ). drop (a - R.base) (take n all.records)) parts
    ∙ drop-take (a - R.base) (b - a) all.records

window_steps : (o : Opened) (whole : Scan) (a b : ℕ) (s : Sliced) → IsJudged o whole → CutsOff o whole a b s
    → settled_steps (opened_of s) (scan_of s.events s.to)
    ≡ take (b - a) (drop (a - o.header.base) (settled_steps o whole))
window_steps o whole a b s judged cuts =
    let again = runs_again o whole a b s cuts in
    let long : s.to - s.header.base ≡ b - a = omega (arith, again.from, again.to) in
    let all = some_run (run_of (hart_step o.header.split) (decoded o whole) (whole.upto - o.header.base))
    (judged cuts.good).unbroken in
    let here : settled_steps (opened_of s) (scan_of s.events s.to) ≡ drop (a - o.header.base) again.run.records =
    steps_of (decoded (opened_of s) (scan_of s.events s.to)) (b - a) _ long again.again in
    let there : settled_steps o whole ≡ all.0.records =
    steps_of (decoded o whole) (whole.upto - o.header.base) all.0 refl all.1 in
    here
    ∙ between (decoded o whole) a b again.run all.0 cuts.window.from cuts.window.some cuts.window.to again.up_to_b all.1
    ∙ ap (λ (xs : List StepRec). take (b - a) (drop (a - o.header.base) xs)) (sym there)

pub lines_again : (o : Opened) (whole : Scan) (a b : ℕ) (s : Sliced) → IsJudged o whole → CutsOff o whole a b s
    → settled_by line_text (opened_of s) (scan_of s.events s.to) ≡ window_lines a b o whole
lines_again o whole a b s judged cuts =
    ap (λ (n : ℕ). lines_from n (settled_steps (opened_of s) (scan_of s.events s.to)))
    (runs_again o whole a b s cuts).from
    ∙ ap (lines_from a) (window_steps o whole a b s judged cuts)

-- ---- the order of what was kept

abbrev IsInOrder : Sliced → Type 0
IsInOrder s = InOrder s.header.pages (at_start s.header.base s.header.start) s.events s.to

slice_order : (o : Opened) (whole : Scan) (a b : ℕ) (s : Sliced) → IsJudged o whole → CutsOff o whole a b s
    → IsInOrder s
slice_order o whole a b s judged cuts =
    (window_is_accepted (hart_step o.header.split) read_indices (decoded o whole) (written_of s) a b
    (is_framed o.header.split) (keeps_machine o.header.split) (sets_lines o.header.split) (judged cuts.good).rules
    cuts.window).rules.events

pub slice_ordered : (o : Opened) (whole : Scan) (a b : ℕ) (s : Sliced) → IsJudged o whole → CutsOff o whole a b s
    → IsOrdered (opened_of s) (scan_of s.events s.to)
slice_ordered o whole a b s judged cuts =
    record { end = s.to; order = slice_order o whole a b s judged cuts; upto = omega arith }

pub slice_is_all : (o : Opened) (whole : Scan) (a b : ℕ) (s : Sliced) (given : List StepRec) (at : ℕ) (may : Type 0)
    → IsJudged o whole → CutsOff o whole a b s → IsRun (opened_of s) (scan_of s.events s.to) given at may
    → IsAll (opened_of s) (scan_of s.events s.to) given at
slice_is_all o whole a b s given at may judged cuts run = record {
  order = slice_order o whole a b s judged cuts;
  all = run.all;
  count = run.count;
  ends = run.count ∙ sym run.gave;
}

-- where nothing is bad, a front was written of what is settled, whatever the answer
stops_good : (o : Opened) (s : Scan) (text : List ℕ) (end : ℕ) (may cut : Type 0) (base held : Option (List ℕ))
    (e : Status) → bad_behind hart_step o s ≡ None → may → cut → StopsTelling o s text end may cut base held e
    → HasFront base text held
stops_good o s text end may cut base held (status.Format f) good m c stops = let never = sym good ∙ (stops m).0 in cc
stops_good o s text end may cut base held (status.Broken n) good m c stops = let never = sym good ∙ stops.0 in cc
stops_good o s text end may cut base held status.ReadFault good m c stops = whole_front base held text (stops c).1
stops_good o s text end may cut base held status.WriteFault good m c stops = stops
stops_good o s text end may cut base held status.NoMemory good m c stops = stops
stops_good o s text end may cut base held status.Done good m c stops = absurd stops
stops_good o s text end may cut base held status.Usage good m c stops = absurd stops
stops_good o s text end may cut base held status.NotThere good m c stops = absurd stops
stops_good o s text end may cut base held status.WorldFault good m c stops = absurd stops
stops_good o s text end may cut base held (status.NotBuilt n) good m c stops = absurd stops

-- ---- what was written

pub again_front : (o : Opened) (whole : Scan) (a b : ℕ) (s : Sliced) (base held : Option (List ℕ)) → IsJudged o whole
    → CutsOff o whole a b s
    → HasFront base (settled_by line_text (opened_of s) (scan_of s.events s.to)) held
    → HasFront base (window_lines a b o whole) held
again_front o whole a b s base held judged cuts front =
    subst (λ (text : List ℕ). HasFront base text held) (lines_again o whole a b s judged cuts) front

pub again_all : (o : Opened) (whole : Scan) (a b : ℕ) (s : Sliced) (base held : Option (List ℕ)) → IsJudged o whole
    → CutsOff o whole a b s
    → Appends base held (settled_by line_text (opened_of s) (scan_of s.events s.to))
    → Appends base held (window_lines a b o whole)
again_all o whole a b s base held judged cuts all =
    subst (λ (text : List ℕ). Appends base held text) (lines_again o whole a b s judged cuts) all

-- a source that has these bytes left gave those of the input, and no more
pub again_stops : (o : Opened) (whole : Scan) (a b : ℕ) (s : Sliced) (end : ℕ) (left : Option (List ℕ))
    (given : List ℕ) (base held : Option (List ℕ)) (e : Status) → IsJudged o whole → CutsOff o whole a b s
    → StopsTelling (opened_of s) (scan_of s.events s.to) (settled_by line_text (opened_of s) (scan_of s.events s.to))
    end (MayBeWhole left given given) (given ≡ given) base held e
    → HasFront base (window_lines a b o whole) held
again_stops o whole a b s end left given base held e judged cuts stops =
    again_front o whole a b s base held judged cuts
    (stops_good (opened_of s) (scan_of s.events s.to) (settled_by line_text (opened_of s) (scan_of s.events s.to)) end
    (MayBeWhole left given given) (given ≡ given) base held e (runs_again o whole a b s cuts).good (λ spent. refl) refl
    stops)

pub begins_itself : (text : List ℕ) → Begins text text
begins_itself text = record { rest = []; parts = sym (append-nil text) }

pub none_told : (base : Option (List ℕ)) (waiting : List ℕ) → waiting ≡ [] → Told base [] waiting base (Unit {0})
none_told base waiting none = record { stands = rw none (nothing_put base); keeps = tt }
