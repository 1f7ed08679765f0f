-- The slice of a program by its calls: it depends on what the steps show of the program alone, and `replay` goes through
-- it.
use Rattle.std.proofs.Common.{◌≡◌, ℕ, List, Option, None, ap, sym, ◌∙◌}
use Rattle.cx_calls.specs.Begun.{calls_text}
use Rattle.cx_hart.specs.HartStep.{hart_step}
use Rattle.cx_map.specs.Bytes.{AreBytes}
use Rattle.cx_replay.specs.Records.{MayBeWhole}
use Rattle.cx_run.specs.FirstBad.{first_bad}
use Rattle.cx_commands.specs.Calls.{calling, whole_calls}
use Rattle.cx_commands.specs.Doing.{Answers, Leaves, there_of}
use Rattle.cx_commands.specs.Observed.{observed_of, occurs_in}
use Rattle.cx_commands.specs.Replay.{replaying}
use Rattle.cx_commands.specs.Streaming.{settled_by, settled_steps}
use Rattle.cx_commands.specs.TraceRoot.{shown_lines, tracing_root}
use Rattle.cx_commands.specs.Window.{DoneAs}
use Rattle.cx_commands.specs.declared.status.Status.{Status}
use Rattle.cx_commands.proofs.Answering.{judged_good}
use Rattle.cx_commands.proofs.CallReplays.{calls_replay}
use Rattle.cx_commands.proofs.Doings.{text_behind}
use Rattle.cx_commands.proofs.Isolated.{done_again, observed_behind}
use Rattle.cx_commands.proofs.Judging.{good_is_begun}
use Rattle.cx_commands.proofs.Sliceable.{good_shows}

pub calls_are : (root : ℕ) (bytes : List ℕ) → (calling root).refusal bytes ≡ None
    → (calling root).full bytes ≡ calls_text (observed_of root bytes)
calls_are root bytes good =
    let both = judged_good (first_bad hart_step bytes) (there_of (λ o s. occurs_in root (settled_steps o s)) bytes)
    good in
    let begun = good_is_begun bytes both.0 in
    text_behind (whole_calls root) bytes begun.0 begun.1 begun.2
    ∙ ap calls_text (sym (observed_behind root bytes begun.0 begun.1 begun.2))

pub calls_alike : (root other_root : ℕ) (bytes other : List ℕ) → (calling root).refusal bytes ≡ None
    → (calling other_root).refusal other ≡ None → observed_of root bytes ≡ observed_of other_root other
    → (calling root).full bytes ≡ (calling other_root).full other
calls_alike root other_root bytes other good good_too same =
    calls_are root bytes good ∙ ap calls_text same ∙ sym (calls_are other_root other good_too)

-- ---- what `replay` makes of it

pub calls_are_replayed : (root : ℕ) (bytes : List ℕ) → AreBytes bytes → (calling root).refusal bytes ≡ None
    → replaying.refusal ((calling root).full bytes) ≡ None
calls_are_replayed root bytes are good =
    let shows = good_shows root bytes are good in
    ap replaying.refusal (text_behind (whole_calls root) bytes shows.opened shows.place shows.begun)
    ∙ (calls_replay _ shows.can).refusal

pub called_lines : (root : ℕ) (bytes : List ℕ) → AreBytes bytes → (calling root).refusal bytes ≡ None
    → replaying.full ((calling root).full bytes) ≡ (tracing_root root).full bytes
called_lines root bytes are good =
    let shows = good_shows root bytes are good in
    ap replaying.full (text_behind (whole_calls root) bytes shows.opened shows.place shows.begun)
    ∙ (calls_replay _ shows.can).full
    ∙ sym (text_behind (settled_by (shown_lines root)) bytes shows.opened shows.place shows.begun)

pub called_as : (root : ℕ) (bytes text given input : List ℕ) (left held now : Option (List ℕ)) (answer : Status)
    → AreBytes bytes → (calling root).refusal bytes ≡ None → text ≡ (calling root).full bytes
    → MayBeWhole left given input → Answers replaying text (MayBeWhole left given input) (input ≡ given) answer
    → Leaves replaying text (MayBeWhole left given input) (input ≡ given) answer held now
    → DoneAs (tracing_root root) bytes held now answer
called_as root bytes text given input left held now answer are good written =
    done_again replaying (tracing_root root) text bytes (MayBeWhole left given input) (input ≡ given) held now answer
    (ap replaying.refusal written ∙ calls_are_replayed root bytes are good)
    (ap replaying.full written ∙ called_lines root bytes are good)
