-- The slice of a program: it depends on what the steps show of the program alone, and `replay` goes through it.
use Rattle.std.proofs.Common.{◌≡◌, ℕ, List, Option, None, Ok, refl, ap, sym, ◌∙◌}
use Rattle.cx_codec.specs.Place.{Place}
use Rattle.cx_hart.specs.HartStep.{hart_step}
use Rattle.cx_log.specs.Reading.{Opened, start_of}
use Rattle.cx_map.specs.Bytes.{AreBytes}
use Rattle.cx_replay.specs.Records.{MayBeWhole}
use Rattle.cx_run.specs.FirstBad.{first_bad}
use Rattle.cx_commands.specs.Doing.{Answers, Doing, Leaves, there_of}
use Rattle.cx_commands.specs.Observed.{observed_by, observed_in, observed_of, occurs_in}
use Rattle.cx_commands.specs.Opening.{begun_at, scan_from}
use Rattle.cx_commands.specs.Process.{process_full, slice_of, slicing}
use Rattle.cx_commands.specs.Replay.{replaying}
use Rattle.cx_commands.specs.Streaming.{settled_by, settled_steps}
use Rattle.cx_commands.specs.TraceRoot.{shown_lines, tracing_root}
use Rattle.cx_commands.specs.Window.{DoneAs}
use Rattle.cx_commands.specs.declared.status.Status.{Status}
use Rattle.cx_commands.specs.declared.status.Status.TheVariants as status
use Rattle.cx_commands.proofs.Answering.{judged_good}
use Rattle.cx_commands.proofs.Doings.{text_behind}
use Rattle.cx_commands.proofs.Judging.{begun_mid, good_is_begun}
use Rattle.cx_commands.proofs.Nested.{done_as}
use Rattle.cx_commands.proofs.SliceReplays.{slice_replays}
use Rattle.cx_commands.proofs.Sliceable.{good_shows}

pub observed_behind : (root : ℕ) (bytes : List ℕ) (o : Opened) (p : Place) → begun_at (start_of bytes) ≡ Ok (o, p)
    → observed_of root bytes ≡ observed_by root o (scan_from o p)
unfolding observed_of
observed_behind root bytes o p begun =
    let b = begun_mid bytes o p begun in
    ap (observed_in root) b.opened ∙ ap (λ (q : Place). observed_by root o (scan_from o q)) (sym b.is)

pub slice_is : (root : ℕ) (bytes : List ℕ) → (slicing root).refusal bytes ≡ None
    → (slicing root).full bytes ≡ slice_of (observed_of root bytes)
slice_is root bytes good =
    let both = judged_good (first_bad hart_step bytes) (there_of (λ o s. occurs_in root (settled_steps o s)) bytes)
    good in
    let begun = good_is_begun bytes both.0 in
    text_behind (process_full root) bytes begun.0 begun.1 begun.2
    ∙ ap slice_of (sym (observed_behind root bytes begun.0 begun.1 begun.2))

pub slices_alike : (root other_root : ℕ) (bytes other : List ℕ) → (slicing root).refusal bytes ≡ None
    → (slicing other_root).refusal other ≡ None → observed_of root bytes ≡ observed_of other_root other
    → (slicing root).full bytes ≡ (slicing other_root).full other
slices_alike root other_root bytes other good good_too same =
    slice_is root bytes good ∙ ap slice_of same ∙ sym (slice_is other_root other good_too)

-- ---- what `replay` makes of it

pub slice_is_replayed : (root : ℕ) (bytes : List ℕ) → AreBytes bytes → (slicing root).refusal bytes ≡ None
    → replaying.refusal ((slicing root).full bytes) ≡ None
slice_is_replayed root bytes are good =
    let shows = good_shows root bytes are good in
    ap replaying.refusal (text_behind (process_full root) bytes shows.opened shows.place shows.begun)
    ∙ (slice_replays _ shows.can).refusal

pub lines_are_replayed : (root : ℕ) (bytes : List ℕ) → AreBytes bytes → (slicing root).refusal bytes ≡ None
    → replaying.full ((slicing root).full bytes) ≡ (tracing_root root).full bytes
lines_are_replayed root bytes are good =
    let shows = good_shows root bytes are good in
    ap replaying.full (text_behind (process_full root) bytes shows.opened shows.place shows.begun)
    ∙ (slice_replays _ shows.can).full
    ∙ sym (text_behind (settled_by (shown_lines root)) bytes shows.opened shows.place shows.begun)

-- ---- a call on what a call wrote

-- what one command appends of an input is what another writes of another
done_too : (d e : Doing) (one other : List ℕ) (held now : Option (List ℕ)) (answer : Status) → d.full one ≡ e.full other
    → DoneAs d one held now answer → DoneAs e other held now answer
done_too d e one other held now status.Done same done = rw same at done
done_too d e one other held now status.ReadFault same done = tt
done_too d e one other held now status.WriteFault same done = tt
done_too d e one other held now status.WorldFault same done = tt
done_too d e one other held now status.NoMemory same done = tt
done_too d e one other held now status.Usage same done = absurd done
done_too d e one other held now status.NotThere same done = absurd done
done_too d e one other held now (status.Format o) same done = absurd done
done_too d e one other held now (status.Broken n) same done = absurd done
done_too d e one other held now (status.NotBuilt n) same done = absurd done

-- what a call appends of an input that isn't refused, if another command writes the same of another input
pub done_again : (d e : Doing) (text bytes : List ℕ) (whole cut : Type 0) (held now : Option (List ℕ)) (answer : Status)
    → d.refusal text ≡ None → d.full text ≡ e.full bytes → whole → Answers d text whole cut answer
    → Leaves d text whole cut answer held now → DoneAs e bytes held now answer
done_again d e text bytes whole cut held now answer good same h says leaves =
    done_too d e text bytes held now answer same
    (done_as d text text whole cut held now answer (record { good = good; other_good = good; same = refl }) h says leaves)

pub replayed_as : (root : ℕ) (bytes text given input : List ℕ) (left held now : Option (List ℕ)) (answer : Status)
    → AreBytes bytes → (slicing root).refusal bytes ≡ None → text ≡ (slicing root).full bytes
    → MayBeWhole left given input → Answers replaying text (MayBeWhole left given input) (input ≡ given) answer
    → Leaves replaying text (MayBeWhole left given input) (input ≡ given) answer held now
    → DoneAs (tracing_root root) bytes held now answer
replayed_as root bytes text given input left held now answer are good written =
    done_again replaying (tracing_root root) text bytes (MayBeWhole left given input) (input ≡ given) held now answer
    (ap replaying.refusal written ∙ slice_is_replayed root bytes are good)
    (ap replaying.full written ∙ lines_are_replayed root bytes are good)
