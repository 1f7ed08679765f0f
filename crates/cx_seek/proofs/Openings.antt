-- A recording that was read to its end.
use Rattle.std.proofs.Common.{◌≡◌, ℕ, ◌-◌, List, [], drop, length, Option, Some, IsSome, refl, sym}
use Rattle.std.proofs.Common.{ap, subst, ◌∙◌, arith}
use Rattle.std.proofs.lemmas.Option.{slice_get_within}
use Rattle.cx_hart.specs.HartStep.{hart_step}
use Rattle.cx_hart.specs.Whole.{Whole, machine_of}
use Rattle.cx_log.specs.Reading.{Opened}
use Rattle.cx_log.specs.Recording.{Recording}
use Rattle.cx_log.specs.Scan.{Scan, decoded}
use Rattle.cx_log.specs.declared.header.Header.{Header}
use Rattle.cx_machine.specs.Machine.{MachineState}
use Rattle.cx_ram.specs.PhysicalMemory.{SavedMemory}
use Rattle.cx_replay.specs.Replaying.{Stands}
use Rattle.cx_replay.specs.declared.progress.Progress.{Progress}
use Rattle.cx_run.specs.Run.{run_of}
use Rattle.cx_seek.specs.Checkpoints.{AreCheckpoints, AreHeld, IsMachineAt, Saves}
use Rattle.cx_seek.specs.Dues.{Hands, Noted}
use Rattle.cx_seek.specs.Interval.{interval}
use Rattle.cx_seek.specs.Keeping.{HasEnded, IsKept, Keeps}
use Rattle.cx_seek.specs.Opening.{HasOpened, course_of}
use Rattle.cx_seek.specs.Seeking.{IsOf, Seeking}
use Rattle.cx_seek.specs.declared.checkpoint.Checkpoint.{Checkpoint}
use Rattle.cx_seek.specs.declared.keeping.Keeping.{Keeping}
use Rattle.cx_seek.proofs.Hands.{hands_first}
use Rattle.cx_seek.proofs.Held.{held_saved}
use Rattle.cx_seek.proofs.Intervals.{interval-first}
use Rattle.cx_seek.proofs.KeptRuns.{keeps_saved, machine_there}
use Rattle.cx_seek.proofs.Spacing.{first_spaced}

-- ---- before the first step

none_held : (pages : ℕ) (saved : List (Option SavedMemory)) → AreHeld pages saved []
none_held pages saved = record {
  held = λ j c is. (let h = slice_get_within [] j c is in absurd (omega arith));
  apart = λ i j c d at_i at_j same. (let h = slice_get_within [] i c at_i in absurd (omega arith));
}

pub first_kept : (pages paged next taken : ℕ) (m : MachineState) (before now : List (Option SavedMemory))
    (old new : Keeping) → old.checkpoints.items ≡ [] → old.distance ≡ 1024
    → Saves paged next m before now old.checkpoints.items new.checkpoints.items → paged ≡ pages
    → new.distance ≡ old.distance → taken ≡ 0 → IsKept pages taken now new
first_kept pages paged next taken m before now old new none least saves same distance start =
    let saved : Saves pages next m before now [] new.checkpoints.items =
    subst (λ (n : ℕ). Saves n next m before now [] new.checkpoints.items) same
    (subst (λ (xs : List Checkpoint). Saves paged next m before now xs new.checkpoints.items) none saves) in
    let one : length new.checkpoints.items ≡ 1 = ap length saved.more in
    let apart : new.distance ≡ 1024 = distance ∙ least in
    record {
      held = held_saved pages next m before now [] new.checkpoints.items saved (none_held pages before);
      distance = apart ∙ sym interval-first ∙ ap interval (sym start);
      spaced = rw (start, one, apart) first_spaced;
    }

first_keeps : (R : Recording) (paged next at : ℕ) (m : MachineState) (before now : List (Option SavedMemory))
    (old new : Keeping) → old.checkpoints.items ≡ []
    → Saves paged next m before now old.checkpoints.items new.checkpoints.items → new.notes ≡ old.notes
    → next ≡ length old.notes → at ≡ R.base → IsMachineAt R at m → Keeps R now at new
first_keeps R paged next at m before now old new none saves notes behind start there =
    let saved : Saves paged next m before now [] new.checkpoints.items =
    subst (λ (xs : List Checkpoint). Saves paged next m before now xs new.checkpoints.items) none saves in
    subst (λ (xs : List Noted). AreCheckpoints R now xs at new.distance new.checkpoints.items) (sym notes)
    (keeps_saved R 0 paged next m before now old.notes at new.distance [] new.checkpoints.items saved
    (none_held 0 before) behind (omega arith) there
    (λ j c is. (let h = slice_get_within [] j c is in absurd (omega arith))))

pub first_keeps_of : (o : Opened) (whole : Scan) (paged next : ℕ) (m : Whole) (p p' : Progress) (bytes : List ℕ)
    (Has : Scan → Type 0) (now : List (Option SavedMemory)) (old new : Keeping) → old.checkpoints.items ≡ []
    → Saves paged next (machine_of m) m.saved now old.checkpoints.items new.checkpoints.items → new.notes ≡ old.notes
    → next ≡ length old.notes → p' ≡ p → p.at ≡ o.header.base → Stands o whole [] m p bytes Has
    → Keeps (decoded o whole) now p'.at new
first_keeps_of o whole paged next m p p' bytes Has now old new none saves notes behind same start stands =
    subst (λ (q : Progress). Keeps (decoded o whole) now q.at new) (sym same)
    (first_keeps (decoded o whole) paged next p.at (machine_of m) m.saved now old new none saves notes behind start
    (machine_there o whole [] m p bytes Has stands))

-- ---- at the end

is_there : {X : Type 0} (o : Option X) (x : X) → o ≡ Some x → IsSome o
is_there o x is = subst IsSome (sym is) refl

pub opened_at_end : (o : Opened) (whole : Scan) (header : Header) (at : ℕ) (m : Whole) (kept : Keeping) (s : Seeking)
    → o.header ≡ header → HasEnded o whole at m kept
    → s ≡ record {
      course = course_of header at kept;
      player = record { machine = m; at = at; next = length kept.notes };
    } → HasOpened o whole s
opened_at_end o whole header at m kept s is ended made =
    subst (HasOpened o whole) (sym made) (record { good = ended.good; seeks = seeks; at = ended.ran.ends })
  where
    ends : at ≡ whole.upto
    ends = ended.ran.ends

    count : whole.upto - o.header.base ≡ length ended.ran.given
    count = let all = ended.ran.all in omega (arith, all)

    run : run_of (hart_step o.header.split) (decoded o whole) (whole.upto - o.header.base)
        ≡ Some (record { machine = machine_of m; records = ended.ran.given })
    run = ap (run_of (hart_step o.header.split) (decoded o whole)) count ∙ ended.ran.run

    seeks : IsOf (decoded o whole) (record {
      course = course_of header at kept;
      player = record { machine = m; at = at; next = length kept.notes };
    })
    seeks = record {
      run = record {
        base = ap (λ (h : Header). h.base) (sym is);
        end = ends;
        pages = ap (λ (h : Header). h.pages) (sym is);
        split = ended.ran.split;
        unbroken = is_there (run_of (hart_step o.header.split) (decoded o whole) (whole.upto - o.header.base))
            (record { machine = machine_of m; records = ended.ran.given }) run;
        checkpoints = subst (λ (n : ℕ). AreCheckpoints (decoded o whole) m.saved kept.notes n kept.distance
            kept.checkpoints.items) ends ended.ran.keeps;
      };
      stands = record {
        there = record {
          run = record { machine = machine_of m; records = ended.ran.given };
          there = ap (λ (n : ℕ). run_of (hart_step o.header.split) (decoded o whole) (n - o.header.base)) ends ∙ run;
          is = refl;
        };
        hands = subst (λ (n : ℕ). Hands whole.events at n (drop (length kept.notes) kept.notes)) ends
            (hands_first whole.events at kept.notes);
      };
    }
