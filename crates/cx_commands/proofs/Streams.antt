-- The steps of a replay, told one by one.
use Rattle.std.proofs.Common.{◌≡◌, ℕ, ◌+◌, ◌-◌, ◌*◌, ◌/◌, ◌≤◌, List, ◌++◌, length, Bool}
use Rattle.std.proofs.Common.{Option, None, Some, Ok, Err, arith, refl, ap, sym, subst, ◌∙◌}
use Rattle.std.specs.Io.KnownBytes.{Appends}
use Rattle.cx_codec.specs.Blocks.{HasFront, StandsFor, whole as whole_blocks}
use Rattle.cx_codec.specs.Reads.{Begins}
use Rattle.cx_codec.specs.declared.fault.OutFault.{OutFault}
use Rattle.cx_codec.specs.declared.fault.OutFault.TheVariants.{WriteFault as write_fault, NoMemory as no_room}
use Rattle.cx_codec.proofs.Blocks.{front_longer}
use Rattle.cx_hart.specs.HartStep.{hart_step}
use Rattle.cx_hart.specs.Whole.{Whole, machine_of}
use Rattle.cx_hart.specs.declared.record.StepRec.{StepRec}
use Rattle.cx_log.specs.Reading.{Opened}
use Rattle.cx_log.specs.Recording.{Recording}
use Rattle.cx_log.specs.Scan.{Scan, decoded}
use Rattle.cx_machine.specs.Due.{Due}
use Rattle.cx_replay.specs.Replaying.{Answers, Stands}
use Rattle.cx_replay.specs.declared.fault.ReplayFault.{ReplayFault}
use Rattle.cx_replay.specs.declared.fault.ReplayFault.TheVariants as replay
use Rattle.cx_replay.specs.declared.progress.Progress.{Progress}
use Rattle.cx_replay.proofs.Reading.{ahead_settles}
use Rattle.cx_replay.proofs.Standing.{carried_all, carried_broken}
use Rattle.cx_run.specs.FirstBad.{Broken, bad_behind, carried}
use Rattle.cx_run.specs.Run.{Run, run_of}
use Rattle.cx_run.proofs.BuiltSteps.{run_of-built_steps, within_built_steps}
use Rattle.cx_run.proofs.Runs.{run_of-begins, some_run}
use Rattle.cx_commands.specs.Faults.{status_of_out, status_of_replay}
use Rattle.cx_commands.specs.Streaming.{IsRun, StopsTelling, records_of, settled_steps}

-- ---- what is settled

run_by_flag : {o : Opened} {whole : Scan} {given : List StepRec} {m : Whole} {p : Progress} {bytes : List ℕ}
    {Has : Scan → Type 0} → Stands o whole given m p bytes Has
    → run_of (hart_step o.header.split) (decoded o whole) (length given)
    ≡ Some (record { machine = machine_of m; records = given })
run_by_flag {o} {whole} {given} {m} stands =
    subst (λ (flag : Bool). run_of (hart_step flag) (decoded o whole) (length given)
    ≡ Some (record { machine = machine_of m; records = given })) stands.split stands.run

settled_are : {o : Opened} {whole : Scan} {given : List StepRec} {m : Whole} {p : Progress} {bytes : List ℕ}
    {Has : Scan → Type 0} → Stands o whole given m p bytes Has → carried hart_step (decoded o whole) ≡ length given
    → given ≡ settled_steps o whole
settled_are {o} {whole} {given} stands count = rw (count, run_by_flag stands) refl

-- the steps that were given are settled
pub given_upto : {o : Opened} {whole : Scan} {given : List StepRec} {m : Whole} {p : Progress} {bytes : List ℕ}
    {Has : Scan → Type 0} → Stands o whole given m p bytes Has → o.header.base + length given ≤ whole.upto
given_upto {o} {whole} {given} {m} {p} stands =
    let upto : p.upto ≤ stands.read.rest.upto = ahead_settles p.ended p.upto stands.read.rest stands.read.ahead in
    let same : whole.upto ≡ stands.read.rest.upto = ap (λ (s : Scan). s.upto) stands.read.parts in
    omega (arith, upto, same, stands.within, stands.count)

within_settled : {o : Opened} {whole : Scan} {given : List StepRec} {m : Whole} {p : Progress} {bytes : List ℕ}
    {Has : Scan → Type 0} → Stands o whole given m p bytes Has → length given ≤ carried hart_step (decoded o whole)
within_settled {o} {whole} {given} stands =
    let R : Recording = decoded o whole in
    within_built_steps (hart_step R.split) R (length given) (R.end - R.base)
    (omega (arith, given_upto stands)) (rw (run_by_flag stands) refl)

-- The settled steps begin with those that were given.
pub settled_begin : {o : Opened} {whole : Scan} {given : List StepRec} {m : Whole} {p : Progress} {bytes : List ℕ}
    {Has : Scan → Type 0} → Stands o whole given m p bytes Has
    → (rest : List StepRec) × (settled_steps o whole ≡ given ++ rest)
settled_begin {o} {whole} {given} {m} stands =
    let R : Recording = decoded o whole in
    let n : ℕ = carried hart_step R in
    let all = some_run (run_of (hart_step R.split) R n) (run_of-built_steps (hart_step R.split) R (R.end - R.base)) in
    let begins = run_of-begins (hart_step R.split) R (length given) n all.0 (within_settled stands) all.1 in
    let same : begins.run.records ≡ given = records_are (sym begins.is ∙ run_by_flag stands) in (
      begins.rest,
      ap records_of all.1 ∙ begins.records ∙ ap (λ (xs : List StepRec). xs ++ begins.rest) same,
    )
  where
    records_are : {a : Run StepRec} → Some a ≡ Some (record { machine = machine_of m; records = given })
        → a.records ≡ given
    records_are {a} e = let same : a ≡ record { machine = machine_of m; records = given } = cc in
        ap (λ (r : Run StepRec). r.records) same

-- ---- what a sink has received

pub front_of : (base held : Option (List ℕ)) (text more : List ℕ) → Begins text more → HasFront base text held
    → HasFront base more held
front_of base held text more begins front = rw begins.parts (front_longer base held text begins.rest front)

-- a text that grows with the steps
abbrev pub Grows : (List StepRec → List ℕ) → Type 0
Grows text = (xs ys : List StepRec) → Begins (text xs) (text (xs ++ ys))

front_settled : {o : Opened} {whole : Scan} {given : List StepRec} {m : Whole} {p : Progress} {bytes : List ℕ}
    {Has : Scan → Type 0} (text : List StepRec → List ℕ) (base held : Option (List ℕ)) → Grows text
    → Stands o whole given m p bytes Has → HasFront base (text given) held
    → HasFront base (text (settled_steps o whole)) held
front_settled {o} {whole} {given} text base held grows stands front =
    let more = settled_begin stands in
    rw more.1 (front_of base held (text given) (text (given ++ more.0)) (grows given more.0) front)

pub whole_front : (base held : Option (List ℕ)) (text : List ℕ) → Appends base held (whole_blocks text)
    → HasFront base text held
unfolding whole_blocks
whole_front base held text written = record {
  count = 4096 * (length text / 4096);
  within = omega arith;
  written = written;
}

pub blocks_front : (base held : Option (List ℕ)) (put waiting : List ℕ) → StandsFor base put waiting held
    → HasFront base put held
blocks_front base held put waiting stands = whole_front base held put stands.written

-- ---- a step, a fault, the end

pub told_fault : {o : Opened} {whole : Scan} {given : List StepRec} {m : Whole} {p : Progress} {bytes : List ℕ}
    {Has : Scan → Type 0} (text : List StepRec → List ℕ) (m' : Whole) (p' : Progress) (bytes' : List ℕ)
    (Has' : Scan → Type 0) (due : Due) (end : ℕ)
    (may cut : Type 0) (base held : Option (List ℕ)) (waiting : List ℕ)
    (e : ReplayFault) → Grows text → Stands o whole given m p bytes Has → StandsFor base (text given) waiting held
    → Answers o whole given m' p' bytes' Has' due end may cut (Err e)
    → StopsTelling o whole (text (settled_steps o whole)) end may cut base held (status_of_replay e)
told_fault {o} {whole} {given} text m' p' bytes' Has' due end may cut base held waiting (replay.Format f) grows stands
    told answers = λ h.
    (let both = answers h in
    (both.0, rw (← settled_are stands (carried_all stands both.1)) told.written))
told_fault {o} {whole} {given} text m' p' bytes' Has' due end may cut base held waiting (replay.Broken n) grows stands
    told answers =
    let bad : bad_behind hart_step o whole ≡ Some (Broken (o.header.base + length given)) =
    answers.0 ∙ ap (λ (k : ℕ). Some (Broken k)) answers.1 in
    (answers.0, rw (← settled_are stands (carried_broken o whole given bad)) told.written)
told_fault {o} {whole} {given} text m' p' bytes' Has' due end may cut base held waiting replay.ReadFault grows stands
    told answers = λ h.
    (let both = answers h in
    (both.0, rw (← settled_are stands (carried_all stands both.1)) told.written))
told_fault text m' p' bytes' Has' due end may cut base held waiting replay.NoMemory grows stands told answers =
    front_settled text base held grows stands (blocks_front base held _ waiting told)

pub told_end : {o : Opened} {whole : Scan} {given : List StepRec} {m : Whole} {p : Progress} {bytes : List ℕ}
    {Has : Scan → Type 0} (m' : Whole) (p' : Progress) (bytes' : List ℕ) (Has' : Scan → Type 0) (due : Due)
    (end at : ℕ) (may cut : Type 0) → Stands o whole given m p bytes Has → at ≡ p.at
    → Answers o whole given m' p' bytes' Has' due end may cut (Ok None)
    → IsRun o whole given at may
told_end m' p' bytes' Has' due end at may cut stands here answers = record {
  gave = answers.0;
  all = settled_are stands (carried_all stands answers.0);
  count = here ∙ stands.count;
  good = λ h. (answers.1 h).0;
}

pub tell_refused : {o : Opened} {whole : Scan} {given : List StepRec} {m : Whole} {p : Progress} {bytes : List ℕ}
    {Has : Scan → Type 0} (text : List StepRec → List ℕ) (end : ℕ) (may cut : Type 0) (base held : Option (List ℕ))
    (e : OutFault) → Grows text → Stands o whole given m p bytes Has → HasFront base (text given) held
    → StopsTelling o whole (text (settled_steps o whole)) end may cut base held (status_of_out e)
tell_refused text end may cut base held write_fault grows stands front =
    front_settled text base held grows stands front
tell_refused text end may cut base held no_room grows stands front =
    front_settled text base held grows stands front
