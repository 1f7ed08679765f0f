-- What a call answers, by how the next step was settled and taken.
use Rattle.std.proofs.Common.{◌≡◌, ◌⊎◌, ℕ, ◌≤◌, Bool, true, false, List, [], Option, None, Some, Result}
use Rattle.std.proofs.Common.{Ok, Err, inl, inr, refl, ap, sym, ◌∙◌, arith}
use Rattle.std.specs.Option.{option_map}
use Rattle.cx_hart.specs.HartStep.{hart_step}
use Rattle.cx_hart.specs.Whole.{Whole, machine_of}
use Rattle.cx_hart.specs.declared.record.StepRec.{StepRec}
use Rattle.cx_log.specs.Reading.{Opened}
use Rattle.cx_log.specs.Scan.{Scan}
use Rattle.cx_machine.specs.Due.{Due}
use Rattle.cx_run.specs.Due.{due_at}
use Rattle.cx_run.specs.FirstBad.{Format as bad_format, bad_behind}
use Rattle.cx_replay.specs.Gathering.{FailsOn, Stops}
use Rattle.cx_replay.specs.Records.{RisesFrom}
use Rattle.cx_replay.specs.Replaying.{Answers, Arrives, GaveAll, IsGoodUpTo, IsRead, Progress, Settled, Stands, Starts}
use Rattle.cx_replay.specs.Replaying.{begun_at_base, told_in}
use Rattle.cx_replay.specs.declared.fault.ReplayFault.{ReplayFault}
use Rattle.cx_replay.specs.declared.fault.ReplayFault.TheVariants.{Broken, Format, ReadFault, NoMemory}
use Rattle.cx_replay.proofs.Standing.{bad_of, broken, passed, taken}

-- ---- before the first step

pub begins : {o : Opened} {m : Whole} {Has : Scan → Type 0} (whole : Scan) (base : ℕ) (bytes : List ℕ) → Has whole
    → RisesFrom base whole → Starts o base m
    → Stands o whole [] m (begun_at_base base) bytes Has
begins {o} {m} whole base bytes here rises starts = record {
  read = record {
    rest = whole;
    here = here;
    past = [];
    parts = refl;
    below = tt;
    waits = tt;
    ahead = rises;
    asks =
        λ going none. refl;
    marked = refl;
  };
  within = omega arith;
  count = omega (arith, starts.base_is);
  fresh = λ none. ap begun_at_base (sym starts.base_is);
  one = λ going none. refl;
  split = sym starts.split;
  run = rw (starts.start, starts.memory) refl;
}

-- ---- the next step isn't settled

stopped_with : {o : Opened} {whole : Scan} {given : List StepRec} {m : Whole} {p : Progress} {bytes : List ℕ}
    {Has : Scan → Type 0} (field : Option ℕ)
    → Stands o whole given m p bytes Has → Stops whole p.at field
    → (bad_behind hart_step o whole ≡ option_map bad_format field) × GaveAll o whole given
stopped_with {o} {whole} {given} field s stops =
    let all : GaveAll o whole given = stops.upto ∙ s.count in
    (bad_of s all ∙ ap (option_map bad_format) stops.bad, all)

good_with : {o : Opened} {whole : Scan} {given : List StepRec} {m : Whole} {p : Progress} {bytes : List ℕ} {Has : Scan
    → Type 0} (end : ℕ)
    → Stands o whole given m p bytes Has → Stops whole p.at None ⊎ Stops whole p.at (Some end)
    → IsGoodUpTo end (bad_behind hart_step o whole) × GaveAll o whole given
good_with end s (inl stops) = let both = stopped_with None s stops in (inl both.0, both.1)
good_with end s (inr stops) = let both = stopped_with (Some end) s stops in (inr both.0, both.1)

pub answers_fault : {o : Opened} {whole : Scan} {given : List StepRec} {m : Whole} {p : Progress} {bytes : List ℕ}
    {Has : Scan → Type 0}
    (next : Whole) (q : Progress) (bytes' : List ℕ) (Has' : Scan → Type 0) (due : Due) (end : ℕ) (may cut : Type 0)
    (e : ReplayFault)
    → Stands o whole given m p bytes Has → q.at ≡ p.at → FailsOn whole q.at end may cut e
    → Answers o whole given next q bytes' Has' due end may cut (Err e)
answers_fault next q bytes' Has' due end may cut (Format f) s same fails =
    λ h. stopped_with (Some f) s (rw same at (fails h))
answers_fault next q bytes' Has' due end may cut (Broken n) s same fails = absurd fails
answers_fault next q bytes' Has' due end may cut ReadFault s same fails = λ h. good_with end s (rw same at (fails h))
answers_fault next q bytes' Has' due end may cut NoMemory s same fails = tt

-- ---- the end

pub answers_end : {o : Opened} {whole : Scan} {given : List StepRec} {m : Whole} {p : Progress} {bytes : List ℕ}
    {Has : Scan → Type 0}
    (q : Progress) (bytes' : List ℕ) (Has' : Scan → Type 0) (due : Due) (end : ℕ) (may cut : Type 0)
    → Stands o whole given m p bytes Has → q ≡ p → bytes' ≡ bytes
    → (whole.upto ≡ q.at) × (may → Stops whole q.at None × IsRead whole q.at q bytes' Has')
    → Answers o whole given m q bytes' Has' due end may cut (Ok None)
answers_end {o} {whole} {given} {m} {p} {bytes} q bytes' Has' due end may cut s same kept closes =
    let at : q.at ≡ p.at = ap (λ (x : Progress). x.at) same in (
      closes.0 ∙ at ∙ s.count,
      λ h. (
        (stopped_with None s (rw at at (closes.1 h).0)).0,
        record {
          read = (closes.1 h).1;
          within = rw same s.within;
          count = at ∙ s.count;
          fresh = λ none. same ∙ s.fresh none;
          one = rw (same, kept) s.one;
          split = s.split;
          run = s.run;
        },
      ),
    )

-- ---- the next step is settled

pub answers_step : {o : Opened} {whole : Scan} {given : List StepRec} {m : Whole} {p : Progress} {bytes bytes' : List ℕ}
    {Has Has' : Scan → Type 0} {due : Due}
    (next : Whole) (rec : StepRec) (q : Progress) (end : ℕ) (may cut : Type 0)
    → Stands o whole given m p bytes Has → Settled whole due q bytes' Has' → q.at ≡ p.at → next.split ≡ m.split
    → hart_step m.split (machine_of m) due ≡ Some (record { machine = machine_of next; rec = rec })
    → Answers o whole given next (passed q) bytes' Has' due end may cut (Ok (Some rec))
answers_step {o} {whole} {given} next rec q end may cut s settled same split goes =
    (taken next rec q s settled same split goes, settled.due_is ∙ ap (due_at whole.events) (same ∙ s.count))

pub answers_broken : {o : Opened} {whole : Scan} {given : List StepRec} {m : Whole} {p : Progress}
    {bytes bytes' : List ℕ} {Has Has' : Scan → Type 0} {due : Due}
    (next : Whole) (q : Progress) (end : ℕ) (may cut : Type 0)
    → Stands o whole given m p bytes Has → Settled whole due q bytes' Has' → q.at ≡ p.at
    → hart_step m.split (machine_of m) due ≡ None
    → Answers o whole given next q bytes' Has' due end may cut (Err (Broken q.at))
answers_broken next q end may cut s settled same stops = let b = broken q s settled same stops in (b.bad, b.at)

-- ---- told in a record

pub told_arrives : (told : StepRec) (r : Result Bool ReplayFault) (o : Opened) (whole : Scan) (given : List StepRec)
    (m : Whole) (p : Progress) (bytes : List ℕ) (Has : Scan → Type 0) (due : Due) (end : ℕ) (may cut : Type 0)
    → Arrives (λ rec. told ≡ rec) o whole given m p bytes Has due end may cut r
    → Answers o whole given m p bytes Has due end may cut (told_in told r)
told_arrives told (Ok true) o whole given m p bytes Has due end may cut arrives = rw arrives.1.0 arrives.1.1
told_arrives told (Ok false) o whole given m p bytes Has due end may cut arrives = arrives
told_arrives told (Err e) o whole given m p bytes Has due end may cut arrives = arrives
