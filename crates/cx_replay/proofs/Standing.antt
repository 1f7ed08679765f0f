-- Steps that are settled are taken, and refusals come behind them.
use Rattle.std.proofs.Common.{◌≡◌, ◌≢◌, ℕ, suc, ◌+◌, ◌-◌, ◌<◌, ◌==◌, List, [], ◌∷◌, ◌++◌, length, Bool, true}
use Rattle.std.proofs.Common.{false, Option, None, Some, refl, ap, sym, subst, ◌∙◌, arith}
use Rattle.std.specs.Option.{option_map}
use Rattle.std.proofs.lemmas.Bool.{eq-eqb, ne_eqb}
use Rattle.std.proofs.lemmas.List.{length_push}
use Rattle.cx_hart.specs.HartStep.{hart_step}
use Rattle.cx_hart.specs.Whole.{Whole, machine_of}
use Rattle.cx_hart.specs.declared.record.StepRec.{StepRec}
use Rattle.cx_log.specs.Reading.{Opened}
use Rattle.cx_log.specs.Recording.{Recording}
use Rattle.cx_log.specs.Scan.{Scan, bad_field, decoded}
use Rattle.cx_machine.specs.Due.{Due}
use Rattle.cx_run.specs.Due.{due_at}
use Rattle.cx_run.specs.FirstBad.{Broken, Format, Refusal, bad_behind, carried, refusal}
use Rattle.cx_run.specs.Run.{built_steps, run_of}
use Rattle.cx_run.proofs.BuiltSteps.{built_steps-whole}
use Rattle.cx_run.proofs.LaterEvents.{built_here}
use Rattle.cx_run.proofs.Runs.{run_of-next, run_of-stops}
use Rattle.cx_replay.specs.Records.{in_front, stopped}
use Rattle.cx_replay.specs.Replaying.{GaveAll, Gathers, IsRead, Progress, Settled, Stands}
use Rattle.cx_replay.proofs.Reading.{ahead_settles}

-- ---- a step is taken

-- the next step is behind it
abbrev pub passed : Progress → Progress
passed p = record p { at = p.at + 1 }

pub read_on : {whole : Scan} {due : Due} {bytes : List ℕ} {Has : Scan → Type 0} (q : Progress)
    → Settled whole due q bytes Has
    → IsRead whole (q.at + 1) (passed q) bytes Has
read_on q s =
    let next : suc q.at ≡ q.at + 1 = omega arith in
    record {
      rest = s.read.rest;
      here = s.read.here;
      past = s.read.past;
      parts = s.read.parts;
      below = rw (← next) s.read.below;
      waits = s.read.waits;
      ahead = s.read.ahead;
      asks = λ going none. let same = s.read.asks going none in absurd (omega (arith, s.within, same));
      marked = s.read.marked;
    }

pub taken : {o : Opened} {whole : Scan} {given : List StepRec} {m : Whole} {p : Progress} {bytes bytes' : List ℕ}
    {Has Has' : Scan → Type 0} {due : Due}
    (next : Whole) (rec : StepRec) (q : Progress)
    → Stands o whole given m p bytes Has → Settled whole due q bytes' Has' → q.at ≡ p.at → next.split ≡ m.split
    → hart_step m.split (machine_of m) due ≡ Some (record { machine = machine_of next; rec = rec })
    → Stands o whole (given ++ rec ∷ []) next (passed q) bytes' Has'
taken {o} {whole} {given} {m} {p} next rec q s settled here split goes =
    let step = hart_step m.split in
    let due_is : due_at whole.events (o.header.base + length given) ≡ _ =
    ap (due_at whole.events) (sym (here ∙ s.count)) ∙ sym settled.due_is in
    let went : step (machine_of m) (due_at whole.events (o.header.base + length given))
    ≡ Some (record { machine = machine_of next; rec = rec }) = rw due_is goes in
    let more : length (given ++ rec ∷ []) ≡ suc (length given) = length_push given rec ∙ omega arith in
    record {
      read = read_on q settled;
      within = let less = settled.within in omega arith;
      count = omega (arith, more, s.count, here);
      fresh = λ none. absurd (omega (arith, more, ap length none));
      one = λ going none. let same = settled.read.asks going none in absurd (let less = settled.within in omega arith);
      split = split ∙ s.split;
      run = subst (λ (b : Bool). run_of (hart_step b) (decoded o whole) (length (given ++ rec ∷ []))
          ≡ Some (record { machine = machine_of next; records = given ++ rec ∷ [] })) (sym split)
          (rw more (run_of-next step (decoded o whole) (length given) (record {
            machine = machine_of m;
            records =
                given;
          }) (record { machine = machine_of next; rec = rec }) s.run went));
    }

-- ---- how far the run goes

-- the run stands at the last settled step
pub all_carried : (o : Opened) (whole : Scan) (given : List StepRec) (m : Whole) → m.split ≡ o.header.split
    → run_of (hart_step m.split) (decoded o whole) (length given) ≡ Some (record {
      machine = machine_of m;
      records =
          given;
    })
    → GaveAll o whole given → carried hart_step (decoded o whole) ≡ whole.upto - o.header.base
all_carried o whole given m split run all =
    let n : length given ≡ whole.upto - o.header.base = omega (arith, all) in
    let there = rw (split, n) at run in
    (built_steps-whole (hart_step o.header.split) (decoded o whole) (whole.upto - o.header.base)).1 (rw there refl)

pub bad_where : (o : Opened) (whole : Scan) → carried hart_step (decoded o whole) ≡ whole.upto - o.header.base
    → bad_behind hart_step o whole ≡ option_map Format (bad_field whole.stop)
bad_where o whole all = rw (eq-eqb (carried hart_step (decoded o whole)) (whole.upto - o.header.base) all) refl

pub bad_of : {o : Opened} {whole : Scan} {given : List StepRec} {m : Whole} {p : Progress} {bytes : List ℕ} {Has : Scan
    → Type 0}
    → Stands o whole given m p bytes Has → GaveAll o whole given → bad_behind hart_step o whole ≡ option_map Format
    (bad_field whole.stop)
bad_of {o} {whole} {given} {m} s all = bad_where o whole (all_carried o whole given m s.split s.run all)

-- ---- a step that isn't carried out

pub record IsBroken (o : Opened) (whole : Scan) (given : List StepRec) (n : ℕ) : Type 0 where
  pub bad : bad_behind hart_step o whole ≡ Some (Broken n)
  pub at : n ≡ o.header.base + length given

breaks_at : (o : Opened) (whole : Scan) (k : ℕ) → carried hart_step (decoded o whole) ≡ k
    → k ≢ whole.upto - o.header.base
    → bad_behind hart_step o whole ≡ Some (Broken (o.header.base + k))
breaks_at o whole k is other = rw (is, ne_eqb k (whole.upto - o.header.base) other) refl

settled_steps : {whole : Scan} {due : Due} {q : Progress} {bytes : List ℕ} {Has : Scan → Type 0}
    → Settled whole due q bytes Has → q.at < whole.upto
settled_steps {q = q} s =
    let upto = ahead_settles q.ended q.upto s.read.rest s.read.ahead in
    omega (arith, s.within, upto, ap (λ (x : Scan). x.upto) s.read.parts)

pub broken : {o : Opened} {whole : Scan} {given : List StepRec} {m : Whole} {p : Progress} {bytes bytes' : List ℕ}
    {Has Has' : Scan → Type 0} {due : Due}
    (q : Progress) → Stands o whole given m p bytes Has → Settled whole due q bytes' Has' → q.at ≡ p.at
    → hart_step m.split (machine_of m) due ≡ None → IsBroken o whole given q.at
broken {o} {whole} {given} {m} q s settled here stops =
    let step = hart_step m.split in
    let k : ℕ = length given in
    let due_is : due_at whole.events (o.header.base + k) ≡ _ = ap (due_at whole.events) (sym (here ∙ s.count))
    ∙ sym settled.due_is in
    let stopped : step (machine_of m) (due_at whole.events (o.header.base + k)) ≡ None = rw due_is stops in
    let past = run_of-stops step (decoded o whole) k (record { machine = machine_of m; records = given }) s.run stopped
    in
    let less = settled_steps settled in
    let built : built_steps step (decoded o whole) (whole.upto - o.header.base) ≡ k =
    built_here step (decoded o whole) k (whole.upto - o.header.base) (omega (arith, less, s.count, here))
    (rw s.run refl) past in
    let count : q.at ≡ o.header.base + k = here ∙ s.count in
    record {
      bad = rw count (breaks_at o whole k (rw s.split at built) (λ all. absurd (omega (arith, less, count, all))));
      at = count;
    }

-- ---- a field that is bad

pub record IsStopped (o : Opened) (whole : Scan) (given : List StepRec) (field : ℕ) : Type 0 where
  pub bad : bad_behind hart_step o whole ≡ Some (Format field)
  pub all : GaveAll o whole given

-- in a record that the next step waits for
pub refused : {o : Opened} {whole : Scan} {given : List StepRec} {m : Whole} {p : Progress} {bytes : List ℕ}
    {Has Has' : Scan → Type 0} {due : Due} {marked : Option ℕ}
    (field at : ℕ) → Stands o whole given m p bytes Has → (g : Gathers whole at due marked Has') → at ≡ p.at
    → g.rest ≡ stopped at field
    → IsStopped o whole given field
refused {o} {whole} {given} field at s g here is =
    let parts : whole ≡ in_front g.taken (stopped at field) = g.parts ∙ ap (in_front g.taken) is in
    let all : GaveAll o whole given = ap (λ (x : Scan). x.upto) parts ∙ here ∙ s.count in
    record { bad = bad_of s all ∙ ap (λ (x : Scan). option_map Format (bad_field x.stop)) parts; all = all }

-- or behind End
pub closed : {o : Opened} {whole : Scan} {given : List StepRec} {m : Whole} {p : Progress} {bytes : List ℕ} {Has : Scan
    → Type 0}
    → (s : Stands o whole given m p bytes Has) → p.ended ≡ true → p.at ≡ p.upto
    → GaveAll o whole given × (bad_behind hart_step o whole ≡ option_map Format (bad_field s.read.rest.stop))
closed {o} {whole} {given} {p = p} s last at =
    let ahead = rw last at s.read.ahead in
    let upto : whole.upto ≡ p.upto = ap (λ (x : Scan). x.upto) s.read.parts ∙ ahead.1 in
    let all : GaveAll o whole given = upto ∙ sym at ∙ s.count in
    (all, bad_of s all ∙ ap (λ (x : Scan). option_map Format (bad_field x.stop)) s.read.parts)

-- ---- what was given is what is settled

pub carried_all : {o : Opened} {whole : Scan} {given : List StepRec} {m : Whole} {p : Progress} {bytes : List ℕ}
    {Has : Scan → Type 0}
    → Stands o whole given m p bytes Has → GaveAll o whole given → carried hart_step (decoded o whole) ≡ length given
carried_all {o} {whole} {given} {m} s all = all_carried o whole given m s.split s.run all ∙ omega (arith, all)

is_broken : Option Refusal → ℕ
is_broken None = 0
is_broken (Some (Format o)) = 0
is_broken (Some (Broken n)) = n

not_broken : (field : Option ℕ) (n : ℕ) → option_map Format field ≡ Some (Broken n) → ⊥
not_broken None n is = cc
not_broken (Some o) n is = cc

broken_where : (R : Recording) (n k : ℕ) (field : Option ℕ) (all : Bool) → (n == R.end - R.base) ≡ all
    → refusal R n field ≡ Some (Broken (R.base + k)) → n ≡ k
unfolding is_broken
broken_where R n k field true is bad = absurd (not_broken field (R.base + k) (rw is at bad))
broken_where R n k field false is bad =
    let same : R.base + n ≡ R.base + k = ap is_broken (rw is at bad) in
    omega (arith, same)

pub carried_broken : (o : Opened) (whole : Scan) (given : List StepRec)
    → bad_behind hart_step o whole ≡ Some (Broken (o.header.base + length given))
    → carried hart_step (decoded o whole) ≡ length given
carried_broken o whole given bad = broken_where (decoded o whole) (carried hart_step (decoded o whole)) (length given)
    (bad_field whole.stop) _ refl bad

-- another machine that goes on alike
pub stands_alike : {o : Opened} {whole : Scan} {given : List StepRec} {p : Progress} {bytes : List ℕ}
    {Has : Scan → Type 0} (m m' : Whole) → machine_of m' ≡ machine_of m → m'.split ≡ m.split
    → Stands o whole given m p bytes Has → Stands o whole given m' p bytes Has
stands_alike {o} {whole} {given} m m' same split stands = record {
  read = stands.read;
  within = stands.within;
  count = stands.count;
  fresh = stands.fresh;
  one = stands.one;
  split = split ∙ stands.split;
  run = rw (split, same) stands.run;
}
