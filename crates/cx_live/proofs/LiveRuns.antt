-- The recording of a live run is accepted, and its run is the live run.
use Rattle.std.proofs.Common.{◌≡◌, ◌≢◌, ℕ, suc, ◌+◌, ◌*◌, ◌^◌, ◌<◌, ◌≤◌, ◌⊎◌, inl, inr, Bool, true, false, if◌then◌else◌, List, [], ◌∷◌}
use Rattle.std.proofs.Common.{◌++◌, length, take, Option, None, Some, IfSome, IsSome, unwrap_or, refl, sym, ap, subst, ◌∙◌}
use Rattle.std.proofs.Common.{arith, length-append, replicate, slice_index}
use Rattle.std.proofs.lemmas.List.{take_all}
use Rattle.std.proofs.lemmas.List.Elements.{All-nil, All-push, All-replicate}
use Rattle.cx_io.specs.declared.outside.Outside.{Outside}
use Rattle.cx_csr.specs.Keeps.{Keeps}
use Rattle.cx_csr.specs.Words.{state_of}
use Rattle.cx_csr.specs.declared.lines.Lines.{Lines}
use Rattle.cx_devices.specs.Devices.{IsSound, at_reset}
use Rattle.cx_hart.specs.HartStep.{hart_step}
use Rattle.cx_hart.specs.declared.record.StepRec.{StepRec}
use Rattle.cx_hart.proofs.StepSizes.{sets_lines}
use Rattle.cx_log.specs.declared.limits.TheConstants.{MOST_TEXT, STEP_LIMIT}
use Rattle.cx_log.specs.Text.{records_text}
use Rattle.cx_machine.specs.Due.{Due, IsDue}
use Rattle.cx_machine.specs.Machine.{IsMachine, MachineState}
use Rattle.cx_machine.specs.Step.{Step}
use Rattle.cx_map.specs.Map.{IsPageCount}
use Rattle.cx_run.specs.Driven.{CanTape, FewTransfers, at_first as run_at_first, driven, events_from}
use Rattle.cx_run.specs.Run.{Run, next_run, run_of}
use Rattle.cx_run.proofs.TapedAccepted.{taped_is_accepted}
use Rattle.cx_run.proofs.TapedRuns.{taped_runs}
use Rattle.cx_run.proofs.TapedSizes.{records_are_short}
use Rattle.cx_live.specs.Image.{Image, IsImage}
use Rattle.cx_live.specs.Live.{Live}
use Rattle.cx_live.specs.Recorded.{IsRecorded, recording_of}
use Rattle.cx_live.specs.Rules.{KeepsLive}
use Rattle.cx_live.specs.Run.{LiveRun, at_first, live_at_reset, live_run, next_turn, reset_state, turns, with_one, with_turn}
use Rattle.cx_live.specs.Turn.{Turned, live_turn}
use Rattle.cx_live.proofs.BlockRules.{block_at_reset_keeps}
use Rattle.cx_live.proofs.TurnRules.{IsTurn, turn_is, turn_is_there}

-- ---- one step more that is driven

driven_more : {Rec : Type 0} (step : Step Rec) (run : Option (Run Rec)) (dues : List Due) (due : Due)
    → driven step run (dues ++ due ∷ []) ≡ next_run step due (driven step run dues)
driven_more step run [] due = refl
driven_more step run (first ∷ dues) due = driven_more step (next_run step first run) dues due

-- the lines that stand once these were due
abbrev lines_after : Lines → List Due → Lines
lines_after standing [] = standing
lines_after standing (due ∷ dues) = lines_after (unwrap_or due.lines standing) dues

lines_more : (standing : Lines) (dues : List Due) (due : Due)
    → lines_after standing (dues ++ due ∷ []) ≡ unwrap_or due.lines (lines_after standing dues)
lines_more standing [] due = refl
lines_more standing (first ∷ dues) due = lines_more (unwrap_or first.lines standing) dues due

can_more : (pages : ℕ) (standing : Lines) (dues : List Due) (due : Due) → CanTape pages standing dues
    → IsDue pages due → IfSome due.lines (λ (set : Lines). set ≢ lines_after standing dues)
    → CanTape pages standing (dues ++ due ∷ [])
can_more pages standing [] due can is change = (is, (change, tt))
can_more pages standing (first ∷ dues) due can is change =
    (can.0, (can.1.0, can_more pages (unwrap_or first.lines standing) dues due can.1.1 is change))

-- ---- where a live run stands

pub record Stands (image : Image) (run : LiveRun) : Type 0 where
  pub driven_is : driven (hart_step image.split) (Some (run_at_first (live_at_reset image).machine)) run.dues
      ≡ Some (record { machine = run.live.machine; records = run.records })
  pub can : CanTape image.pages reset_state.lines run.dues
  pub few : FewTransfers run.dues
  pub lines : lines_after reset_state.lines run.dues ≡ run.live.machine.state.lines
  pub keeps : KeepsLive image.pages run.live

pub turn_stands : (image : Image) (o : Outside) (run : LiveRun) (t : Turned) → Stands image run
    → live_turn image.split o run.live ≡ Some t → Stands image (with_one run t)
turn_stands image o run t stands is =
    let turn = turn_is image.pages image.split o run.live stands.keeps t is in
    let step = hart_step image.split in
    let start = Some (run_at_first (live_at_reset image).machine) in
    record {
      driven_is =
          driven_more step start run.dues t.due
          ∙ ap (next_run step t.due) stands.driven_is
          ∙ rw turn.step refl;
      can = can_more image.pages reset_state.lines run.dues t.due stands.can turn.due
          (subst (λ (standing : Lines). IfSome t.due.lines (λ (set : Lines). set ≢ standing)) (sym stands.lines)
          turn.change);
      few = All-push (λ (due : Due). length due.transfers ≤ 1) run.dues t.due stands.few turn.few;
      lines =
          lines_more reset_state.lines run.dues t.due
          ∙ ap (unwrap_or t.due.lines) stands.lines
          ∙ sym (sets_lines image.split run.live.machine t.due (record { machine = t.live.machine; rec = t.rec })
          turn.step);
      keeps = turn.keeps;
    }

turns_none : (split : Bool) (outs : List Outside) → turns split None outs ≡ None
turns_none split [] = refl
turns_none split (o ∷ outs) = turns_none split outs

-- what some turns leave, by what the others leave behind the first of them
turns_by : (P : LiveRun → Type 0) (split : Bool) (outs : List Outside) (run last : LiveRun) (off : Bool)
    (turn : Option Turned) → ((next : LiveRun) → turns split (Some next) outs ≡ Some last
    → ((next ≡ run) ⊎ ((t : Turned) × ((turn ≡ Some t) × (next ≡ with_one run t)))) → P last)
    → turns split (if off then Some run else with_turn run turn) outs ≡ Some last → P last
turns_by P split outs run last true turn rest is = rest run is (inl refl)
turns_by P split outs run last false None rest is =
    absurd (let none : turns split None outs ≡ None = turns_none split outs in cc)
turns_by P split outs run last false (Some t) rest is = rest (with_one run t) is (inr (t, (refl, refl)))

-- what holds of a run, and stays with each turn, holds of what some turns leave
turns_keep : (P : LiveRun → Type 0) (split : Bool)
    → ((o : Outside) (run : LiveRun) (t : Turned) → P run → live_turn split o run.live ≡ Some t → P (with_one run t))
    → (outs : List Outside) (run last : LiveRun) → P run → turns split (Some run) outs ≡ Some last → P last
turns_keep P split more [] run last holds is = subst P (let same : run ≡ last = cc in same) holds
turns_keep P split more (o ∷ outs) run last holds is =
    turns_by P split outs run last run.live.devices.off (live_turn split o run.live)
    (λ next there then_is. turns_keep P split more outs next last (elim then_is [
      | inl same ↦ subst P (sym same) holds
      | inr turned ↦ subst P (sym turned.1.1) (more o run turned.0 holds turned.1.0)
    ]) there) is

-- ---- at reset

pub reset_keeps : (pages : ℕ) → Keeps pages reset_state
unfolding state_of
reset_keeps pages = record {
  pc = record { wide = omega arith; multiple = refl };
  registers = refl;
  zero_register = refl;
  wide = All-replicate (λ (v : ℕ). v < 2 ^ 32) 32 0 (omega arith);
  mode = record { most = omega arith; served = λ e. omega (arith, e) };
  csr =
      record {
        mstatus = record { within = refl; previous = λ e. omega (arith, e) };
        medeleg = refl;
        mideleg = refl;
        mie = refl;
        mip = refl;
        mtvec = refl;
        mcounteren = refl;
        mscratch = omega arith;
        mepc = record { wide = omega arith; multiple = refl };
        mcause = omega arith;
        mtval = omega arith;
        stvec = refl;
        scounteren = refl;
        sscratch = omega arith;
        sepc = record { wide = omega arith; multiple = refl };
        scause = omega arith;
        stval = omega arith;
        satp = omega arith;
        mcycle = omega arith;
        minstret = omega arith;
      };
  reservation = tt;
  lines = refl;
}

devices_at_reset : IsSound at_reset
devices_at_reset = record {
  clock = omega arith;
  compare = omega arith;
  software = omega arith;
  machine_mask = omega arith;
  supervisor_mask = omega arith;
  slot = tt;
}

reset_machine : (image : Image) → IsImage image → IsMachine image.pages (live_at_reset image).machine
reset_machine image is = record { state = reset_keeps image.pages; memory = is.memory }

pub reset_stands : (image : Image) → IsImage image → Stands image (at_first (live_at_reset image))
reset_stands image is = record {
  driven_is = refl;
  can = tt;
  few = All-nil (λ (due : Due). length due.transfers ≤ 1);
  lines = refl;
  keeps = record {
    machine = reset_machine image is;
    devices = devices_at_reset;
    block = block_at_reset_keeps image.pages image.disk is.disk is.disk_bytes;
    console = is.console_bytes;
  };
}

-- ---- whole runs

pub live_run_stands : (image : Image) (outs : List Outside) (run : LiveRun) → IsImage image
    → live_run image outs ≡ Some run → Stands image run
live_run_stands image outs run is there =
    turns_keep (Stands image) image.split (turn_stands image) outs (at_first (live_at_reset image)) run
    (reset_stands image is) there

there_by : (split : Bool) (outs : List Outside) (run : LiveRun) (off : Bool) (turn : Option Turned) → IsSome turn
    → ((next : LiveRun) → IsSome (turns split (Some next) outs))
    → IsSome (turns split (if off then Some run else with_turn run turn) outs)
there_by split outs run true turn some rest = rest run
there_by split outs run false None some rest = absurd cc
there_by split outs run false (Some t) some rest = rest (with_one run t)

turns_are_there : (split : Bool) (outs : List Outside) (run : LiveRun) → IsSome (turns split (Some run) outs)
turns_are_there split [] run = refl
turns_are_there split (o ∷ outs) run =
    there_by split outs run run.live.devices.off (live_turn split o run.live) (turn_is_there split o run.live)
    (λ next. turns_are_there split outs next)

pub live_run_is_there : (image : Image) (outs : List Outside) → IsSome (live_run image outs)
live_run_is_there image outs = turns_are_there image.split outs (at_first (live_at_reset image))

-- It has no more steps than there are answers.
turns_count : (split : Bool) (outs : List Outside) (run last : LiveRun) → turns split (Some run) outs ≡ Some last
    → length last.dues ≤ length run.dues + length outs
turns_count split [] run last is =
    let same : run ≡ last = cc in
    let count : length run.dues ≡ length last.dues = ap (λ (r : LiveRun). length r.dues) same in omega (arith, count)
turns_count split (o ∷ outs) run last is =
    turns_by (λ (r : LiveRun). length r.dues ≤ length run.dues + suc (length outs)) split outs run last
    run.live.devices.off (live_turn split o run.live)
    (λ next there then_is.
    let more : length next.dues ≤ length run.dues + 1 = elim then_is [
      | inl same ↦ let count : length next.dues ≡ length run.dues = ap (λ (r : LiveRun). length r.dues) same in
          omega (arith, count)
      | inr turned ↦ let count : length next.dues ≡ length (run.dues ++ turned.0.due ∷ []) =
          ap (λ (r : LiveRun). length r.dues) turned.1.1 in
          omega (arith, count, length-append run.dues (turned.0.due ∷ []))
    ] in
    omega (arith, turns_count split outs next last there, more)) is

pub live_run_is_recorded : (image : Image) (outs : List Outside) (run : LiveRun) → IsImage image
    → live_run image outs ≡ Some run → 0 < length run.dues → length outs ≤ 2 ^ 27 → IsRecorded image run
live_run_is_recorded image outs run is there some few =
    let stands = live_run_stands image outs run is there in
    let count : length run.dues ≤ 0 + length outs =
    turns_count image.split outs (at_first (live_at_reset image)) run there in
    let short = records_are_short image.pages reset_state.lines run.dues stands.can stands.few (omega (arith, count, few)) in
    let step = hart_step image.split in
    let start = (live_at_reset image).machine in
    record {
      accepted =
          taped_is_accepted step image.version image.split image.pages start run.dues
          (record { machine = run.live.machine; records = run.records }) is.version is.pages (reset_machine image is)
          some (omega (arith, count, few)) (omega (arith, short, count, few)) stands.can stands.driven_is;
      run_is =
          taped_runs step image.version image.split image.pages start run.dues (length run.dues) (omega arith)
          ∙ ap (λ (dues : List Due). driven step (Some (run_at_first start)) dues)
          (take_all (length run.dues) run.dues (omega arith))
          ∙ stands.driven_is;
    }
