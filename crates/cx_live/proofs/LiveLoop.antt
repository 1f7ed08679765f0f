-- A run that goes on turn by turn to its end, and one that is cut off.
use Rattle.std.proofs.Common.{◌≡◌, ℕ, suc, ◌+◌, ◌^◌, ◌<◌, ◌≤◌, Bool, true, false, if◌then◌else◌, List, [], ◌∷◌, ◌++◌, length}
use Rattle.std.proofs.Common.{Option, None, Some, IsSome, refl, sym, ap, subst, ◌∙◌, arith, length-append}
use Rattle.cx_codec.specs.Reads.{Begins}
use Rattle.cx_io.specs.declared.outside.Outside.{Outside}
use Rattle.cx_devices.specs.Devices.{after_load, after_load_at, after_store, after_store_at}
use Rattle.cx_devices.specs.declared.devices.Devices.{Devices}
use Rattle.cx_hart.specs.HartStep.{hart_step}
use Rattle.cx_hart.specs.declared.answer.Asked.{Asked}
use Rattle.cx_hart.specs.declared.answer.Asked.TheVariants as asked
use Rattle.cx_hart.specs.declared.record.StepRec.{StepRec}
use Rattle.cx_hart.specs.declared.record.Touch.{Touch}
use Rattle.cx_machine.specs.Due.{Due}
use Rattle.cx_machine.specs.Step.{Stepped}
use Rattle.cx_run.proofs.TextSoFar.{so_far_begins}
use Rattle.cx_walk.specs.Devices.{device_at}
use Rattle.cx_walk.specs.declared.device.DeviceWord.{DeviceWord}
use Rattle.cx_walk.specs.declared.device.DeviceWord.TheVariants as word
use Rattle.cx_live.specs.Image.{Image, IsImage}
use Rattle.cx_live.specs.Live.{Live, after_console, after_pass, before_block, first_arrives, met}
use Rattle.cx_live.specs.Recorded.{GoesOn, IsCut, IsRecorded, Runs, cut_text, whole_text}
use Rattle.cx_live.specs.Run.{LiveRun, at_first, live_at_reset, live_run, next_turn, turns, with_one, with_turn}
use Rattle.cx_live.specs.Turn.{Turned, after_asked, after_write, asked_at, devices_after_write, due_to, live_turn, turned}
use Rattle.cx_live.specs.Turn.{word_of}
use Rattle.cx_live.proofs.LiveRuns.{live_run_is_recorded}
use Rattle.cx_live.proofs.TurnRules.{turn_is_there}

-- ---- more answers

pub turns_append : (split : Bool) (run : Option LiveRun) (xs ys : List Outside)
    → turns split run (xs ++ ys) ≡ turns split (turns split run xs) ys
turns_append split run [] ys = refl
turns_append split run (o ∷ xs) ys = turns_append split (next_turn split o run) xs ys

next_by : (run : LiveRun) (t : Turned) (off : Bool) (turn : Option Turned) → off ≡ false → turn ≡ Some t
    → (if off then Some run else with_turn run turn) ≡ Some (with_one run t)
next_by run t true turn on is = absurd cc
next_by run t false turn on is = ap (with_turn run) is

pub one_more : (image : Image) (outs : List Outside) (run : LiveRun) (o : Outside) (t : Turned)
    → live_run image outs ≡ Some run → run.live.devices.off ≡ false → live_turn image.split o run.live ≡ Some t
    → live_run image (outs ++ o ∷ []) ≡ Some (with_one run t)
one_more image outs run o t is on turn =
    turns_append image.split (Some (at_first (live_at_reset image))) outs (o ∷ [])
    ∙ ap (next_turn image.split o) is
    ∙ next_by run t run.live.devices.off (live_turn image.split o run.live) on turn

pub one_longer : (run : LiveRun) (t : Turned) (outs : List Outside) (o : Outside) → length run.dues ≡ length outs
    → length (run.dues ++ t.due ∷ []) ≡ length (outs ++ o ∷ [])
one_longer run t outs o each =
    omega (arith, each, length-append run.dues (t.due ∷ []), length-append outs (o ∷ []))

-- Behind the turn that turned the machine off more answers change nothing.
pub turns_stay_off : (split : Bool) (run : LiveRun) (outs : List Outside) → run.live.devices.off ≡ true
    → turns split (Some run) outs ≡ Some run
turns_stay_off split run [] off = refl
turns_stay_off split run (o ∷ outs) off =
    ap (λ (r : Option LiveRun). turns split r outs) (stays run.live.devices.off (live_turn split o run.live) off)
    ∙ turns_stay_off split run outs off
  where
    stays : (t : Bool) (turn : Option Turned) → t ≡ true → (if t then Some run else with_turn run turn) ≡ Some run
    stays true turn is = refl
    stays false turn is = absurd cc

-- ---- turn by turn

pub goes_on_first : (image : Image) → GoesOn image [] (at_first (live_at_reset image))
goes_on_first image = record { is = refl; each = refl; on = refl }

pub goes_on_more : (image : Image) (outs : List Outside) (run : LiveRun) (o : Outside) (t : Turned)
    → GoesOn image outs run → live_turn image.split o run.live ≡ Some t → t.live.devices.off ≡ false
    → GoesOn image (outs ++ o ∷ []) (with_one run t)
goes_on_more image outs run o t goes turn on = record {
  is = one_more image outs run o t goes.is goes.on turn;
  each = one_longer run t outs o goes.each;
  on = on;
}

pub runs_to_end : (image : Image) (steps : ℕ) (outs : List Outside) (run : LiveRun) (o : Outside) (t : Turned)
    → GoesOn image outs run → live_turn image.split o run.live ≡ Some t → length outs < steps
    → (length outs + 1 < steps → t.live.devices.off ≡ true) → Runs image steps (outs ++ o ∷ []) (with_one run t)
runs_to_end image steps outs run o t goes turn few early = record {
  is = one_more image outs run o t goes.is goes.on turn;
  each = one_longer run t outs o goes.each;
  most = omega (arith, few, length-append outs (o ∷ []));
  early = λ less. early (omega (arith, less, length-append outs (o ∷ [])));
}

pub done_is_recorded : (image : Image) (steps : ℕ) (outs : List Outside) (run : LiveRun) → IsImage image
    → Runs image steps outs run → 0 < length outs → steps ≤ 2 ^ 27 → IsRecorded image run
done_is_recorded image steps outs run is runs some few =
    live_run_is_recorded image outs run is runs.is (omega (arith, runs.each, some)) (omega (arith, runs.most, few))

-- ---- cut off

-- what a run that goes on comes to after one turn more
cut_by : (image : Image) (outs : List Outside) (run : LiveRun) (o : Outside) (turn : Option Turned)
    → live_turn image.split o run.live ≡ turn → IsSome turn → IsImage image → GoesOn image outs run
    → length outs < 2 ^ 27 → IsCut image run
cut_by image outs run o None turn some is goes few = absurd cc
cut_by image outs run o (Some t) turn some is goes few = record {
  more = with_one run t;
  recorded = live_run_is_recorded image (outs ++ o ∷ []) (with_one run t) is
      (one_more image outs run o t goes.is goes.on turn) (omega (arith, length-append run.dues (t.due ∷ [])))
      (omega (arith, few, length-append outs (o ∷ [])));
  begins = so_far_begins image.version image.split image.pages (live_at_reset image).machine run.dues (t.due ∷ []);
}

pub cut_begins : (image : Image) (outs : List Outside) (run : LiveRun) → IsImage image → GoesOn image outs run
    → length outs < 2 ^ 27 → IsCut image run
cut_begins image outs run is goes few =
    let o : Outside = record { ticks = 0; console = false; block = false } in
    cut_by image outs run o (live_turn image.split o run.live) refl (turn_is_there image.split o run.live) is goes few

-- ---- the power switch

store_off : (w : DeviceWord) (v : ℕ) (d : Devices) → d.off ≡ false → (after_store w v d).off ≡ true → w ≡ word.Power
store_off word.Power v d on off = refl
store_off w v d on off = absurd cc

store_off_at : (o : Option DeviceWord) (v : ℕ) (d : Devices) → d.off ≡ false → (after_store_at o v d).off ≡ true
    → o ≡ Some word.Power
store_off_at None v d on off = absurd cc
store_off_at (Some w) v d on off = ap Some (store_off w v d on off)

load_stays : (w : DeviceWord) (d : Devices) → (after_load w d).off ≡ d.off
load_stays word.ConsoleData d = refl
load_stays w d = refl

asked_stays : (o : Option Asked) (d : Devices) → (after_asked o d).off ≡ d.off
asked_stays None d = refl
asked_stays (Some (asked.Device place)) d = by (device_at place)
  where
    by : (o : Option DeviceWord) → (after_load_at o d).off ≡ d.off
    by None = refl
    by (Some w) = load_stays w d
asked_stays (Some asked.TimeLow) d = refl
asked_stays (Some asked.TimeHigh) d = refl

console_stays : (l : Live) (bytes : List ℕ) (t : Bool)
    → (if t then first_arrives bytes l else l).devices.off ≡ l.devices.off
console_stays l [] true = refl
console_stays l (byte ∷ rest) true = refl
console_stays l bytes false = refl

met_stays : (o : Outside) (l : Live) → (met o l).devices.off ≡ l.devices.off
met_stays o l = console_stays (after_pass o.ticks l) l.console _

write_off : (write : Option Touch) (d : Devices) → d.off ≡ false → (devices_after_write write d).off ≡ true
    → (t : Touch) × ((write ≡ Some t) × (device_at t.pa ≡ Some word.Power))
write_off None d on off = absurd cc
write_off (Some t) d on off = (t, (refl, store_off_at (device_at t.pa) (word_of t) d on off))

abbrev OffByStore : Turned → Type 0
OffByStore t = t.live.devices.off ≡ true → (w : Touch) × ((t.rec.write ≡ Some w) × (device_at w.pa ≡ Some word.Power))

turned_off : (split : Bool) (o : Outside) (l : Live) (t : Turned) (outcome : Option (Stepped StepRec))
    → turned split o l outcome ≡ Some t → l.devices.off ≡ false → OffByStore t
turned_off split o l t None is on = absurd (let wrong : ◌≡◌ {A = Option Turned} None (Some t) = is in cc)
turned_off split o l t (Some stepped) is on =
    let d : Devices = after_asked (asked_at split o l) (met o l).devices in
    let before : d.off ≡ false = asked_stays (asked_at split o l) (met o l).devices ∙ met_stays o l ∙ on in
    off_where is (write_off stepped.rec.write d before)
  where
    off_where : {x : Turned} → ◌≡◌ {A = Option Turned} (Some x) (Some t) → OffByStore x → OffByStore t
    off_where {x} e holds = let same : x ≡ t = cc in subst OffByStore same holds

-- The turn that turns the machine off stored to the power switch.
pub turned_off_by_store : (split : Bool) (o : Outside) (l : Live) (t : Turned) → live_turn split o l ≡ Some t
    → l.devices.off ≡ false → t.live.devices.off ≡ true
    → (w : Touch) × ((t.rec.write ≡ Some w) × (device_at w.pa ≡ Some word.Power))
unfolding live_turn
turned_off_by_store split o l t is on off =
    turned_off split o l t (hart_step split (met o l).machine (due_to split o l)) is on off
