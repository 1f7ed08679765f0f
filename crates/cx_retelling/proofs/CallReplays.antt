-- What the replay of a call slice says of what the slice goes through.
use Rattle.std.proofs.Common.{◌≡◌, ℕ, nat_lt, ◌&&◌, Bool, false, not, List, [], length, Option, None, Some}
use Rattle.std.proofs.Common.{Result, Ok, Err, option_map, if◌then◌else◌, refl, sym, ap, subst, ◌∙◌, arith, le-ltb}
use Rattle.cx_alone.specs.Replaying.{IsFormedUpTo}
use Rattle.cx_call_alone.specs.Replaying.{Answers, Refuses, Stands}
use Rattle.cx_call_alone.specs.Replaying.{Opens as OpensSlice}
use Rattle.cx_call_alone.specs.Settled.{nothing_owed, ran_upto, settled_calls}
use Rattle.cx_call_alone.specs.declared.alone.CallAlone.{CallAlone}
use Rattle.cx_callfmt.specs.Rules.{calls}
use Rattle.cx_callfmt.specs.Scan.{CallScan, scan_behind_head}
use Rattle.cx_callfmt.specs.Text.{last_index}
use Rattle.cx_calls.specs.Calling.{called}
use Rattle.cx_codec.specs.Place.{Place, end_of}
use Rattle.cx_observe.specs.User.{user}
use Rattle.cx_observe.specs.declared.obs.Obs.{Obs}
use Rattle.cx_replay.specs.declared.fault.ReplayFault.{ReplayFault}
use Rattle.cx_replay.specs.declared.fault.ReplayFault.TheVariants as replay
use Rattle.cx_slicefmt.specs.Reading.{head_at}
use Rattle.cx_slices.specs.Settled.{BadField, BreaksAt}
use Rattle.cx_commands.specs.Doing.{IsGoodSoFar}
use Rattle.cx_commands.specs.Replay.{calls_refusal, status_of_slice, without_call_end}
use Rattle.cx_retelling.specs.Through.{Gives, Opens, calls_at, through_calls}
use Rattle.cx_retelling.specs.Through.{Refuses as RefusesThrough}
use Rattle.cx_retelling.proofs.ProcessReplays.{good_or_end}

-- where no end was seen
refusal_by : (s : CallScan) (short : Bool) → nat_lt (length (settled_calls user called s)) s.upto ≡ short
    → s.ended ≡ false → calls_refusal s ≡ option_map status_of_slice
    (if short then Some (BreaksAt (length (settled_calls user called s))) else option_map BadField s.bad)
refusal_by s short is going =
    ap (λ (t : Bool). option_map status_of_slice
    (if t then Some (BreaksAt (length (settled_calls user called s))) else
    if s.ended && not (nothing_owed user called s) then Some (BreaksAt s.upto) else option_map BadField s.bad)) is
    ∙ ap (λ (t : Bool). option_map status_of_slice
    (if short then Some (BreaksAt (length (settled_calls user called s))) else
    if t && not (nothing_owed user called s) then Some (BreaksAt s.upto) else option_map BadField s.bad)) going

-- of what a source gave before it failed
cut_off : (s : CallScan) (end : ℕ) (os : List Obs) → ran_upto user called s (last_index 0 s.records) ≡ os
    → length os ≡ last_index 0 s.records → IsFormedUpTo end s.bad
    → IsGoodSoFar end (calls_refusal (without_call_end s))
cut_off s end os run count bad =
    let all : length (ran_upto user called s (last_index 0 s.records)) ≡ last_index 0 s.records
    = ap length run ∙ count in
    subst (IsGoodSoFar end) (sym (refusal_by (without_call_end s) false
    (le-ltb (length (ran_upto user called s (last_index 0 s.records))) (last_index 0 s.records) (omega (arith, all)))
    refl)) (good_or_end end s.bad bad)

refuses : (s : CallScan) (end : ℕ) (os : List Obs) (cut : Type 0) (e : ReplayFault) → Refuses s end os cut e
    → RefusesThrough (through_calls s) end os cut e
refuses s end os cut (replay.Format o) is = (ap (option_map status_of_slice) is.0, is.1)
refuses s end os cut (replay.Broken n) is = (ap (option_map status_of_slice) is.0, is.1.0)
refuses s end os cut replay.ReadFault is = λ h.
    (let all = is h in (cut_off s end os all.1.0 all.1.1 all.0, all.1.0))
refuses s end os cut replay.NoMemory is = tt

abbrev pub scan_at : Place → CallScan
scan_at p = scan_behind_head (head_at calls false p)

abbrev pub stands_at : Place → List Obs → CallAlone → Option (List ℕ) → (given input : List ℕ) → Type 0
stands_at p os a left given input = Stands (scan_at p) (end_of p) os a left given input

pub opens : (p : Place) (left : Option (List ℕ)) (given input : List ℕ) (r : Result CallAlone ReplayFault)
    → OpensSlice (scan_at p) (end_of p) left given input r
    → Opens (calls_at p) (end_of p) (λ a. stands_at p [] a left given input) (input ≡ given) r
opens p left given input (Ok a) is = is
opens p left given input (Err e) is = refuses (scan_at p) (end_of p) [] (input ≡ given) e is

pub answers : (p : Place) (os : List Obs) (a : CallAlone) (left : Option (List ℕ)) (given input : List ℕ)
    (r : Result (Option Obs) ReplayFault) → Answers (scan_at p) (end_of p) os a left given input r
    → Gives (calls_at p) (end_of p) (λ now. stands_at p now a left given input) os (input ≡ given) r
answers p os a left given input (Ok (Some o)) is = is
answers p os a left given input (Ok None) is = (ap (option_map status_of_slice) is.0, is.1.0)
answers p os a left given input (Err e) is = refuses (scan_at p) (end_of p) os (input ≡ given) e is
