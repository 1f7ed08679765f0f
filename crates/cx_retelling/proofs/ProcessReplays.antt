-- What the replay of a process slice says of what the slice goes through.
use Rattle.std.proofs.Common.{◌≡◌, ℕ, ◌-◌, nat_lt, Bool, false, List, [], length, Option, None, Some, Result, Ok, Err}
use Rattle.std.proofs.Common.{IfOk, OnOk, option_map, unwrap_or, if◌then◌else◌, inl, inr, refl, sym, ap, subst, ◌∙◌}
use Rattle.std.proofs.Common.{arith, le-ltb}
use Rattle.cx_alone.specs.Ahead.{EndIsLast}
use Rattle.cx_alone.specs.Replaying.{Answers, IsFormedUpTo, Refuses, Stands}
use Rattle.cx_alone.specs.Replaying.{Opens as OpensSlice}
use Rattle.cx_alone.specs.declared.alone.Alone.{Alone}
use Rattle.cx_codec.specs.Place.{Place, end_of}
use Rattle.cx_observe.specs.User.{user}
use Rattle.cx_observe.specs.declared.obs.Obs.{Obs}
use Rattle.cx_replay.specs.declared.fault.ReplayFault.{ReplayFault}
use Rattle.cx_replay.specs.declared.fault.ReplayFault.TheVariants as replay
use Rattle.cx_slicefmt.specs.Rules.{process}
use Rattle.cx_slicefmt.specs.Scan.{scan_groups}
use Rattle.cx_slicefmt.specs.Text.{least_behind}
use Rattle.cx_slices.specs.Settled.{BadField, BreaksAt, SliceScan, settled_run}
use Rattle.cx_commands.specs.Doing.{IsGoodSoFar}
use Rattle.cx_commands.specs.Replay.{slice_refusal, status_of_slice, without_end}
use Rattle.cx_retelling.specs.Through.{Gives, Opens, process_at, through_process}
use Rattle.cx_retelling.specs.Through.{Refuses as RefusesThrough}

pub good_or_end : (end : ℕ) (bad : Option ℕ) → IsFormedUpTo end bad
    → IsGoodSoFar end (option_map status_of_slice (option_map BadField bad))
good_or_end end bad (inl none) = rw none tt
good_or_end end bad (inr at) = rw at refl

refusal_by : (s : SliceScan ℕ) (short : Bool) → nat_lt (length (settled_run user s.upto s.groups)) s.upto ≡ short
    → slice_refusal s ≡ option_map status_of_slice
    (if short then Some (BreaksAt (length (settled_run user s.upto s.groups))) else option_map BadField s.bad)
refusal_by s short is = ap (λ (t : Bool). option_map status_of_slice
    (if t then Some (BreaksAt (length (settled_run user s.upto s.groups))) else option_map BadField s.bad)) is

-- of what a source gave before it failed
cut_off : (s : SliceScan ℕ) (end : ℕ) (os : List Obs)
    → settled_run user (least_behind 0 s.groups - 1) s.groups ≡ os → length os ≡ least_behind 0 s.groups - 1
    → IsFormedUpTo end s.bad → IsGoodSoFar end (slice_refusal (without_end s))
cut_off s end os run count bad =
    let all : length (settled_run user (least_behind 0 s.groups - 1) s.groups) ≡ least_behind 0 s.groups - 1
    = ap length run ∙ count in
    subst (IsGoodSoFar end) (sym (refusal_by (without_end s) false
    (le-ltb (length (settled_run user (least_behind 0 s.groups - 1) s.groups)) (least_behind 0 s.groups - 1)
    (omega (arith, all))))) (good_or_end end s.bad bad)

refuses : (s : SliceScan ℕ) (end : ℕ) (os : List Obs) (cut : Type 0) (e : ReplayFault) → Refuses s end os cut e
    → RefusesThrough (through_process s) end os cut e
refuses s end os cut (replay.Format o) is = (ap (option_map status_of_slice) is.0, is.1)
refuses s end os cut (replay.Broken n) is = (ap (option_map status_of_slice) is.0, is.1.0)
refuses s end os cut replay.ReadFault is = λ h.
    (let all = is h in (cut_off s end os all.1.0 all.1.1 all.0, all.1.0))
refuses s end os cut replay.NoMemory is = tt

abbrev pub stands_at : Place → List Obs → Alone → Option (List ℕ) → (given input : List ℕ) → Type 0
stands_at p os a left given input = Stands (scan_groups process 0 p) (end_of p) os a left given input

pub opens : (p : Place) (left : Option (List ℕ)) (given input : List ℕ) (r : Result Alone ReplayFault)
    → OpensSlice (scan_groups process 0 p) (end_of p) left given input r
    → Opens (process_at p) (end_of p) (λ a. stands_at p [] a left given input) (input ≡ given) r
opens p left given input (Ok a) is = is
opens p left given input (Err e) is = refuses (scan_groups process 0 p) (end_of p) [] (input ≡ given) e is

pub answers : (p : Place) (os : List Obs) (a : Alone) (left : Option (List ℕ)) (given input : List ℕ)
    (r : Result (Option Obs) ReplayFault) → Answers (scan_groups process 0 p) (end_of p) os a left given input r
    → Gives (process_at p) (end_of p) (λ now. stands_at p now a left given input) os (input ≡ given) r
answers p os a left given input (Ok (Some o)) is = is
answers p os a left given input (Ok None) is = (ap (option_map status_of_slice) is.0, is.1.0)
answers p os a left given input (Err e) is = refuses (scan_groups process 0 p) (end_of p) os (input ≡ given) e is

-- Where no step is left, nothing is left of the source.
pub spent_by : {W : Type 0} (r : Result (Option Obs) ReplayFault) (waiting : Option W) (left : Option (List ℕ))
    → OnOk r (EndIsLast waiting left) → IfOk r (λ found. found ≡ None → waiting ≡ None)
    → IfOk r (λ found. found ≡ None → unwrap_or left [] ≡ [])
spent_by (Ok found) waiting left last ended = λ is. last (ended is)
spent_by (Err e) waiting left last ended = tt
