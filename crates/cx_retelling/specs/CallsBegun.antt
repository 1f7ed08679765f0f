-- What a call slice goes through begins with the observations that its replay gave.
use Rattle.std.specs.Prelude.{◌≡◌, ℕ, ◌≤◌, false, List, [], ◌∷◌, ◌++◌, Option, None, Some}
use Rattle.std.proofs.Common.{arith, ap, refl, ◌∙◌}
use Rattle.cx_call_alone.specs.Ahead.{IsAheadCalls, place_called, record_held, untaken_records}
use Rattle.cx_call_alone.specs.Placed.{placed_between}
use Rattle.cx_call_alone.specs.Replaying.{Stands, at_of}
use Rattle.cx_call_alone.specs.Settled.{started}
use Rattle.cx_call_alone.specs.declared.alone.CallAlone.{CallAlone}
use Rattle.cx_call_alone.specs.declared.items.Told.{Told}
use Rattle.cx_call_alone.proofs.Placed.{between_more}
use Rattle.cx_callfmt.specs.Rules.{behind_record, calls}
use Rattle.cx_callfmt.specs.Scan.{CallScan, scan_behind_head}
use Rattle.cx_callfmt.proofs.Scans.{scan_rises}
use Rattle.cx_calls.specs.Calling.{called}
use Rattle.cx_codec.specs.Place.{Place, end_of}
use Rattle.cx_map.specs.Bytes.{AreBytes}
use Rattle.cx_observe.specs.User.{user}
use Rattle.cx_observe.specs.declared.obs.Obs.{Obs}
use Rattle.cx_placing.specs.Called.{CallStanding, standing_behind, step_called}
use Rattle.cx_placing.specs.CallsAlone.{ran_called}
use Rattle.cx_placing.specs.Placing.{Placed}
use Rattle.cx_slicefmt.specs.Reading.{head_at}
use Rattle.cx_slices.specs.Observed.{Watch}
use Rattle.cx_retelling.specs.ProcessBegun.{and_begins}
use Rattle.cx_retelling.specs.Through.{calls_at}

ran_begins : {O G : Type 0} (m : Watch O G) (call : O → Option ℕ) (s : CallStanding) (ps qs : List (Placed G))
    → (rest : List O) × (ran_called m call s (ps ++ qs) ≡ ran_called m call s ps ++ rest)
ran_begins m call s [] qs = (ran_called m call s qs, refl)
ran_begins m call s (p ∷ ps) qs =
    and_begins (λ o. ran_called m call (standing_behind m s o p.call) (ps ++ qs))
    (λ o. ran_called m call (standing_behind m s o p.call) ps)
    (λ o. ran_begins m call (standing_behind m s o p.call) ps qs) (step_called m call s p)

-- the steps that were taken are settled
untaken_upto : (upto : ℕ) (waiting : Option Told) (p : Place) → AreBytes p.ahead
    → upto ≤ (untaken_records upto waiting p).upto
untaken_upto upto None p are = omega arith
untaken_upto upto (Some t) p are = (scan_rises (behind_record (record_held upto t)) p are).upto

within_upto : (s : CallScan) (end at upto : ℕ) (waiting : Option Told) (p : Place) (left : Option (List ℕ))
    → IsAheadCalls s end at upto waiting p left → at ≤ s.upto
within_upto s end at upto waiting p left ahead =
    let same : s.upto ≡ (untaken_records upto waiting p).upto = ap (λ (t : CallScan). t.upto) ahead.taken.parts in
    let more = untaken_upto upto waiting p ahead.taken.bytes in
    omega (arith, same, more, ahead.within)

pub calls_begin : (p : Place) (os : List Obs) (a : CallAlone) (left : Option (List ℕ)) (given input : List ℕ)
    → Stands (scan_behind_head (head_at calls false p)) (end_of p) os a left given input
    → (rest : List Obs) × ((calls_at p).observations ≡ os ++ rest)
calls_begin p os a left given input stands =
    let s : CallScan = scan_behind_head (head_at calls false p) in
    let within = within_upto s (end_of p) (at_of a) a.ahead.upto a.ahead.waiting
    (place_called a.ahead.reader given input) left stands.ahead in
    let more = between_more 32 0 (at_of a) s.upto s.records within in
    let run = ran_begins user called (started user s) (placed_between 32 0 (at_of a) s.records) more.rest in (
      run.0,
      ap (ran_called user called (started user s)) more.parts
          ∙ run.1 ∙ ap (λ (xs : List Obs). xs ++ run.0) stands.run.run,
    )
