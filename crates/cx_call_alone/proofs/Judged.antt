-- A call slice goes alone exactly where it has no bad place.
use Rattle.std.proofs.Common.{◌≡◌, ℕ, ◌+◌, ◌<◌, nat_lt, ◌&&◌, Bool, true, false, not, List, length, Option, None, Some}
use Rattle.std.proofs.Common.{option_map, Result, Ok, Err, if◌then◌else◌, refl, sym, ap, ◌∙◌, arith, ltb-true}
use Rattle.cx_callfmt.specs.Scan.{CallScan}
use Rattle.cx_placing.specs.CallsAlone.{all_or_broken_from, calls_alone, ends_settled, ran_called}
use Rattle.cx_placing.proofs.Streams.{ends_settled-stopped, run_called-is}
use Rattle.cx_slices.specs.Observed.{Watch}
use Rattle.cx_slices.specs.Settled.{BadField, BreaksAt}
use Rattle.cx_call_alone.specs.Placed.{placed_between}
use Rattle.cx_call_alone.specs.Running.{GaveAllCalled}
use Rattle.cx_call_alone.specs.Settled.{calls_bad, nothing_owed, settled_calls, slice_scanned, started}
use Rattle.cx_call_alone.proofs.Placed.{length-between}

record NoneBad (short owing : Bool) (bad : Option ℕ) : Type 0 where
  all : short ≡ false
  owed : owing ≡ false
  good : bad ≡ None

none_bad : (short owing : Bool) (n upto : ℕ) (bad : Option ℕ)
    → (if short then Some (BreaksAt n) else if owing then Some (BreaksAt upto) else option_map BadField bad) ≡ None
    → NoneBad short owing bad
none_bad true owing n upto bad is = cc
none_bad false true n upto bad is = cc
none_bad false false n upto None is = record { all = refl; owed = refl; good = refl }
none_bad false false n upto (Some o) is = cc

good_by : (short owing : Bool) (n upto : ℕ) (bad : Option ℕ) → NoneBad short owing bad
    → (if short then Some (BreaksAt n) else if owing then Some (BreaksAt upto) else option_map BadField bad) ≡ None
good_by short owing n upto bad is = rw (is.all, is.owed, is.good) refl

owes_none : (ended settled : Bool) → ended ≡ true → (ended && not settled) ≡ false → settled ≡ true
owes_none true true is none = refl
owes_none true false is none = cc
owes_none false settled is none = cc

settled_so : (ended settled : Bool) → settled ≡ true → (ended && not settled) ≡ false
settled_so true true is = refl
settled_so false true is = refl
settled_so ended false is = cc

ends_so : {O : Type 0} (ends : Bool) (os ps : List O) → all_or_broken_from 0 ends os ≡ Ok ps → ends ≡ true
ends_so true os ps is = refl
ends_so false os ps is = cc

alone_is : {O : Type 0} (m : Watch O ℕ) (called : O → Option ℕ) (whole : CallScan)
    → calls_alone m called (slice_scanned m.count whole)
    ≡ all_or_broken_from 0 (nothing_owed m called whole) (settled_calls m called whole)
unfolding calls_alone
alone_is m called whole = run_called-is m called 0 (started m whole) (placed_between m.count 0 whole.upto whole.records)

pub good_goes_alone : {O : Type 0} (m : Watch O ℕ) (called : O → Option ℕ) (whole : CallScan) (os : List O)
    → GaveAllCalled m called whole os → (whole.bad ≡ None → whole.ended ≡ true) → calls_bad m called whole ≡ None
    → (whole.bad ≡ None) × (calls_alone m called (slice_scanned m.count whole) ≡ Ok os)
good_goes_alone m called whole os gave ended good =
    let parts = none_bad (nat_lt (length (settled_calls m called whole)) whole.upto)
    (whole.ended && not (nothing_owed m called whole)) (length (settled_calls m called whole)) whole.upto whole.bad
    good in (
      parts.good,
      alone_is m called whole
          ∙ (ap (λ (t : Bool). all_or_broken_from 0 t (settled_calls m called whole))
          (owes_none whole.ended (nothing_owed m called whole) (ended parts.good) parts.owed)
          ∙ ap (λ (ps : List _). Ok ps) gave),
    )

pub alone_is_good : {O : Type 0} (m : Watch O ℕ) (called : O → Option ℕ) (whole : CallScan) (os : List O)
    → (whole.bad ≡ None) × (calls_alone m called (slice_scanned m.count whole) ≡ Ok os)
    → calls_bad m called whole ≡ None
alone_is_good m called whole os goes =
    let settled : nothing_owed m called whole ≡ true
    = ends_so (nothing_owed m called whole) (settled_calls m called whole) os (sym (alone_is m called whole) ∙ goes.1)
    in
    good_by (nat_lt (length (settled_calls m called whole)) whole.upto)
    (whole.ended && not (nothing_owed m called whole)) (length (settled_calls m called whole)) whole.upto whole.bad
    (record {
      all = by_test (nat_lt (length (settled_calls m called whole)) whole.upto) refl settled;
      owed = settled_so whole.ended (nothing_owed m called whole) settled;
      good = goes.0;
    })
  where
    stopped : length (settled_calls m called whole) < whole.upto → nothing_owed m called whole ≡ false
    stopped less = ends_settled-stopped m called (started m whole)
        (placed_between m.count 0 whole.upto whole.records)
        (omega (arith, less, length-between m.count 0 whole.upto whole.records))

    by_test : (t : Bool) → nat_lt (length (settled_calls m called whole)) whole.upto ≡ t
        → nothing_owed m called whole ≡ true → t ≡ false
    by_test true test settled =
        let none : nothing_owed m called whole ≡ false
        = stopped (ltb-true (length (settled_calls m called whole)) whole.upto test) in
        cc
    by_test false test settled = refl
