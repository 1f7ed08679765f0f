-- The events of one step more.
use Rattle.std.proofs.Common.{◌≡◌, ℕ, suc, ◌+◌, ◌==◌, ◌&&◌, not, Bool, false, List, [], ◌∷◌, ◌++◌, length}
use Rattle.std.proofs.Common.{Option, None, Some, IfErr, IfOk, IsSome, Result, Ok, Err, inl, inr, refl, ap, sym, subst}
use Rattle.std.proofs.Common.{◌∙◌, arith, append_assoc}
use Rattle.std.proofs.lemmas.Bool.{cases_eq, ne_eqb}
use Rattle.cx_hart.specs.HartStep.{hart_step}
use Rattle.cx_hart.specs.Whole.{Whole}
use Rattle.cx_hart.specs.declared.record.StepRec.{StepRec}
use Rattle.cx_log.specs.Order.{InOrder, at_start}
use Rattle.cx_log.specs.Reading.{Opened}
use Rattle.cx_log.specs.Recording.{Recorded}
use Rattle.cx_log.specs.Scan.{Scan, decoded}
use Rattle.cx_machine.specs.Due.{Due}
use Rattle.cx_replay.specs.declared.progress.Progress.{Progress}
use Rattle.cx_replay.specs.Replaying.{GaveAll, Stands}
use Rattle.cx_replay.proofs.Standing.{carried_all, carried_broken}
use Rattle.cx_run.specs.Due.{due_at}
use Rattle.cx_run.specs.FirstBad.{Broken, Format, bad_behind, carried}
use Rattle.cx_run.specs.StepEvents.{has_mark, step_events}
use Rattle.cx_run.specs.Window.{events_between}
use Rattle.cx_run.proofs.StepEvents.{step_more}
use Rattle.cx_keeping.specs.Keeping.{Finds, GathersStep, GoesTo, IsFree, IsKept, reach_of}
use Rattle.cx_keeping.specs.declared.fault.KeepingFault.{KeepingFault}
use Rattle.cx_keeping.specs.declared.fault.KeepingFault.TheVariants as fault
use Rattle.cx_keeping.specs.declared.gathered.Gathered.{Gathered}

pub kept_more : (o : Opened) (whole : Scan) (from at now last : ℕ) (kept kept' : List Recorded) (marked : Bool)
    (due : Due)
    → InOrder o.header.pages (at_start o.header.base o.header.start) whole.events last → IsKept o whole from at kept
    → marked ≡ (not (at == o.header.base) && has_mark at whole.events) → due ≡ due_at whole.events at → now ≡ at + 1
    → kept' ≡ kept ++ step_events at marked due → IsKept o whole from now kept'
kept_more o whole from at now last kept kept' marked due order is mark due_is next more =
    let base : ℕ = o.header.base in
    let first = is.first in
    let rises = is.rises in
    record {
      first = first;
      rises = omega (arith, rises, next);
      events = ap (λ (n : ℕ). events_between base n whole.events) (next ∙ omega arith)
          ∙ step_more o.header.pages base at (at_start base o.header.start) whole.events last order
          (omega (arith, first, rises))
          ∙ ap (λ (m : Bool). events_between base at whole.events ++ step_events at m (due_at whole.events at))
          (sym mark)
          ∙ ap (λ (d : Due). events_between base at whole.events ++ step_events at marked d) (sym due_is)
          ∙ ap (λ (es : List Recorded). es ++ step_events at marked due) is.events
          ∙ append_assoc (events_between base from whole.events) kept (step_events at marked due)
          ∙ ap (λ (es : List Recorded). events_between base from whole.events ++ es) (sym more);
    }

free_to : (from at now : ℕ) (whole : Scan) → now ≡ at + 1 → IsFree from (suc at) whole.events
    → IsFree from now whole.events
free_to from at now whole next free n above below = free n above (omega (arith, below, next))

free_more : (from now : ℕ) (whole : Scan) → has_mark now whole.events ≡ false → IsFree from now whole.events
    → IsFree from (suc now) whole.events
free_more from now whole none free n above below = elim (cases_eq n now) [
  | inl same ↦ ap (λ (k : ℕ). has_mark k whole.events) same ∙ none
  | inr other ↦ free n above (omega (arith, below, other))
]

unmarked : (a b : Bool) → a ≡ false → (not a && b) ≡ b
unmarked a b is = rw is refl

pub step_kept : (r : Result (Option Gathered) KeepingFault) (o : Opened) (whole : Scan)
    (from at now last end : ℕ) (kept kept' : List Recorded) (given : List StepRec) (rec : StepRec)
    (marked : Bool) (due : Due)
    (Stood : List StepRec → Type 0) (may cut : Type 0)
    → InOrder o.header.pages (at_start o.header.base o.header.start) whole.events last → IsKept o whole from at kept
    → IsFree from (suc at) whole.events
    → marked ≡ (not (at == o.header.base) && has_mark at whole.events) → due ≡ due_at whole.events at → now ≡ at + 1
    → Stood (given ++ rec ∷ []) → IfOk r (λ found. kept' ≡ kept ++ step_events at marked due)
    → IfOk r (Finds now (not (now == o.header.base) && has_mark now whole.events))
    → IfErr r (λ e. e ≡ fault.NoMemory)
    → GathersStep o whole from now kept' Stood end may cut r
step_kept r o whole from at now last end kept kept' given rec marked due Stood may cut order is free mark due_is next
    stood more finds refused = by_result r more finds refused
  where
    free_now : IsFree from now whole.events
    free_now = free_to from at now whole next free

    apart : (now == o.header.base) ≡ false
    apart = let first = is.first in
        let rises = is.rises in
        ne_eqb now o.header.base (λ same. omega (arith, same, first, rises, next))

    by_result : (r : Result (Option Gathered) KeepingFault)
        → IfOk r (λ found. kept' ≡ kept ++ step_events at marked due)
        → IfOk r (Finds now (not (now == o.header.base) && has_mark now whole.events))
        → IfErr r (λ e. e ≡ fault.NoMemory) → GathersStep o whole from now kept' Stood end may cut r
    by_result (Ok None) more finds refused = record {
      given = given ++ rec ∷ [];
      stands = stood;
      kept_is = kept_more o whole from at now last kept kept' marked due order is mark due_is next more;
      none = free_more from now whole (sym (unmarked (now == o.header.base) (has_mark now whole.events) apart) ∙ finds)
          free_now;
    }
    by_result (Ok (Some found)) more finds refused =
        subst (λ (g : Gathered). GathersStep o whole from now kept' Stood end may cut (Ok (Some g))) (sym finds.1) (
          refl,
          (
            sym (unmarked (now == o.header.base) (has_mark now whole.events) apart) ∙ finds.0,
            record {
              given = given ++ rec ∷ [];
              stands = stood;
              kept_is = kept_more o whole from at now last kept kept' marked due order is mark due_is next more;
              none = free_now;
            },
          ),
        )
    by_result (Err e) more finds refused =
        subst (λ (e : KeepingFault). GathersStep o whole from now kept' Stood end may cut (Err e)) (sym refused) tt

-- ---- no step more

pub free_reach : (o : Opened) (whole : Scan) (from at : ℕ) (given : List StepRec) → at ≡ o.header.base + length given
    → carried hart_step (decoded o whole) ≡ length given → IsFree from (suc at) whole.events
    → IsFree from (suc (reach_of o whole)) whole.events
free_reach o whole from at given count carried_is free n above below =
    free n above (omega (arith, below, count, carried_is))

pub step_ends : (o : Opened) (whole : Scan) (from at : ℕ) (kept : List Recorded) (given : List StepRec)
    (Stood : List StepRec → Type 0) (may : Type 0) → at ≡ o.header.base + length given → IsKept o whole from at kept
    → IsFree from (suc at) whole.events → GaveAll o whole given
    → (may → (bad_behind hart_step o whole ≡ None) × Stood given)
    → (whole.upto ≡ at) × (IsKept o whole from at kept × (IsFree from (suc at) whole.events
    × (may → (bad_behind hart_step o whole ≡ None) × GoesTo o whole from at (suc at) kept Stood)))
step_ends o whole from at kept given Stood may count is free all good = (
  all ∙ sym count,
  (
    is,
    (
      free,
      λ h.
          let here = good h in
          (here.0, record { given = given; stands = here.1; kept_is = is; none = free }),
    ),
  ),
)

is_there : {X : Type 0} (x : Option X) (y : X) → x ≡ Some y → IsSome x
is_there x y is = rw is refl

pub step_bad : {m : Whole} {p : Progress} {bytes : List ℕ} {Has : Scan → Type 0} (o : Opened) (whole : Scan)
    (from f : ℕ) (given : List StepRec) → Stands o whole given m p bytes Has → IsFree from (suc p.at) whole.events
    → bad_behind hart_step o whole ≡ Some (Format f) → GaveAll o whole given
    → IsSome (bad_behind hart_step o whole) × IsFree from (suc (reach_of o whole)) whole.events
step_bad {m} {p} o whole from f given stands free bad all = (
  is_there (bad_behind hart_step o whole) (Format f) bad,
  free_reach o whole from p.at given stands.count (carried_all stands all) free,
)

pub step_broken : (o : Opened) (whole : Scan) (from at n : ℕ) (given : List StepRec) → at ≡ o.header.base + length given
    → IsFree from (suc at) whole.events → bad_behind hart_step o whole ≡ Some (Broken n)
    → n ≡ o.header.base + length given
    → IsSome (bad_behind hart_step o whole) × IsFree from (suc (reach_of o whole)) whole.events
step_broken o whole from at n given count free bad is = (
  is_there (bad_behind hart_step o whole) (Broken n) bad,
  free_reach o whole from at given count
      (carried_broken o whole given (bad ∙ ap (λ (k : ℕ). Some (Broken k)) is)) free,
)
