-- What a call answers, by what was due and how it went.
use Rattle.std.proofs.Common.{◌≡◌, ℕ, ◌+◌, List, [], ◌∷◌, ◌++◌, Option, None, Some, Ok, Err}
use Rattle.std.proofs.Common.{refl, sym, ap, subst, ◌∙◌}
use Rattle.cx_observe.specs.User.{user}
use Rattle.cx_observe.specs.declared.obs.Obs.{Obs}
use Rattle.cx_replay.specs.declared.fault.ReplayFault.{ReplayFault}
use Rattle.cx_replay.specs.declared.fault.ReplayFault.TheVariants as fault
use Rattle.cx_slices.specs.Alone.{step_alone}
use Rattle.cx_slices.specs.Items.{Items, Known}
use Rattle.cx_slices.specs.Settled.{SliceScan, settled_run, slice_bad}
use Rattle.cx_alone.specs.Replaying.{GaveAll, HasRun, Refuses}
use Rattle.cx_alone.specs.Settling.{IsDue, SettlesNone}
use Rattle.cx_alone.specs.Steps.{GoesBy}
use Rattle.cx_alone.specs.declared.fault.Stop.{Stop}
use Rattle.cx_alone.specs.declared.fault.Stop.TheVariants as stop
use Rattle.cx_alone.proofs.Runs.{Broke, all_given, broken, carried, refused}

pub refuses : (whole : SliceScan ℕ) (end : ℕ) (os : List Obs) (at : ℕ) (w : Known) (cut : Type 0) (e : ReplayFault)
    → HasRun whole os at w → SettlesNone whole end at cut e → Refuses whole end os cut e
refuses whole end os at w cut (fault.Format o) has none =
    (refused whole os at w (Some o) has (sym none.0) none.1, all_given whole os at w has (sym none.0))
refuses whole end os at w cut (fault.Broken n) has none = absurd none
refuses whole end os at w cut fault.ReadFault has none = λ is. (
  (none is).1,
  (ap (λ (n : ℕ). settled_run user n whole.groups) (none is).0 ∙ has.run, has.count ∙ sym (none is).0),
)
refuses whole end os at w cut fault.NoMemory has none = tt

-- The end, behind which the run stands as it did.
pub record Ended (whole : SliceScan ℕ) (os : List Obs) (at : ℕ) (now : Known) (At : ℕ → Type 0) : Type 0 where
  pub good : slice_bad user whole ≡ None
  pub gave : GaveAll whole os
  pub run : HasRun whole os at now
  pub ahead : At at

ended_by : (whole : SliceScan ℕ) (os : List Obs) (at : ℕ) (w now : Known) (At : ℕ → Type 0) (d : Option (Items ℕ))
    → HasRun whole os at w → IsDue whole at At d → GoesBy w d now (Ok None) → Ended whole os at now At
ended_by whole os at w now At None has due went = record {
  good = refused whole os at w None has due.0 due.1;
  gave = all_given whole os at w has due.0;
  run = record { rises = has.rises; run = has.run; count = has.count; known = went ∙ has.known };
  ahead = due.2;
}
ended_by whole os at w now At (Some i) has due went = absurd went

end_by : (w now : Known) (d : Option (Items ℕ)) → GoesBy w d now (Ok None) → d ≡ None
end_by w now None went = refl
end_by w now (Some i) went = absurd went

pub end_is_due : (w now : Known) (d : Option (Items ℕ)) (found : Option Obs) → found ≡ None → GoesBy w d now (Ok found)
    → d ≡ None
end_is_due w now d found is went = end_by w now d (subst (λ (f : Option Obs). GoesBy w d now (Ok f)) is went)

pub ended : (whole : SliceScan ℕ) (os : List Obs) (at : ℕ) (w now : Known) (At : ℕ → Type 0) (d : Option (Items ℕ))
    (found : Option Obs) → HasRun whole os at w → IsDue whole at At d → found ≡ None → GoesBy w d now (Ok found)
    → Ended whole os at now At
ended whole os at w now At d found has due is went = ended_by whole os at w now At d has due
    (subst (λ (f : Option Obs). GoesBy w d now (Ok f)) is went)

-- One observation more.
pub record Went (whole : SliceScan ℕ) (os : List Obs) (o : Obs) (at : ℕ) (now : Known) (At : ℕ → Type 0) : Type 0
  where
    pub run : HasRun whole (os ++ o ∷ []) (at + 1) now
    pub ahead : At (at + 1)

goes_by : (whole : SliceScan ℕ) (os : List Obs) (o : Obs) (at : ℕ) (w now : Known) (At : ℕ → Type 0)
    (d : Option (Items ℕ)) → HasRun whole os at w → IsDue whole at At d → GoesBy w d now (Ok (Some o))
    → Went whole os o at now At
goes_by whole os o at w now At None has due went = absurd went
goes_by whole os o at w now At (Some i) has due went = record {
  run = carried whole os o at w now has (ap (step_alone user w) (sym due.0) ∙ went.0) went.1;
  ahead = due.2;
}

pub goes_on : (whole : SliceScan ℕ) (os : List Obs) (o : Obs) (at : ℕ) (w now : Known) (At : ℕ → Type 0)
    (d : Option (Items ℕ)) (found : Option Obs) → HasRun whole os at w → IsDue whole at At d → found ≡ Some o
    → GoesBy w d now (Ok found) → Went whole os o at now At
goes_on whole os o at w now At d found has due is went = goes_by whole os o at w now At d has due
    (subst (λ (f : Option Obs). GoesBy w d now (Ok f)) is went)

breaks_by : (whole : SliceScan ℕ) (os : List Obs) (at : ℕ) (w now : Known) (At : ℕ → Type 0) (d : Option (Items ℕ))
    → HasRun whole os at w → IsDue whole at At d → GoesBy w d now (Err stop.Broken) → Broke whole os at
breaks_by whole os at w now At None has due went = absurd went
breaks_by whole os at w now At (Some i) has due went =
    broken whole os at w has due.1 (ap (step_alone user w) (sym due.0) ∙ went)

pub breaks : (whole : SliceScan ℕ) (os : List Obs) (at : ℕ) (w now : Known) (At : ℕ → Type 0) (d : Option (Items ℕ))
    (e : Stop) → HasRun whole os at w → IsDue whole at At d → e ≡ stop.Broken → GoesBy w d now (Err e)
    → Broke whole os at
breaks whole os at w now At d e has due is went = breaks_by whole os at w now At d has due
    (subst (λ (f : Stop). GoesBy w d now (Err f)) is went)
