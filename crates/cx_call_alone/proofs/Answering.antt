-- What a call answers, by what was due and how it went.
use Rattle.std.proofs.Common.{◌≡◌, ℕ, ◌+◌, true, false, List, [], ◌∷◌, ◌++◌, length, Option, None, Some, Ok, Err}
use Rattle.std.proofs.Common.{refl, sym, ap, subst, ◌∙◌}
use Rattle.cx_observe.specs.User.{user}
use Rattle.cx_observe.specs.declared.obs.Obs.{Obs}
use Rattle.cx_replay.specs.declared.fault.ReplayFault.{ReplayFault}
use Rattle.cx_replay.specs.declared.fault.ReplayFault.TheVariants as fault
use Rattle.cx_alone.specs.declared.fault.Stop.{Stop}
use Rattle.cx_alone.specs.declared.fault.Stop.TheVariants as stop
use Rattle.cx_calls.specs.Calling.{called}
use Rattle.cx_callfmt.specs.Scan.{CallScan}
use Rattle.cx_placing.specs.Called.{CallStanding, standing_behind, step_called}
use Rattle.cx_placing.specs.CallsAlone.{is_settled}
use Rattle.cx_placing.specs.Placing.{Placed}
use Rattle.cx_call_alone.specs.Ahead.{step_held}
use Rattle.cx_call_alone.specs.Going.{GoesByCall, IsOver, RisesDue}
use Rattle.cx_call_alone.specs.Placed.{placed_of}
use Rattle.cx_call_alone.specs.Replaying.{Refuses}
use Rattle.cx_call_alone.specs.Running.{GaveAllCalled, HasCalled}
use Rattle.cx_call_alone.specs.Settled.{calls_bad, ran_upto}
use Rattle.cx_call_alone.specs.Settling.{EndsOver, IsDueCalls, SettlesNoCall}
use Rattle.cx_call_alone.specs.Standing.{IsStanding}
use Rattle.cx_call_alone.specs.declared.ahead.Due.{Due}
use Rattle.cx_call_alone.specs.declared.ahead.Due.TheVariants as due
use Rattle.cx_call_alone.specs.declared.called.Called.{Called}
use Rattle.cx_call_alone.specs.declared.items.Told.{Told}
use Rattle.cx_call_alone.proofs.Runs.{BrokeCalled, all_given, at_end, broken, carried, refused}

pub refuses : (whole : CallScan) (end : ℕ) (os : List Obs) (at : ℕ) (s : CallStanding) (cut : Type 0) (e : ReplayFault)
    → HasCalled user called whole os at s → SettlesNoCall whole end at cut e → Refuses whole end os cut e
refuses whole end os at s cut (fault.Format o) has none = (
  refused user called whole os at o s has (sym none.0) none.1 none.2,
  all_given user called whole os at s has (sym none.0),
)
refuses whole end os at s cut (fault.Broken n) has none = absurd none
refuses whole end os at s cut fault.ReadFault has none = λ is. (
  (none is).1,
  (ap (ran_upto user called whole) (none is).0 ∙ has.run, has.count ∙ sym (none is).0),
)
refuses whole end os at s cut fault.NoMemory has none = tt

-- what is due is what is placed there, and a call's bytes rise
pub due_rises : (whole : CallScan) (at : ℕ) (At : ℕ → Type 0) (d : Due) → IsDueCalls whole at At d → RisesDue d
due_rises whole at At (due.Step step) is = is.rises
due_rises whole at At due.End is = tt

-- The end, with nothing owed.
pub record EndedCalls (whole : CallScan) (os : List Obs) (at : ℕ) (s : CallStanding) (now : Called) (At : ℕ → Type 0)
    : Type 0 where
  pub good : calls_bad user called whole ≡ None
  pub gave : GaveAllCalled user called whole os
  pub is : IsStanding s now
  pub ahead : At at

ended_by : (whole : CallScan) (os : List Obs) (at : ℕ) (s : CallStanding) (now : Called) (At : ℕ → Type 0) (d : Due)
    → HasCalled user called whole os at s → IsDueCalls whole at At d → GoesByCall s d now (Ok None)
    → EndedCalls whole os at s now At
ended_by whole os at s now At (due.Step step) has is went = absurd went
ended_by whole os at s now At due.End has is went = record {
  good = at_end user called whole os at s true has is.all is.ended is.good went.0;
  gave = all_given user called whole os at s has is.all;
  is = went.1;
  ahead = is.ahead;
}

pub ended : (whole : CallScan) (os : List Obs) (at : ℕ) (s : CallStanding) (now : Called) (At : ℕ → Type 0) (d : Due)
    (found : Option Obs) → HasCalled user called whole os at s → IsDueCalls whole at At d → found ≡ None
    → GoesByCall s d now (Ok found) → EndedCalls whole os at s now At
ended whole os at s now At d found has is none went = ended_by whole os at s now At d has is
    (subst (λ (f : Option Obs). GoesByCall s d now (Ok f)) none went)

-- One observation more.
pub record WentCalls (whole : CallScan) (os : List Obs) (o : Obs) (at : ℕ) (now : Called) (At : ℕ → Type 0)
    : Type 0 where
  pub s : CallStanding
  pub is : IsStanding s now
  pub run : HasCalled user called whole (os ++ o ∷ []) (at + 1) s
  pub ahead : At (at + 1)

goes_by : (whole : CallScan) (os : List Obs) (o : Obs) (at : ℕ) (s : CallStanding) (now : Called) (At : ℕ → Type 0)
    (d : Due) → HasCalled user called whole os at s → IsDueCalls whole at At d → GoesByCall s d now (Ok (Some o))
    → WentCalls whole os o at now At
goes_by whole os o at s now At (due.Step step) has is went = record {
  s = standing_behind user s o (placed_of 32 at whole.records).call;
  is = subst (λ (p : Placed ℕ). IsStanding (standing_behind user s o p.call) now) is.is went.1;
  run = carried user called whole os o at s has (ap (step_called user called s) (sym is.is) ∙ went.0);
  ahead = is.ahead;
}
goes_by whole os o at s now At due.End has is went = absurd went

pub goes_on : (whole : CallScan) (os : List Obs) (o : Obs) (at : ℕ) (s : CallStanding) (now : Called)
    (At : ℕ → Type 0) (d : Due) (found : Option Obs) → HasCalled user called whole os at s → IsDueCalls whole at At d
    → found ≡ Some o → GoesByCall s d now (Ok found) → WentCalls whole os o at now At
goes_on whole os o at s now At d found has is some went = goes_by whole os o at s now At d has is
    (subst (λ (f : Option Obs). GoesByCall s d now (Ok f)) some went)

breaks_by : (whole : CallScan) (os : List Obs) (at : ℕ) (s : CallStanding) (now : Called) (At : ℕ → Type 0) (d : Due)
    → HasCalled user called whole os at s → IsDueCalls whole at At d → GoesByCall s d now (Err stop.Broken)
    → BrokeCalled user called whole os at
breaks_by whole os at s now At (due.Step step) has is went =
    broken user called whole os at s has is.within (ap (step_called user called s) (sym is.is) ∙ went)
breaks_by whole os at s now At due.End has is went = record {
  bad = at_end user called whole os at s false has is.all is.ended is.good went;
  gave = all_given user called whole os at s has is.all;
  count = sym has.count;
}

pub breaks : (whole : CallScan) (os : List Obs) (at : ℕ) (s : CallStanding) (now : Called) (At : ℕ → Type 0) (d : Due)
    (e : Stop) → HasCalled user called whole os at s → IsDueCalls whole at At d → e ≡ stop.Broken
    → GoesByCall s d now (Err e) → BrokeCalled user called whole os at
breaks whole os at s now At d e has is broke went = breaks_by whole os at s now At d has is
    (subst (λ (f : Stop). GoesByCall s d now (Err f)) broke went)

pub end_is_over : (waiting : Option Told) (d : Due) → IsOver d → EndsOver waiting d → waiting ≡ None
end_is_over waiting (due.Step step) is over = absurd is
end_is_over waiting due.End is over = over
