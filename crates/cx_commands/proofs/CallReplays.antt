-- What `replay` makes of the call slice of a list of observations, and of any input that begins as a call slice does.
use Rattle.std.proofs.Common.{◌≡◌, ℕ, ◌≤◌, nat_lt, Bool, true, false, List, [], ◌∷◌, ◌++◌, length, drop}
use Rattle.std.proofs.Common.{Option, None, option_map, unwrap_or, Ok}
use Rattle.std.proofs.Common.{refl, ap, sym, subst, ◌∙◌, arith}
use Rattle.std.proofs.lemmas.Bool.{le-ltb}
use Rattle.cx_call_alone.specs.Placed.{placed_between}
use Rattle.cx_call_alone.specs.Settled.{calls_bad, settled_calls, started}
use Rattle.cx_call_alone.proofs.Judged.{alone_is_good, good_goes_alone}
use Rattle.cx_call_alone.proofs.Placed.{length-between, placed_back}
use Rattle.cx_call_alone.proofs.RecordsBack.{are_wide, end_above, records_back}
use Rattle.cx_callfmt.specs.Rules.{AreRecords, behind_start, calls}
use Rattle.cx_callfmt.specs.Scan.{CallScan, behind_call_magic, call_scan, call_whole, with_head}
use Rattle.cx_callfmt.specs.Steps.{text_of_calls}
use Rattle.cx_callfmt.specs.Text.{call_magic, call_slice_text, ended_records_text}
use Rattle.cx_callfmt.proofs.Steps.{steps_spelled}
use Rattle.cx_callfmt.proofs.Whole.{call_slice_again, call_slice_once}
use Rattle.cx_calls.specs.Begun.{calls_text}
use Rattle.cx_calls.specs.Calling.{called}
use Rattle.cx_codec.specs.Fields.{bytes_at}
use Rattle.cx_codec.specs.Place.{room}
use Rattle.cx_log.specs.Reading.{start_of}
use Rattle.cx_map.specs.Bytes.{AreBytes}
use Rattle.cx_observe.specs.User.{user}
use Rattle.cx_observe.specs.declared.obs.Obs.{Obs}
use Rattle.cx_observe.proofs.Faithful.{user_is_faithful, user_is_total}
use Rattle.cx_observe.proofs.Programs.{all_again, all_by_themselves}
use Rattle.cx_placing.specs.Called.{CallStanding, handed}
use Rattle.cx_placing.specs.CallsAlone.{IsCallSlice, all_or_broken_from, calls_alone, ends_settled, ran_called}
use Rattle.cx_placing.specs.Placing.{CallSlice, Placed, calls_of, no_head}
use Rattle.cx_placing.specs.Records.{Record, records_from}
use Rattle.cx_placing.proofs.Only.{calls_alone-only}
use Rattle.cx_placing.proofs.Runs.{calls_alone-calls_of}
use Rattle.cx_placing.proofs.Streams.{run_called-is}
use Rattle.cx_slicefmt.specs.Rules.{Head, IsHead}
use Rattle.cx_slicefmt.specs.Text.{head_text}
use Rattle.cx_slices.specs.Items.{start}
use Rattle.cx_commands.specs.Observed.{has_observation, observation_lines}
use Rattle.cx_commands.specs.Opening.{kind_at}
use Rattle.cx_commands.specs.Replay.{by_kind, calls_lines, calls_refusal, replaying, slice_lines, slice_refusal, status_of_slice}
use Rattle.cx_commands.specs.Slicing.{CanBeSliced}
use Rattle.cx_commands.specs.Trace.{tracing}
use Rattle.cx_commands.specs.declared.magic.Magic.TheVariants as kind
use Rattle.cx_commands.proofs.CallsFit.{calls_fit, length-steps}
use Rattle.cx_commands.proofs.SliceReplays.{Replays, no_refusal}

-- ---- the magic

pub call_kind : (bytes : List ℕ)
    → kind_at (start_of (call_magic ++ bytes)) ≡ Ok (kind.Calls, behind_call_magic bytes)
unfolding kind_at bytes_at
call_kind bytes =
    let enough : nat_lt (room (start_of (call_magic ++ bytes))) 4 ≡ false =
    le-ltb (room (start_of (call_magic ++ bytes))) 4 (omega arith) in
    rw enough refl

pub calls_refused_as : (bytes : List ℕ) → replaying.refusal (call_magic ++ bytes) ≡ calls_refusal (call_scan bytes)
unfolding call_scan
calls_refused_as bytes = ap (by_kind (tracing.refusal (call_magic ++ bytes)) slice_refusal calls_refusal)
    (call_kind bytes)

pub calls_told_as : (bytes : List ℕ) → replaying.full (call_magic ++ bytes) ≡ calls_lines (call_scan bytes)
unfolding call_scan
calls_told_as bytes = ap (by_kind (tracing.full (call_magic ++ bytes)) slice_lines calls_lines) (call_kind bytes)

-- ---- a slice of a run goes alone

went : (ends : Bool) (k : ℕ) (ran os : List Obs) → all_or_broken_from k ends ran ≡ Ok os → (ends ≡ true) × (ran ≡ os)
went true k ran os is = (refl, cc)
went false k ran os is = cc

-- the run of these steps from a head
abbrev Runs : CallStanding → List (Placed ℕ) → List Obs → Type 0
Runs s ps os = (ends_settled user called s ps ≡ true) × (ran_called user called s ps ≡ os)

pub run_goes : (os : List Obs) → CanBeSliced os
    → Runs (handed (calls_of user called os).head (start user)) (calls_of user called os).steps os
unfolding calls_alone
run_goes os can =
    let slice : CallSlice ℕ = calls_of user called os in
    let s : CallStanding = handed slice.head (start user) in
    went (ends_settled user called s slice.steps) 0 (ran_called user called s slice.steps) os
    (sym (run_called-is user called 0 s slice.steps)
    ∙ calls_alone-calls_of user called os user_is_faithful user_is_total (all_by_themselves os can.possible))

-- ---- the call slice of observations

-- what stands behind the magic
pub behind_calls : CallSlice ℕ → List ℕ
behind_calls slice = head_text slice.head ++ ended_records_text 0 (records_from 0 slice.steps) (length slice.steps)

pub calls_spelled : (slice : CallSlice ℕ) → call_magic ++ behind_calls slice ≡ text_of_calls slice
unfolding call_slice_text behind_calls
calls_spelled slice = refl

pub whole_of : CallSlice ℕ → CallScan
whole_of slice = with_head slice.head (call_whole (records_from 0 slice.steps) (length slice.steps))

pub calls_scanned : (os : List Obs) → CanBeSliced os
    → call_scan (behind_calls (calls_of user called os)) ≡ whole_of (calls_of user called os)
unfolding whole_of
calls_scanned os can =
    let slice : CallSlice ℕ = calls_of user called os in
    let fit = calls_fit os can in
    call_slice_again slice.head (records_from 0 slice.steps) (length slice.steps) (behind_calls slice) fit.fits.head
    (steps_spelled slice.steps fit.some fit.most fit.fits.steps) fit.few (calls_spelled slice)

pub steps_back : (os : List Obs) → CanBeSliced os
    → placed_between 32 0 (length (calls_of user called os).steps) (records_from 0 (calls_of user called os).steps)
    ≡ (calls_of user called os).steps
steps_back os can = placed_back 32 0 (calls_of user called os).steps
    (are_wide (calls_of user called os).steps (calls_fit os can).is.steps)

pub whole_goes : (os : List Obs) → CanBeSliced os
    → Runs (started user (whole_of (calls_of user called os)))
    (placed_between 32 0 (whole_of (calls_of user called os)).upto (whole_of (calls_of user called os)).records) os
unfolding whole_of
whole_goes os can = subst (λ (ps : List (Placed ℕ)). Runs (handed (calls_of user called os).head (start user)) ps os)
    (sym (steps_back os can)) (run_goes os can)

whole_is_good : (os : List Obs) → CanBeSliced os → calls_bad user called (whole_of (calls_of user called os)) ≡ None
unfolding whole_of
whole_is_good os can =
    let slice : CallSlice ℕ = calls_of user called os in
    alone_is_good user called (whole_of slice) os (
      refl,
      ap (λ (ps : List (Placed ℕ)). calls_alone user called (record { head = slice.head; steps = ps }))
          (steps_back os can)
          ∙ calls_alone-calls_of user called os user_is_faithful user_is_total (all_by_themselves os can.possible),
    )

pub calls_replay : (os : List Obs) → CanBeSliced os → Replays (calls_text os) os
calls_replay os can =
    let slice : CallSlice ℕ = calls_of user called os in
    let bytes : List ℕ = behind_calls slice in
    record {
      refusal = ap replaying.refusal (sym (calls_spelled slice)) ∙ calls_refused_as bytes
          ∙ ap calls_refusal (calls_scanned os can) ∙ ap (option_map status_of_slice) (whole_is_good os can);
      full = ap replaying.full (sym (calls_spelled slice)) ∙ calls_told_as bytes
          ∙ ap calls_lines (calls_scanned os can) ∙ ap (observation_lines 0) (whole_goes os can).1;
    }

-- ---- a call slice is of one list

pub one_called : (os ps : List Obs) → CanBeSliced os → CanBeSliced ps → calls_text os ≡ calls_text ps → os ≡ ps
one_called os ps can can_too same =
    let one : CallSlice ℕ = calls_of user called os in
    let other : CallSlice ℕ = calls_of user called ps in
    let texts : call_magic ++ behind_calls one ≡ call_magic ++ behind_calls other =
    calls_spelled one ∙ same ∙ sym (calls_spelled other) in
    let scans : whole_of one ≡ whole_of other =
    sym (calls_scanned os can) ∙ ap call_scan (ap (λ (xs : List ℕ). drop 4 xs) texts) ∙ calls_scanned ps can_too in
    sym (whole_goes os can).1 ∙ ap (settled_calls user called) scans ∙ (whole_goes ps can_too).1

-- ---- what goes alone is a call slice

-- The text is the call slice of observations that can be sliced.
pub record IsCallsOf (text : List ℕ) : Type 0 where
  pub observed : List Obs
  pub can : CanBeSliced observed
  pub is : text ≡ calls_text observed

some_observed : (os : List Obs) → 1 ≤ length os → has_observation os ≡ true
some_observed [] some = absurd (omega (arith, some))
some_observed (o ∷ os) some = refl

same_texts : (head : Head) (rs : List Record) (count : ℕ) (steps : List (Placed ℕ)) → records_from 0 steps ≡ rs
    → length steps ≡ count
    → call_slice_text head rs count ≡ text_of_calls (record { head = head; steps = steps })
same_texts head rs count steps records size =
    ap (λ (qs : List Record). call_slice_text head qs count) (sym records)
    ∙ ap (call_slice_text head (records_from 0 steps)) (sym size)

alone_is_calls : (head : Head) (rs : List Record) (count : ℕ) (text : List ℕ) (os : List Obs) → IsHead calls head
    → AreRecords behind_start rs count → call_slice_text head rs count ≡ text
    → calls_alone user called (record { head = head; steps = placed_between 32 0 count rs }) ≡ Ok os → IsCallsOf text
alone_is_calls head rs count text os is spelled same goes =
    let steps : List (Placed ℕ) = placed_between 32 0 count rs in
    let slice : CallSlice ℕ = record { head = head; steps = steps } in
    let told = records_back rs count spelled in
    let can_run : IsCallSlice 32 slice =
    record { head = record { words = is.count; bytes = is.rises }; steps = told.placed } in
    let only = calls_alone-only user called slice os user_is_faithful user_is_total can_run goes in
    let size = length-between 32 0 count rs in
    let long : length os ≡ count = sym (length-steps os) ∙ ap (λ (c : CallSlice ℕ). length c.steps) (sym only.slice_is)
    ∙ size in
    let end = end_above behind_start rs count spelled in
    record {
      observed = os;
      can = record {
        possible = all_again os only.possible;
        some = some_observed os (omega (arith, long, end.0));
        few = omega (arith, long, end.1);
      };
      is = sym same ∙ same_texts head rs count steps told.records size ∙ ap text_of_calls only.slice_is;
    }

pub good_is_calls : (bytes : List ℕ) → AreBytes bytes → replaying.refusal (call_magic ++ bytes) ≡ None
    → IsCallsOf (call_magic ++ bytes)
good_is_calls bytes are good =
    let s : CallScan = call_scan bytes in
    let goes = good_goes_alone user called s (settled_calls user called s) refl
    (λ none. (call_slice_once bytes are none).ended)
    (no_refusal (calls_bad user called s) (sym (calls_refused_as bytes) ∙ good)) in
    let once = call_slice_once bytes are goes.0 in
    alone_is_calls once.head s.records s.upto (call_magic ++ bytes) (settled_calls user called s) once.is once.spelled
    once.text
    (ap (λ (h : Option Head). calls_alone user called (record {
      head = unwrap_or h (no_head 32);
      steps = placed_between 32 0 s.upto s.records;
    })) (sym once.there) ∙ goes.1)
