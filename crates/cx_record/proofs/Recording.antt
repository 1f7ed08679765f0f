-- What was put of a live run, turn by turn.
use Rattle.std.proofs.Common.{◌≡◌, ℕ, ◌+◌, ◌*◌, ◌/◌, ◌^◌, ◌<◌, ◌≤◌, Bool, true, false, if◌then◌else◌, List, [], ◌∷◌, ◌++◌, length}
use Rattle.std.proofs.Common.{Option, None, Some, MatchOption, Ok, Err, IsSome, refl, sym, ap, subst, ◌∙◌}
use Rattle.std.proofs.Common.{append_assoc, arith, length-append}
use Rattle.std.proofs.lemmas.List.{append-nil}
use Rattle.cx_codec.specs.Blocks.{HasFront, StandsFor, whole}
use Rattle.cx_codec.proofs.Blocks.{front_longer}
use Rattle.cx_io.specs.Turns.{AddsAnswer}
use Rattle.cx_io.specs.declared.outside.Failed.{Failed}
use Rattle.cx_io.specs.declared.outside.Outside.{Outside}
use Rattle.cx_live.specs.Image.{Image, IsImage}
use Rattle.cx_live.specs.Live.{Live}
use Rattle.cx_live.specs.Recorded.{IsRecorded, cut_text, whole_text}
use Rattle.cx_live.specs.Run.{LiveRun, at_first, live_at_reset, live_run, turns, with_one, with_turn}
use Rattle.cx_live.specs.Turn.{Turned, live_turn}
use Rattle.cx_live.proofs.LiveLoop.{one_longer, one_more, turns_append}
use Rattle.cx_live.proofs.LiveRuns.{live_run_is_recorded}
use Rattle.cx_live.proofs.TurnRules.{turn_is_there}
use Rattle.cx_log.specs.Engine.{Writing}
use Rattle.cx_log.specs.Order.{at_start}
use Rattle.cx_log.specs.declared.order.Behind.{Behind}
use Rattle.cx_log.specs.Text.{recording_text}
use Rattle.cx_machine.specs.Due.{Due}
use Rattle.cx_run.specs.Driven.{events_from, is_marked, taped}
use Rattle.cx_run.specs.SoFar.{behind_all, events_text}
use Rattle.cx_run.specs.StepEvents.{step_events}
use Rattle.cx_run.proofs.TextSoFar.{behind_on, events_more, so_far_begins, so_far_more}
use Rattle.cx_codec.specs.declared.fault.OutFault.{OutFault}
use Rattle.cx_codec.specs.declared.fault.OutFault.TheVariants as out
use Rattle.cx_record.specs.Fault.{record_fault_of}
use Rattle.cx_record.specs.Promise.{AddsAnswers, IsPut, IsRefused, Turns}
use Rattle.cx_record.specs.Putting.{PutAll}

-- ---- what the world told

told_none_more : (now' : Option (List Outside)) (o : Outside) (now : Option (List Outside)) → now ≡ None
    → AddsAnswer now now' (Ok o) → now' ≡ None
told_none_more now' o None is adds = adds
told_none_more now' o (Some all) is adds = absurd cc

told_some_by : (g outs all : List Outside) (o : Outside) (now' : Option (List Outside)) → all ≡ g ++ outs
    → MatchOption now' (2 ^ 63 ≤ length all) (λ a. a ≡ all ++ o ∷ [])
    → MatchOption now' (2 ^ 63 ≤ length g + length (outs ++ o ∷ [])) (λ a. a ≡ g ++ (outs ++ o ∷ []))
told_some_by g outs all o None is adds =
    let size : length all ≡ length (g ++ outs) = ap (λ (xs : List Outside). length xs) is in
    omega (arith, adds, size, length-append g outs, length-append outs (o ∷ []))
told_some_by g outs all o (Some a) is adds =
    adds ∙ ap (λ (xs : List Outside). xs ++ o ∷ []) is ∙ append_assoc g outs (o ∷ [])

told_some_more : (g outs : List Outside) (o : Outside) (now now' : Option (List Outside))
    → MatchOption now (2 ^ 63 ≤ length g + length outs) (λ all. all ≡ g ++ outs) → AddsAnswer now now' (Ok o)
    → MatchOption now' (2 ^ 63 ≤ length g + length (outs ++ o ∷ [])) (λ all. all ≡ g ++ (outs ++ o ∷ []))
told_some_more g outs o None now' told adds = none now' adds
  where
    none : (n : Option (List Outside)) → n ≡ None
        → MatchOption n (2 ^ 63 ≤ length g + length (outs ++ o ∷ [])) (λ all. all ≡ g ++ (outs ++ o ∷ []))
    none None is = omega (arith, told, length-append outs (o ∷ []))
    none (Some a) is = absurd cc
told_some_more g outs o (Some all) now' told adds = told_some_by g outs all o now' told adds

told_more : (given now now' : Option (List Outside)) (outs : List Outside) (o : Outside) → AddsAnswers given now outs
    → AddsAnswer now now' (Ok o) → AddsAnswers given now' (outs ++ o ∷ [])
told_more None now now' outs o told adds = told_none_more now' o now told adds
told_more (Some g) now now' outs o told adds = told_some_more g outs o now now' told adds

pub told_first : (given : Option (List Outside)) → AddsAnswers given given []
told_first None = refl
told_first (Some g) = sym (append-nil g)

same_answers : (now now' : Option (List Outside)) (failed : Failed) → AddsAnswer now now' (Err failed) → now' ≡ now
same_answers None now' failed adds = adds
same_answers (Some g) now' failed adds = adds

-- ---- fronts

pub whole_is_front : (base held : Option (List ℕ)) (put waiting : List ℕ) → StandsFor base put waiting held
    → HasFront base put held
unfolding whole
whole_is_front base held put waiting stands = record {
  count = 4096 * (length put / 4096);
  within = omega arith;
  written = stands.written;
}

-- a run that goes on has what was due before, and more
abbrev Longer : LiveRun → LiveRun → Type 0
Longer run more = (rest : List Due) × (more.dues ≡ run.dues ++ rest)

no_turns : (split : Bool) (outs : List Outside) → turns split None outs ≡ None
no_turns split [] = refl
no_turns split (o ∷ outs) = no_turns split outs

longer_by : (split : Bool) (run more : LiveRun) (outs : List Outside) (off : Bool) (turn : Option Turned)
    → ((next : LiveRun) → turns split (Some next) outs ≡ Some more → Longer next more)
    → turns split (if off then Some run else with_turn run turn) outs ≡ Some more → Longer run more
longer_by split run more outs true turn on is = on run is
longer_by split run more outs false None on is = absurd (let none = sym (no_turns split outs) ∙ is in cc)
longer_by split run more outs false (Some t) on is =
    let next = on (with_one run t) is in
    (t.due ∷ next.0, next.1 ∙ append_assoc run.dues (t.due ∷ []) next.0)

longer : (split : Bool) (run more : LiveRun) (outs : List Outside) → turns split (Some run) outs ≡ Some more
    → Longer run more
longer split run more [] is =
    let same : run ≡ more = cc in
    ([], ap (λ (r : LiveRun). r.dues) (sym same) ∙ sym (append-nil run.dues))
longer split run more (o ∷ outs) is =
    longer_by split run more outs run.live.devices.off (live_turn split o run.live)
    (λ next e. longer split next more outs e) is

-- A front of what was put of a run is a front of the recording of each run that goes on with it.
pub front_of_more : (image : Image) (outs others : List Outside) (run more : LiveRun) (base held : Option (List ℕ))
    → live_run image outs ≡ Some run → live_run image (outs ++ others) ≡ Some more
    → HasFront base (cut_text image run) held → HasFront base (whole_text image more) held
front_of_more image outs others run more base held is is_more front =
    let on : turns image.split (Some run) others ≡ Some more =
    ap (λ (r : Option LiveRun). turns image.split r others) (sym is)
    ∙ sym (turns_append image.split (Some (at_first (live_at_reset image))) outs others)
    ∙ is_more in
    let more_dues = longer image.split run more others on in
    let begins = so_far_begins image.version image.split image.pages (live_at_reset image).machine run.dues more_dues.0
    in
    subst (λ (dues : List Due). HasFront base (recording_text
    (taped image.version image.split image.pages (live_at_reset image).machine dues)) held) (sym more_dues.1)
    (subst (λ (text : List ℕ). HasFront base text held) (sym begins.parts)
    (front_longer base held (cut_text image run) begins.rest front))

-- ---- one turn more

module _ (image : Image) (n : ℕ) (given now now' : Option (List Outside)) (base held : Option (List ℕ)) (w : Writing)
    (l : Live) (put : IsPut image n given now base held w l) (o : Outside) (t : Turned)
    (on : l.devices.off ≡ false) (turn : live_turn image.split o l ≡ Some t) (adds : AddsAnswer now now' (Ok o)) where
  after : LiveRun
  after = with_one put.run t

  is_after : live_run image (put.outs ++ o ∷ []) ≡ Some (with_one put.run t)
  is_after =
      one_more image put.outs put.run o t put.is (ap (λ (x : Live). x.devices.off) put.live ∙ on)
      (ap (λ (x : Live). live_turn image.split o x) put.live ∙ turn)

  -- the text grows by that of the step's records
  text_after : cut_text image put.run ++ events_text w.behind (step_events n (is_marked n) t.due)
      ≡ cut_text image (with_one put.run t)
  text_after =
      let dues = put.run.dues in
      let place : n ≡ length dues = sym put.count ∙ sym put.each in
      ap (λ (b : Behind). cut_text image put.run ++ events_text b (step_events n (is_marked n) t.due)) put.behind
      ∙ ap (λ (m : ℕ). cut_text image put.run
      ++ events_text (behind_all (at_start 0 (live_at_reset image).machine.state) (events_from 0 dues))
      (step_events m (is_marked m) t.due)) place
      ∙ sym (so_far_more image.version image.split image.pages (live_at_reset image).machine dues t.due)

  pub put_more : (w' : Writing) (held' : Option (List ℕ))
      → PutAll (step_events n (is_marked n) t.due) w held w' held' → IsPut image (n + 1) given now' base held' w' t.live
  put_more w' held' all =
      let dues = put.run.dues in
      let b = at_start 0 (live_at_reset image).machine.state in
      let place : n ≡ length dues = sym put.count ∙ sym put.each in
      record {
        outs = put.outs ++ o ∷ [];
        run = with_one put.run t;
        is = is_after;
        each = one_longer put.run t put.outs o put.each;
        count = omega (arith, put.count, length-append put.outs (o ∷ []));
        live = refl;
        told = told_more given now now' put.outs o put.told adds;
        put = subst (λ (text : List ℕ). StandsFor base text w'.output.bytes held') text_after
            (all.stands base (cut_text image put.run) put.put);
        behind =
            all.behind
            ∙ ap (λ (x : Behind). behind_all x (step_events n (is_marked n) t.due)) put.behind
            ∙ ap (λ (m : ℕ). behind_all (behind_all b (events_from 0 dues)) (step_events m (is_marked m) t.due)) place
            ∙ sym (behind_on b (events_from 0 dues) (step_events (length dues) (is_marked (length dues)) t.due))
            ∙ ap (behind_all b) (sym (events_more dues t.due));
      }

  recorded_after : IsImage image → n < 2 ^ 27 → IsRecorded image (with_one put.run t)
  recorded_after is few =
      live_run_is_recorded image (put.outs ++ o ∷ []) (with_one put.run t) is is_after
      (omega (arith, length-append put.run.dues (t.due ∷ [])))
      (omega (arith, few, put.count, length-append put.outs (o ∷ [])))

  refused_with : (held' : Option (List ℕ)) → IsImage image → n < 2 ^ 27
      → HasFront base (cut_text image (with_one put.run t)) held' → IsRefused image (n + 1) given now' base held'
  refused_with held' is few front = record {
    outs = put.outs ++ o ∷ [];
    later = [];
    run = with_one put.run t;
    is = ap (live_run image) (append-nil (put.outs ++ o ∷ [])) ∙ is_after;
    told = told_more given now now' put.outs o put.told adds;
    most = omega (arith, put.count, length-append put.outs (o ∷ []), length-append (put.outs ++ o ∷ []) []);
    recorded = recorded_after is few;
    front = λ others more is_more.
        front_of_more image (put.outs ++ o ∷ []) others (with_one put.run t) more base held' is_after is_more front;
  }

  -- the records of the step were refused
  pub put_refused : (held' : Option (List ℕ)) → IsImage image → n < 2 ^ 27
      → ((base : Option (List ℕ)) (put : List ℕ) → StandsFor base put w.output.bytes held
      → HasFront base (put ++ events_text w.behind (step_events n (is_marked n) t.due)) held')
      → IsRefused image (n + 1) given now' base held'
  put_refused held' is few front =
      refused_with held' is few
      (subst (λ (text : List ℕ). HasFront base text held') text_after (front base (cut_text image put.run) put.put))

  -- memory was refused before the step
  pub turn_refused : IsImage image → n < 2 ^ 27 → IsRefused image (n + 1) given now' base held
  turn_refused is few =
      refused_with held is few
      (subst (λ (text : List ℕ). HasFront base text held) text_after
      (front_longer base held (cut_text image put.run) _
      (whole_is_front base held (cut_text image put.run) w.output.bytes put.put)))

-- a turn that memory was refused for would have been there
pub memory_refused : (image : Image) (n : ℕ) (given now now' : Option (List Outside)) (base held : Option (List ℕ))
    (w : Writing) (l : Live) (o : Outside) → IsPut image n given now base held w l → l.devices.off ≡ false
    → AddsAnswer now now' (Ok o) → IsImage image → n < 2 ^ 27 → IsRefused image (n + 1) given now' base held
memory_refused image n given now now' base held w l o put on adds is few =
    by (live_turn image.split o l) refl (turn_is_there image.split o l)
  where
    by : (turn : Option Turned) → live_turn image.split o l ≡ turn → IsSome turn
        → IsRefused image (n + 1) given now' base held
    by None there some = absurd cc
    by (Some t) there some = turn_refused image n given now now' base held w l put o t on there adds is few

-- the world failed
pub world_failed : (image : Image) (n : ℕ) (given now now' : Option (List Outside)) (base held : Option (List ℕ))
    (w : Writing) (l : Live) (failed : Failed) → IsPut image n given now base held w l → AddsAnswer now now' (Err failed)
    → IsPut image n given now' base held w l
world_failed image n given now now' base held w l failed put adds =
    subst (λ (a : Option (List Outside)). IsPut image n given a base held w l) (sym (same_answers now now' failed adds))
    put

-- a fault of the writer ends the turn
pub refused_turn : (image : Image) (n : ℕ) (given now : Option (List Outside)) (base held : Option (List ℕ)) (w : Writing)
    (l : Live) (e : OutFault) → IsRefused image (n + 1) given now base held
    → Turns image n given now base held w l (Err (record_fault_of e))
refused_turn image n given now base held w l out.WriteFault refused = refused
refused_turn image n given now base held w l out.NoMemory refused = refused
