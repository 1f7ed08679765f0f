-- The whole run, from its first turn to its end, and what was put where it was refused.
use Rattle.std.proofs.Common.{◌≡◌, ℕ, ◌+◌, ◌^◌, ◌<◌, ◌≤◌, true, false, List, [], ◌∷◌, ◌++◌, length, Option, None}
use Rattle.std.proofs.Common.{Some, Result, Ok, Err, IsSome, refl, sym, ap, subst, ◌∙◌, arith, length-append}
use Rattle.std.proofs.lemmas.List.{append-nil}
use Rattle.std.specs.Io.KnownBytes.{Appends}
use Rattle.cx_codec.specs.Blocks.{HasFront, StandsFor}
use Rattle.cx_codec.specs.declared.fault.OutFault.{OutFault}
use Rattle.cx_codec.specs.declared.fault.OutFault.TheVariants as out
use Rattle.cx_io.specs.Cause.{HasCause}
use Rattle.cx_io.specs.declared.outside.Outside.{Outside}
use Rattle.cx_live.specs.Image.{Image, IsImage}
use Rattle.cx_live.specs.Live.{Live}
use Rattle.cx_live.specs.Recorded.{GoesOn, IsRecorded, Runs, cut_text, whole_text}
use Rattle.cx_live.specs.Run.{LiveRun, at_first, live_at_reset, live_run, reset_state, turns, with_one}
use Rattle.cx_live.specs.Turn.{Turned, live_turn}
use Rattle.cx_live.proofs.LiveLoop.{cut_begins, done_is_recorded, one_more, turns_append, turns_stay_off}
use Rattle.cx_live.proofs.LiveRuns.{live_run_is_recorded, reset_stands}
use Rattle.cx_live.proofs.TurnRules.{turn_is_there}
use Rattle.cx_log.specs.Engine.{Writing}
use Rattle.cx_log.specs.Order.{MayEnd, at_start}
use Rattle.cx_log.specs.Text.{end_text, header_text, pages_text}
use Rattle.cx_log.specs.declared.order.Behind.{Behind}
use Rattle.cx_run.specs.Driven.{events_from}
use Rattle.cx_run.specs.SoFar.{behind_all, text_so_far}
use Rattle.cx_run.proofs.TapedOrder.{may_end, ready_first_is}
use Rattle.cx_run.proofs.TextSoFar.{so_far_whole}
use Rattle.cx_record.specs.Fault.{record_fault_of}
use Rattle.cx_record.specs.Promise.{Answers, IsDone, IsPut, IsRefused, IsShort, Plays, Stands, Turns, front_text}
use Rattle.cx_record.specs.Promise.{header_at_reset}
use Rattle.cx_record.specs.declared.fault.RecordFault.{RecordFault}
use Rattle.cx_record.specs.declared.fault.RecordFault.TheVariants as fault
use Rattle.cx_record.proofs.Recording.{front_of_more, told_first, whole_is_front}

-- what was put before a turn was refused is short of the whole
short_of : (image : Image) (steps n : ℕ) (given now : Option (List Outside)) (base held : Option (List ℕ)) → n ≤ steps
    → IsRefused image n given now base held → IsShort image steps given now base held
short_of image steps n given now base held within refused = record {
  outs = refused.outs;
  later = refused.later;
  run = refused.run;
  is = refused.is;
  told = refused.told;
  most = omega (arith, refused.most, within);
  recorded = refused.recorded;
  front = λ others more is_more few. refused.front others more is_more;
}

-- a fault of a turn ends the run
pub plays_fault : (image : Image) (steps n : ℕ) (given now : Option (List Outside)) (base held : Option (List ℕ))
    (w : Writing) (l : Live) (e : RecordFault) → IsImage image → n < steps → steps ≤ 2 ^ 27
    → Turns image n given now base held w l (Err e) → Plays image steps given now base held w l (Err e)
plays_fault image steps n given now base held w l fault.WorldFault is below few turns =
    let put = turns.0 in
    let goes : GoesOn image put.outs put.run = record {
      is = put.is;
      each = put.each;
      on = ap (λ (x : Live). x.devices.off) put.live ∙ turns.1;
    } in
    record {
      outs = put.outs;
      run = put.run;
      goes = goes;
      fewer = omega (arith, put.count, below);
      told = put.told;
      cut = cut_begins image put.outs put.run is goes (omega (arith, put.count, below, few));
      written = put.put.written;
    }
plays_fault image steps n given now base held w l fault.WriteFault is below few turns =
    short_of image steps (n + 1) given now base held (omega (arith, below)) turns
plays_fault image steps n given now base held w l fault.NoMemory is below few turns =
    short_of image steps (n + 1) given now base held (omega (arith, below)) turns

pub answers_fault : (image : Image) (steps : ℕ) (given now : Option (List Outside)) (base held : Option (List ℕ))
    (w : Writing) (l : Live) (e : RecordFault) → Plays image steps given now base held w l (Err e)
    → Answers image steps given now base held (Err e)
answers_fault image steps given now base held w l fault.WorldFault plays = plays
answers_fault image steps given now base held w l fault.WriteFault plays = plays
answers_fault image steps given now base held w l fault.NoMemory plays = plays

pub answers_refused : (image : Image) (steps : ℕ) (given now : Option (List Outside)) (base held : Option (List ℕ))
    (e : OutFault) → IsShort image steps given now base held
    → Answers image steps given now base held (Err (record_fault_of e))
answers_refused image steps given now base held out.WriteFault refused = refused
answers_refused image steps given now base held out.NoMemory refused = refused

-- ---- before the first turn

first_text : (image : Image) → cut_text image (at_first (live_at_reset image)) ≡ front_text image
unfolding text_so_far
first_text image =
    ap (λ (t : List ℕ). header_text (header_at_reset image) ++ t) (append-nil (pages_text image.memory image.pages))

pub put_first : (image : Image) (given : Option (List Outside)) (base held : Option (List ℕ)) (w : Writing) (l : Live)
    → l ≡ live_at_reset image → StandsFor base (front_text image) w.output.bytes held → w.behind ≡ at_start 0 reset_state
    → IsPut image 0 given given base held w l
put_first image given base held w l is stands behind = record {
  outs = [];
  run = at_first (live_at_reset image);
  is = refl;
  each = refl;
  count = refl;
  live = sym is;
  told = told_first given;
  put = subst (λ (t : List ℕ). StandsFor base t w.output.bytes held) (sym (first_text image)) stands;
  behind = behind;
}

pub stands_first : (image : Image) (w : Writing) (l : Live) → IsImage image → l ≡ live_at_reset image
    → w.output.live ≡ true → w.left ≡ 0 → w.header.pages ≡ image.pages → w.behind ≡ at_start 0 reset_state
    → Stands 0 w l
stands_first image w l is live output left pages behind = record {
  output = output;
  none_owed = left;
  ready = rw behind (ready_first_is reset_state);
  above = λ some. absurd (omega (arith, some));
  lines = rw (behind, live) refl;
  keeps = rw (pages, live) ((reset_stands image is).keeps);
}

refused_by : (image : Image) (steps : ℕ) (given : Option (List Outside)) (base held : Option (List ℕ)) (o : Outside)
    (turn : Option Turned) → live_turn image.split o (live_at_reset image) ≡ turn → IsSome turn → IsImage image
    → 0 < steps → HasFront base (front_text image) held → IsShort image steps given given base held
refused_by image steps given base held o None there some is any front = absurd cc
refused_by image steps given base held o (Some t) there some is any front =
    let first = at_first (live_at_reset image) in
    let one : live_run image (o ∷ []) ≡ Some (with_one first t) = one_more image [] first o t refl refl there in
    record {
      outs = [];
      later = o ∷ [];
      run = with_one first t;
      is = one;
      told = told_first given;
      most = omega (arith, any);
      recorded = live_run_is_recorded image (o ∷ []) (with_one first t) is one (omega arith) (omega arith);
      front = λ others more is_more few.
          front_of_more image [] others first more base held refl is_more
          (subst (λ (text : List ℕ). HasFront base text held) (sym (first_text image)) front);
    }

pub refused_early : (image : Image) (steps : ℕ) (given : Option (List Outside)) (base held : Option (List ℕ))
    → IsImage image → 0 < steps → HasFront base (front_text image) held → IsShort image steps given given base held
refused_early image steps given base held is any front =
    let o : Outside = record { ticks = 0; console = false; block = false } in
    refused_by image steps given base held o (live_turn image.split o (live_at_reset image)) refl
    (turn_is_there image.split o (live_at_reset image)) is any front

pub refused_after : (image : Image) (steps : ℕ) (given : Option (List Outside)) (base held : Option (List ℕ))
    (waiting : List ℕ) → IsImage image → 0 < steps → StandsFor base (front_text image) waiting held
    → IsShort image steps given given base held
refused_after image steps given base held waiting is any stands =
    refused_early image steps given base held is any (whole_is_front base held (front_text image) waiting stands)

-- ---- the end

pub end_may : (n : ℕ) (w : Writing) (l : Live) → Stands n w l → 0 < n → n ≤ 2 ^ 27 → MayEnd w.behind n
end_may n w l stands some few = may_end n w.behind stands.ready (stands.above some) (omega (arith, few))

module _ (image : Image) (steps end : ℕ) (given now : Option (List Outside)) (base held : Option (List ℕ)) (w : Writing)
    (l : Live) (is : IsImage image) (some : 0 < end) (most : end ≤ steps) (few : steps ≤ 2 ^ 27)
    (plays : Plays image steps given now base held w l (Ok end)) where
  put : IsPut image end given now base held w l
  put = plays.0

  runs_are : Runs image steps put.outs put.run
  runs_are = record {
    is = put.is;
    each = put.each;
    most = omega (arith, put.count, most);
    early = λ less. ap (λ (x : Live). x.devices.off) put.live ∙ plays.1 (omega (arith, less, put.count));
  }

  is_recorded : IsRecorded image put.run
  is_recorded = done_is_recorded image steps put.outs put.run is runs_are (omega (arith, put.count, some)) few

  text_ends : cut_text image put.run ++ end_text w.behind.step end ≡ whole_text image put.run
  text_ends =
      let place : end ≡ length put.run.dues = sym put.count ∙ sym put.each in
      ap (λ (b : Behind). cut_text image put.run ++ end_text b.step end) put.behind
      ∙ ap (λ (n : ℕ). cut_text image put.run
      ++ end_text (behind_all (at_start 0 (live_at_reset image).machine.state) (events_from 0 put.run.dues)).step n) place
      ∙ sym (so_far_whole image.version image.split image.pages (live_at_reset image).machine put.run.dues)

  pub is_done : (held' : Option (List ℕ))
      → ((base : Option (List ℕ)) (put : List ℕ) → StandsFor base put w.output.bytes held
      → Appends base held' (put ++ end_text w.behind.step end))
      → IsDone image steps end given now base held'
  is_done held' written = record {
    outs = put.outs;
    run = put.run;
    runs = runs_are;
    count = put.count;
    told = put.told;
    recorded = is_recorded;
    written =
        subst (λ (text : List ℕ). Appends base held' text) text_ends (written base (cut_text image put.run) put.put);
  }

  -- no answer follows the last step, or it changes nothing
  no_more : (others : List Outside) (more : LiveRun) → live_run image (put.outs ++ others) ≡ Some more
      → length (put.outs ++ others) ≤ steps → put.run ≡ more
  no_more [] more is_more within =
      let same : ◌≡◌ {A = Option LiveRun} (Some put.run) (Some more) =
      sym put.is ∙ ap (live_run image) (sym (append-nil put.outs)) ∙ is_more in
      cc
  no_more (o ∷ others) more is_more within =
      let off = runs_are.early (omega (arith, within, length-append put.outs (o ∷ others))) in
      let same : ◌≡◌ {A = Option LiveRun} (Some put.run) (Some more) =
      sym (turns_stay_off image.split put.run (o ∷ others) off)
      ∙ ap (λ (r : Option LiveRun). turns image.split r (o ∷ others)) (sym put.is)
      ∙ sym (turns_append image.split (Some (at_first (live_at_reset image))) put.outs (o ∷ others))
      ∙ is_more in
      cc

  pub end_refused : (held' : Option (List ℕ))
      → ((base : Option (List ℕ)) (put : List ℕ) → StandsFor base put w.output.bytes held
      → HasFront base (put ++ end_text w.behind.step end) held')
      → IsShort image steps given now base held'
  end_refused held' front = record {
    outs = put.outs;
    later = [];
    run = put.run;
    is = ap (live_run image) (append-nil put.outs) ∙ put.is;
    told = put.told;
    most = omega (arith, put.count, most, length-append put.outs []);
    recorded = is_recorded;
    front = λ others more is_more few.
        subst (λ (r : LiveRun). HasFront base (whole_text image r) held') (no_more others more is_more few)
        (subst (λ (text : List ℕ). HasFront base text held') text_ends
        (front base (cut_text image put.run) put.put));
  }

-- ---- counts of faults

pub cause_then : {X : Type 0} (f : RecordFault) (a b c : ℕ) (r : Result X RecordFault) → a ≤ b
    → (a < 2 ^ 64 → b < 2 ^ 64) → HasCause f b c r → HasCause f a c r
cause_then f a b c r later fits cause = record {
  later = omega (arith, later, cause.later);
  fits = λ small. cause.fits (fits small);
  failed = λ is. let rose = cause.failed is in omega (arith, rose, later);
}

pub cause_of : {X Y : Type 0} (b c : ℕ) (e : OutFault) → HasCause {T = X} out.WriteFault b c (Err e)
    → HasCause {T = Y} fault.WriteFault b c (Err (record_fault_of e))
cause_of b c out.WriteFault cause = record {
  later = cause.later;
  fits = cause.fits;
  failed = λ is. cause.failed refl;
}
cause_of b c out.NoMemory cause = record { later = cause.later; fits = cause.fits; failed = λ is. absurd cc }

pub cause_done : {X Y : Type 0} (b c : ℕ) (x : X) (y : Y) → HasCause out.WriteFault b c (Ok x)
    → HasCause fault.WriteFault b c (Ok y)
cause_done b c x y cause = record { later = cause.later; fits = cause.fits; failed = λ is. absurd cc }
