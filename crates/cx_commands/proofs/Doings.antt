-- What the parts of an input that were read say of what a command makes of it.
use Rattle.std.proofs.Common.{◌≡◌, ℕ, List, [], length, Bool, Option, Result, Ok, Err, arith, refl, ap, sym, ◌∙◌}
use Rattle.std.proofs.Common.{inl}
use Rattle.cx_codec.specs.Blocks.{HasFront}
use Rattle.cx_codec.specs.Place.{Place, end_of, read_on}
use Rattle.cx_codec.specs.Reads.{MeetsIn}
use Rattle.cx_codec.proofs.Blocks.{appends_none}
use Rattle.cx_codec.proofs.Putting.{nothing_put}
use Rattle.cx_hart.specs.HartStep.{hart_step}
use Rattle.cx_log.specs.Fault.{log_met}
use Rattle.cx_log.specs.Reading.{Opened, opened_at, start_of}
use Rattle.cx_log.specs.Scan.{Scan}
use Rattle.cx_log.specs.declared.fault.LogFault.{LogFault}
use Rattle.cx_log.specs.declared.fault.LogFault.TheVariants.{Format as bad_field, ReadFault as read_fault}
use Rattle.cx_log.specs.declared.fault.LogFault.TheVariants.{NoMemory as no_memory}
use Rattle.cx_run.specs.FirstBad.{bad_behind, first_bad}
use Rattle.cx_commands.specs.Doing.{Does, judged, of_recording, text_in, text_of, there_in, there_of}
use Rattle.cx_commands.specs.Faults.{status_of_log}
use Rattle.cx_commands.specs.Opening.{begun_at, then_records, scan_from}
use Rattle.cx_commands.proofs.Judging.{bad_of_begun, bad_opening, begun_mid}

-- ---- behind header and pages

pub text_behind : (text : Opened → Scan → List ℕ) (bytes : List ℕ) (o : Opened) (p : Place)
    → begun_at (start_of bytes) ≡ Ok (o, p) → text_of text bytes ≡ text o (scan_from o p)
unfolding text_of
text_behind text bytes o p begun =
    let b = begun_mid bytes o p begun in
    ap (text_in text) b.opened ∙ ap (λ (q : Place). text o (scan_from o q)) (sym b.is)

there_behind : (there : Opened → Scan → Bool) (bytes : List ℕ) (o : Opened) (p : Place)
    → begun_at (start_of bytes) ≡ Ok (o, p) → there_of there bytes ≡ there o (scan_from o p)
unfolding there_of
there_behind there bytes o p begun =
    let b = begun_mid bytes o p begun in
    ap (there_in there) b.opened ∙ ap (λ (q : Place). there o (scan_from o q)) (sym b.is)

pub refusal_behind : (there : Opened → Scan → Bool) (bytes : List ℕ) (o : Opened) (p : Place)
    → begun_at (start_of bytes) ≡ Ok (o, p)
    → judged (first_bad hart_step bytes) (there_of there bytes)
    ≡ judged (bad_behind hart_step o (scan_from o p)) (there o (scan_from o p))
refusal_behind there bytes o p begun = rw (bad_of_begun bytes o p begun, there_behind there bytes o p begun) refl

-- ---- an input that is bad before its records

no_text : (text : Opened → Scan → List ℕ) (bytes : List ℕ) (x : ℕ) → begun_at (start_of bytes) ≡ Err x
    → text_of text bytes ≡ []
unfolding begun_at text_of
no_text text bytes x read = by_read (opened_at (start_of bytes)) read
  where
    by_read : (r : Result (Opened × Place) ℕ) → read_on r then_records ≡ Err x → text_in text r ≡ []
    by_read (Ok y) e = cc
    by_read (Err z) e = refl

pub no_front : (base : Option (List ℕ)) (text : List ℕ) → HasFront base text base
no_front base text = record { count = 0; within = omega arith; written = appends_none base }

pub refused_opening : (streams : Bool) (there : Opened → Scan → Bool)
    (full settled : Opened → Scan → List ℕ) (bytes : List ℕ) (whole cut : Type 0) (base : Option (List ℕ))
    (e : LogFault)
    → MeetsIn (log_met e) (begun_at (start_of bytes)) (end_of (start_of bytes)) whole cut
    → Does (of_recording streams there full settled) bytes whole cut base base (Err (status_of_log e))
refused_opening streams there full settled bytes whole cut base (bad_field x) meets = (
  λ h. rw (bad_opening bytes x (meets h)) refl,
  λ h. rw (no_text settled bytes x (meets h)) (nothing_put base).written,
)
refused_opening streams there full settled bytes whole cut base read_fault meets = (
  λ h.
      (let all : end_of (start_of bytes) ≡ length bytes = omega arith in
      rw (bad_opening bytes _ (meets h)) all),
  λ h. rw (no_text settled bytes _ (meets h)) (nothing_put base).written,
)
refused_opening streams there full settled bytes whole cut base no_memory meets =
    (tt, inl (no_front base (text_of settled bytes)))
