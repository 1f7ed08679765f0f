-- What the parts of an input that were read say of its first bad place.
use Rattle.std.proofs.Common.{◌≡◌, ℕ, List, length, Some, None, Result, Ok, Err, arith, refl, ap, sym, subst, ◌∙◌}
use Rattle.std.proofs.Common.{length-append}
use Rattle.cx_codec.specs.Place.{Place, end_of, read_on}
use Rattle.cx_codec.proofs.Composing.{bound}
use Rattle.cx_codec.proofs.Texts.{bytes_behind}
use Rattle.cx_hart.specs.HartStep.{hart_step}
use Rattle.cx_log.specs.Reading.{Opened, opened_at, start_of}
use Rattle.cx_log.specs.Scan.{begin_records, decoded, scan_behind}
use Rattle.cx_log.proofs.Recordings.{opened_once, opened_text}
use Rattle.cx_map.specs.Bytes.{AreBytes}
use Rattle.cx_run.specs.FirstBad.{Format, bad_behind, bad_in, first_bad}
use Rattle.cx_run.proofs.GoodInputs.{IsGood, good_behind}
use Rattle.cx_commands.specs.Opening.{begun_at, scan_from, then_records}
use Rattle.cx_commands.specs.Window.{IsTextOf}
use Rattle.cx_window.specs.Cut.{IsJudged}

-- ---- the place where the records begin

pub record Begun (bytes : List ℕ) (o : Opened) (p : Place) : Type 0 where
  pub mid : Place
  pub opened : opened_at (start_of bytes) ≡ Ok (o, mid)
  pub is : p ≡ begin_records mid

begun_pair : (o : Opened) (mid : Place) (o' : Opened) (p : Place) → then_records o mid ≡ Ok (o', p)
    → (o ≡ o') × (begin_records mid ≡ p)
begun_pair o mid o' p e =
    let both : ◌≡◌ {A = Opened × Place} (o, begin_records mid) (o', p) = cc in
    (ap (λ (x : Opened × Place). x.0) both, ap (λ (x : Opened × Place). x.1) both)

pub begun_mid : (bytes : List ℕ) (o : Opened) (p : Place) → begun_at (start_of bytes) ≡ Ok (o, p) → Begun bytes o p
unfolding begun_at
begun_mid bytes o p read =
    let first = bound (opened_at (start_of bytes)) then_records (o, p) read in
    let same = begun_pair first.value first.mid o p first.then in
    record { mid = first.mid; opened = first.read ∙ ap (λ (x : Opened). Ok (x, first.mid)) same.0; is = sym same.1 }

-- ---- an input that is bad before its records

pub bad_opening : (bytes : List ℕ) (x : ℕ) → begun_at (start_of bytes) ≡ Err x
    → first_bad hart_step bytes ≡ Some (Format x)
unfolding begun_at first_bad
bad_opening bytes x read = by_read (opened_at (start_of bytes)) read
  where
    by_read : (r : Result (Opened × Place) ℕ) → read_on r then_records ≡ Err x → bad_in hart_step r ≡ Some (Format x)
    by_read (Ok y) e = cc
    by_read (Err z) e = let same : z ≡ x = cc in rw same refl

pub good_is_begun : (bytes : List ℕ) → first_bad hart_step bytes ≡ None
    → (o : Opened) × (p : Place) × (begun_at (start_of bytes) ≡ Ok (o, p))
unfolding begun_at first_bad
good_is_begun bytes good = by_opening (opened_at (start_of bytes)) refl good
  where
    by_opening : (r : Result (Opened × Place) ℕ) → opened_at (start_of bytes) ≡ r → bad_in hart_step r ≡ None
        → (o : Opened) × (p : Place) × (read_on (opened_at (start_of bytes)) then_records ≡ Ok (o, p))
    by_opening (Ok x) opened good = (x.0, begin_records x.1, rw opened refl)
    by_opening (Err z) opened good = cc

-- ---- the records of an input

pub bad_of_begun : (bytes : List ℕ) (o : Opened) (p : Place) → begun_at (start_of bytes) ≡ Ok (o, p)
    → first_bad hart_step bytes ≡ bad_behind hart_step o (scan_from o p)
unfolding first_bad
bad_of_begun bytes o p begun =
    let b = begun_mid bytes o p begun in
    ap (bad_in hart_step) b.opened ∙ ap (λ (q : Place). bad_behind hart_step o (scan_from o q)) (sym b.is)

good_of_begun : (bytes : List ℕ) (o : Opened) (p : Place) → AreBytes bytes → begun_at (start_of bytes) ≡ Ok (o, p)
    → bad_behind hart_step o (scan_from o p) ≡ None → IsGood hart_step (decoded o (scan_from o p)) bytes
good_of_begun bytes o p are begun good =
    let b = begun_mid bytes o p begun in
    let here : bad_behind hart_step o (scan_behind o b.mid) ≡ None =
    ap (λ (q : Place). bad_behind hart_step o (scan_from o q)) (sym b.is) ∙ good in
    subst (λ (q : Place). IsGood hart_step (decoded o (scan_from o q)) bytes) (sym b.is)
    (good_behind hart_step bytes o b.mid are b.opened here)

pub is_judged : (bytes : List ℕ) (o : Opened) (p : Place) → AreBytes bytes → begun_at (start_of bytes) ≡ Ok (o, p)
    → IsJudged o (scan_from o p)
is_judged bytes o p are begun = λ good. (good_of_begun bytes o p are begun good).accepted

pub text_of_begun : (bytes : List ℕ) (o : Opened) (p : Place) → AreBytes bytes → begun_at (start_of bytes) ≡ Ok (o, p)
    → bad_behind hart_step o (scan_from o p) ≡ None → IsTextOf (decoded o (scan_from o p)) bytes
text_of_begun bytes o p are begun good =
    let is = good_of_begun bytes o p are begun good in
    record { text = is.text; accepted = is.accepted; good = bad_of_begun bytes o p begun ∙ good }

pub bytes_of_begun : (bytes : List ℕ) (o : Opened) (p : Place) → AreBytes bytes → begun_at (start_of bytes) ≡ Ok (o, p)
    → AreBytes p.ahead
bytes_of_begun bytes o p are begun =
    let b = begun_mid bytes o p begun in
    let stood = opened_once o (start_of bytes) b.mid are b.opened in
    subst (λ (q : Place). AreBytes q.ahead) (sym b.is)
    (bytes_behind (start_of bytes) b.mid (opened_text o) are stood.takes)

-- ---- the end of an input

pub end_begun : (bytes : List ℕ) (o : Opened) (p : Place) → AreBytes bytes → begun_at (start_of bytes) ≡ Ok (o, p)
    → end_of p ≡ length bytes
end_begun bytes o p are begun =
    let b = begun_mid bytes o p begun in
    let takes = (opened_once o (start_of bytes) b.mid are b.opened).takes in
    rw b.is (omega (arith, takes.there, ap length takes.ahead, length-append (opened_text o) b.mid.ahead))
