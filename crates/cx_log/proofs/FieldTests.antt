-- A field under a test: it is read where it stands and passes, and what was read stood there and passed.
use Rattle.std.proofs.Common.{◌≡◌, ℕ, ◌^◌, ◌<◌, ◌≤◌, leb, cond, refl, Bool, true, false, ◌&&◌, Ok}
use Rattle.std.proofs.lemmas.Bool.{leb-true, le-leb, and_from, and_parts}
use Rattle.cx_map.specs.Bytes.{AreBytes}
use Rattle.cx_codec.specs.Place.{Place, Reader, Takes, done, bad}
use Rattle.cx_codec.specs.Fields.{varint_at}
use Rattle.cx_codec.specs.Varint.{varint}
use Rattle.cx_codec.proofs.ReadBack.{varint_again, varint_once}
use Rattle.cx_codec.specs.Checks.{checked}
use Rattle.cx_log.specs.Fields.{varint_between}
use Rattle.cx_codec.proofs.Composing.{bound}
use Rattle.cx_log.proofs.Done.{done_pair}

pub checked_again : (test : ℕ → Bool) (field : Reader ℕ) (p after : Place) (n : ℕ) → field p ≡ Ok (n, after)
    → test n ≡ true → checked test field p ≡ Ok (n, after)
checked_again test field p after n read good = rw (read, good) refl

pub record Passed (test : ℕ → Bool) (field : Reader ℕ) (p : Place) (n : ℕ) (after : Place) : Type 0 where
  pub read : field p ≡ Ok (n, after)
  pub good : test n ≡ true

passed_by : (test : ℕ → Bool) (o v n : ℕ) (q after : Place) (t : Bool) → test v ≡ t
    → cond {A = Reader ℕ} t (done v) (bad o) q ≡ Ok (n, after)
    → (test v ≡ true) × (◌≡◌ {A = ℕ × Place} (v, q) (n, after))
passed_by test o v n q after true good e = (good, done_pair v n q after e)
passed_by test o v n q after false good e = cc

passed_along : (test : ℕ → Bool) (field : Reader ℕ) (p : Place) (x y : ℕ × Place) → field p ≡ Ok x → test x.0 ≡ true
    → x ≡ y → Passed test field p y.0 y.1
passed_along test field p x y read good same = rw (← same) (record { read = read; good = good })

pub checked_once : (test : ℕ → Bool) (field : Reader ℕ) (p after : Place) (n : ℕ)
    → checked test field p ≡ Ok (n, after) → Passed test field p n after
checked_once test field p after n e =
    let parts = bound (field p) (λ v. cond {A = Reader ℕ} (test v) (done v) (bad p.at)) (n, after) e in
    let passed = passed_by test p.at parts.value n parts.mid after (test parts.value) refl parts.then in
    passed_along test field p (parts.value, parts.mid) (n, after) parts.read passed.0 passed.1

pub between_again : (p after : Place) (least greatest n : ℕ) → least ≤ n → n ≤ greatest → n < 2 ^ 64
    → Takes p (varint n) after → varint_between least greatest p ≡ Ok (n, after)
between_again p after least greatest n low high small takes =
    checked_again (λ n. leb least n && leb n greatest) varint_at p after n (varint_again p after n small takes)
    (and_from (leb least n) (leb n greatest) (le-leb least n low) (le-leb n greatest high))

-- a number that was read, and its bounds
pub record Between (p : Place) (least greatest n : ℕ) (after : Place) : Type 0 where
  pub takes : Takes p (varint n) after
  pub low : least ≤ n
  pub high : n ≤ greatest

pub between_once : (p after : Place) (least greatest n : ℕ) → AreBytes p.ahead
    → varint_between least greatest p ≡ Ok (n, after) → Between p least greatest n after
between_once p after least greatest n bytes e =
    let passed = checked_once (λ n. leb least n && leb n greatest) varint_at p after n e in
    let bounds = and_parts (leb least n) (leb n greatest) passed.good in
    record {
      takes = varint_once p after n bytes passed.read;
      low = leb-true least n bounds.0;
      high =
          leb-true n greatest bounds.1;
    }
