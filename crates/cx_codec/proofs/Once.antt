-- What was read, part by part: it keeps the rules of its parts, and their texts stand there.
use Rattle.std.proofs.Common.{◌≡◌, ℕ, ◌^◌, ◌<◌, List, [], ◌∷◌, ◌++◌, length, cond, Bool, true, false}
use Rattle.std.proofs.Common.{refl, ap, subst, Ok}
use Rattle.std.specs.Int.{w32, to_le_bytes}
use Rattle.cx_map.specs.Bytes.{AreBytes}
use Rattle.cx_codec.specs.Again.{Once}
use Rattle.cx_codec.specs.Fields.{bytes_at, byte_at, word_at, varint_at}
use Rattle.cx_codec.specs.Checks.{checked}
use Rattle.cx_codec.specs.Place.{Place, Reader, Takes, bad, done, read_on}
use Rattle.cx_codec.specs.Varint.{varint}
use Rattle.cx_codec.proofs.Composing.{bound, done_same}
use Rattle.cx_codec.proofs.ReadBack.{varint_once}
use Rattle.cx_codec.proofs.ReadOnce.{bytes_once, byte_once, word_once}
use Rattle.cx_codec.proofs.Texts.{takes_along, bytes_behind, bytes_taken}

-- the first part of what was read, and what those behind it come to
pub record Part {A B : Type 0} (is : A → Type 0) (text : A → List ℕ) (f : A → Reader B) (p after : Place)
    (y : B) : Type 0 where
  pub value : A
  pub mid : Place
  pub keeps : is value
  pub takes : Takes p (text value) mid
  pub bytes : AreBytes mid.ahead
  pub then : f value mid ≡ Ok (y, after)

pub part : {A B : Type 0} (r : Reader A) (is : A → Type 0) (text : A → List ℕ) (f : A → Reader B) → Once r is text
    → (p after : Place) → AreBytes p.ahead → (y : B) → read_on (r p) f ≡ Ok (y, after) → Part is text f p after y
part r is text f once p after are y read =
    let parts = bound (r p) f (y, after) read in
    let first = once p parts.mid are parts.value parts.read in
    record {
      value = parts.value;
      mid = parts.mid;
      keeps = first.0;
      takes = first.1;
      bytes = bytes_behind p parts.mid (text parts.value) are first.1;
      then = parts.then;
    }

-- the last of them, a value that takes no byte
pub finish : {A : Type 0} (is : A → Type 0) (text : A → List ℕ) (p q after : Place) (x y : A)
    → done x q ≡ Ok (y, after) → is x → Takes p (text x) q → is y × Takes p (text y) after
finish {A} is text p q after x y e keeps takes =
    let same = done_same x y q after e in (
      subst is same.0 keeps,
      takes_along p q after (text x) (text y) (ap text same.0) same.1 takes,
    )

pub once_checked : (test : ℕ → Bool) (field : Reader ℕ) (is : ℕ → Type 0) (text : ℕ → List ℕ) → Once field is text
    → Once (checked test field) (λ n. is n × (test n ≡ true)) text
once_checked test field is text once p after are x read =
    let first = part field is text (λ v. cond {A = Reader ℕ} (test v) (done v) (bad p.at)) once p after are x read in
    by_test first.value first.mid (test first.value) refl first.keeps first.takes first.then
  where
    by_test : (v : ℕ) (mid : Place) (t : Bool) → test v ≡ t → is v → Takes p (text v) mid
        → cond {A = Reader ℕ} t (done v) (bad p.at) mid ≡ Ok (x, after)
        → (is x × (test x ≡ true)) × Takes p (text x) after
    by_test v mid true good keeps takes then =
        finish (λ n. is n × (test n ≡ true)) text p mid after v x then (keeps, good) takes
    by_test v mid false wrong keeps takes then = cc

-- ---- fields

pub once_bytes : (n : ℕ) → Once (bytes_at n) (λ bytes. (length bytes ≡ n) × AreBytes bytes) (λ bytes. bytes)
once_bytes n p after are x read =
    let there = bytes_once n p after x read in
    ((there.count, bytes_taken p after x are there.stand), there.stand)

pub once_byte : Once byte_at (λ b. Unit {0}) (λ b. b ∷ [])
once_byte p after are x read = (tt, byte_once p after x read)

pub once_word : Once word_at (λ n. n < 2 ^ 32) (λ n. to_le_bytes w32 n)
once_word p after are x read = let there = word_once p after x are read in (there.1, there.0)

pub once_varint : Once varint_at (λ n. Unit {0}) varint
once_varint p after are x read = (tt, varint_once p after x are read)

-- the same by other names
pub once_along : {A : Type 0} (r s : Reader A) (is is' : A → Type 0) (text text' : A → List ℕ)
    → ((p : Place) → s p ≡ r p) → ((x : A) → is x → is' x) → ((x : A) → text x ≡ text' x) → Once r is text
    → Once s is' text'
once_along r s is is' text text' same rule texts once p after are x read =
    let first = once p after are x (rw (← same p) read) in (
      rule x first.0,
      takes_along p after after (text x) (text' x) (texts x) refl first.1,
    )
