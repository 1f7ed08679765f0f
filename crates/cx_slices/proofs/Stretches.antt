-- Bytes and stretches: each comes back from the other.
use Rattle.std.proofs.Common.{◌≡◌, ℕ, suc, ◌+◌, ◌≤◌, ◌==◌, Bool, true, false, List, [], ◌∷◌, ◌++◌, length}
use Rattle.std.proofs.Common.{if◌then◌else◌, refl, ap, subst, ◌∙◌, arith, eq-eqb, ne_eqb, eqb-true, suc-le-suc}
use Rattle.std.proofs.lemmas.Bool.{eqb-false}
use Rattle.std.specs.List.{AllByRecursion}
use Rattle.cx_slices.specs.Bytes.{Byte, BytesRise}
use Rattle.cx_slices.specs.Stretches.{
  AreStretches,
  Stretch,
  bytes_from,
  bytes_of_stretches,
  put_before,
  single,
  stretches_of,
}
use Rattle.cx_slices.proofs.Small.{strictly}

bytes_of-put_before : (e : Byte) (ss : List Stretch) → bytes_of_stretches (put_before e ss) ≡ e ∷ bytes_of_stretches ss
bytes_of-put_before e [] = refl
bytes_of-put_before e (s ∷ ss) = by_test (e.0 + 1 == s.va) refl
  where
    by_test : (t : Bool) → (e.0 + 1 == s.va) ≡ t
        → bytes_of_stretches (if t then record { va = e.0; bytes = e.1 ∷ s.bytes } ∷ ss else single e ∷ s ∷ ss)
        ≡ e ∷ (bytes_from s.va s.bytes ++ bytes_of_stretches ss)
    by_test true is = ap (λ (n : ℕ). e ∷ (bytes_from n s.bytes ++ bytes_of_stretches ss)) (eqb-true (e.0 + 1) s.va is)
    by_test false is = refl

pub bytes_of-stretches_of : (es : List Byte) → bytes_of_stretches (stretches_of es) ≡ es
bytes_of-stretches_of [] = refl
bytes_of-stretches_of (e ∷ es) = bytes_of-put_before e (stretches_of es) ∙ ap (λ fs. e ∷ fs) (bytes_of-stretches_of es)

AreStretches-from : (m n : ℕ) (ss : List Stretch) → m ≡ n → AreStretches m ss → AreStretches n ss
AreStretches-from m n ss is are = subst (λ (k : ℕ). AreStretches k ss) is are

AreStretches-put_before : (least : ℕ) (e : Byte) (ss : List Stretch) → least ≤ e.0 → AreStretches (e.0 + 1) ss
    → AreStretches least (put_before e ss)
AreStretches-put_before least e [] low are = (low, omega arith, tt)
AreStretches-put_before least e (s ∷ ss) low are = by_test (e.0 + 1 == s.va) refl
  where
    ends : (a b n : ℕ) → a + 1 ≡ b → b + n + 1 ≡ a + suc n + 1
    ends a b n is = omega arith

    by_test : (t : Bool) → (e.0 + 1 == s.va) ≡ t → AreStretches least
        (if t then record { va = e.0; bytes = e.1 ∷ s.bytes } ∷ ss else single e ∷ s ∷ ss)
    by_test true is = (
      low,
      omega arith,
      AreStretches-from (s.va + length s.bytes + 1) (e.0 + suc (length s.bytes) + 1) ss
          (ends e.0 s.va (length s.bytes) (eqb-true (e.0 + 1) s.va is)) are.2,
    )
    by_test false is = (low, omega arith, (strictly (e.0 + 1) s.va are.0 (eqb-false (e.0 + 1) s.va is), are.1, are.2))

pub AreStretches-stretches_of : (least : ℕ) (es : List Byte) → BytesRise least es → AreStretches least (stretches_of es)
AreStretches-stretches_of least [] rises = tt
AreStretches-stretches_of least (e ∷ es) rises = AreStretches-put_before least e (stretches_of es) rises.0
    (AreStretches-stretches_of (e.0 + 1) es rises.1)

-- ---- from stretches to bytes and back

-- What is put before stretches that begin with a gap begins a stretch of its own.
before_gap : (va b : ℕ) (ss : List Stretch) → AreStretches (va + 1 + 1) ss
    → put_before (va, b) ss ≡ record { va = va; bytes = b ∷ [] } ∷ ss
before_gap va b [] are = refl
before_gap va b (s ∷ ss) are = rw (ne_eqb (va + 1) s.va (apart (va + 1) s.va are.0)) refl
  where
    apart : (m n : ℕ) → m + 1 ≤ n → m ≡ n → ⊥
    apart m n less is = omega arith

stretch_back : (va b : ℕ) (bs : List ℕ) (ss : List Stretch) → AreStretches (va + suc (length bs) + 1) ss
    → stretches_of (bytes_of_stretches ss) ≡ ss
    → stretches_of (bytes_from va (b ∷ bs) ++ bytes_of_stretches ss) ≡ record { va = va; bytes = b ∷ bs } ∷ ss
stretch_back va b [] ss are back = ap (put_before (va, b)) back
    ∙ before_gap va b ss (AreStretches-from (va + 1 + 1) (va + 1 + 1) ss refl are)
stretch_back va b (c ∷ bs) ss are back = ap (put_before (va, b))
    (stretch_back (va + 1) c bs ss
    (AreStretches-from (va + suc (suc (length bs)) + 1) (va + 1 + suc (length bs) + 1) ss (ends va (length bs)) are)
    back)
    ∙ joins va b c bs ss
  where
    ends : (a n : ℕ) → a + suc (suc n) + 1 ≡ a + 1 + suc n + 1
    ends a n = omega arith

    joins : (va b c : ℕ) (bs : List ℕ) (ss : List Stretch)
        → put_before (va, b) (record { va = va + 1; bytes = c ∷ bs } ∷ ss)
        ≡ record { va = va; bytes = b ∷ c ∷ bs } ∷ ss
    joins va b c bs ss = rw (eq-eqb (va + 1) (va + 1) refl) refl

one_back : (least : ℕ) (va : ℕ) (bs : List ℕ) (ss : List Stretch) → 1 ≤ length bs
    → AreStretches (va + length bs + 1) ss → stretches_of (bytes_of_stretches ss) ≡ ss
    → stretches_of (bytes_from va bs ++ bytes_of_stretches ss) ≡ record { va = va; bytes = bs } ∷ ss
one_back least va [] ss some are back = absurd (omega arith)
one_back least va (b ∷ bs) ss some are back = stretch_back va b bs ss are back

pub stretches_of-bytes_of : (least : ℕ) (ss : List Stretch) → AreStretches least ss
    → stretches_of (bytes_of_stretches ss) ≡ ss
stretches_of-bytes_of least [] are = refl
stretches_of-bytes_of least (s ∷ ss) are = one_back least s.va s.bytes ss are.1 are.2
    (stretches_of-bytes_of (s.va + length s.bytes + 1) ss are.2)

BytesRise-from : (m n : ℕ) (es : List Byte) → m ≤ n → BytesRise n es → BytesRise m es
BytesRise-from m n [] less rises = tt
BytesRise-from m n (e ∷ es) less rises = (omega arith, rises.1)

bytes_rise : (least va : ℕ) (bs : List ℕ) (es : List Byte) → least ≤ va → BytesRise (va + length bs) es
    → BytesRise least (bytes_from va bs ++ es)
bytes_rise least va [] es low rises = BytesRise-from least (va + 0) es (omega arith) rises
bytes_rise least va (b ∷ bs) es low rises = (
  low,
  bytes_rise (va + 1) (va + 1) bs es (omega arith)
      (BytesRise-from (va + 1 + length bs) (va + suc (length bs)) es (ends va (length bs)) rises),
)
  where
    ends : (a n : ℕ) → a + 1 + n ≤ a + suc n
    ends a n = omega arith

pub BytesRise-bytes_of : (least : ℕ) (ss : List Stretch) → AreStretches least ss → BytesRise least (bytes_of_stretches ss)
BytesRise-bytes_of least [] are = tt
BytesRise-bytes_of least (s ∷ ss) are = bytes_rise least s.va s.bytes (bytes_of_stretches ss) are.0
    (BytesRise-from (s.va + length s.bytes) (s.va + length s.bytes + 1) (bytes_of_stretches ss) (omega arith)
    (BytesRise-bytes_of (s.va + length s.bytes + 1) ss are.2))

-- ---- how many, and how long

few-put_before : (e : Byte) (ss : List Stretch) (n : ℕ) → length ss ≤ n → length (put_before e ss) ≤ suc n
few-put_before e [] n few = omega arith
few-put_before e (s ∷ ss) n few = by_test (e.0 + 1 == s.va)
  where
    by_test : (t : Bool)
        → length (if t then record { va = e.0; bytes = e.1 ∷ s.bytes } ∷ ss else single e ∷ s ∷ ss) ≤ suc n
    by_test true = omega arith
    by_test false = omega arith

pub few_stretches : (es : List Byte) → length (stretches_of es) ≤ length es
few_stretches [] = omega arith
few_stretches (e ∷ es) = few-put_before e (stretches_of es) (length es) (few_stretches es)

longer : (n : ℕ) (ss : List Stretch) → AllByRecursion (λ s. length s.bytes ≤ n) ss
    → AllByRecursion (λ s. length s.bytes ≤ suc n) ss
longer n [] short = tt
longer n (s ∷ ss) short = (omega arith, longer n ss short.1)

short-put_before : (e : Byte) (ss : List Stretch) (n : ℕ) → AllByRecursion (λ s. length s.bytes ≤ n) ss
    → AllByRecursion (λ s. length s.bytes ≤ suc n) (put_before e ss)
short-put_before e [] n short = (omega arith, tt)
short-put_before e (s ∷ ss) n short = by_test (e.0 + 1 == s.va)
  where
    by_test : (t : Bool) → AllByRecursion (λ s. length s.bytes ≤ suc n)
        (if t then record { va = e.0; bytes = e.1 ∷ s.bytes } ∷ ss else single e ∷ s ∷ ss)
    by_test true = (suc-le-suc short.0, longer n ss short.1)
    by_test false = (omega arith, longer n (s ∷ ss) short)

pub short_stretches : (es : List Byte) → AllByRecursion (λ s. length s.bytes ≤ length es) (stretches_of es)
short_stretches [] = tt
short_stretches (e ∷ es) = short-put_before e (stretches_of es) (length es) (short_stretches es)
