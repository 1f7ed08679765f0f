-- Runs of bytes: their text reads back, what was read is their text, and they are rising bytes.
use Rattle.std.proofs.Common.{◌≡◌, ℕ, zero, suc, ◌+◌, ◌-◌, ◌^◌, ◌<◌, ◌≤◌, min, leb, arith, refl, ap, sym}
use Rattle.std.proofs.Common.{List, [], ◌∷◌, ◌++◌, length, true}
use Rattle.std.proofs.lemmas.Bool.{leb-true, le-leb, and_from, and_parts}
use Rattle.std.specs.List.{AllByRecursion}
use Rattle.std.specs.Int.{w32, to_le_bytes}
use Rattle.cx_map.specs.Bytes.{AreBytes}
use Rattle.cx_codec.specs.Again.{Once, ReadsAs}
use Rattle.cx_codec.specs.Fields.{bytes_at, varint_at, word_at}
use Rattle.cx_codec.specs.Checks.{checked, is_between}
use Rattle.cx_codec.specs.Place.{Reader, done, read_on}
use Rattle.cx_codec.specs.Varint.{varint}
use Rattle.cx_codec.proofs.Again.{reads_both, reads_bytes, reads_checked, reads_nothing, reads_then, reads_varint, reads_word}
use Rattle.cx_codec.proofs.Once.{part, finish, once_bytes, once_checked, once_varint, once_word}
use Rattle.cx_codec.proofs.Texts.{takes_along, takes_both, takes_nothing}
use Rattle.cx_slices.specs.Bytes.{Byte}
use Rattle.cx_slices.specs.Items.{IsByteAt}
use Rattle.cx_slices.specs.Stretches.{AreStretches, Stretch, bytes_from, bytes_of_stretches}
use Rattle.cx_slicefmt.specs.Reading.{run_at, runs_at}
use Rattle.cx_slicefmt.specs.Rules.{AreByteRuns, IsByteRun}
use Rattle.cx_slicefmt.specs.Text.{run_text, runs_text}

-- ---- between a least and a greatest number

pub between : (least greatest n : ℕ) → least ≤ n → n ≤ greatest → is_between least greatest n ≡ true
between least greatest n low high = and_from (leb least n) (leb n greatest) (le-leb least n low) (le-leb n greatest high)

pub lies_between : (least greatest n : ℕ) → is_between least greatest n ≡ true → (least ≤ n) × (n ≤ greatest)
lies_between least greatest n is =
    let bounds = and_parts (leb least n) (leb n greatest) is in
    (leb-true least n bounds.0, leb-true n greatest bounds.1)

-- ---- one run

abbrev pub sized : ℕ → ℕ → Reader Stretch
sized va size p = read_on (bytes_at size p) (λ bytes. done (record { va = va; bytes = bytes }))

abbrev pub placed : ℕ → ℕ → Reader Stretch
placed most va p = read_on (checked (is_between 1 (min most (2 ^ 32 - va))) varint_at p) (sized va)

pub reads_run : (most least : ℕ) (s : Stretch) → IsByteRun most least s → ReadsAs (run_at most least) (run_text s) s
unfolding run_at
reads_run most least s is = reads_both (checked (λ w. leb least w) word_at) (placed most) (to_le_bytes w32 s.va)
    (varint (length s.bytes) ++ s.bytes) s.va s
    (reads_checked (λ w. leb least w) word_at (to_le_bytes w32 s.va) s.va (le-leb least s.va is.from)
    (reads_word s.va (omega (arith, is.fits, is.some))))
    (reads_both (checked (is_between 1 (min most (2 ^ 32 - s.va))) varint_at) (sized s.va) (varint (length s.bytes))
    s.bytes (length s.bytes) s
    (reads_checked (is_between 1 (min most (2 ^ 32 - s.va))) varint_at (varint (length s.bytes)) (length s.bytes)
    (between 1 (min most (2 ^ 32 - s.va)) (length s.bytes) is.some (omega (arith, is.short, is.fits)))
    (reads_varint (length s.bytes) (omega (arith, is.fits))))
    (reads_then (bytes_at (length s.bytes)) (λ bytes. record { va = s.va; bytes = bytes }) s.bytes s.bytes
    (reads_bytes s.bytes)))

pub once_run : (most least : ℕ) → Once (run_at most least) (IsByteRun most least) run_text
unfolding run_at
once_run most least p after are x read =
    let va = part (checked (λ w. leb least w) word_at) (λ w. (w < 2 ^ 32) × (leb least w ≡ true))
    (λ w. to_le_bytes w32 w) (placed most)
    (once_checked (λ w. leb least w) word_at (λ w. w < 2 ^ 32) (λ w. to_le_bytes w32 w) once_word) p after are x read in
    let test = is_between 1 (min most (2 ^ 32 - va.value)) in
    let size = part (checked test varint_at) (λ n. Unit {0} × (test n ≡ true)) varint (sized va.value)
    (once_checked test varint_at (λ n. Unit {0}) varint once_varint) va.mid after va.bytes x va.then in
    let bytes = part (bytes_at size.value) (λ bs. (length bs ≡ size.value) × AreBytes bs) (λ bs. bs)
    (λ bs. done (record { va = va.value; bytes = bs })) (once_bytes size.value) size.mid after size.bytes x size.then in
    let lies = lies_between 1 (min most (2 ^ 32 - va.value)) size.value size.keeps.1 in
    let low : least ≤ va.value = leb-true least va.value va.keeps.1 in
    finish (IsByteRun most least) run_text p bytes.mid after (record { va = va.value; bytes = bytes.value }) x bytes.then
    (record {
      from = low;
      some = omega (arith, lies.0, bytes.keeps.0);
      short = omega (arith, lies.1, bytes.keeps.0);
      fits = omega (arith, lies.0, lies.1, bytes.keeps.0, va.keeps.0);
      bytes = bytes.keeps.1;
    })
    (takes_both p va.mid bytes.mid (to_le_bytes w32 va.value) (varint (length bytes.value) ++ bytes.value) va.takes
    (takes_both va.mid size.mid bytes.mid (varint (length bytes.value)) bytes.value
    (takes_along va.mid size.mid size.mid (varint size.value) (varint (length bytes.value))
    (ap varint (sym bytes.keeps.0)) refl size.takes) bytes.takes))

-- ---- runs one behind another

abbrev behind_run : ℕ → ℕ → Stretch → Reader (List Stretch)
behind_run most n s p = read_on (runs_at most n (s.va + length s.bytes + 1) p) (λ rest. done (s ∷ rest))

pub reads_runs : (most least : ℕ) (ss : List Stretch) → AreByteRuns most least ss
    → ReadsAs (runs_at most (length ss) least) (runs_text ss) ss
reads_runs most least [] are = reads_nothing []
reads_runs most least (s ∷ ss) are = reads_both (run_at most least) (behind_run most (length ss)) (run_text s)
    (runs_text ss) s (s ∷ ss) (reads_run most least s are.0)
    (reads_then (runs_at most (length ss) (s.va + length s.bytes + 1)) (λ rest. s ∷ rest) (runs_text ss) ss
    (reads_runs most (s.va + length s.bytes + 1) ss are.1))

pub once_runs : (most n least : ℕ)
    → Once (runs_at most n least) (λ ss. (length ss ≡ n) × AreByteRuns most least ss) runs_text
once_runs most zero least p after are x read =
    finish (λ ss. (length ss ≡ 0) × AreByteRuns most least ss) runs_text p p after [] x read (refl, tt) (takes_nothing p)
once_runs most (suc n) least p after are x read =
    let first = part (run_at most least) (IsByteRun most least) run_text (behind_run most n) (once_run most least) p after
    are x read in
    let next : ℕ = first.value.va + length first.value.bytes + 1 in
    let rest = part (runs_at most n next) (λ ss. (length ss ≡ n) × AreByteRuns most next ss) runs_text
    (λ ss. done (first.value ∷ ss)) (once_runs most n next) first.mid after first.bytes x first.then in
    finish (λ ss. (length ss ≡ suc n) × AreByteRuns most least ss) runs_text p rest.mid after (first.value ∷ rest.value) x
    rest.then (ap suc rest.keeps.0, (first.keeps, rest.keeps.1))
    (takes_both p first.mid rest.mid (run_text first.value) (runs_text rest.value) first.takes rest.takes)

-- ---- runs are bytes in rising order

record FitFrom (va : ℕ) (bs : List ℕ) (es : List Byte) : Type 0 where
  ends : 1 ≤ length bs → va + length bs ≤ 2 ^ 32
  are : AreBytes bs
  rest : AllByRecursion IsByteAt es

fit_from : (va : ℕ) (bs : List ℕ) (es : List Byte) → AllByRecursion IsByteAt (bytes_from va bs ++ es)
    → FitFrom va bs es
fit_from va [] es fit = record { ends = λ some. absurd (omega arith); are = λ i. omega arith; rest = fit }
fit_from va (b ∷ bs) es fit =
    let behind = fit_from (va + 1) bs es fit.1 in
    record {
      ends = λ some. last va bs fit.0.0 behind.ends;
      are = in_front b bs fit.0.1 behind.are;
      rest = behind.rest;
    }
  where
    last : (va : ℕ) (bs : List ℕ) → va < 2 ^ 32 → (1 ≤ length bs → va + 1 + length bs ≤ 2 ^ 32)
        → va + suc (length bs) ≤ 2 ^ 32
    last va [] fits ends = omega (arith, fits)
    last va (c ∷ bs) fits ends = omega (arith, ends (omega arith))

    in_front : (b : ℕ) (bs : List ℕ) → b < 256 → AreBytes bs → AreBytes (b ∷ bs)
    in_front b bs small are zero = small
    in_front b bs small are (suc i) = are i

pub byte_runs : (most least : ℕ) (ss : List Stretch) → AreStretches least ss
    → AllByRecursion IsByteAt (bytes_of_stretches ss) → AllByRecursion (λ s. length s.bytes ≤ most) ss
    → AreByteRuns most least ss
byte_runs most least [] are fit short = tt
byte_runs most least (s ∷ ss) are fit short =
    let first = fit_from s.va s.bytes (bytes_of_stretches ss) fit in (
      record { from = are.0; some = are.1; short = short.0; fits = first.ends are.1; bytes = first.are },
      byte_runs most (s.va + length s.bytes + 1) ss are.2 first.rest short.1,
    )

pub stretches_are : (most least : ℕ) (ss : List Stretch) → AreByteRuns most least ss → AreStretches least ss
stretches_are most least [] are = tt
stretches_are most least (s ∷ ss) are =
    (are.0.from, are.0.some, stretches_are most (s.va + length s.bytes + 1) ss are.1)

pub runs_are_short : (most least : ℕ) (ss : List Stretch) → AreByteRuns most least ss
    → AllByRecursion (λ s. length s.bytes ≤ most) ss
runs_are_short most least [] are = tt
runs_are_short most least (s ∷ ss) are = (are.0.short, runs_are_short most (s.va + length s.bytes + 1) ss are.1)

bytes_fit : (va : ℕ) (bs : List ℕ) (es : List Byte) → va + length bs ≤ 2 ^ 32 → AreBytes bs
    → AllByRecursion IsByteAt es → AllByRecursion IsByteAt (bytes_from va bs ++ es)
bytes_fit va [] es ends are rest = rest
bytes_fit va (b ∷ bs) es ends are rest = (
  (omega (arith, ends), are 0),
  bytes_fit (va + 1) bs es (omega (arith, ends)) (λ i. are (suc i)) rest,
)

pub run_bytes_fit : (most least : ℕ) (ss : List Stretch) → AreByteRuns most least ss
    → AllByRecursion IsByteAt (bytes_of_stretches ss)
run_bytes_fit most least [] are = tt
run_bytes_fit most least (s ∷ ss) are = bytes_fit s.va s.bytes (bytes_of_stretches ss) are.0.fits are.0.bytes
    (run_bytes_fit most (s.va + length s.bytes + 1) ss are.1)
