-- Heads that can be spelled: bytes below 2^32 that rise stand in few runs, and in short ones.
use Rattle.std.proofs.Common.{◌≡◌, ℕ, ◌+◌, ◌*◌, ◌^◌, ◌≤◌, arith, sym, subst, List, [], ◌∷◌, length}
use Rattle.std.specs.List.{AllByRecursion}
use Rattle.cx_slices.specs.Bytes.{BytesRise}
use Rattle.cx_slices.specs.Items.{IsByteAt, IsWordOrNone}
use Rattle.cx_slices.specs.Stretches.{Stretch, stretches_of}
use Rattle.cx_slices.proofs.Stretches.{AreStretches-stretches_of, bytes_of-stretches_of, short_stretches}
use Rattle.cx_slicefmt.specs.Rules.{AreByteRuns, Head, IsHead}
use Rattle.cx_slicefmt.proofs.Runs.{byte_runs}
use Rattle.cx_callfmt.specs.Rules.{calls}

-- between two runs an address is left out
few_runs : (most least : ℕ) (ss : List Stretch) → least ≤ 2 ^ 32 + 1 → AreByteRuns most least ss
    → 2 * length ss + least ≤ 2 ^ 32 + 1
few_runs most least [] low are = omega (arith, low)
few_runs most least (s ∷ ss) low are =
    let first = are.0 in
    let rest = few_runs most (s.va + length s.bytes + 1) ss (omega (arith, first.fits)) are.1 in
    omega (arith, rest, first.from, first.some)

short_runs : (most least : ℕ) (ss : List Stretch) → AreByteRuns most least ss
    → AllByRecursion (λ s. length s.bytes ≤ 2 ^ 32) ss
short_runs most least [] are = tt
short_runs most least (s ∷ ss) are =
    (omega (arith, are.0.fits), short_runs most (s.va + length s.bytes + 1) ss are.1)

pub head_spelled : (h : Head) → length h.words ≡ 32 → AllByRecursion IsWordOrNone h.words → BytesRise 0 h.bytes
    → AllByRecursion IsByteAt h.bytes → IsHead calls h
head_spelled h count words rises bytes =
    let most : ℕ = length h.bytes in
    let are = byte_runs most 0 (stretches_of h.bytes) (AreStretches-stretches_of 0 h.bytes rises)
    (subst (λ es. AllByRecursion IsByteAt es) (sym (bytes_of-stretches_of h.bytes)) bytes) (short_stretches h.bytes) in
    record {
      count = count;
      words = words;
      rises = rises;
      bytes = bytes;
      runs = omega (arith, few_runs most 0 (stretches_of h.bytes) (omega arith) are);
      most = short_runs most 0 (stretches_of h.bytes) are;
    }
