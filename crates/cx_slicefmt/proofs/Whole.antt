-- Process slices as whole inputs.
use Rattle.std.proofs.Common.{◌≡◌, ℕ, suc, ◌+◌, ◌^◌, ◌≤◌, arith, refl, ap, sym, ◌∙◌, List, [], ◌++◌, length, drop}
use Rattle.std.proofs.Common.{None, Some}
use Rattle.std.proofs.lemmas.List.{append-nil}
use Rattle.cx_map.specs.Bytes.{AreBytes}
use Rattle.cx_codec.specs.Place.{Place, Takes}
use Rattle.cx_slices.specs.Groups.{Group}
use Rattle.cx_slices.specs.Settled.{SliceScan}
use Rattle.cx_slicefmt.specs.Rules.{AreSpelled, process}
use Rattle.cx_slicefmt.specs.Scan.{behind_slice_magic, scan_groups, slice_scan}
use Rattle.cx_slicefmt.specs.Text.{ended_text, slice_magic, slice_text}
use Rattle.cx_slicefmt.proofs.Scans.{scan_again, scan_cut, scan_once, scan_well}
use Rattle.cx_slicefmt.proofs.Texts.{slice_few}

text_behind : (bytes text : List ℕ) → slice_magic ++ bytes ≡ slice_magic ++ text → bytes ≡ text
text_behind bytes text same = ap (λ (xs : List ℕ). drop 4 xs) same

behind_all : List ℕ → Place
behind_all bytes = record { at = 4 + length bytes; limit = 2 ^ 60; ahead = [] }

all_taken : (bytes text : List ℕ) → bytes ≡ text → length text ≤ 2 ^ 57
    → Takes (behind_slice_magic bytes) text (behind_all bytes)
unfolding behind_all
all_taken bytes text same few = record {
  ahead = same ∙ sym (append-nil text);
  there = ap (λ (xs : List ℕ). 4 + length xs) same;
  limit = refl;
  within = omega (arith, few);
}

pub slice_again : (gs : List (Group ℕ)) (count : ℕ) (bytes : List ℕ) → AreSpelled process 0 gs count
    → slice_magic ++ bytes ≡ slice_text gs count
    → slice_scan bytes ≡ record { groups = gs; upto = count; bad = None }
unfolding slice_text scan_groups behind_all
slice_again gs count bytes are same =
    scan_again process (suc (length bytes)) 0 gs count (behind_slice_magic bytes) (behind_all bytes) (omega arith) are
    (all_taken bytes (ended_text 0 gs count) (text_behind bytes (ended_text 0 gs count) same) (slice_few gs count are))
    (omega arith)
    ∙ scan_well 0 gs count (tt, behind_all bytes)

pub slice_cut : (gs : List (Group ℕ)) (count : ℕ) (bytes more : List ℕ) → AreSpelled process 0 gs count
    → (slice_magic ++ bytes) ++ more ≡ slice_text gs count → 1 ≤ length more
    → (slice_scan bytes).bad ≡ Some (length (slice_magic ++ bytes))
unfolding slice_text scan_groups
slice_cut gs count bytes more are same some =
    let parts : bytes ++ more ≡ ended_text 0 gs count = text_behind (bytes ++ more) (ended_text 0 gs count) same in
    scan_cut process (suc (length bytes)) 0 gs count (behind_slice_magic bytes) (omega arith) are
    (record { more = more; parts = sym parts; some = some; within = omega (arith, slice_few gs count are) })
    (omega arith)
    ∙ ap (λ (n : ℕ). Some n) (omega arith)

pub record IsSliceText (bytes : List ℕ) (s : SliceScan ℕ) : Type 0 where
  pub spelled : AreSpelled process 0 s.groups s.upto
  pub text : slice_text s.groups s.upto ≡ slice_magic ++ bytes

pub slice_once : (bytes : List ℕ) → AreBytes bytes → (slice_scan bytes).bad ≡ None
    → IsSliceText bytes (slice_scan bytes)
unfolding slice_text scan_groups
slice_once bytes are good =
    let there = scan_once process (suc (length bytes)) 0 (behind_slice_magic bytes) are good in
    let text : List ℕ = ended_text 0 (slice_scan bytes).groups (slice_scan bytes).upto in
    record {
      spelled = there.spelled;
      text = ap (λ (xs : List ℕ). slice_magic ++ xs)
          (sym (there.takes.ahead ∙ ap (λ (xs : List ℕ). text ++ xs) there.none ∙ append-nil text));
    }

pub slice_size : (gs : List (Group ℕ)) (count : ℕ) → AreSpelled process 0 gs count
    → length (slice_text gs count) ≤ 2 ^ 58
unfolding slice_text
slice_size gs count are = omega (arith, slice_few gs count are)
