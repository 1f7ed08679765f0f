-- The bytes of a page, and their marks.
use Rattle.std.proofs.Common.{◌≡◌, ◌≢◌, ℕ, zero, suc, ◌*◌, ◌^◌, ◌<◌, ◌/◌, ◌%◌}
use Rattle.std.proofs.Common.{length, get_or, replicate, None, Some, refl, sym, ◌∙◌, arith, inl, inr}
use Rattle.std.specs.Prelude.{bit_and, bit_or, slice_index, slice_set}
use Rattle.std.specs.Int.{w8}
use Rattle.std.proofs.lemmas.Bool.{eq-eqb, ne_eqb, cases_eq}
use Rattle.std.proofs.lemmas.Nat.Bits.{bit_at-zero, bit_at_set_other, bit_at_set_same, shr_and_one}
use Rattle.std.proofs.lemmas.List.{get_or-set_other, get_or-set_same}
use Rattle.cx_map.specs.declared.TheConstants.{PAGE_SIZE}
use Rattle.cx_shadow.specs.Cells.{byte_in}
use Rattle.cx_shadow.specs.declared.page.Page.{Page}

-- the mark at a place is what a shift and a mask show
pub marked : (p : Page) (i : ℕ) → bit_and (slice_index p.marks (i / 8) / 2 ^ (i % 8)) 1 ≡ 1
    → Some (slice_index p.bytes i) ≡ byte_in i p
unfolding byte_in
marked p i is = rw (eq-eqb _ 1 (sym (shr_and_one (slice_index p.marks (i / 8)) (i % 8)) ∙ is)) refl

pub unmarked : (p : Page) (i : ℕ) → bit_and (slice_index p.marks (i / 8) / 2 ^ (i % 8)) 1 ≢ 1
    → None ≡ byte_in i p
unfolding byte_in
unmarked p i is = rw (ne_eqb _ 1 (λ e. is (shr_and_one (slice_index p.marks (i / 8)) (i % 8) ∙ e))) refl

-- the page once a byte was put
abbrev pub with_byte : Page → ℕ → ℕ → Page
with_byte p k byte = record {
  marks = slice_set p.marks (k / 8) (bit_or (slice_index p.marks (k / 8)) (1 * 2 ^ (k % 8) % 256));
  bytes = slice_set p.bytes k byte;
}

pub put_here : (p : Page) (k byte : ℕ) → length p.marks ≡ 512 → length p.bytes ≡ PAGE_SIZE → k < PAGE_SIZE
    → byte_in k (with_byte p k byte) ≡ Some byte
unfolding byte_in
put_here p k byte marks bytes within =
    rw (
      get_or-set_same p.marks (k / 8)
          (bit_or (slice_index p.marks (k / 8)) (1 * 2 ^ (k % 8) % 256)) 0 (omega arith),
      bit_at_set_same w8 (slice_index p.marks (k / 8)) (k % 8) (omega arith),
      get_or-set_same p.bytes k byte 0 (omega arith),
    ) refl

pub put_others : (p : Page) (k byte : ℕ) → length p.marks ≡ 512 → k < PAGE_SIZE → (i : ℕ) → i ≢ k
    → byte_in i (with_byte p k byte) ≡ byte_in i p
unfolding byte_in
put_others p k byte marks within i apart = elim (cases_eq (i / 8) (k / 8)) [
  | inl same ↦ rw (
    same,
    get_or-set_same p.marks (k / 8)
        (bit_or (slice_index p.marks (k / 8)) (1 * 2 ^ (k % 8) % 256)) 0 (omega arith),
    bit_at_set_other w8 (slice_index p.marks (k / 8)) (k % 8) (omega arith) (i % 8)
        (λ e. apart (omega (arith, same, e))),
    get_or-set_other p.bytes k i byte 0 apart,
  ) refl
  | inr other ↦ rw (
    get_or-set_other p.marks (k / 8) (i / 8)
        (bit_or (slice_index p.marks (k / 8)) (1 * 2 ^ (k % 8) % 256)) 0 other,
    get_or-set_other p.bytes k i byte 0 apart,
  ) refl
]

zeros : (n i : ℕ) → ◌≡◌ {A = ℕ} (get_or (replicate n 0) i 0) 0
zeros zero i = refl
zeros (suc n) zero = refl
zeros (suc n) (suc i) = zeros n i

-- nothing is marked in a page of zeros
pub blank_page : (i : ℕ) → byte_in i (record { marks = replicate 512 0; bytes = replicate PAGE_SIZE 0 }) ≡ None
unfolding byte_in
blank_page i = rw (zeros 512 (i / 8), bit_at-zero (i % 8)) refl
