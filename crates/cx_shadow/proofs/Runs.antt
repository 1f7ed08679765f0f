-- Bytes one behind another.
use Rattle.std.proofs.Common.{◌≡◌, ℕ, zero, suc, ◌+◌, ◌<◌, ◌≤◌, ◌==◌, ◌/◌, ◌%◌, ◌&&◌, Bool, true, false, List, [], ◌∷◌}
use Rattle.std.proofs.Common.{length, take, Option, None, Some, refl, sym, ap, subst, ◌∙◌, arith}
use Rattle.std.specs.Global.{Box, Vec}
use Rattle.std.specs.Prelude.{slice_index_or}
use Rattle.std.proofs.lemmas.Bool.{and_from, and_parts, ne_eqb}
use Rattle.cx_map.specs.declared.TheConstants.{PAGE_SIZE}
use Rattle.cx_slices.specs.Bytes.{Map, is_byte}
use Rattle.cx_shadow.specs.Cells.{are_at, byte_of, bytes_of_page, page_numbered}
use Rattle.cx_shadow.specs.declared.page.Page.{Page}
use Rattle.cx_shadow.specs.declared.shadow.Shadow.{Shadow}
use Rattle.cx_shadow.proofs.Tables.{in_page}

one_more : (map : Map) (va i at : ℕ) (bs : List ℕ) → i < length bs → at ≡ va + i
    → are_at map va (take i bs) ≡ true → is_byte (map at) (slice_index_or bs i 0) ≡ true
    → are_at map va (take (suc i) bs) ≡ true
one_more map va i at [] within here was is = absurd (omega (arith, within))
one_more map va zero at (b ∷ bs) within here was is =
    let same : at ≡ va = omega (arith, here) in
    and_from (is_byte (map va) b) true (ap (λ a. is_byte (map a) b) (sym same) ∙ is) refl
one_more map va (suc i) at (b ∷ bs) within here was is =
    let parts = and_parts (is_byte (map va) b) (are_at map (va + 1) (take i bs)) was in
    and_from (is_byte (map va) b) (are_at map (va + 1) (take (suc i) bs)) parts.0
    (one_more map (va + 1) i at bs (omega (arith, within)) (omega (arith, here)) parts.1 is)

-- one byte more
pub one_more_at : (map : Map) (va i at : ℕ) (bs : List ℕ) → i < length bs → at ≡ va + i
    → are_at map va (take i bs) ≡ true → is_byte (map at) (slice_index_or bs i 0) ≡ true
    → are_at map va (take (i + 1) bs) ≡ true
one_more_at map va i at bs within here was is =
    let next : suc i ≡ i + 1 = omega arith in
    subst (λ n. are_at map va (take n bs) ≡ true) next (one_more map va i at bs within here was is)

-- a byte that isn't there
pub one_missing_at : (map : Map) (va i at : ℕ) (bs : List ℕ) → i < length bs → at ≡ va + i
    → is_byte (map at) (slice_index_or bs i 0) ≡ false → are_at map va bs ≡ false
one_missing_at map va i at [] within here is = absurd (omega (arith, within))
one_missing_at map va zero at (b ∷ bs) within here is =
    let same : at ≡ va = omega (arith, here) in
    ap (λ t. t && are_at map (va + 1) bs) (ap (λ a. is_byte (map a) b) (sym same) ∙ is)
one_missing_at map va (suc i) at (b ∷ bs) within here is =
    ap (λ t. is_byte (map va) b && t)
    (one_missing_at map (va + 1) i at bs (omega (arith, within)) (omega (arith, here)) is)
    ∙ never (is_byte (map va) b)
  where
    never : (t : Bool) → (t && false) ≡ false
    never true = refl
    never false = refl

same_at : (f g : Map) (a b : ℕ) (bs : List ℕ) → ((k : ℕ) → k < length bs → f (a + k) ≡ g (b + k))
    → are_at f a bs ≡ are_at g b bs
same_at f g a b [] same = refl
same_at f g a b (x ∷ bs) same =
    let here : a + 0 ≡ a = omega arith in
    let there : b + 0 ≡ b = omega arith in
    let first : f a ≡ g b = ap f (sym here) ∙ (same 0 (omega arith) ∙ ap g there) in
    ap (λ o. is_byte o x && are_at f (a + 1) bs) first
    ∙ ap (λ t. is_byte (g b) x && t) (same_at f g (a + 1) (b + 1) bs (λ k below.
    let left : a + 1 + k ≡ a + suc k = omega arith in
    let right : b + suc k ≡ b + 1 + k = omega arith in
    ap f left ∙ (same (suc k) (omega (arith, below)) ∙ ap g right)))

-- on one page
pub on_page : (s : Shadow) (va : ℕ) (regions : List (Vec (Option (Box Page)))) (p : Page) (bs : List ℕ)
    → regions ≡ s.regions.items → page_numbered regions (va / PAGE_SIZE) ≡ Some p
    → va % PAGE_SIZE + length bs ≤ PAGE_SIZE
    → are_at (bytes_of_page p) (va % PAGE_SIZE) bs ≡ are_at (byte_of s) va bs
on_page s va regions p bs is some within =
    same_at (bytes_of_page p) (byte_of s) (va % PAGE_SIZE) va bs (λ k below.
    let number : (va + k) / 4096 ≡ va / 4096 = omega (arith, within, below) in
    let offset : (va + k) % 4096 ≡ va % 4096 + k = omega (arith, within, below) in
    ap (bytes_of_page p) (sym offset)
    ∙ sym (in_page s (va + k) regions p is (ap (page_numbered regions) number ∙ some)))

-- Where the first isn't known, all are there only if they are none.
pub none_at : (map : Map) (va : ℕ) (bs : List ℕ) → map va ≡ None → (length bs == 0) ≡ are_at map va bs
none_at map va [] none = refl
none_at map va (b ∷ bs) none = rw none (ne_eqb (suc (length bs)) 0 (λ e. omega (arith, e)))
