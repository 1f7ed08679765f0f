-- Bytes from an address on, one by one.
use Rattle.std.proofs.Common.{◌≡◌, ℕ, suc, ◌+◌, ◌%◌, ◌^◌, ◌≤◌, ◌<◌, List, [], ◌∷◌, ◌++◌, length, take, true, refl, sym, ap, subst, ◌∙◌, arith}
use Rattle.std.proofs.Common.{w32}
use Rattle.std.specs.Int.{to_le_bytes}
use Rattle.std.specs.Prelude.{slice_index_or}
use Rattle.std.proofs.lemmas.List.{length-take-le, take_all, take_more}
use Rattle.std.proofs.lemmas.Bool.{and_parts}
use Rattle.cx_exec.specs.Arithmetic.{wrapped}
use Rattle.cx_ram.specs.LittleEndian.{low_bytes}
use Rattle.cx_shadow.specs.Cells.{are_at}
use Rattle.cx_slices.specs.Bytes.{Byte, Map, Shows, is_byte}
use Rattle.cx_slices.proofs.Bytes.{is_byte-true}
use Rattle.cx_observe.proofs.Sights.{Shows-append}
use Rattle.cx_observe.specs.Seeing.{bytes_on, bytes_shown, sights}
use Rattle.cx_observe.specs.declared.obs.Obs.{Obs}

pub bytes_on-append : (va : ℕ) (xs ys : List ℕ)
    → bytes_on va (xs ++ ys) ≡ bytes_on va xs ++ bytes_on (va + length xs) ys
bytes_on-append va [] ys = ap (λ (n : ℕ). bytes_on n ys) (here va)
  where
    here : (n : ℕ) → n ≡ n + 0
    here n = omega arith
bytes_on-append va (x ∷ xs) ys = ap (λ es. (wrapped va, x) ∷ es)
    (bytes_on-append (va + 1) xs ys ∙ ap (λ (n : ℕ). bytes_on (va + 1) xs ++ bytes_on n ys) (end va (length xs)))
  where
    end : (v n : ℕ) → v + 1 + n ≡ v + suc n
    end v n = omega arith

append_assoc : (xs ys zs : List Byte) → (xs ++ ys) ++ zs ≡ xs ++ (ys ++ zs)
append_assoc [] ys zs = refl
append_assoc (x ∷ xs) ys zs = ap (λ l. x ∷ l) (append_assoc xs ys zs)

bytes_on-more : (va i : ℕ) (bs : List ℕ) → i < length bs
    → bytes_on va (take (i + 1) bs) ≡ bytes_on va (take i bs) ++ (wrapped (va + i), slice_index_or bs i 0) ∷ []
bytes_on-more va i bs within =
    let size : length (take i bs) ≡ i = length-take-le i bs (omega (arith, within)) in
    ap (bytes_on va) (take_more bs i 0 within)
    ∙ (bytes_on-append va (take i bs) (slice_index_or bs i 0 ∷ [])
    ∙ ap (λ (n : ℕ). bytes_on va (take i bs) ++ (wrapped (va + n), slice_index_or bs i 0) ∷ []) size)

-- one byte more behind those that were put
pub one_more : (base now then : List Byte) (va i at : ℕ) (bs : List ℕ) → i < length bs
    → now ≡ base ++ bytes_on va (take i bs) → at ≡ wrapped (va + i)
    → then ≡ now ++ (at, slice_index_or bs i 0) ∷ [] → then ≡ base ++ bytes_on va (take (i + 1) bs)
one_more base now then va i at bs within was here put =
    put ∙ (ap (λ l. l ++ (at, slice_index_or bs i 0) ∷ []) was
    ∙ (append_assoc base (bytes_on va (take i bs)) ((at, slice_index_or bs i 0) ∷ [])
    ∙ (ap (λ (n : ℕ). base ++ (bytes_on va (take i bs) ++ (n, slice_index_or bs i 0) ∷ [])) here
    ∙ ap (λ l. base ++ l) (sym (bytes_on-more va i bs within)))))

-- one byte more that a map has
pub shows_more : (map : Map) (va i at : ℕ) (bs : List ℕ) → i < length bs → Shows map (bytes_on va (take i bs))
    → at ≡ wrapped (va + i) → is_byte (map at) (slice_index_or bs i 0) ≡ true
    → Shows map (bytes_on va (take (i + 1) bs))
shows_more map va i at bs within shows here is = subst (Shows map) (sym (bytes_on-more va i bs within))
    (Shows-append map (bytes_on va (take i bs)) ((wrapped (va + i), slice_index_or bs i 0) ∷ []) shows
    (ap map (sym here) ∙ is_byte-true (map at) (slice_index_or bs i 0) is, tt))

pub shows_whole : (map : Map) (va i : ℕ) (bs : List ℕ) → length bs ≤ i → Shows map (bytes_on va (take i bs))
    → Shows map (bytes_on va bs)
shows_whole map va i bs end shows = subst (λ l. Shows map (bytes_on va l)) (take_all i bs end) shows

pub next_place : (va i at : ℕ) → at ≡ wrapped (va + i) → (at + 1) % 2 ^ 32 ≡ wrapped (va + (i + 1))
next_place va i at is = omega (arith, is)

pub low_four : (value : ℕ) → to_le_bytes w32 value ≡ low_bytes 4 value
unfolding low_bytes
low_four value = grind arith

pub all_shown : (map : Map) (o : Obs) (fetched : List ℕ) → fetched ≡ to_le_bytes w32 o.word
    → Shows map (bytes_on o.pc fetched) → Shows map (bytes_shown o.read) → Shows map (sights o)
unfolding sights
all_shown map o fetched is fetch read = Shows-append map (bytes_on o.pc (low_bytes 4 o.word)) (bytes_shown o.read)
    (subst (λ bs. Shows map (bytes_on o.pc bs)) (is ∙ low_four o.word) fetch) read

-- ---- on one page

-- bytes one behind another that end before the addresses do
pub shown_at : (map : Map) (va : ℕ) (bs : List ℕ) → va + length bs ≤ 2 ^ 32 → are_at map va bs ≡ true
    → Shows map (bytes_on va bs)
shown_at map va [] within there = tt
shown_at map va (b ∷ bs) within there =
    let parts = and_parts (is_byte (map va) b) (are_at map (va + 1) bs) there in
    let same : va ≡ wrapped va = omega (arith, within) in (
      ap map (sym same) ∙ is_byte-true (map va) b parts.0,
      shown_at map (va + 1) bs (omega (arith, within)) parts.1,
    )

pub shown_on_page : (map : Map) (va : ℕ) (bs : List ℕ) → va < 2 ^ 32 → va % 4096 + length bs ≤ 4096
    → are_at map va bs ≡ true → Shows map (bytes_on va bs)
shown_on_page map va bs fits within there = shown_at map va bs (omega (arith, fits, within)) there
