-- Items, made one by one.
use Rattle.std.proofs.Common.{◌≡◌, ℕ, zero, suc, ◌+◌, ◌≤◌, ◌<◌, ◌==◌, true, false, not, List, [], ◌∷◌, ◌++◌, length, take}
use Rattle.std.proofs.Common.{slice_set, Option, None, Some, if◌then◌else◌, refl, sym, ap, ◌∙◌, arith}
use Rattle.std.specs.Prelude.{slice_index_or}
use Rattle.std.proofs.lemmas.List.{take_all, take_more, take_more_set}
use Rattle.std.proofs.lemmas.List.Elements.{filter-append}
use Rattle.cx_slices.proofs.Words.{length-changes}
use Rattle.cx_slices.specs.Bytes.{Byte, Map, is_byte, missing, stands}
use Rattle.cx_slices.specs.Words.{changes}

change_at : (ws vs : List ℕ) (i : ℕ) → length ws ≡ length vs → i < length ws → slice_index_or (changes ws vs) i None
    ≡ (if slice_index_or ws i 0 == slice_index_or vs i 0 then None else Some (slice_index_or vs i 0))
change_at [] vs i size within = absurd (omega (arith, within))
change_at (w ∷ ws) [] i size within = absurd (omega (arith, size))
change_at (w ∷ ws) (v ∷ vs) zero size within = refl
change_at (w ∷ ws) (v ∷ vs) (suc i) size within = change_at ws vs i (omega (arith, size)) (omega (arith, within))

pub next_change : (ws vs : List ℕ) (now : List (Option ℕ)) (i : ℕ) (is : Option ℕ) → length ws ≡ 32 → length vs ≡ 32
    → length now ≡ 32 → i < 32 → take i now ≡ take i (changes ws vs)
    → is ≡ (if slice_index_or ws i 0 == slice_index_or vs i 0 then None else Some (slice_index_or vs i 0))
    → take (i + 1) (slice_set now i is) ≡ take (i + 1) (changes ws vs)
next_change ws vs now i is sw sv sn within was made =
    let size : length (changes ws vs) ≡ 32 = length-changes ws vs (sw ∙ sym sv) ∙ sv in
    take_more_set now i is (omega (arith, within, sn))
    ∙ (ap (λ l. l ++ is ∷ []) was
    ∙ (ap (λ x. take i (changes ws vs) ++ x ∷ []) (made
    ∙ sym (change_at ws vs i (sw ∙ sym sv) (omega (arith, within, sw))))
    ∙ sym (take_more (changes ws vs) i None (omega (arith, within, size)))))

pub all_changes : (ws vs : List ℕ) (now : List (Option ℕ)) (i : ℕ) → length ws ≡ 32 → length vs ≡ 32
    → length now ≡ 32 → 32 ≤ i → take i now ≡ take i (changes ws vs) → now ≡ changes ws vs
all_changes ws vs now i sw sv sn end was =
    let size : length (changes ws vs) ≡ 32 = length-changes ws vs (sw ∙ sym sv) ∙ sv in
    sym (take_all i now (omega (arith, end, sn))) ∙ (was ∙ take_all i (changes ws vs) (omega (arith, end, size)))

pub next_missing : (map : Map) (es : List Byte) (i : ℕ) (now : List Byte) → i < length es
    → now ≡ missing map (take i es) → is_byte (map (slice_index_or es i (0, 0)).0) (slice_index_or es i (0, 0)).1 ≡ false
    → now ++ slice_index_or es i (0, 0) ∷ [] ≡ missing map (take (i + 1) es)
next_missing map es i now within was new =
    ap (λ l. l ++ slice_index_or es i (0, 0) ∷ []) was
    ∙ sym (ap (missing map) (take_more es i (0, 0) within)
    ∙ (filter-append (λ e. not (stands map e)) (take i es) (slice_index_or es i (0, 0) ∷ [])
    ∙ ap (λ t. missing map (take i es) ++ (if not t then slice_index_or es i (0, 0) ∷ [] else [])) new))

pub none_missing : (map : Map) (es : List Byte) (i : ℕ) (now : List Byte) → i < length es
    → now ≡ missing map (take i es) → is_byte (map (slice_index_or es i (0, 0)).0) (slice_index_or es i (0, 0)).1 ≡ true
    → now ≡ missing map (take (i + 1) es)
none_missing map es i now within was old =
    was ∙ sym (ap (missing map) (take_more es i (0, 0) within)
    ∙ (filter-append (λ e. not (stands map e)) (take i es) (slice_index_or es i (0, 0) ∷ [])
    ∙ (ap (λ t. missing map (take i es) ++ (if not t then slice_index_or es i (0, 0) ∷ [] else [])) old
    ∙ nothing_more (missing map (take i es)))))
  where
    nothing_more : (xs : List Byte) → xs ++ [] ≡ xs
    nothing_more [] = refl
    nothing_more (x ∷ xs) = ap (λ l. x ∷ l) (nothing_more xs)
