-- Items tested and handed one by one.
use Rattle.std.proofs.Common.{◌≡◌, ℕ, zero, suc, ◌+◌, ◌≤◌, ◌<◌, ◌==◌, ◌&&◌, Bool, true, List, [], ◌∷◌, ◌++◌}
use Rattle.std.proofs.Common.{length, take, drop, slice_set, Option, None, Some, unwrap_or}
use Rattle.std.proofs.Common.{if◌then◌else◌, refl, sym, ap, ap₂, ◌∙◌, arith}
use Rattle.std.specs.Prelude.{slice_index_or}
use Rattle.std.proofs.lemmas.List.{drop_all, drop_more, take_all, take_more, take_more_set}
use Rattle.cx_slices.specs.Bytes.{Byte, byte_found}
use Rattle.cx_slices.specs.Words.{all_change, changed, is_change}
use Rattle.cx_slices.proofs.Words.{length-changed}

-- ---- new words

pub next_tested : (ws : List ℕ) (is : List (Option ℕ)) (i : ℕ) (t : Bool) → length ws ≡ 32 → length is ≡ 32 → i < 32
    → all_change ws is ≡ all_change (drop i ws) (drop i is)
    → t ≡ is_change (slice_index_or ws i 0) (slice_index_or is i None)
    → all_change ws is ≡ (t && all_change (drop (i + 1) ws) (drop (i + 1) is))
next_tested ws is i t sw si within was test = was
    ∙ (ap₂ all_change (drop_more ws i 0 (omega (arith, within, sw))) (drop_more is i None (omega (arith, within, si)))
    ∙ ap (λ (s : Bool). s && all_change (drop (i + 1) ws) (drop (i + 1) is)) (sym test))

pub all_tested : (ws : List ℕ) (is : List (Option ℕ)) (i : ℕ) → length ws ≡ 32 → 32 ≤ i
    → all_change ws is ≡ all_change (drop i ws) (drop i is) → true ≡ all_change ws is
all_tested ws is i sw end was =
    sym (was ∙ ap (λ (l : List ℕ). all_change l (drop i is)) (drop_all i ws (omega (arith, end, sw))))

-- ---- the words once they have changed

changed_at : (ws : List ℕ) (is : List (Option ℕ)) (i : ℕ) → length ws ≡ length is → i < length ws
    → slice_index_or (changed ws is) i 0 ≡ unwrap_or (slice_index_or is i None) (slice_index_or ws i 0)
changed_at [] is i size within = absurd (omega (arith, within))
changed_at (w ∷ ws) [] i size within = absurd (omega (arith, size))
changed_at (w ∷ ws) (x ∷ is) zero size within = refl
changed_at (w ∷ ws) (x ∷ is) (suc i) size within = changed_at ws is i (omega (arith, size)) (omega (arith, within))

pub next_changed : (ws now : List ℕ) (is : List (Option ℕ)) (i word : ℕ) → length ws ≡ 32 → length is ≡ 32
    → length now ≡ 32 → i < 32 → take i now ≡ take i (changed ws is)
    → word ≡ unwrap_or (slice_index_or is i None) (slice_index_or ws i 0)
    → take (i + 1) (slice_set now i word) ≡ take (i + 1) (changed ws is)
next_changed ws now is i word sw si sn within was made =
    let size : length (changed ws is) ≡ 32 = length-changed ws is ∙ sw in
    take_more_set now i word (omega (arith, within, sn))
    ∙ (ap (λ l. l ++ word ∷ []) was
    ∙ (ap (λ x. take i (changed ws is) ++ x ∷ []) (made
    ∙ sym (changed_at ws is i (sw ∙ sym si) (omega (arith, within, sw))))
    ∙ sym (take_more (changed ws is) i 0 (omega (arith, within, size)))))

pub all_changed : (ws now : List ℕ) (is : List (Option ℕ)) (i : ℕ) → length ws ≡ 32 → length now ≡ 32 → 32 ≤ i
    → take i now ≡ take i (changed ws is) → now ≡ changed ws is
all_changed ws now is i sw sn end was =
    let size : length (changed ws is) ≡ 32 = length-changed ws is ∙ sw in
    sym (take_all i now (omega (arith, end, sn))) ∙ (was ∙ take_all i (changed ws is) (omega (arith, end, size)))

-- ---- bytes that are there

pub next_byte : (es : List Byte) (va i : ℕ) (t : Bool) → i < length es → byte_found es va ≡ byte_found (drop i es) va
    → ((slice_index_or es i (0, 0)).0 == va) ≡ t
    → byte_found es va ≡ (if t then Some (slice_index_or es i (0, 0)).1 else byte_found (drop (i + 1) es) va)
next_byte es va i t within was test = was
    ∙ (ap (λ l. byte_found l va) (drop_more es i (0, 0) within)
    ∙ ap (λ (s : Bool). if s then Some (slice_index_or es i (0, 0)).1 else byte_found (drop (i + 1) es) va) test)

pub no_byte : (es : List Byte) (va i : ℕ) → length es ≤ i → byte_found es va ≡ byte_found (drop i es) va
    → byte_found es va ≡ None
no_byte es va i end was = was ∙ ap (λ l. byte_found l va) (drop_all i es end)
