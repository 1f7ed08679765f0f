-- Words that are put one after another, and their mask.
use Rattle.std.proofs.Common.{◌≡◌, ℕ, suc, ◌+◌, ◌*◌, ◌^◌, ◌≤◌, ◌<◌}
use Rattle.std.proofs.Common.{List, [], ◌∷◌, ◌++◌, length, take, drop, get_or, length-drop}
use Rattle.std.proofs.Common.{Option, None, Some, arith, refl, ap, sym, ◌∙◌, append_assoc, drop-cons}
use Rattle.std.proofs.Math.Nat.{pow-suc}
use Rattle.std.proofs.Math.Pow.{pow_mono}
use Rattle.std.proofs.lemmas.List.{append-nil, take_more, take_all, take-append-drop}
use Rattle.cx_slicefmt.specs.Text.{bit, mask_of, present_text, word_text}

present_text-append : (xs ys : List (Option ℕ)) → present_text (xs ++ ys) ≡ present_text xs ++ present_text ys
present_text-append [] ys = refl
present_text-append (x ∷ xs) ys = ap (λ (t : List ℕ). word_text x ++ t) (present_text-append xs ys)
    ∙ sym (append_assoc (word_text x) (present_text xs) (present_text ys))

pub present_text-more : (words : List (Option ℕ)) (i : ℕ) → i < length words
    → present_text (take i words) ++ word_text (get_or words i None) ≡ present_text (take (i + 1) words)
present_text-more words i inside = sym (ap present_text (take_more words i None inside)
    ∙ (present_text-append (take i words) (get_or words i None ∷ [])
    ∙ ap (λ (xs : List ℕ). present_text (take i words) ++ xs) (append-nil (word_text (get_or words i None)))))

pub present_text-split : (words : List (Option ℕ)) (i : ℕ) → i < length words
    → (present_text (take i words) ++ word_text (get_or words i None)) ++ present_text (drop (i + 1) words)
    ≡ present_text words
present_text-split words i inside = ap (λ (xs : List ℕ). xs ++ present_text (drop (i + 1) words))
    (present_text-more words i inside)
    ∙ sym (ap present_text (sym (take-append-drop (i + 1) words)) ∙ present_text-append (take (i + 1) words)
    (drop (i + 1) words))

pub present_text-all : (words : List (Option ℕ)) (i : ℕ) → length words ≡ i
    → present_text (take i words) ≡ present_text words
present_text-all words i all = ap present_text (take_all i words (omega (arith, all)))

pub bit_small : (item : Option ℕ) → bit item ≤ 1
bit_small None = omega arith
bit_small (Some word) = omega arith

-- the mask from a word on
pub mask_at : (words : List (Option ℕ)) (i : ℕ) → i < length words
    → mask_of (drop i words) ≡ mask_of (drop (suc i) words) * 2 + bit (get_or words i None)
mask_at words i inside = ap mask_of (drop-cons words i None inside) ∙ omega arith

pub mask_small : (words : List (Option ℕ)) → mask_of words < 2 ^ length words
mask_small [] = omega arith
mask_small (w ∷ ws) = omega (arith, pow-suc 2 (length ws), bit_small w, mask_small ws)

-- the mask of all words but the first fits with one more bit
pub mask_fits : (words : List (Option ℕ)) (left mask : ℕ) → length words ≡ 32 → 0 < left
    → mask ≡ mask_of (drop left words) → mask < 2 ^ 31
mask_fits words left mask long some is =
    let few : length (drop left words) ≤ 31 = omega (arith, length-drop left words, long, some) in
    omega (arith, is, mask_small (drop left words), pow_mono few)
