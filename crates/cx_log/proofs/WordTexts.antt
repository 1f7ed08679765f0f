-- Words that are put one after another.
use Rattle.std.proofs.Common.{◌≡◌, ℕ, ◌+◌, ◌<◌, List, [], ◌∷◌, ◌++◌, length, take, drop, get_or, arith, ap, sym, ◌∙◌}
use Rattle.std.specs.Int.{w32, to_le_bytes}
use Rattle.std.proofs.lemmas.List.{append-nil, take_more, take_all, take-append-drop}
use Rattle.std.proofs.lemmas.List.Concat.{flat_map-append}
use Rattle.cx_log.specs.Text.{words_text}

-- one more word
pub words_text-more : (words : List ℕ) (i : ℕ) → i < length words
    → words_text (take i words) ++ to_le_bytes w32 (get_or words i 0) ≡ words_text (take (i + 1) words)
words_text-more words i inside = sym (ap words_text (take_more words i 0 inside)
    ∙ flat_map-append (to_le_bytes w32) (take i words) (get_or words i 0 ∷ [])
    ∙ ap (λ (xs : List ℕ). words_text (take i words) ++ xs) (append-nil (to_le_bytes w32 (get_or words i 0))))

-- that word, and those behind it
pub words_text-split : (words : List ℕ) (i : ℕ) → i < length words
    → (words_text (take i words) ++ to_le_bytes w32 (get_or words i 0)) ++ words_text (drop (i + 1) words) ≡ words_text
    words
words_text-split words i inside = ap (λ (xs : List ℕ). xs ++ words_text (drop (i + 1) words))
    (words_text-more words i inside)
    ∙ sym (ap words_text (sym (take-append-drop (i + 1) words)) ∙ flat_map-append (to_le_bytes w32) (take (i + 1) words)
    (drop (i + 1) words))

pub words_text-all : (words : List ℕ) (i : ℕ) → length words ≡ i → words_text (take i words) ≡ words_text words
words_text-all words i all = ap words_text (take_all i words (omega arith))
