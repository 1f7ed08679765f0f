-- Words and bytes in a row, one more at a time, and how long they are.
use Rattle.std.proofs.Common.{◌≡◌, ℕ, zero, suc, ◌+◌, ◌<◌, List, [], ◌∷◌, ◌++◌, length, take, get_or, refl, ap, ◌∙◌}
use Rattle.std.proofs.Common.{append-nil, append_assoc, arith, drop}
use Rattle.std.specs.List.{flat_map}
use Rattle.std.proofs.lemmas.List.{take_all, take_more}
use Rattle.std.proofs.lemmas.List.Concat.{flat_map-append}
use Rattle.std.proofs.lemmas.Grind.{common_steps}
use Rattle.cx_observe.specs.Effects.{program_words}
use Rattle.cx_print.specs.Hex.{hex}
use Rattle.cx_print.specs.Words.{spaced_words, joined_bytes}

pub hex_is_as_long : (count n : ℕ) → length (hex count n) ≡ count
unfolding hex
hex_is_as_long zero n = refl
hex_is_as_long (suc count) n = ap suc (hex_is_as_long count n)

one_more : (f : ℕ → List ℕ) (xs : List ℕ) (i : ℕ) → i < length xs
    → flat_map f (take (i + 1) xs) ≡ flat_map f (take i xs) ++ f (get_or xs i 0)
one_more f xs i inside =
    ap (flat_map f) (take_more xs i 0 inside)
    ∙ flat_map-append f (take i xs) (get_or xs i 0 ∷ [])
    ∙ ap (λ (e : List ℕ). flat_map f (take i xs) ++ e) (append-nil (f (get_or xs i 0)))

pub no_words : spaced_words [] ≡ []
unfolding spaced_words
no_words = refl

pub one_more_word : (words : List ℕ) (i : ℕ) → i < length words
    → spaced_words (take (i + 1) words) ≡ spaced_words (take i words) ++ (32 ∷ hex 8 (get_or words i 0))
unfolding spaced_words
one_more_word = one_more (λ word. 32 ∷ hex 8 word)

pub no_bytes : joined_bytes [] ≡ []
unfolding joined_bytes
no_bytes = refl

pub one_more_byte : (bytes : List ℕ) (i : ℕ) → i < length bytes
    → joined_bytes (take (i + 1) bytes) ≡ joined_bytes (take i bytes) ++ hex 2 (get_or bytes i 0)
unfolding joined_bytes
one_more_byte = one_more (hex 2)

pub ruleset in_a_row = (hex_is_as_long, no_words, one_more_word, no_bytes, one_more_byte, common_steps)

-- ---- pc and the registers from 1 on

pub program_in_front : (line : List ℕ) (pc : ℕ) (x : List ℕ) → length x ≡ 32
    → (line ++ (32 ∷ hex 8 pc)) ++ spaced_words (take 31 (drop 1 x)) ≡ line ++ spaced_words (program_words pc x)
unfolding spaced_words
program_in_front line pc [] size = absurd (omega (arith, size))
program_in_front line pc (r ∷ rs) size =
    let word = λ (w : ℕ). 32 ∷ hex 8 w in
    let all : take 31 rs ≡ rs = take_all 31 rs (omega (arith, size)) in
    append_assoc line (32 ∷ hex 8 pc) (flat_map word (take 31 rs))
    ∙ ap (λ (ws : List ℕ). line ++ ((32 ∷ hex 8 pc) ++ flat_map word ws)) all
