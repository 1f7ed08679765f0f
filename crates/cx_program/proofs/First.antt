-- pc in the place of register 0.
use Rattle.std.proofs.Common.{◌≡◌, ℕ, zero, suc, ◌+◌, ◌<◌, ◌≤◌, List, [], ◌∷◌, ◌++◌, length, take, slice_set}
use Rattle.std.proofs.Common.{refl, sym, ap, ◌∙◌, arith}
use Rattle.std.specs.Prelude.{slice_index_or}
use Rattle.std.proofs.lemmas.List.{take_all, take_more}
use Rattle.cx_observe.specs.Effects.{program_words}

pub pc_first : (pc : ℕ) (x : List ℕ) → length x ≡ 32 → slice_set x 0 pc ≡ program_words pc x
pc_first pc [] size = refl
pc_first pc (x ∷ xs) size = refl

-- ---- words that are those of pc and registers

others_alike : (pc : ℕ) (x : List ℕ) (i : ℕ) → 1 ≤ i → slice_index_or (program_words pc x) i 0 ≡ slice_index_or x i 0
others_alike pc [] i some = refl
others_alike pc (y ∷ ys) zero some = absurd (omega (arith, some))
others_alike pc (y ∷ ys) (suc i) some = refl

program_words-size : (pc : ℕ) (x : List ℕ) → length (program_words pc x) ≡ length x
program_words-size pc [] = refl
program_words-size pc (y ∷ ys) = refl

pub first_alike : (words x : List ℕ) (pc : ℕ) → length words ≡ 32 → length x ≡ 32 → slice_index_or words 0 0 ≡ pc
    → take 1 words ≡ take 1 (program_words pc x)
first_alike [] x pc sw sx is = absurd (omega (arith, sw))
first_alike (w ∷ ws) [] pc sw sx is = absurd (omega (arith, sx))
first_alike (w ∷ ws) (y ∷ ys) pc sw sx is = ap (λ n. n ∷ []) is

pub next_alike : (words x : List ℕ) (pc i : ℕ) → length words ≡ 32 → length x ≡ 32 → 1 ≤ i → i < 32
    → take i words ≡ take i (program_words pc x) → slice_index_or words i 0 ≡ slice_index_or x i 0
    → take (i + 1) words ≡ take (i + 1) (program_words pc x)
next_alike words x pc i sw sx some within was is =
    let size : length (program_words pc x) ≡ length x = program_words-size pc x in
    take_more words i 0 (omega (arith, within, sw))
    ∙ (ap (λ l. l ++ slice_index_or words i 0 ∷ []) was
    ∙ (ap (λ n. take i (program_words pc x) ++ n ∷ []) (is ∙ sym (others_alike pc x i some))
    ∙ sym (take_more (program_words pc x) i 0 (omega (arith, within, sx, size)))))

pub all_alike : (words x : List ℕ) (pc i : ℕ) → length words ≡ 32 → length x ≡ 32 → 32 ≤ i
    → take i words ≡ take i (program_words pc x) → words ≡ program_words pc x
all_alike words x pc i sw sx end was =
    let size : length (program_words pc x) ≡ length x = program_words-size pc x in
    sym (take_all i words (omega (arith, end, sw))) ∙ (was ∙ take_all i (program_words pc x)
    (omega (arith, end, sx, size)))
