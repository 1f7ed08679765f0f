-- The digits of a number in hexadecimal, found from the lowest on.
use Rattle.std.proofs.Common.{◌≡◌, ℕ, zero, suc, ◌+◌, ◌-◌, ◌/◌, ◌%◌, ◌^◌, ◌<◌, ◌≤◌, Bool, true, false, cond, eqb, List}
use Rattle.std.proofs.Common.{[], ◌∷◌, length, drop, arith, refl, sym, ap, ◌∙◌, eq-eqb, ne_eqb, slice_index, codes}
use Rattle.std.proofs.Common.{subst, ⊎_elim}
use Rattle.std.proofs.lemmas.Bool.{cases_lt}
use Rattle.std.proofs.lemmas.Grind.{common_steps}
use Rattle.std.specs.Fmt.{digit_glyph, digits, digits_onto}
use Rattle.cx_print.specs.Hex.{hex_digit}
use Rattle.cx_print.proofs.Digits.{put_in_front}

-- the table has the digit of d at its place
abbrev IsGlyph : ℕ → Type 0
IsGlyph d = slice_index (codes "0123456789abcdef") d ≡ digit_glyph false d

low_glyph : (d : ℕ) → d < 8 → IsGlyph d
low_glyph zero small = refl
low_glyph (suc zero) small = refl
low_glyph (suc (suc zero)) small = refl
low_glyph (suc (suc (suc zero))) small = refl
low_glyph (suc (suc (suc (suc zero)))) small = refl
low_glyph (suc (suc (suc (suc (suc zero))))) small = refl
low_glyph (suc (suc (suc (suc (suc (suc zero)))))) small = refl
low_glyph (suc (suc (suc (suc (suc (suc (suc zero))))))) small = refl
low_glyph (suc (suc (suc (suc (suc (suc (suc (suc d)))))))) small = absurd (omega arith)

high_glyph : (d : ℕ) → d < 8 → IsGlyph (8 + d)
high_glyph zero small = refl
high_glyph (suc zero) small = refl
high_glyph (suc (suc zero)) small = refl
high_glyph (suc (suc (suc zero))) small = refl
high_glyph (suc (suc (suc (suc zero)))) small = refl
high_glyph (suc (suc (suc (suc (suc zero))))) small = refl
high_glyph (suc (suc (suc (suc (suc (suc zero)))))) small = refl
high_glyph (suc (suc (suc (suc (suc (suc (suc zero))))))) small = refl
high_glyph (suc (suc (suc (suc (suc (suc (suc (suc d)))))))) small = absurd (omega arith)

glyph_below : (d : ℕ) → d < 16 → IsGlyph d
glyph_below d small =
    ⊎_elim (low_glyph d)
    (λ high. let same : 8 + (d - 8) ≡ d = omega arith in subst IsGlyph same (high_glyph (d - 8) (omega arith)))
    (cases_lt d 8)

glyph : (n : ℕ) → hex_digit n ≡ digit_glyph false (n % 16)
glyph n = glyph_below (n % 16) (omega arith)

-- so many digits of a number at most, found from the lowest on, in front of those that are there
unfoldable pub spelled_at : ℕ → ℕ → List ℕ → List ℕ
spelled_at place n acc = digits_onto (59 + place) 16 false n acc

nothing_behind : (ds : List ℕ) → length ds ≡ 5 → drop 5 ds ≡ []
nothing_behind ds five = grind (arith, common_steps)

pub all_digits : (n : ℕ) (ds : List ℕ) → length ds ≡ 5 → digits 16 false n ≡ spelled_at 5 n (drop 5 ds)
unfolding digits spelled_at
all_digits n ds five = ap (λ (acc : List ℕ). digits_onto 64 16 false n acc) (sym (nothing_behind ds five))

spelled_on : (n k : ℕ) (acc : List ℕ) (t : Bool) → eqb (n / 16) 0 ≡ t
    → digits_onto (suc k) 16 false n acc
    ≡ cond t (digit_glyph false (n % 16) ∷ acc) (digits_onto k 16 false (n / 16) (digit_glyph false (n % 16) ∷ acc))
spelled_on n k acc t e =
    let first = digit_glyph false (n % 16) in
    ap (λ (b : Bool). cond b (first ∷ acc) (digits_onto k 16 false (n / 16) (first ∷ acc))) e

step_found : (n i k : ℕ) (acc : List ℕ) → 16 ≤ n → i ≡ suc k
    → digits_onto i 16 false n acc ≡ digits_onto k 16 false (n / 16) (hex_digit n ∷ acc)
step_found n i k acc many e =
    ap (λ (j : ℕ). digits_onto j 16 false n acc) e
    ∙ spelled_on n k acc false (ne_eqb (n / 16) 0 (λ none. omega arith))
    ∙ ap (λ (d : ℕ). digits_onto k 16 false (n / 16) (d ∷ acc)) (sym (glyph n))

end_found : (n i k : ℕ) (acc : List ℕ) → n < 16 → i ≡ suc k → digits_onto i 16 false n acc ≡ hex_digit n ∷ acc
end_found n i k acc few e =
    ap (λ (j : ℕ). digits_onto j 16 false n acc) e
    ∙ spelled_on n k acc true (eq-eqb (n / 16) 0 (omega arith))
    ∙ ap (λ (d : ℕ). d ∷ acc) (sym (glyph n))

pub one_digit_found : (n place : ℕ) (acc : List ℕ) → 16 ≤ n → 1 ≤ place
    → spelled_at place n acc ≡ spelled_at (place - 1) (n / 16) (hex_digit n ∷ acc)
unfolding spelled_at
one_digit_found n place acc many some = step_found n (59 + place) (59 + (place - 1)) acc many (omega arith)

pub last_digit_found : (n place : ℕ) (acc : List ℕ) → n < 16 → spelled_at place n acc ≡ hex_digit n ∷ acc
unfolding spelled_at
last_digit_found n place acc few = end_found n (59 + place) (58 + place) acc few (omega arith)

pub more_places : (n place : ℕ) → 16 ≤ n → n < 16 ^ place → 2 ≤ place
more_places n zero many small = absurd (omega arith)
more_places n (suc zero) many small = absurd (omega arith)
more_places n (suc (suc place)) many small = omega arith

pub fewer_digits : (n place : ℕ) → 16 ≤ n → n < 16 ^ place → n / 16 < 16 ^ (place - 1)
fewer_digits n zero many small = absurd (omega arith)
fewer_digits n (suc place) many small = grind arith

pub ruleset places = (all_digits, more_places, fewer_digits)

pub ruleset found = (places, one_digit_found, last_digit_found, put_in_front, common_steps)
