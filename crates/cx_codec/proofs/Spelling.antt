-- The bytes of a number's spelling, written one after another.
use Rattle.std.proofs.Common.{
  ◌≡◌,
  ℕ,
  zero,
  suc,
  ◌+◌,
  ◌-◌,
  ◌*◌,
  ◌/◌,
  ◌%◌,
  ◌^◌,
  ◌<◌,
  ◌≤◌,
  List,
  [],
  ◌∷◌,
  ◌++◌,
  length,
  take,
  set,
  cond,
  ltb,
  ⊎_elim,
  arith,
  refl,
  ap,
  sym,
  ◌∙◌,
  append_assoc,
}
use Rattle.std.proofs.lemmas.Bool.{lt-ltb, le-ltb, cases_lt}
use Rattle.std.proofs.lemmas.List.{take_more_set}
use Rattle.std.proofs.lemmas.Nat.{pow-add}
use Rattle.cx_codec.specs.Varint.{varint_within, varint}

-- The first count bytes are written, and the rest of the number goes behind them.
pub record Spelled (value : ℕ) (digits : List ℕ) (count rest : ℕ) : Type 0 where
  pub few : count ≤ 9
  pub small : rest < 2 ^ (64 - 7 * count)
  pub front : take count digits ++ varint_within (10 - count) rest ≡ varint_within 10 value

pub none_spelled : (value : ℕ) (digits : List ℕ) → value < 2 ^ 64 → Spelled value digits 0 value
none_spelled value digits fits = record { few = omega arith; small = fits; front = refl }

-- seven bits more
pub seven_bits : (count : ℕ) → count < 9 → 2 ^ (64 - 7 * count) ≡ 2 ^ (64 - 7 * (count + 1)) * 128
seven_bits count few =
    let e : 64 - 7 * count ≡ 64 - 7 * (count + 1) + 7 = omega arith in
    ap (λ k. 2 ^ k) e ∙ pow-add 2 (64 - 7 * (count + 1)) 7

-- a number of more than seven bits isn't the tenth digit
pub room_left : (count rest : ℕ) → count ≤ 9 → rest < 2 ^ (64 - 7 * count) → 128 ≤ rest → count < 9
room_left count rest few small high =
    ⊎_elim (λ less. less) (λ nine.
    let e : count ≡ 9 = omega arith in
    let tiny : rest < 2 ^ (64 - 7 * 9) = rw e at small in
    absurd (omega arith)) (cases_lt count 9)

within_step : (most n : ℕ) → 0 < most
    → varint_within most n ≡ cond (ltb n 128) (n ∷ []) ((128 + n % 128) ∷ varint_within (most - 1) (n / 128))
within_step zero n some = absurd (omega arith)
within_step (suc most) n some = let e : suc most - 1 ≡ most = omega arith in rw e refl

-- one more digit
pub more_spelled : (value : ℕ) (digits : List ℕ) (count rest : ℕ) → Spelled value digits count rest → 128 ≤ rest
    → length digits ≡ 10 → Spelled value (set digits count (128 + rest % 128)) (count + 1) (rest / 128)
more_spelled value digits count rest before high whole =
    let few : count < 9 = room_left count rest before.few before.small high in
    let bits = seven_bits count few in
    let small : rest < 2 ^ (64 - 7 * (count + 1)) * 128 = rw bits at before.small in
    let inside : count < length digits = omega arith in
    let step : varint_within (10 - count) rest ≡ (128 + rest % 128) ∷ varint_within (10 - (count + 1)) (rest / 128) =
    within_step (10 - count) rest (omega arith)
    ∙ rw (le-ltb rest 128 high) (let e : 10 - count - 1 ≡ 10 - (count + 1) = omega arith in rw e refl) in
    record {
      few = omega arith;
      small = omega arith;
      front = rw (take_more_set digits count (128 + rest % 128) inside) (append_assoc (take count digits) _ _
          ∙ ap (λ xs. take count digits ++ xs) (sym step) ∙ before.front);
    }

-- the last digit
pub all_spelled : (value : ℕ) (digits : List ℕ) (count rest : ℕ) → Spelled value digits count rest → rest < 128
    → length digits ≡ 10 → take (count + 1) (set digits count rest) ≡ varint value
unfolding varint
all_spelled value digits count rest before low whole =
    let inside : count < length digits = let h : count ≤ 9 = before.few in omega arith in
    let step : varint_within (10 - count) rest ≡ rest ∷ [] =
    within_step (10 - count) rest (let h : count ≤ 9 = before.few in omega arith) ∙ rw (lt-ltb rest 128 low) refl in
    take_more_set digits count rest inside ∙ ap (λ xs. take count digits ++ xs) (sym step) ∙ before.front
