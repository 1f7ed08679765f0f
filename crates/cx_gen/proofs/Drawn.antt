-- Bytes by their index.
use Rattle.std.proofs.Common.{◌≡◌, ℕ, ◌+◌, [], ◌∷◌, ◌++◌, length, arith, refl}
use Rattle.std.proofs.lemmas.List.FromFn.{length-map-range_with_len, map-range_with_len_more}
use Rattle.cx_gen.specs.Made.{drawn}

pub none_drawn : (byte : ℕ → ℕ) → [] ≡ drawn byte 0
unfolding drawn
none_drawn byte = refl

pub one_more_drawn : (byte : ℕ → ℕ) (count : ℕ) → drawn byte (count + 1) ≡ drawn byte count ++ byte count ∷ []
unfolding drawn
one_more_drawn byte count = map-range_with_len_more byte 0 count count (omega arith)

pub drawn_size : (byte : ℕ → ℕ) (count : ℕ) → length (drawn byte count) ≡ count
unfolding drawn
drawn_size byte count = length-map-range_with_len byte 0 count
