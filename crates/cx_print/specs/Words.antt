-- Words and bytes in a row.
use Rattle.std.specs.Prelude.{ℕ, List, ◌∷◌}
use Rattle.std.specs.List.{flat_map}
use Rattle.cx_print.specs.Hex.{hex}

-- each word in eight digits behind a space
unfoldable pub spaced_words : List ℕ → List ℕ
spaced_words words = flat_map (λ word. 32 ∷ hex 8 word) words

-- two digits for each byte, with nothing between them
unfoldable pub joined_bytes : List ℕ → List ℕ
joined_bytes bytes = flat_map (hex 2) bytes
