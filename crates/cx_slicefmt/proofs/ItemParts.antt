-- The items of a group along the fields that are read.
use Rattle.std.proofs.Common.{◌≡◌, ℕ, suc, arith, refl, ◌&&◌, false, is_none}
use Rattle.std.proofs.Common.{List, [], ◌∷◌, length, eqb, ne_eqb, Option, Result, Ok, Err}
use Rattle.std.specs.List.{list_all}
use Rattle.cx_codec.specs.Fields.{varint_at}
use Rattle.cx_codec.specs.Checks.{checked, is_between}
use Rattle.cx_codec.specs.Place.{Place, Reader, done, read_on}
use Rattle.cx_slices.specs.Bytes.{Byte}
use Rattle.cx_slices.specs.Items.{Items, is_nil}
use Rattle.cx_slices.specs.Stretches.{Stretch, bytes_of_stretches}
use Rattle.cx_slicefmt.specs.Engine.{run_bytes_at}
use Rattle.cx_slicefmt.specs.Reading.{counted_at, given_at, head_at, items_at, masked_at, runs_at}
use Rattle.cx_slicefmt.specs.Rules.{Head, process}
use Rattle.cx_slicefmt.proofs.Heads.{behind_head}

abbrev pub bytes_on : List (Option ℕ) → List Byte → Reader (Items ℕ)
bytes_on words bytes p =
    read_on (given_at (list_all is_none words && is_nil bytes) p)
    (λ given. done (record { words = words; bytes = bytes; given = given }))

abbrev pub count_on : List (Option ℕ) → ℕ → Reader (Items ℕ)
count_on words count p = read_on (run_bytes_at count p) (bytes_on words)

abbrev pub words_on : List (Option ℕ) → Reader (Items ℕ)
words_on words p = read_on (checked (is_between 0 8) varint_at p) (count_on words)

abbrev head_by : List (Option ℕ) → List Stretch → Reader Head
head_by words runs = done (record { words = words; bytes = bytes_of_stretches runs })

runs_part : (words : List (Option ℕ)) (r : Result (List Stretch × Place) ℕ)
    → read_on (read_on r (head_by words)) (behind_head process)
    ≡ read_on (read_on r (λ runs. done (bytes_of_stretches runs))) (bytes_on words)
runs_part words (Ok x) = refl
runs_part words (Err o) = refl

count_part : (words : List (Option ℕ)) (r : Result (ℕ × Place) ℕ)
    → read_on (read_on (read_on r (λ count. runs_at 8 count 0)) (head_by words)) (behind_head process)
    ≡ read_on r (count_on words)
unfolding run_bytes_at
count_part words (Ok x) = runs_part words (runs_at 8 x.0 0 x.1)
count_part words (Err o) = refl

words_part : (r : Result (List (Option ℕ) × Place) ℕ)
    → read_on (read_on r (λ words q. read_on (counted_at process (false && list_all is_none words) q) (head_by words)))
    (behind_head process) ≡ read_on r words_on
unfolding counted_at
words_part (Ok x) = count_part x.0 (checked (is_between 0 8) varint_at x.1)
words_part (Err o) = refl

pub items_parts : (p : Place) → items_at process p ≡ read_on (masked_at p) words_on
unfolding items_at head_at
items_parts p = words_part (masked_at p)

pub nil_length : (es : List Byte) → eqb (length es) 0 ≡ is_nil es
nil_length [] = refl
nil_length (e ∷ es) = ne_eqb (suc (length es)) 0 (some (length es))
  where
    some : (n : ℕ) → suc n ≡ 0 → ⊥
    some n is = omega (arith, is)
