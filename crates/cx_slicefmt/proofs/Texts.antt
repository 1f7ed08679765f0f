-- The text of groups: how it grows, and how long it is at most. The text of one slice as an example.
use Rattle.std.proofs.Common.{◌≡◌, ℕ, suc, ◌+◌, ◌-◌, ◌*◌, ◌^◌, ◌≤◌, arith, refl, ap, sym, ◌∙◌, replicate}
use Rattle.std.proofs.Common.{List, [], ◌∷◌, ◌++◌, length, Option, None, Some, append_assoc, length-append}
use Rattle.std.proofs.lemmas.List.{append-nil}
use Rattle.std.specs.Int.{w32, to_le_bytes}
use Rattle.cx_codec.specs.Varint.{varint}
use Rattle.cx_codec.proofs.Sizes.{varint_few}
use Rattle.cx_slices.specs.Groups.{Group}
use Rattle.cx_slices.specs.Items.{Items}
use Rattle.cx_slices.specs.Stretches.{Stretch, stretches_of}
use Rattle.cx_slicefmt.specs.Rules.{AreSpelled, IsGroup, IsHead, head_in, process}
use Rattle.std.specs.List.{AllByRecursion}
use Rattle.cx_slicefmt.specs.Text.{ended_text, given_text, group_text, groups_text, head_text, items_text, least_behind, present_text, run_text, runs_text, slice_body, slice_end_text, slice_magic, slice_text, word_text}

-- ---- one group more

pub groups_more : (least : ℕ) (gs : List (Group ℕ)) (g : Group ℕ)
    → groups_text least (gs ++ g ∷ []) ≡ groups_text least gs ++ group_text (least_behind least gs) g
groups_more least [] g = append-nil (group_text least g)
groups_more least (h ∷ gs) g =
    ap (λ (xs : List ℕ). group_text least h ++ xs) (groups_more (suc h.index) gs g)
    ∙ sym (append_assoc (group_text least h) (groups_text (suc h.index) gs) (group_text (least_behind (suc h.index) gs) g))

pub ended_parts : (least : ℕ) (gs : List (Group ℕ)) (count : ℕ)
    → ended_text least gs count ≡ groups_text least gs ++ slice_end_text (least_behind least gs) count
ended_parts least [] count = refl
ended_parts least (g ∷ gs) count =
    ap (λ (xs : List ℕ). group_text least g ++ xs) (ended_parts (suc g.index) gs count)
    ∙ sym (append_assoc (group_text least g) (groups_text (suc g.index) gs)
    (slice_end_text (least_behind (suc g.index) gs) count))

pub least_more : (least : ℕ) (gs : List (Group ℕ)) (g : Group ℕ) → least_behind least (gs ++ g ∷ []) ≡ suc g.index
least_more least [] g = refl
least_more least (h ∷ gs) g = least_more (suc h.index) gs g

-- ---- how long

word_few : (item : Option ℕ) → length (word_text item) ≤ 4
word_few None = omega arith
word_few (Some word) = omega arith

pub present_few : (is : List (Option ℕ)) → length (present_text is) ≤ 4 * length is
present_few [] = omega arith
present_few (i ∷ is) = omega (arith, length-append (word_text i) (present_text is), word_few i, present_few is)

run_few : (s : Stretch) → length s.bytes ≤ 8 → length (run_text s) ≤ 22
run_few s short = omega (
  arith,
  length-append (varint (length s.bytes)) s.bytes,
  varint_few (length s.bytes),
  short,
  length-append (to_le_bytes w32 s.va) (varint (length s.bytes) ++ s.bytes),
)

runs_few : (ss : List Stretch) → AllByRecursion (λ s. length s.bytes ≤ 8) ss
    → length (runs_text ss) ≤ 22 * length ss
runs_few [] short = omega arith
runs_few (s ∷ ss) short =
    omega (arith, length-append (run_text s) (runs_text ss), run_few s short.0, runs_few ss short.1)

items_few : (i : Items ℕ) → IsHead process (head_in i) → length (items_text i) ≤ 323
unfolding items_text head_text
items_few i is =
    let masked : List ℕ = present_text i.words in
    let ss : List Stretch = stretches_of i.bytes in
    omega (
      arith,
      length-append (to_le_bytes w32 0 ++ masked) (varint (length ss) ++ runs_text ss),
      length-append (varint (length ss)) (runs_text ss),
      varint_few (length ss),
      runs_few ss is.most,
      is.runs,
      is.count,
      present_few i.words,
      word_few i.given,
      length-append (head_text (head_in i)) (given_text i.given),
    )

group_few : (least : ℕ) (g : Group ℕ) → IsGroup process least g → length (group_text least g) ≤ 334
unfolding group_text
group_few least g is = omega (
  arith,
  length-append (varint (g.index - (least - 1))) (items_text g.items),
  varint_few (g.index - (least - 1)),
  items_few g.items is.head,
)

end_few : (least count : ℕ) → length (slice_end_text least count) ≤ 11
unfolding slice_end_text
end_few least count = omega (arith, varint_few (count - (least - 1)))

pub spelled_bounds : (least : ℕ) (gs : List (Group ℕ)) (count : ℕ) → AreSpelled process least gs count
    → (least ≤ count) × (count ≤ 2 ^ 48)
spelled_bounds least [] count are = (are.from, are.most)
spelled_bounds least (g ∷ gs) count are =
    let rest = spelled_bounds (suc g.index) gs count are.1 in
    (omega (arith, are.0.from, rest.0), rest.1)

ended_few : (least : ℕ) (gs : List (Group ℕ)) (count : ℕ) → AreSpelled process least gs count
    → length (ended_text least gs count) ≤ 334 * (count + 1 - least) + 11
ended_few least [] count are = omega (arith, end_few least count)
ended_few least (g ∷ gs) count are = omega (
  arith,
  length-append (group_text least g) (ended_text (suc g.index) gs count),
  group_few least g are.0,
  ended_few (suc g.index) gs count are.1,
  are.0.from,
  (spelled_bounds (suc g.index) gs count are.1).0,
)

pub slice_few : (gs : List (Group ℕ)) (count : ℕ) → AreSpelled process 0 gs count
    → length (ended_text 0 gs count) ≤ 2 ^ 57
slice_few gs count are = omega (arith, ended_few 0 gs count are, (spelled_bounds 0 gs count are).1)

-- ---- the slice of a program of two steps, an ADDI and an ECALL at address 0x1000

two_steps : List (Group ℕ)
two_steps =
    record {
      index = 0;
      items = record {
        words = Some 0x1000 ∷ replicate 31 None;
        bytes = (0x1000, 0x93) ∷ (0x1001, 0) ∷ (0x1002, 0x50) ∷ (0x1003, 0) ∷ [];
        given = None;
      };
    } ∷ record {
      index = 1;
      items = record {
        words = replicate 32 None;
        bytes = (0x1004, 0x73) ∷ (0x1005, 0) ∷ (0x1006, 0) ∷ (0x1007, 0) ∷ [];
        given = None;
      };
    } ∷ []

text_of_two_steps : slice_text two_steps 2
    ≡ 0x43 ∷ 0x58 ∷ 0x50 ∷ 0x31 ∷ 1 ∷ 0 ∷ 1 ∷ 0 ∷ 0 ∷ 0 ∷ 0 ∷ 0x10 ∷ 0 ∷ 0 ∷ 1 ∷ 0 ∷ 0x10 ∷ 0 ∷ 0 ∷ 4 ∷ 0x93 ∷ 0
    ∷ 0x50 ∷ 0 ∷ 0 ∷ 1 ∷ 1 ∷ 0 ∷ 0 ∷ 0 ∷ 0 ∷ 1 ∷ 4 ∷ 0x10 ∷ 0 ∷ 0 ∷ 4 ∷ 0x73 ∷ 0 ∷ 0 ∷ 0 ∷ 0 ∷ 0 ∷ 1 ∷ []
unfolding two_steps slice_text slice_end_text group_text items_text head_text varint
text_of_two_steps = refl

pub body_more : (gs : List (Group ℕ)) (g : Group ℕ)
    → slice_body (gs ++ g ∷ []) ≡ slice_body gs ++ group_text (least_behind 0 gs) g
unfolding slice_body
body_more gs g = ap (λ (xs : List ℕ). slice_magic ++ xs) (groups_more 0 gs g)

pub body_end : (gs : List (Group ℕ)) (count : ℕ)
    → slice_text gs count ≡ slice_body gs ++ slice_end_text (least_behind 0 gs) count
unfolding slice_body slice_text
body_end gs count = ap (λ (xs : List ℕ). slice_magic ++ xs) (ended_parts 0 gs count)
