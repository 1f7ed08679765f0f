-- Groups and the end: their text reads back, what was read is their text, and the groups of a run can be spelled.
use Rattle.std.proofs.Common.{◌≡◌, ℕ, zero, suc, ◌+◌, ◌-◌, ◌^◌, ◌<◌, ◌≤◌, ltb, eqb, arith, refl, ap, subst}
use Rattle.std.proofs.Common.{List, [], ◌∷◌, ◌++◌, length, Bool, true, false, Ok, Option, None, Some, IfSome, ne_eqb}
use Rattle.std.proofs.lemmas.Bool.{ltb-true}
use Rattle.std.specs.List.{AllByRecursion}
use Rattle.cx_map.specs.Bytes.{AreBytes}
use Rattle.cx_codec.specs.Again.{Once, ReadsAs}
use Rattle.cx_codec.specs.Fields.{byte_at, varint_at}
use Rattle.cx_codec.specs.Checks.{checked, is_between}
use Rattle.cx_codec.specs.Place.{Place, Reader, Takes, done, read_on}
use Rattle.cx_codec.specs.Varint.{varint}
use Rattle.cx_codec.proofs.Again.{reads_both, reads_byte, reads_checked, reads_then, reads_varint}
use Rattle.cx_codec.proofs.Once.{part, finish, once_byte, once_checked, once_varint}
use Rattle.cx_codec.proofs.Texts.{takes_along, takes_both}
use Rattle.cx_slices.specs.Groups.{AreGroups, Group}
use Rattle.cx_slices.specs.Items.{ItemsFit}
use Rattle.cx_slices.specs.Stretches.{Stretch}
use Rattle.cx_slices.proofs.Stretches.{few_stretches, short_stretches}
use Rattle.cx_slicefmt.specs.Reading.{entry_at, entry_by, index_at, items_at}
use Rattle.cx_slicefmt.specs.Rules.{AreSpelled, EndAt, EntryStands, Form, GroupOf, IsEnd, IsGroup, SliceEntry, process}
use Rattle.cx_slicefmt.specs.Text.{group_text, items_text, slice_end_text, slice_entry_text}
use Rattle.cx_slicefmt.proofs.Heads.{AreGroupItems, one_if, once_items, reads_items, reads_same}
use Rattle.cx_slicefmt.proofs.Runs.{between, lies_between}

-- ---- an index, by its distance

abbrev pub lies_at : ℕ → ℕ → ℕ → Bool
lies_at least greatest d = is_between least greatest (least - 1 + d)

pub reads_index : (least greatest n : ℕ) → least ≤ n → n ≤ greatest → greatest < 2 ^ 64
    → ReadsAs (index_at least greatest) (varint (n - (least - 1))) n
unfolding index_at
reads_index least greatest n low high fits =
    let d : ℕ = n - (least - 1) in
    let back : least - 1 + d ≡ n = omega (arith, low) in
    let test = lies_at least greatest in
    reads_same (index_at least greatest) (varint d) (least - 1 + d) n back
    (reads_then (checked test varint_at) (λ d. least - 1 + d) (varint d) d
    (reads_checked test varint_at (varint d) d
    (rw back (between least greatest n low high))
    (reads_varint d (omega (arith, high, fits)))))

pub once_index : (least greatest : ℕ)
    → Once (index_at least greatest) (λ n. (least ≤ n) × (n ≤ greatest)) (λ n. varint (n - (least - 1)))
unfolding index_at
once_index least greatest p after are x read =
    let test = lies_at least greatest in
    let d = part (checked test varint_at) (λ n. Unit {0} × (test n ≡ true)) varint (λ d. done (least - 1 + d))
    (once_checked test varint_at (λ n. Unit {0}) varint once_varint) p after are x read in
    let same : d.value ≡ least - 1 + d.value - (least - 1) = omega arith in
    finish (λ n. (least ≤ n) × (n ≤ greatest)) (λ n. varint (n - (least - 1))) p d.mid after (least - 1 + d.value) x d.then
    (lies_between least greatest (least - 1 + d.value) d.keeps.1)
    (takes_along p d.mid d.mid (varint d.value) (varint (least - 1 + d.value - (least - 1))) (ap varint same) refl d.takes)

-- ---- a group

items_of_group : (form : Form) (least : ℕ) (g : Group ℕ) → IsGroup form least g → AreGroupItems form g.items
items_of_group form least g is = record { head = is.head; given = is.given; some = is.some }

abbrev behind_index : Form → ℕ → Reader SliceEntry
behind_index form index p = read_on (items_at form p) (λ items. done (GroupOf (record { index = index; items = items })))

abbrev tag_fits : ℕ → ℕ → Bool
tag_fits least = is_between (one_if (eqb least 0)) 1

small_one : (t : Bool) → one_if t ≤ 1
small_one true = omega arith
small_one false = omega arith

pub reads_group : (form : Form) (least : ℕ) (g : Group ℕ) → form.runs < 2 ^ 64 → IsGroup form least g
    → ReadsAs (entry_at form least) (group_text least g) (GroupOf g)
unfolding entry_at group_text
reads_group form least g fits is =
    let below : g.index ≤ 2 ^ 48 - 1 = omega (arith, is.below) in
    reads_both (checked (tag_fits least) byte_at) (entry_by form least) (1 ∷ [])
    (varint (g.index - (least - 1)) ++ items_text g.items) 1 (GroupOf g)
    (reads_checked (tag_fits least) byte_at (1 ∷ []) 1
    (between (one_if (eqb least 0)) 1 1 (small_one (eqb least 0)) (omega arith)) (reads_byte 1))
    (reads_both (index_at least (2 ^ 48 - 1)) (behind_index form) (varint (g.index - (least - 1))) (items_text g.items)
    g.index (GroupOf g) (reads_index least (2 ^ 48 - 1) g.index is.from below (omega arith))
    (reads_then (items_at form) (λ items. GroupOf (record { index = g.index; items = items })) (items_text g.items) g.items
    (reads_items form g.items fits (items_of_group form least g is))))

pub reads_end : (form : Form) (least count : ℕ) → IsEnd least count
    → ReadsAs (entry_at form least) (slice_end_text least count) (EndAt count)
unfolding entry_at slice_end_text
reads_end form least count is =
    let later : eqb least 0 ≡ false = ne_eqb least 0 (above least is.behind) in
    let none : one_if (eqb least 0) ≤ 0 = rw later (omega arith) in
    reads_both (checked (tag_fits least) byte_at) (entry_by form least) (0 ∷ []) (varint (count - (least - 1))) 0
    (EndAt count)
    (reads_checked (tag_fits least) byte_at (0 ∷ []) 0 (between (one_if (eqb least 0)) 1 0 none (omega arith))
    (reads_byte 0))
    (reads_then (index_at least (2 ^ 48)) EndAt (varint (count - (least - 1))) count
    (reads_index least (2 ^ 48) count is.from is.most (omega arith)))
  where
    above : (n : ℕ) → 1 ≤ n → n ≡ 0 → ⊥
    above n some is = omega (arith, some, is)

end_once : (form : Form) (least : ℕ) (p mid after : Place) (x : SliceEntry) → one_if (eqb least 0) ≤ 0
    → Takes p (0 ∷ []) mid → AreBytes mid.ahead
    → read_on (index_at least (2 ^ 48) mid) (λ count. done (EndAt count)) ≡ Ok (x, after)
    → EntryStands form least x × Takes p (slice_entry_text least x) after
unfolding slice_end_text
end_once form least p mid after x low takes are read =
    let count = part (index_at least (2 ^ 48)) (λ n. (least ≤ n) × (n ≤ 2 ^ 48)) (λ n. varint (n - (least - 1)))
    (λ count. done (EndAt count)) (once_index least (2 ^ 48)) mid after are x read in
    finish (EntryStands form least) (slice_entry_text least) p count.mid after (EndAt count.value) x count.then
    (record { behind = later least low; from = count.keeps.0; most = count.keeps.1 })
    (takes_both p mid count.mid (0 ∷ []) (varint (count.value - (least - 1))) takes count.takes)
  where
    later : (n : ℕ) → one_if (eqb n 0) ≤ 0 → 1 ≤ n
    later zero low = absurd (let e : 1 ≤ 0 = low in omega (arith, e))
    later (suc n) low = omega arith

group_once : (form : Form) (least : ℕ) (p mid after : Place) (x : SliceEntry) → Takes p (1 ∷ []) mid
    → AreBytes mid.ahead → read_on (index_at least (2 ^ 48 - 1) mid) (behind_index form) ≡ Ok (x, after)
    → EntryStands form least x × Takes p (slice_entry_text least x) after
unfolding group_text
group_once form least p mid after x takes are read =
    let index = part (index_at least (2 ^ 48 - 1)) (λ n. (least ≤ n) × (n ≤ 2 ^ 48 - 1)) (λ n. varint (n - (least - 1)))
    (behind_index form) (once_index least (2 ^ 48 - 1)) mid after are x read in
    let items = part (items_at form) (AreGroupItems form) items_text
    (λ items. done (GroupOf (record { index = index.value; items = items }))) (once_items form) index.mid after
    index.bytes x index.then in
    finish (EntryStands form least) (slice_entry_text least) p items.mid after
    (GroupOf (record { index = index.value; items = items.value })) x items.then
    (record {
      from = index.keeps.0;
      below = omega (arith, index.keeps.1);
      head = items.keeps.head;
      given = items.keeps.given;
      some = items.keeps.some;
    })
    (takes_both p mid items.mid (1 ∷ []) (varint (index.value - (least - 1)) ++ items_text items.value) takes
    (takes_both mid index.mid items.mid (varint (index.value - (least - 1))) (items_text items.value) index.takes
    items.takes))

by_tag : (form : Form) (least tag : ℕ) (p mid after : Place) (x : SliceEntry) → tag_fits least tag ≡ true
    → Takes p (tag ∷ []) mid → AreBytes mid.ahead → entry_by form least tag mid ≡ Ok (x, after)
    → EntryStands form least x × Takes p (slice_entry_text least x) after
by_tag form least zero p mid after x fits takes are read =
    end_once form least p mid after x (lies_between (one_if (eqb least 0)) 1 0 fits).0 takes are read
by_tag form least (suc n) p mid after x fits takes are read =
    let lies = lies_between (one_if (eqb least 0)) 1 (suc n) fits in
    let one : suc n ≡ 1 = omega (arith, lies.1) in
    group_once form least p mid after x (subst (λ (t : ℕ). Takes p (t ∷ []) mid) one takes) are read

pub once_entry : (form : Form) (least : ℕ)
    → Once (entry_at form least) (EntryStands form least) (slice_entry_text least)
unfolding entry_at
once_entry form least p after are x read =
    let tag = part (checked (tag_fits least) byte_at) (λ n. Unit {0} × (tag_fits least n ≡ true)) (λ b. b ∷ [])
    (entry_by form least) (once_checked (tag_fits least) byte_at (λ n. Unit {0}) (λ b. b ∷ []) once_byte) p after are x
    read in
    by_tag form least tag.value p tag.mid after x tag.keeps.1 tag.takes tag.bytes tag.then

-- ---- the groups of a run

shorter : (m n : ℕ) (ss : List Stretch) → m ≤ n → AllByRecursion (λ s. length s.bytes ≤ m) ss
    → AllByRecursion (λ s. length s.bytes ≤ n) ss
shorter m n [] less short = tt
shorter m n (s ∷ ss) less short = (omega (arith, less, short.0), shorter m n ss less short.1)

pub given_fits : (given : Option ℕ) → IfSome given (λ word. ltb word (2 ^ 32) ≡ true)
    → IfSome given (λ word. word < 2 ^ 32)
given_fits None fits = tt
given_fits (Some word) fits = ltb-true word (2 ^ 32) fits

pub groups_spelled : (k count : ℕ) (gs : List (Group ℕ)) → count ≤ 2 ^ 48 → (gs ≡ [] → (1 ≤ k) × (k ≤ count))
    → AreGroups 32 k count gs → AllByRecursion (λ g. ItemsFit (λ word. ltb word (2 ^ 32)) g.items) gs
    → AllByRecursion (λ g. length g.items.bytes ≤ 8) gs → AreSpelled process k gs count
groups_spelled k count [] most ends are fit few =
    let end = ends refl in record { behind = end.0; from = end.1; most = most }
groups_spelled k count (g ∷ gs) most ends are fit few = (
  record {
    from = are.0;
    below = omega (arith, are.1, most);
    head = record {
      count = are.2.words;
      words = fit.0.words;
      rises = are.2.bytes;
      bytes = fit.0.bytes;
      runs = omega (arith, few_stretches g.items.bytes, few.0);
      most = shorter (length g.items.bytes) 8 _ few.0 (short_stretches g.items.bytes);
    };
    given = given_fits g.items.given fit.0.given;
    some = are.3;
  },
  groups_spelled (suc g.index) count gs most (λ none. (omega arith, omega (arith, are.1))) are.4 fit.1 few.1,
)
