-- The items of a group: their text reads back, and what was read is their text.
use Rattle.std.proofs.Common.{◌≡◌, ℕ, ◌^◌, ◌<◌, ◌≤◌, ◌&&◌, cond, arith, refl, ap, sym, subst}
use Rattle.std.proofs.Common.{List, [], ◌∷◌, ◌++◌, length, Bool, true, false, Option, None, Some, is_none}
use Rattle.std.specs.List.{list_all, AllByRecursion}
use Rattle.cx_codec.specs.Again.{Once, ReadsAs}
use Rattle.cx_codec.specs.Fields.{byte_at, varint_at}
use Rattle.cx_codec.specs.Checks.{checked, is_between}
use Rattle.cx_codec.specs.Place.{Reader, done, read_on}
use Rattle.cx_codec.specs.Varint.{varint}
use Rattle.cx_codec.proofs.Again.{reads_both, reads_byte, reads_checked, reads_then, reads_varint}
use Rattle.cx_codec.proofs.Once.{part, finish, once_byte, once_checked, once_varint}
use Rattle.cx_codec.proofs.Texts.{takes_along, takes_both}
use Rattle.cx_slices.specs.Items.{IsByteAt, IsWordOrNone, Items, are_none, is_nil}
use Rattle.cx_slices.specs.Stretches.{Stretch, bytes_of_stretches, stretches_of}
use Rattle.cx_slices.proofs.Stretches.{AreStretches-stretches_of, BytesRise-bytes_of, bytes_of-stretches_of, stretches_of-bytes_of}
use Rattle.cx_slicefmt.specs.Reading.{counted_at, given_at, head_at, items_at, masked_at, runs_at, word_by}
use Rattle.cx_slicefmt.specs.Rules.{AreByteRuns, Form, Head, IsHead, head_in, is_empty}
use Rattle.cx_slicefmt.specs.Text.{bit, counted_text, given_text, head_text, items_text, masked_text, runs_text, word_text}
use Rattle.cx_slicefmt.proofs.Runs.{
  between,
  byte_runs,
  lies_between,
  once_runs,
  reads_runs,
  run_bytes_fit,
  runs_are_short,
  stretches_are,
}
use Rattle.cx_slicefmt.proofs.Words.{AreMasked, once_by, once_masked, reads_by, reads_masked}

-- another name for the value
pub reads_same : {A : Type 0} (r : Reader A) (text : List ℕ) (x y : A) → x ≡ y → ReadsAs r text x → ReadsAs r text y
reads_same r text x y same first = subst (λ z. ReadsAs r text z) same first

-- the least count of what is needed
abbrev pub one_if : Bool → ℕ
one_if needed = cond needed 1 0

-- ---- runs, counted

pub record AreCounted (form : Form) (needed : Bool) (ss : List Stretch) : Type 0 where
  pub least : one_if needed ≤ length ss
  pub most : length ss ≤ form.runs
  pub are : AreByteRuns form.most 0 ss

abbrev runs_of : Form → ℕ → Reader (List Stretch)
runs_of form count = runs_at form.most count 0

pub reads_counted : (form : Form) (needed : Bool) (ss : List Stretch) → form.runs < 2 ^ 64 → AreCounted form needed ss
    → ReadsAs (counted_at form needed) (counted_text ss) ss
unfolding counted_at
reads_counted form needed ss fits is =
    let test = is_between (one_if needed) form.runs in
    reads_both (checked test varint_at) (runs_of form) (varint (length ss)) (runs_text ss) (length ss) ss
    (reads_checked test varint_at (varint (length ss)) (length ss)
    (between (one_if needed) form.runs (length ss) is.least is.most)
    (reads_varint (length ss) (omega (arith, fits, is.most))))
    (reads_runs form.most 0 ss is.are)

pub once_counted : (form : Form) (needed : Bool) → Once (counted_at form needed) (AreCounted form needed) counted_text
unfolding counted_at
once_counted form needed p after are x read =
    let test = is_between (one_if needed) form.runs in
    let count = part (checked test varint_at) (λ n. Unit {0} × (test n ≡ true)) varint (runs_of form)
    (once_checked test varint_at (λ n. Unit {0}) varint once_varint) p after are x read in
    let there = once_runs form.most count.value 0 count.mid after count.bytes x count.then in
    let lies = lies_between (one_if needed) form.runs count.value count.keeps.1 in (
      record {
        least = omega (arith, lies.0, there.0.0);
        most = omega (arith, lies.1, there.0.0);
        are = there.0.1;
      },
      takes_along p after after (varint count.value ++ runs_text x) (counted_text x)
          (ap (λ (n : ℕ). varint n ++ runs_text x) (sym there.0.0)) refl
          (takes_both p count.mid after (varint count.value) (runs_text x) count.takes there.1),
    )

-- ---- words and bytes

abbrev pub HasNeeded : Bool → Head → Type 0
HasNeeded needed h = one_if (needed && list_all is_none h.words) ≤ length (stretches_of h.bytes)

abbrev behind_words : Form → Bool → List (Option ℕ) → Reader Head
behind_words form needed words p =
    read_on (counted_at form (needed && list_all is_none words) p)
    (λ runs. done (record { words = words; bytes = bytes_of_stretches runs }))

counted : (form : Form) (needed : Bool) (h : Head) → IsHead form h → HasNeeded needed h
    → AreCounted form (needed && list_all is_none h.words) (stretches_of h.bytes)
counted form needed h is some = record {
  least = some;
  most = is.runs;
  are = byte_runs form.most 0 (stretches_of h.bytes) (AreStretches-stretches_of 0 h.bytes is.rises)
      (subst (λ es. AllByRecursion IsByteAt es) (sym (bytes_of-stretches_of h.bytes)) is.bytes) is.most;
}

pub reads_head : (form : Form) (needed : Bool) (h : Head) → form.runs < 2 ^ 64 → IsHead form h → HasNeeded needed h
    → ReadsAs (head_at form needed) (head_text h) h
unfolding head_at head_text
reads_head form needed h fits is some =
    reads_both masked_at (behind_words form needed) (masked_text h.words) (counted_text (stretches_of h.bytes)) h.words h
    (reads_masked h.words (record { count = is.count; fit = is.words }))
    (reads_same (behind_words form needed h.words) (counted_text (stretches_of h.bytes))
    (record { words = h.words; bytes = bytes_of_stretches (stretches_of h.bytes) }) h
    (ap (λ es. record { words = h.words; bytes = es }) (bytes_of-stretches_of h.bytes))
    (reads_then (counted_at form (needed && list_all is_none h.words))
    (λ runs. record { words = h.words; bytes = bytes_of_stretches runs }) (counted_text (stretches_of h.bytes))
    (stretches_of h.bytes)
    (reads_counted form (needed && list_all is_none h.words) (stretches_of h.bytes) fits (counted form needed h is some))))

head_of : (form : Form) (words : List (Option ℕ)) (ss : List Stretch) → AreMasked words → AreByteRuns form.most 0 ss
    → length ss ≤ form.runs → IsHead form (record { words = words; bytes = bytes_of_stretches ss })
head_of form words ss masked are few =
    let back = stretches_of-bytes_of 0 ss (stretches_are form.most 0 ss are) in
    record {
      count = masked.count;
      words = masked.fit;
      rises = BytesRise-bytes_of 0 ss (stretches_are form.most 0 ss are);
      bytes = run_bytes_fit form.most 0 ss are;
      runs = subst (λ (rs : List Stretch). length rs ≤ form.runs) (sym back) few;
      most = subst (λ (rs : List Stretch). AllByRecursion (λ s. length s.bytes ≤ form.most) rs) (sym back)
          (runs_are_short form.most 0 ss are);
    }

pub once_head : (form : Form) (needed : Bool)
    → Once (head_at form needed) (λ h. IsHead form h × HasNeeded needed h) head_text
unfolding head_at head_text
once_head form needed p after are x read =
    let words = part masked_at AreMasked masked_text (behind_words form needed) once_masked p after are x read in
    let lacks : Bool = needed && list_all is_none words.value in
    let runs = part (counted_at form lacks) (AreCounted form lacks) counted_text
    (λ ss. done (record { words = words.value; bytes = bytes_of_stretches ss })) (once_counted form lacks) words.mid after
    words.bytes x words.then in
    let back = stretches_of-bytes_of 0 runs.value (stretches_are form.most 0 runs.value runs.keeps.are) in
    finish (λ h. IsHead form h × HasNeeded needed h) head_text p runs.mid after
    (record { words = words.value; bytes = bytes_of_stretches runs.value }) x runs.then (
      head_of form words.value runs.value words.keeps runs.keeps.are runs.keeps.most,
      subst (λ (rs : List Stretch). one_if lacks ≤ length rs) (sym back) runs.keeps.least,
    )
    (takes_along p runs.mid runs.mid (masked_text words.value ++ counted_text runs.value)
    (masked_text words.value ++ counted_text (stretches_of (bytes_of_stretches runs.value)))
    (ap (λ (rs : List Stretch). masked_text words.value ++ counted_text rs) (sym back)) refl
    (takes_both p words.mid runs.mid (masked_text words.value) (counted_text runs.value) words.takes runs.takes))

-- ---- what is given

pub reads_given : (needed : Bool) (given : Option ℕ) → IsWordOrNone given → one_if needed ≤ bit given
    → ReadsAs (given_at needed) (given_text given) given
unfolding given_at
reads_given needed given fits some =
    let test = is_between (one_if needed) 1 in
    reads_both (checked test byte_at) word_by (bit given ∷ []) (word_text given) (bit given) given
    (reads_checked test byte_at (bit given ∷ []) (bit given) (between (one_if needed) 1 (bit given) some (small given))
    (reads_byte (bit given))) (reads_by given fits)
  where
    small : (given : Option ℕ) → bit given ≤ 1
    small None = omega arith
    small (Some word) = omega arith

pub once_given : (needed : Bool)
    → Once (given_at needed) (λ given. IsWordOrNone given × (one_if needed ≤ bit given)) given_text
unfolding given_at
once_given needed p after are x read =
    let test = is_between (one_if needed) 1 in
    let flag = part (checked test byte_at) (λ n. Unit {0} × (test n ≡ true)) (λ b. b ∷ []) word_by
    (once_checked test byte_at (λ n. Unit {0}) (λ b. b ∷ []) once_byte) p after are x read in
    let lies = lies_between (one_if needed) 1 flag.value flag.keeps.1 in
    let there = once_by flag.value (omega (arith, lies.1)) flag.mid after flag.bytes x flag.then in (
      (there.0.fits, omega (arith, lies.0, there.0.bit)),
      takes_along p after after ((flag.value ∷ []) ++ word_text x) (given_text x)
          (ap (λ (n : ℕ). (n ∷ []) ++ word_text x) (sym there.0.bit)) refl
          (takes_both p flag.mid after (flag.value ∷ []) (word_text x) flag.takes there.1),
    )

-- ---- items

pub record AreGroupItems (form : Form) (i : Items ℕ) : Type 0 where
  pub head : IsHead form (head_in i)
  pub given : IsWordOrNone i.given
  pub some : are_none i ≡ false

needs : (a b : Bool) (given : Option ℕ) → (a && (b && is_none given)) ≡ false → one_if (a && b) ≤ bit given
needs true true None is = cc
needs true true (Some word) is = omega arith
needs true false given is = omega arith
needs false b given is = omega arith

needed : (a b : Bool) (given : Option ℕ) → one_if (a && b) ≤ bit given → (a && (b && is_none given)) ≡ false
needed true true None is = absurd (omega (arith, is))
needed true true (Some word) is = refl
needed true false given is = refl
needed false b given is = refl

abbrev pub behind_head : Form → Head → Reader (Items ℕ)
behind_head form head p =
    read_on (given_at (is_empty head) p)
    (λ given. done (record { words = head.words; bytes = head.bytes; given = given }))

pub reads_items : (form : Form) (i : Items ℕ) → form.runs < 2 ^ 64 → AreGroupItems form i
    → ReadsAs (items_at form) (items_text i) i
unfolding items_at items_text
reads_items form i fits are = reads_both (head_at form false) (behind_head form) (head_text (head_in i))
    (given_text i.given) (head_in i) i (reads_head form false (head_in i) fits are.head (omega arith))
    (reads_then (given_at (is_empty (head_in i))) (λ given. record { words = i.words; bytes = i.bytes; given = given })
    (given_text i.given) i.given
    (reads_given (is_empty (head_in i)) i.given are.given
    (needs (list_all is_none i.words) (is_nil i.bytes) i.given are.some)))

pub once_items : (form : Form) → Once (items_at form) (AreGroupItems form) items_text
unfolding items_at items_text
once_items form p after are x read =
    let head = part (head_at form false) (λ h. IsHead form h × HasNeeded false h) head_text (behind_head form)
    (once_head form false) p after are x read in
    let empty : Bool = is_empty head.value in
    let given = part (given_at empty) (λ given. IsWordOrNone given × (one_if empty ≤ bit given)) given_text
    (λ given. done (record { words = head.value.words; bytes = head.value.bytes; given = given })) (once_given empty)
    head.mid after head.bytes x head.then in
    finish (AreGroupItems form) items_text p given.mid after
    (record { words = head.value.words; bytes = head.value.bytes; given = given.value }) x given.then
    (record {
      head = head.keeps.0;
      given = given.keeps.0;
      some = needed (list_all is_none head.value.words) (is_nil head.value.bytes) given.value given.keeps.1;
    })
    (takes_both p head.mid given.mid (head_text head.value) (given_text given.value) head.takes given.takes)
