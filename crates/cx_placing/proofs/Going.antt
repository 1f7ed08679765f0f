-- A run goes alone from its slice by calls.
use Rattle.std.proofs.Common.{◌≡◌, ℕ, ◌&&◌, ◌||◌, Bool, true, false, not, List, ◌∷◌, length, replicate}
use Rattle.std.proofs.Common.{Option, None, Some, is_some, if◌then◌else◌, eq-eqb, refl, sym, ap}
use Rattle.std.proofs.Common.{ap₂, ◌∙◌, zero, suc, ◌==◌}
use Rattle.std.proofs.lemmas.Bool.{and_from}
use Rattle.std.specs.List.{list_all}
use Rattle.std.specs.Option.{option_map, option_or}
use Rattle.cx_slices.specs.Bytes.{Byte, BytesRise, all_there, byte_found, is_byte, lacks, missing}
use Rattle.cx_slices.specs.Bytes.{none_stands, with_bytes}
use Rattle.cx_slices.specs.Items.{Known, after, is_nil}
use Rattle.cx_slices.specs.Observed.{IsFaithful, IsPossible, IsTotal, Watch}
use Rattle.cx_slices.specs.Words.{all_change, changed, changes}
use Rattle.cx_slices.proofs.Bytes.{Shows-from}
use Rattle.cx_slices.proofs.Missing.{BytesRise-filter, BytesRise-missing, list_all-from, missing_byte}
use Rattle.cx_slices.proofs.Small.{none_is_some}
use Rattle.cx_slices.proofs.Words.{all_change-changes, changed-changes}
use Rattle.cx_placing.specs.Called.{
  CallStanding,
  all_met,
  are_placed,
  bytes_stand,
  handed,
  if_met,
  is_call,
  may_stand,
  none_new,
  standing_behind,
  step_called,
  still_owed,
  words_stand,
  words_with,
}
use Rattle.cx_placing.specs.Placing.{Placed, call_with, first_missing, head_of, placed_at, touched_behind, words_placed}
use Rattle.cx_placing.specs.Touched.{Touched, accesses, touched_again, untouched}
use Rattle.cx_placing.proofs.Cells.{byte_found-kept, byte_if, kept_byte_is, missing_is_new, missing_is_seen}
use Rattle.cx_placing.proofs.Cells.{missing_then_stands, no_bytes, or_none}
use Rattle.cx_placing.proofs.Heads.{first_is_new, found_again, found_in_head, found_missing, head_rises, missing_behind, none_accessed, none_touched, not_seen}

abbrev pub own_words : Bool → List (Option ℕ) → Option (List (Option ℕ))
own_words first words = if first then Some words else None

-- What stands in a run alone from a slice by calls: what is known, with the bytes that a head has handed over.
pub record GoesWith {O G : Type 0} (m : Watch O G) (called : O → Option ℕ) (w : Known) (touched : Touched)
    (first : Bool) (s : CallStanding) (os : List O) : Type 0 where
  pub words_are : s.known.words ≡ w.words
  pub bytes_are : (a : ℕ) → s.known.map a ≡ option_or (byte_found (first_missing m called w touched os) a) (w.map a)
  pub own_are : s.words ≡ own_words first (head_of m called w os).words
  pub new : s.are_new ≡ true
  pub rises : BytesRise 0 s.owed
  pub owed_are : (a : ℕ) → byte_found s.owed a ≡ byte_found (first_missing m called w touched os) a
  pub touched_are : (a : ℕ) → s.touched a ≡ touched a

-- ---- behind a head

new_in_head : {O G : Type 0} (m : Watch O G) (called : O → Option ℕ) (w u : Known) (os : List O) → IsFaithful m
    → ((a : ℕ) → u.map a ≡ w.map a) → none_stands u.map (head_of m called w os).bytes ≡ true
new_in_head m called w u os faithful same = list_all-from (λ e. not (is_byte (u.map e.0) e.1)) 0
    (head_of m called w os).bytes (head_rises m called w os)
    (λ a b found. ap (λ there. not (is_byte there b)) (same a)
    ∙ first_is_new m called w untouched os a b faithful (sym (found_in_head m called w os a) ∙ found))

pub GoesWith-handed : {O G : Type 0} (m : Watch O G) (called : O → Option ℕ) (w u : Known) (os : List O)
    → IsFaithful m → u.words ≡ w.words → ((a : ℕ) → u.map a ≡ w.map a)
    → GoesWith m called w untouched true (handed (head_of m called w os) u) os
GoesWith-handed m called w u os faithful words same = record {
  words_are = words;
  bytes_are = λ a. ap₂ option_or (found_in_head m called w os a) (same a);
  own_are = refl;
  new = new_in_head m called w u os faithful same;
  rises = head_rises m called w os;
  owed_are = found_in_head m called w os;
  touched_are = λ a. refl;
}

-- ---- the items may stand

pub none_are_new : (count : ℕ) → none_new (replicate count None) ≡ true
none_are_new zero = refl
none_are_new (suc n) = none_are_new n

placed_words : (count : ℕ) (first : Bool) (words : List (Option ℕ))
    → are_placed (own_words first words) (words_placed count first words) ≡ true
placed_words count true words = none_are_new count
placed_words count false words = refl

same_words : (count : ℕ) (first : Bool) (words : List (Option ℕ))
    → words_with (own_words first words) (words_placed count first words) ≡ words
same_words count true words = refl
same_words count false words = refl

pub words_are_items : {O G : Type 0} (m : Watch O G) (called : O → Option ℕ) (w : Known) (touched : Touched)
    (first : Bool) (s : CallStanding) (o : O) (os : List O) → GoesWith m called w touched first s (o ∷ os)
    → words_with s.words (placed_at m w touched first o).words ≡ changes w.words (m.words o)
words_are_items m called w touched first s o os goes =
    ap (λ own. words_with own (words_placed m.count first (changes w.words (m.words o)))) goes.own_are
    ∙ same_words m.count first (changes w.words (m.words o))

words_may_stand : {O G : Type 0} (m : Watch O G) (called : O → Option ℕ) (w : Known) (touched : Touched)
    (first : Bool) (s : CallStanding) (o : O) (os : List O) → GoesWith m called w touched first s (o ∷ os)
    → words_stand s (placed_at m w touched first o) ≡ true
words_may_stand m called w touched first s o os goes =
    and_from s.are_new (are_placed s.words placed && all_change s.known.words (words_with s.words placed)) goes.new
    (and_from (are_placed s.words placed) (all_change s.known.words (words_with s.words placed))
    (ap (λ own. are_placed own placed) goes.own_are ∙ placed_words m.count first (changes w.words (m.words o)))
    (ap₂ all_change goes.words_are (words_are_items m called w touched first s o os goes)
    ∙ all_change-changes w.words (m.words o)))
  where
    placed : List (Option ℕ)
    placed = words_placed m.count first (changes w.words (m.words o))

-- an item of a step: it was touched, and is missing
item_is : {O G : Type 0} (m : Watch O G) (w : Known) (touched : Touched) (o : O) (a b : ℕ) → IsFaithful m
    → byte_found (touched_again touched (missing w.map (m.seen o))) a ≡ Some b
    → (touched a ≡ true) × (missing_byte (byte_found (m.seen o) a) (w.map a) ≡ Some b)
item_is m w touched o a b faithful found =
    kept_byte_is (touched a) (missing_byte (byte_found (m.seen o) a) (w.map a)) b
    (sym (found_again m w touched o a faithful) ∙ found)

items_rise : {O G : Type 0} (m : Watch O G) (w : Known) (touched : Touched) (o : O) → IsFaithful m
    → BytesRise 0 (touched_again touched (missing w.map (m.seen o)))
items_rise m w touched o faithful = BytesRise-filter (λ e. touched e.0) 0 (missing w.map (m.seen o))
    (BytesRise-missing w.map (m.seen o) (faithful.rises o))

stands_as_known : {O G : Type 0} (m : Watch O G) (called : O → Option ℕ) (w : Known) (touched : Touched)
    (first : Bool) (s : CallStanding) (os : List O) (a : ℕ) → IsFaithful m → GoesWith m called w touched first s os
    → touched a ≡ true → s.known.map a ≡ w.map a
stands_as_known m called w touched first s os a faithful goes is = goes.bytes_are a
    ∙ ap (λ found. option_or found (w.map a)) (none_touched m called w touched os a faithful is)

bytes_may_stand : {O G : Type 0} (m : Watch O G) (called : O → Option ℕ) (w : Known) (touched : Touched)
    (first : Bool) (s : CallStanding) (o : O) (os : List O) → IsFaithful m
    → GoesWith m called w touched first s (o ∷ os) → bytes_stand s (placed_at m w touched first o) ≡ true
bytes_may_stand m called w touched first s o os faithful goes =
    and_from (none_stands s.known.map items) (list_all (λ e. s.touched e.0) items)
    (list_all-from (λ e. not (is_byte (s.known.map e.0) e.1)) 0 items (items_rise m w touched o faithful) new)
    (list_all-from (λ e. s.touched e.0) 0 items (items_rise m w touched o faithful)
    (λ a b found. goes.touched_are a ∙ (item_is m w touched o a b faithful found).0))
  where
    items : List Byte
    items = touched_again touched (missing w.map (m.seen o))

    new : (a b : ℕ) → byte_found (touched_again touched (missing w.map (m.seen o))) a ≡ Some b
        → not (is_byte (s.known.map a) b) ≡ true
    new a b found =
        let item : (touched a ≡ true) × (missing_byte (byte_found (m.seen o) a) (w.map a) ≡ Some b)
        = item_is m w touched o a b faithful found in
        ap (λ there. not (is_byte there b)) (stands_as_known m called w touched first s (o ∷ os) a faithful goes item.0)
        ∙ missing_is_new (byte_found (m.seen o) a) (w.map a) b item.1

-- ---- the step goes

handed_stands : (touched : Bool) (seen there later : Option ℕ) (b : ℕ) → later ≡ None → seen ≡ Some b
    → option_or (byte_if touched (missing_byte seen there))
    (option_or (option_or (byte_if (not touched) (missing_byte seen there)) later) there) ≡ Some b
handed_stands true seen there later b none is =
    ap (λ l. option_or (missing_byte seen there) (option_or l there)) none ∙ missing_then_stands seen there b is
handed_stands false seen there later b none is =
    ap (λ l. option_or (option_or (missing_byte seen there) l) there) none
    ∙ (ap (λ l. option_or l there) (or_none (missing_byte seen there)) ∙ missing_then_stands seen there b is)

-- What is seen stands once the items are put.
pub sights_stand : {O G : Type 0} (m : Watch O G) (called : O → Option ℕ) (w : Known) (touched : Touched)
    (first : Bool) (s : CallStanding) (o : O) (os : List O) (a b : ℕ) → IsFaithful m
    → GoesWith m called w touched first s (o ∷ os) → byte_found (m.seen o) a ≡ Some b
    → with_bytes (placed_at m w touched first o).bytes s.known.map a ≡ Some b
sights_stand m called w touched first s o os a b faithful goes found =
    ap₂ option_or (found_again m w touched o a faithful)
    (goes.bytes_are a ∙ ap (λ f. option_or f (w.map a)) (found_missing m called w touched o os (called o) a faithful refl))
    ∙ handed_stands (touched a) (byte_found (m.seen o) a) (w.map a) (missing_behind m called w touched o os (called o) a)
    b (none_accessed m called w touched o os (called o) a faithful (faithful.leaves o a (ap is_some found))) found

pub step_goes : {O G : Type 0} (m : Watch O G) (called : O → Option ℕ) (w : Known) (touched : Touched) (first : Bool)
    (s : CallStanding) (o : O) (os : List O) → IsFaithful m → IsTotal m → length w.words ≡ m.count → IsPossible m o
    → GoesWith m called w touched first s (o ∷ os)
    → m.step (changed s.known.words (words_with s.words (placed_at m w touched first o).words))
    (with_bytes (placed_at m w touched first o).bytes s.known.map) (m.given o) ≡ Some o
step_goes m called w touched first s o os faithful total size possible goes =
    ap (λ ws. m.step ws (with_bytes (placed_at m w touched first o).bytes s.known.map) (m.given o))
    (ap₂ changed goes.words_are (words_are_items m called w touched first s o os goes)
    ∙ changed-changes w.words (m.words o) (size ∙ sym possible.count))
    ∙ faithful.local (m.words o) (byte_found (m.seen o))
    (with_bytes (placed_at m w touched first o).bytes s.known.map) (m.given o) o possible.count possible.goes
    (Shows-from (with_bytes (placed_at m w touched first o).bytes s.known.map) 0 (m.seen o) (faithful.rises o)
    (λ a b found. sights_stand m called w touched first s o os a b faithful goes found))
    (ap (list_all (lacks (with_bytes (placed_at m w touched first o).bytes s.known.map))) (total.none o))

-- ---- it meets what is owed

items_are_seen : {O G : Type 0} (m : Watch O G) (w : Known) (touched : Touched) (first : Bool) (o : O) → IsFaithful m
    → all_there (m.seen o) (placed_at m w touched first o).bytes ≡ true
items_are_seen m w touched first o faithful = list_all-from (λ i. is_some (byte_found (m.seen o) i.0)) 0
    (touched_again touched (missing w.map (m.seen o))) (items_rise m w touched o faithful)
    (λ a b found. missing_is_seen (byte_found (m.seen o) a) (w.map a) b (item_is m w touched o a b faithful found).1)

seen_or_out : (accessed touched : Bool) (seen there later : Option ℕ) (b : ℕ) → (accessed ≡ true → later ≡ None)
    → option_or (byte_if (not touched) (missing_byte seen there)) later ≡ Some b
    → (not accessed || is_some seen) ≡ true
seen_or_out false touched seen there later b none owed = refl
seen_or_out true touched (Some c) there later b none owed = refl
seen_or_out true true None there later b none owed =
    let gone : None ≡ Some b = sym (none refl) ∙ owed in none_is_some b gone
seen_or_out true false None there later b none owed =
    let gone : None ≡ Some b = sym (none refl) ∙ owed in none_is_some b gone

owed_is_met : {O G : Type 0} (m : Watch O G) (called : O → Option ℕ) (w : Known) (touched : Touched) (first : Bool)
    (s : CallStanding) (o : O) (os : List O) → IsFaithful m → GoesWith m called w touched first s (o ∷ os)
    → all_met m o s.owed ≡ true
owed_is_met m called w touched first s o os faithful goes =
    list_all-from (λ e. not (accesses m o e.0) || is_some (byte_found (m.seen o) e.0)) 0 s.owed goes.rises
    (λ a b found. seen_or_out (accesses m o a) (touched a) (byte_found (m.seen o) a) (w.map a)
    (missing_behind m called w touched o os (called o) a) b
    (none_accessed m called w touched o os (called o) a faithful)
    (sym (found_missing m called w touched o os (called o) a faithful refl) ∙ (sym (goes.owed_are a) ∙ found)))

-- what is still owed behind a step is what is missing first behind it
still_later : (accessed touched : Bool) (seen there later : Option ℕ) → (accessed ≡ true → later ≡ None)
    → (accessed ≡ false → seen ≡ None)
    → byte_if (not accessed) (option_or (byte_if (not touched) (missing_byte seen there)) later) ≡ later
still_later true touched seen there later none unseen = sym (none refl)
still_later false true seen there later none unseen = refl
still_later false false seen there later none unseen =
    ap (λ o. option_or (missing_byte o there) later) (unseen refl)

pub owed_behind : {O G : Type 0} (m : Watch O G) (called : O → Option ℕ) (w : Known) (touched : Touched)
    (first : Bool) (s : CallStanding) (o : O) (os : List O) (call : Option ℕ) (a : ℕ) → IsFaithful m
    → called o ≡ call → GoesWith m called w touched first s (o ∷ os)
    → byte_found (still_owed m o s.owed) a ≡ missing_behind m called w touched o os call a
owed_behind m called w touched first s o os call a faithful is goes =
    byte_found-kept (λ a. not (accesses m o a)) s.owed a
    ∙ (ap (byte_if (not (accesses m o a))) (goes.owed_are a ∙ found_missing m called w touched o os call a faithful is)
    ∙ still_later (accesses m o a) (touched a) (byte_found (m.seen o) a) (w.map a)
    (missing_behind m called w touched o os call a) (none_accessed m called w touched o os call a faithful)
    (not_seen m o a faithful))

still_rises : {O G : Type 0} (m : Watch O G) (o : O) (owed : List Byte) → BytesRise 0 owed
    → BytesRise 0 (still_owed m o owed)
still_rises m o owed rises = BytesRise-filter (λ e. not (accesses m o e.0)) 0 owed rises

is_its_call : {O G : Type 0} (m : Watch O G) (called : O → Option ℕ) (w : Known) (touched : Touched) (first : Bool)
    (s : CallStanding) (o : O) (os : List O) (call : Option ℕ) → IsFaithful m → called o ≡ call
    → GoesWith m called w touched first s (o ∷ os)
    → is_call call (option_map (call_with (head_of m called (after m w o) os)) call) (still_owed m o s.owed) ≡ true
is_its_call m called w touched first s o os None faithful is goes = refl
is_its_call m called w touched first s o os (Some number) faithful is goes =
    and_from (number == number) (is_nil (still_owed m o s.owed)) (eq-eqb number number refl)
    (ap is_nil (no_bytes 0 (still_owed m o s.owed) (still_rises m o s.owed goes.rises)
    (λ a. owed_behind m called w touched first s o os (Some number) a faithful is goes)))

called_from : {O G : Type 0} (m : Watch O G) (called : O → Option ℕ) (s : CallStanding) (p : Placed G) (o : O)
    → may_stand s p.items ≡ true
    → m.step (changed s.known.words (words_with s.words p.items.words)) (with_bytes p.items.bytes s.known.map)
    p.items.given ≡ Some o
    → if_met m called s p o ≡ Some o → step_called m called s p ≡ Some o
called_from m called s p o may goes met = rw (may, goes) met

pub step_called-placed : {O G : Type 0} (m : Watch O G) (called : O → Option ℕ) (w : Known) (touched : Touched)
    (first : Bool) (s : CallStanding) (o : O) (os : List O) → IsFaithful m → IsTotal m → length w.words ≡ m.count
    → IsPossible m o → GoesWith m called w touched first s (o ∷ os)
    → step_called m called s (record {
      items = placed_at m w touched first o;
      call = option_map (call_with (head_of m called (after m w o) os)) (called o);
    }) ≡ Some o
step_called-placed m called w touched first s o os faithful total size possible goes = called_from m called s
    (record {
      items = placed_at m w touched first o;
      call = option_map (call_with (head_of m called (after m w o) os)) (called o);
    }) o
    (and_from (words_stand s (placed_at m w touched first o)) (bytes_stand s (placed_at m w touched first o))
    (words_may_stand m called w touched first s o os goes) (bytes_may_stand m called w touched first s o os faithful goes))
    (step_goes m called w touched first s o os faithful total size possible goes)
    (ap (λ t. if t then Some o else None)
    (and_from (all_there (m.seen o) (placed_at m w touched first o).bytes)
    (all_met m o s.owed && is_call (called o) (option_map (call_with (head_of m called (after m w o) os)) (called o))
    (still_owed m o s.owed))
    (items_are_seen m w touched first o faithful)
    (and_from (all_met m o s.owed) (is_call (called o)
    (option_map (call_with (head_of m called (after m w o) os)) (called o)) (still_owed m o s.owed))
    (owed_is_met m called w touched first s o os faithful goes)
    (is_its_call m called w touched first s o os (called o) faithful refl goes))))

-- ---- behind the step

-- A step that accesses an address leaves a byte there, the same over any map.
over_the_same : (left first later there : Option ℕ) (accessed : Bool) → is_some left ≡ accessed
    → (accessed ≡ true → later ≡ None) → (accessed ≡ false → first ≡ None)
    → option_or left (option_or (option_or first later) there) ≡ option_or later (option_or left there)
over_the_same (Some b) first later there true is none unseen =
    ap (λ l. option_or l (Some b)) (sym (none refl))
over_the_same None first later there false is none unseen =
    ap (λ f. option_or (option_or f later) there) (unseen refl)
over_the_same (Some b) first later there false is none unseen = cc
over_the_same None first later there true is none unseen = cc

first_if_seen : (touched : Bool) (seen there : Option ℕ) → seen ≡ None
    → byte_if (not touched) (missing_byte seen there) ≡ None
first_if_seen true seen there is = refl
first_if_seen false seen there is = ap (λ o. missing_byte o there) is

bytes_behind : {O G : Type 0} (m : Watch O G) (called : O → Option ℕ) (w : Known) (touched : Touched) (first : Bool)
    (s : CallStanding) (o : O) (os : List O) (call : Option ℕ) (a : ℕ) → IsFaithful m → called o ≡ call
    → GoesWith m called w touched first s (o ∷ os)
    → (after m s.known o).map a ≡ option_or (missing_behind m called w touched o os call a) ((after m w o).map a)
bytes_behind m called w touched first s o os call a faithful is goes =
    ap (option_or (byte_found (m.left o) a)) (goes.bytes_are a
    ∙ ap (λ f. option_or f (w.map a)) (found_missing m called w touched o os call a faithful is))
    ∙ over_the_same (byte_found (m.left o) a)
    (byte_if (not (touched a)) (missing_byte (byte_found (m.seen o) a) (w.map a)))
    (missing_behind m called w touched o os call a) (w.map a) (accesses m o a) refl
    (none_accessed m called w touched o os call a faithful)
    (λ out. first_if_seen (touched a) (byte_found (m.seen o) a) (w.map a) (not_seen m o a faithful out))

pub GoesWith-behind : {O G : Type 0} (m : Watch O G) (called : O → Option ℕ) (w : Known) (touched : Touched)
    (first : Bool) (s : CallStanding) (o : O) (os : List O) (call : Option ℕ) → IsFaithful m → called o ≡ call
    → GoesWith m called w touched first s (o ∷ os)
    → GoesWith m called (after m w o) (touched_behind m call o touched) (is_some call)
    (standing_behind m s o (option_map (call_with (head_of m called (after m w o) os)) call)) os
GoesWith-behind m called w touched first s o os None faithful is goes = record {
  words_are = refl;
  bytes_are = λ a. bytes_behind m called w touched first s o os None a faithful is goes;
  own_are = refl;
  new = refl;
  rises = still_rises m o s.owed goes.rises;
  owed_are = λ a. owed_behind m called w touched first s o os None a faithful is goes;
  touched_are = λ a. ap (λ t. t || accesses m o a) (goes.touched_are a);
}
GoesWith-behind m called w touched first s o os (Some number) faithful is goes =
    GoesWith-handed m called (after m w o) (after m s.known o) os faithful refl
    (λ a. bytes_behind m called w touched first s o os (Some number) a faithful is goes)
