-- A step that goes with what is placed there has no other items, and is owed no other bytes.
use Rattle.std.proofs.Common.{◌≡◌, ℕ, ◌&&◌, ◌||◌, Bool, true, false, not, List, [], length, replicate, Option, None}
use Rattle.std.proofs.Common.{Some, IfSome, is_none, is_some, refl, sym, ap, ap₂, ◌∙◌}
use Rattle.std.proofs.lemmas.Bool.{and_from, and_parts}
use Rattle.std.specs.List.{list_all}
use Rattle.std.specs.Option.{option_or}
use Rattle.cx_slices.specs.Bytes.{BytesRise, Shows, byte_found, is_byte, lacks, missing, none_stands, with_bytes}
use Rattle.cx_slices.specs.Items.{AreItems, Items, Known}
use Rattle.cx_slices.specs.Observed.{IsFaithful, IsPossible, IsTotal, Watch}
use Rattle.cx_slices.specs.Words.{all_change, changed, changes}
use Rattle.cx_slices.proofs.Bytes.{Shows-at, Shows-from, rising_lists_are_one}
use Rattle.cx_slices.proofs.Groups.{no_items_from}
use Rattle.cx_slices.proofs.Missing.{BytesRise-filter, BytesRise-missing, missing_byte, passes_at}
use Rattle.cx_slices.proofs.OneStep.{same_items}
use Rattle.cx_slices.proofs.Words.{changes-changed, length-changed}
use Rattle.cx_placing.specs.Called.{
  CallStanding,
  are_placed,
  bytes_stand,
  none_new,
  still_owed,
  words_stand,
  words_with,
}
use Rattle.cx_placing.specs.Placing.{Placed, placed_at, words_placed}
use Rattle.cx_placing.specs.Touched.{Touched, accesses, touched_again}
use Rattle.cx_placing.proofs.Cells.{byte_found-kept, byte_if, item_is_missing, or_none}
use Rattle.cx_placing.proofs.Heads.{found_again, not_seen}
use Rattle.cx_placing.proofs.Went.{Went}

-- What stands by itself: what is known, with the bytes that are owed. These weren't accessed since the head, and were
-- new.
pub record IsStanding {O G : Type 0} (m : Watch O G) (w : Known) (touched : Touched) (s : CallStanding) : Type 0 where
  pub words_are : s.known.words ≡ w.words
  pub bytes_are : (a : ℕ) → s.known.map a ≡ option_or (byte_found s.owed a) (w.map a)
  pub size : IfSome s.words (λ words. length words ≡ m.count)
  pub new : s.are_new ≡ true → (a b : ℕ) → byte_found s.owed a ≡ Some b → not (is_byte (w.map a) b) ≡ true
  pub rises : BytesRise 0 s.owed
  pub fresh : (a b : ℕ) → byte_found s.owed a ≡ Some b → touched a ≡ false
  pub touched_are : (a : ℕ) → s.touched a ≡ touched a

-- ---- words

pub none_words : (count : ℕ) (words : List (Option ℕ)) → length words ≡ count → none_new words ≡ true
    → words ≡ replicate count None
none_words count words size none = ap (λ (i : Items ℕ). i.words)
    (no_items_from {G = ℕ} count (record { words = words; bytes = []; given = None })
    (record { words = size; bytes = tt }) (and_from (list_all is_none words) true none refl))

size_with : (count : ℕ) (own : Option (List (Option ℕ))) (words : List (Option ℕ))
    → IfSome own (λ its_own. length its_own ≡ count) → length words ≡ count → length (words_with own words) ≡ count
size_with count None words its_own size = size
size_with count (Some own) words its_own size = its_own

words_apart : (count : ℕ) (own : Option (List (Option ℕ))) (words wanted : List (Option ℕ)) → length words ≡ count
    → are_placed own words ≡ true → words_with own words ≡ wanted
    → (words ≡ words_placed count (is_some own) wanted) × IfSome own (λ its_own. its_own ≡ wanted)
words_apart count None words wanted size placed is = (is, tt)
words_apart count (Some own) words wanted size placed is = (none_words count words size placed, is)

-- the words of a step that could stand
pub record WordsAre {O G : Type 0} (m : Watch O G) (w : Known) (s : CallStanding) (i : Items G) (o : O) : Type 0 where
  pub new : s.are_new ≡ true
  pub told : changed s.known.words (words_with s.words i.words) ≡ m.words o
  pub words : i.words ≡ words_placed m.count (is_some s.words) (changes w.words (m.words o))
  pub own : IfSome s.words (λ its_own. its_own ≡ changes w.words (m.words o))

pub words_are : {O G : Type 0} (m : Watch O G) (called : O → Option ℕ) (w : Known) (touched : Touched)
    (s : CallStanding) (p : Placed G) (o : O) → IsFaithful m → length w.words ≡ m.count → IsStanding m w touched s
    → AreItems m.count p.items → Went m called s p o → WordsAre m w s p.items o
words_are m called w touched s p o faithful size standing are went =
    let may : (words_stand s p.items ≡ true) × (bytes_stand s p.items ≡ true)
    = and_parts (words_stand s p.items) (bytes_stand s p.items) went.may in
    let parts : (s.are_new ≡ true) × ((are_placed s.words p.items.words
    && all_change s.known.words (words_with s.words p.items.words)) ≡ true)
    = and_parts s.are_new (are_placed s.words p.items.words
    && all_change s.known.words (words_with s.words p.items.words)) may.0 in
    let others : (are_placed s.words p.items.words ≡ true)
    × (all_change s.known.words (words_with s.words p.items.words) ≡ true)
    = and_parts (are_placed s.words p.items.words)
    (all_change s.known.words (words_with s.words p.items.words)) parts.1 in
    let known : length s.known.words ≡ m.count = ap length standing.words_are ∙ size in
    let told : changed s.known.words (words_with s.words p.items.words) ≡ m.words o
    = faithful.words (changed s.known.words (words_with s.words p.items.words))
    (with_bytes p.items.bytes s.known.map) p.items.given o
    (length-changed s.known.words (words_with s.words p.items.words) ∙ known) went.goes in
    let wanted : words_with s.words p.items.words ≡ changes w.words (m.words o)
    = sym (changes-changed s.known.words (words_with s.words p.items.words)
    (size_with m.count s.words p.items.words standing.size are.words ∙ sym known) others.1)
    ∙ ap₂ changes standing.words_are told in
    let apart : (p.items.words ≡ words_placed m.count (is_some s.words) (changes w.words (m.words o)))
    × IfSome s.words (λ its_own. its_own ≡ changes w.words (m.words o))
    = words_apart m.count s.words p.items.words (changes w.words (m.words o)) are.words others.0 wanted in
    record { new = parts.0; told = told; words = apart.0; own = apart.1 }

-- ---- bytes, at one address

pub record OneAddress (item owed seen there : Option ℕ) (touched accessed : Bool) : Type 0 where
  pub item_touched : (b : ℕ) → item ≡ Some b → touched ≡ true
  pub item_seen : (b : ℕ) → item ≡ Some b → is_some seen ≡ true
  pub item_new : (b : ℕ) → item ≡ Some b → not (is_byte (option_or owed there) b) ≡ true
  pub owed_fresh : (b : ℕ) → owed ≡ Some b → touched ≡ false
  pub owed_new : (b : ℕ) → owed ≡ Some b → not (is_byte there b) ≡ true
  pub owed_met : (b : ℕ) → owed ≡ Some b → accessed ≡ true → is_some seen ≡ true
  pub shown : (b : ℕ) → seen ≡ Some b → option_or item (option_or owed there) ≡ Some b
  pub accessed_alone : accessed ≡ false → seen ≡ None

true_false : {P : Type 0} → true ≡ false → P
true_false is = cc

false_true : {P : Type 0} → false ≡ true → P
false_true is = cc

item_there : (item owed seen there : Option ℕ) (touched accessed : Bool)
    → OneAddress item owed seen there touched accessed → item ≡ byte_if touched (missing_byte seen there)
item_there None owed seen there false accessed one = refl
item_there (Some b) owed seen there false accessed one = false_true (one.item_touched b refl)
item_there item None seen there true accessed one =
    item_is_missing item seen there one.item_new one.item_seen one.shown
item_there item (Some b) seen there true accessed one = true_false (one.owed_fresh b refl)

owed_accessed : (owed seen there later : Option ℕ) (accessed : Bool)
    → OneAddress None owed seen there false accessed → later ≡ byte_if (not accessed) owed
    → owed ≡ option_or (missing_byte seen there) later
owed_accessed owed seen there later true one is =
    item_is_missing owed seen there one.owed_new (λ b found. one.owed_met b found refl) one.shown
    ∙ (sym (or_none (missing_byte seen there)) ∙ ap (option_or (missing_byte seen there)) (sym is))
owed_accessed owed seen there later false one is =
    sym is ∙ ap (λ o. option_or (missing_byte o there) later) (sym (one.accessed_alone refl))

none_later : (accessed : Bool) (later : Option ℕ) → later ≡ byte_if (not accessed) None → None ≡ later
none_later true later is = sym is
none_later false later is = sym is

owed_there : (item owed seen there later : Option ℕ) (touched accessed : Bool)
    → OneAddress item owed seen there touched accessed → later ≡ byte_if (not accessed) owed
    → owed ≡ option_or (byte_if (not touched) (missing_byte seen there)) later
owed_there item None seen there later true accessed one is = none_later accessed later is
owed_there item (Some b) seen there later true accessed one is = true_false (one.owed_fresh b refl)
owed_there None owed seen there later false accessed one is = owed_accessed owed seen there later accessed one is
owed_there (Some b) owed seen there later false accessed one is = false_true (one.item_touched b refl)

-- ---- bytes

met_there : (accessed seen : Bool) → (not accessed || seen) ≡ true → accessed ≡ true → seen ≡ true
met_there true seen met is = met
met_there false seen met is = false_true is

pub one_address : {O G : Type 0} (m : Watch O G) (called : O → Option ℕ) (w : Known) (touched : Touched)
    (s : CallStanding) (p : Placed G) (o : O) (a : ℕ) → IsFaithful m → IsStanding m w touched s
    → Went m called s p o → s.are_new ≡ true
    → OneAddress (byte_found p.items.bytes a) (byte_found s.owed a) (byte_found (m.seen o) a) (w.map a) (touched a)
    (accesses m o a)
one_address m called w touched s p o a faithful standing went new =
    let may : (words_stand s p.items ≡ true) × (bytes_stand s p.items ≡ true)
    = and_parts (words_stand s p.items) (bytes_stand s p.items) went.may in
    let parts : (none_stands s.known.map p.items.bytes ≡ true)
    × (list_all (λ e. s.touched e.0) p.items.bytes ≡ true)
    = and_parts (none_stands s.known.map p.items.bytes) (list_all (λ e. s.touched e.0) p.items.bytes) may.1 in
    let shows : Shows (with_bytes p.items.bytes s.known.map) (m.seen o)
    = faithful.seen (changed s.known.words (words_with s.words p.items.words))
    (with_bytes p.items.bytes s.known.map) p.items.given o went.goes in
    record {
      item_touched = λ b found. sym (standing.touched_are a)
          ∙ passes_at (λ e. s.touched e.0) p.items.bytes a b parts.1 found;
      item_seen = λ b found. passes_at (λ i. is_some (byte_found (m.seen o) i.0)) p.items.bytes a b went.there found;
      item_new = λ b found. ap (λ there. not (is_byte there b)) (sym (standing.bytes_are a))
          ∙ passes_at (λ e. not (is_byte (s.known.map e.0) e.1)) p.items.bytes a b parts.0 found;
      owed_fresh = standing.fresh a;
      owed_new = standing.new new a;
      owed_met = λ b found in_it. met_there (accesses m o a) (is_some (byte_found (m.seen o) a))
          (passes_at (λ e. not (accesses m o e.0) || is_some (byte_found (m.seen o) e.0)) s.owed a b went.met found)
          in_it;
      shown = λ b found. ap (option_or (byte_found p.items.bytes a)) (sym (standing.bytes_are a))
          ∙ Shows-at (with_bytes p.items.bytes s.known.map) (m.seen o) a b shows found;
      accessed_alone = not_seen m o a faithful;
    }

bytes_only : {O G : Type 0} (m : Watch O G) (called : O → Option ℕ) (w : Known) (touched : Touched)
    (s : CallStanding) (p : Placed G) (o : O) → IsFaithful m → IsStanding m w touched s → AreItems m.count p.items
    → Went m called s p o → s.are_new ≡ true → p.items.bytes ≡ touched_again touched (missing w.map (m.seen o))
bytes_only m called w touched s p o faithful standing are went new =
    rising_lists_are_one 0 0 p.items.bytes (touched_again touched (missing w.map (m.seen o))) are.bytes
    (BytesRise-filter (λ e. touched e.0) 0 (missing w.map (m.seen o))
    (BytesRise-missing w.map (m.seen o) (faithful.rises o)))
    (λ a. item_there (byte_found p.items.bytes a) (byte_found s.owed a) (byte_found (m.seen o) a) (w.map a) (touched a)
    (accesses m o a) (one_address m called w touched s p o a faithful standing went new)
    ∙ sym (found_again m w touched o a faithful))

pub owed_only : {O G : Type 0} (m : Watch O G) (called : O → Option ℕ) (w : Known) (touched : Touched)
    (s : CallStanding) (p : Placed G) (o : O) (a : ℕ) (later : Option ℕ) → IsFaithful m → IsStanding m w touched s
    → Went m called s p o → s.are_new ≡ true → later ≡ byte_found (still_owed m o s.owed) a
    → byte_found s.owed a
    ≡ option_or (byte_if (not (touched a)) (missing_byte (byte_found (m.seen o) a) (w.map a))) later
owed_only m called w touched s p o a later faithful standing went new is =
    owed_there (byte_found p.items.bytes a) (byte_found s.owed a) (byte_found (m.seen o) a) (w.map a) later (touched a)
    (accesses m o a) (one_address m called w touched s p o a faithful standing went new)
    (is ∙ byte_found-kept (λ a. not (accesses m o a)) s.owed a)

-- ---- the step

pub items_only : {O G : Type 0} (m : Watch O G) (called : O → Option ℕ) (w : Known) (touched : Touched)
    (s : CallStanding) (p : Placed G) (o : O) → IsFaithful m → length w.words ≡ m.count → IsStanding m w touched s
    → AreItems m.count p.items → Went m called s p o → p.items ≡ placed_at m w touched (is_some s.words) o
items_only m called w touched s p o faithful size standing are went =
    let words : WordsAre m w s p.items o = words_are m called w touched s p o faithful size standing are went in
    same_items p.items (placed_at m w touched (is_some s.words) o) words.words
    (bytes_only m called w touched s p o faithful standing are went words.new)
    (faithful.given (changed s.known.words (words_with s.words p.items.words))
    (with_bytes p.items.bytes s.known.map) p.items.given o went.goes)

pub possible_only : {O G : Type 0} (m : Watch O G) (called : O → Option ℕ) (w : Known) (touched : Touched)
    (s : CallStanding) (p : Placed G) (o : O) → IsFaithful m → IsTotal m → length w.words ≡ m.count
    → IsStanding m w touched s → AreItems m.count p.items → Went m called s p o → IsPossible m o
possible_only m called w touched s p o faithful total size standing are went =
    let words : WordsAre m w s p.items o = words_are m called w touched s p o faithful size standing are went in
    let count : length (changed s.known.words (words_with s.words p.items.words)) ≡ m.count
    = length-changed s.known.words (words_with s.words p.items.words) ∙ (ap length standing.words_are ∙ size) in
    let given : p.items.given ≡ m.given o
    = faithful.given (changed s.known.words (words_with s.words p.items.words))
    (with_bytes p.items.bytes s.known.map) p.items.given o went.goes in
    record {
      count = ap length (sym words.told) ∙ count;
      goes = ap₂ (λ ws g. m.step ws (byte_found (m.seen o)) g) (sym words.told) (sym given)
          ∙ faithful.local (changed s.known.words (words_with s.words p.items.words))
          (with_bytes p.items.bytes s.known.map) (byte_found (m.seen o)) p.items.given o count went.goes
          (Shows-from (byte_found (m.seen o)) 0 (m.seen o) (faithful.rises o) (λ a b found. found))
          (ap (list_all (lacks (byte_found (m.seen o)))) (total.none o));
    }
