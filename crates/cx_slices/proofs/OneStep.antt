-- One step of a run alone: it goes with the items of its observation, and with no others.
use Rattle.std.proofs.Common.{◌≡◌, ℕ, Bool, true, false, List, length, Option, None, Some, is_some, option_and_then}
use Rattle.std.proofs.Common.{if◌then◌else◌, refl, sym, ap, ap₂, ◌∙◌}
use Rattle.std.proofs.lemmas.Bool.{and_from, and_parts}
use Rattle.std.specs.Option.{option_or}
use Rattle.cx_slices.specs.Alone.{all_new, if_seen, step_alone}
use Rattle.cx_slices.specs.Bytes.{Byte, Map, Shows, all_there, byte_found, missing, none_stands, with_bytes}
use Rattle.cx_slices.specs.Items.{AreItems, Items, Known, items_at}
use Rattle.cx_slices.specs.Observed.{IsFaithful, IsPossible, Watch, misses}
use Rattle.cx_slices.specs.Runs.{FollowsOn}
use Rattle.cx_slices.specs.Words.{all_change, changed, changes}
use Rattle.cx_slices.proofs.Bytes.{Shows-at, Shows-from}
use Rattle.cx_slices.proofs.Missing.{BytesRise-missing, Shows-missing, all_lack_fewer, all_there-missing}
use Rattle.cx_slices.proofs.Missing.{missing-only, missing_alike, none_stands-missing}
use Rattle.cx_slices.proofs.Words.{all_change-changes, changed-changes, changes-changed, length-changed, length-changes}
use Rattle.cx_slices.proofs.Small.{none_is_some, some_is_same}

-- ---- with the items of its observation a step goes

step_of_items : {O G : Type 0} (m : Watch O G) (w : Known) (o : O) → IsFaithful m → FollowsOn m w o
    → m.step (m.words o) (with_bytes (missing w.map (m.seen o)) w.map) (m.given o) ≡ Some o
step_of_items m w o faithful follows =
    faithful.local (m.words o) (byte_found (m.seen o)) (with_bytes (missing w.map (m.seen o)) w.map) (m.given o) o
    follows.possible.count follows.possible.goes (Shows-missing w.map (m.seen o) (faithful.rises o))
    (all_lack_fewer (with_bytes (m.seen o) w.map) (with_bytes (missing w.map (m.seen o)) w.map) (m.absent o)
    (λ a there. sym (missing_alike w.map (m.seen o) (faithful.rises o) a) ∙ there)
    follows.misses)

went : {O : Type 0} (new there : Bool) (stepped : Option O) (see : O → Option O) (o : O) → new ≡ true
    → stepped ≡ Some o → see o ≡ Some o → (if new then option_and_then see stepped else None) ≡ Some o
went new there stepped see o is_new goes sees = rw (is_new, goes) sees

alone_from : {O G : Type 0} (m : Watch O G) (w : Known) (i : Items G) (o : O) → all_new w i ≡ true
    → m.step (changed w.words i.words) (with_bytes i.bytes w.map) i.given ≡ Some o
    → all_there (m.seen o) i.bytes ≡ true → step_alone m w i ≡ Some o
alone_from m w i o new goes there = went (all_new w i) true
    (m.step (changed w.words i.words) (with_bytes i.bytes w.map) i.given) (if_seen m i.bytes) o new goes
    (ap (λ t. if t then Some o else None) there)

pub step_alone-items_at : {O G : Type 0} (m : Watch O G) (w : Known) (o : O) → IsFaithful m
    → length w.words ≡ m.count → FollowsOn m w o → step_alone m w (items_at m w o) ≡ Some o
step_alone-items_at m w o faithful size follows = alone_from m w (items_at m w o) o
    (and_from (all_change w.words (changes w.words (m.words o))) (none_stands w.map (missing w.map (m.seen o)))
    (all_change-changes w.words (m.words o)) (none_stands-missing w.map (m.seen o) (faithful.rises o)))
    (ap (λ ws. m.step ws (with_bytes (missing w.map (m.seen o)) w.map) (m.given o))
    (changed-changes w.words (m.words o) (size ∙ sym follows.possible.count))
    ∙ step_of_items m w o faithful follows)
    (all_there-missing w.map (m.seen o) (faithful.rises o))

pub AreItems-items_at : {O G : Type 0} (m : Watch O G) (w : Known) (o : O) → IsFaithful m
    → length w.words ≡ m.count → IsPossible m o → AreItems m.count (items_at m w o)
AreItems-items_at m w o faithful size possible = record {
  words = length-changes w.words (m.words o) (size ∙ sym possible.count) ∙ possible.count;
  bytes = BytesRise-missing w.map (m.seen o) (faithful.rises o);
}

-- ---- what a step alone had

-- The items were new, the step went with them, and it saw their bytes.
pub record GoesAlone {O G : Type 0} (m : Watch O G) (w : Known) (i : Items G) (o : O) : Type 0 where
  pub new : all_new w i ≡ true
  pub goes : m.step (changed w.words i.words) (with_bytes i.bytes w.map) i.given ≡ Some o
  pub there : all_there (m.seen o) i.bytes ≡ true

if_seen-is : {O G : Type 0} (m : Watch O G) (bytes : List Byte) (p o : O) (there : Bool)
    → all_there (m.seen p) bytes ≡ there → (if there then Some p else None) ≡ Some o
    → (p ≡ o) × (all_there (m.seen p) bytes ≡ true)
if_seen-is m bytes p o true is saw = (some_is_same p o saw, is)
if_seen-is m bytes p o false is saw = none_is_some o saw

went_on : {O G : Type 0} (m : Watch O G) (bytes : List Byte) (stepped : Option O) (o : O)
    → option_and_then (if_seen m bytes) stepped ≡ Some o
    → (stepped ≡ Some o) × (all_there (m.seen o) bytes ≡ true)
went_on m bytes None o saw = none_is_some o saw
went_on m bytes (Some p) o saw =
    let both : (p ≡ o) × (all_there (m.seen p) bytes ≡ true)
    = if_seen-is m bytes p o (all_there (m.seen p) bytes) refl saw in
    (ap {B = Option _} Some both.0, ap (λ q. all_there (m.seen q) bytes) (sym both.0) ∙ both.1)

went_new : {O G : Type 0} (m : Watch O G) (w : Known) (i : Items G) (o : O) (new : Bool) → all_new w i ≡ new
    → (if new then option_and_then (if_seen m i.bytes)
    (m.step (changed w.words i.words) (with_bytes i.bytes w.map) i.given) else None) ≡ Some o
    → GoesAlone m w i o
went_new m w i o true is went =
    let both : (m.step (changed w.words i.words) (with_bytes i.bytes w.map) i.given ≡ Some o)
    × (all_there (m.seen o) i.bytes ≡ true)
    = went_on m i.bytes (m.step (changed w.words i.words) (with_bytes i.bytes w.map) i.given) o went in
    record { new = is; goes = both.0; there = both.1 }
went_new m w i o false is went = none_is_some o went

pub step_alone-goes : {O G : Type 0} (m : Watch O G) (w : Known) (i : Items G) (o : O) → step_alone m w i ≡ Some o
    → GoesAlone m w i o
step_alone-goes m w i o goes = went_new m w i o (all_new w i) refl goes

-- ---- it goes with no other items

-- The observation follows on, and the items are its own.
pub record IsOnly {O G : Type 0} (m : Watch O G) (w : Known) (i : Items G) (o : O) : Type 0 where
  pub follows : FollowsOn m w o
  pub items : i ≡ items_at m w o

pub same_items : {G : Type 0} (i j : Items G) → i.words ≡ j.words → i.bytes ≡ j.bytes → i.given ≡ j.given → i ≡ j
same_items i j words bytes given = rw (words, bytes, given) refl

shown_is_there : (map : Map) (es : List Byte) → Shows map es → (a : ℕ) → is_some (byte_found es a) ≡ true
    → is_some (map a) ≡ true
shown_is_there map es shows a there = by_found (byte_found es a) refl there
  where
    by_found : (found : Option ℕ) → byte_found es a ≡ found → is_some found ≡ true → is_some (map a) ≡ true
    by_found None is some = cc
    by_found (Some b) is some = ap is_some (Shows-at map es a b shows is)

-- A map that shows the bytes seen has bytes wherever these, put over what is below it, have them.
no_more : (seen handed below : Option ℕ) → (is_some seen ≡ true → is_some (option_or handed below) ≡ true)
    → is_some (option_or seen below) ≡ true → is_some (option_or handed below) ≡ true
no_more None None below shown there = there
no_more None (Some b) below shown there = refl
no_more (Some s) handed below shown there = shown refl

pub step_alone-only : {O G : Type 0} (m : Watch O G) (w : Known) (i : Items G) (o : O) → IsFaithful m
    → length w.words ≡ m.count → AreItems m.count i → step_alone m w i ≡ Some o → IsOnly m w i o
step_alone-only m w i o faithful size are alone =
    let went : GoesAlone m w i o = step_alone-goes m w i o alone in
    let new : (all_change w.words i.words ≡ true) × (none_stands w.map i.bytes ≡ true)
    = and_parts (all_change w.words i.words) (none_stands w.map i.bytes) went.new in
    let count : length (changed w.words i.words) ≡ m.count = length-changed w.words i.words ∙ size in
    let words : changed w.words i.words ≡ m.words o
    = faithful.words (changed w.words i.words) (with_bytes i.bytes w.map) i.given o count went.goes in
    let given : i.given ≡ m.given o
    = faithful.given (changed w.words i.words) (with_bytes i.bytes w.map) i.given o went.goes in
    let shows : Shows (with_bytes i.bytes w.map) (m.seen o)
    = faithful.seen (changed w.words i.words) (with_bytes i.bytes w.map) i.given o went.goes in
    let absent : misses m (with_bytes i.bytes w.map) o ≡ true
    = faithful.absent (changed w.words i.words) (with_bytes i.bytes w.map) i.given o went.goes in
    record {
      follows = follows_on words given shows absent went.goes count;
      items = same_items i (items_at m w o)
          (sym (changes-changed w.words i.words (are.words ∙ sym size) new.0) ∙ ap (changes w.words) words)
          (missing-only w.map i.bytes (m.seen o) are.bytes (faithful.rises o) new.1 went.there shows)
          given;
    }
  where
    itself : Shows (byte_found (m.seen o)) (m.seen o)
    itself = Shows-from (byte_found (m.seen o)) 0 (m.seen o) (faithful.rises o) (λ a b found. found)

    follows_on : changed w.words i.words ≡ m.words o → i.given ≡ m.given o
        → Shows (with_bytes i.bytes w.map) (m.seen o) → misses m (with_bytes i.bytes w.map) o ≡ true
        → m.step (changed w.words i.words) (with_bytes i.bytes w.map) i.given ≡ Some o
        → length (changed w.words i.words) ≡ m.count → FollowsOn m w o
    follows_on words given shows absent goes count = record {
      possible = record {
        count = ap length (sym words) ∙ count;
        goes = ap₂ (λ ws g. m.step ws (byte_found (m.seen o)) g) (sym words) (sym given)
            ∙ faithful.local (changed w.words i.words) (with_bytes i.bytes w.map) (byte_found (m.seen o)) i.given o count
            goes itself
            (all_lack_fewer (with_bytes i.bytes w.map) (byte_found (m.seen o)) (m.absent o)
            (shown_is_there (with_bytes i.bytes w.map) (m.seen o) shows) absent);
      };
      misses = all_lack_fewer (with_bytes i.bytes w.map) (with_bytes (m.seen o) w.map) (m.absent o)
          (λ a. no_more (byte_found (m.seen o) a) (byte_found i.bytes a) (w.map a)
          (shown_is_there (with_bytes i.bytes w.map) (m.seen o) shows a)) absent;
    }
