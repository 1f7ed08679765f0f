-- The words of a group, read one after another.
use Rattle.std.proofs.Common.{◌≡◌, ℕ, zero, suc, ◌+◌, ◌-◌, ◌/◌, ◌%◌, ◌<◌, ◌≢◌, List, [], ◌∷◌, ◌++◌, length, take, set}
use Rattle.std.proofs.Common.{arith, refl, ap, sym, ◌∙◌, Result, Ok, Err, IsSome, Option, Some, append_assoc}
use Rattle.std.proofs.lemmas.List.{take_more_set, take_all, append-nil}
use Rattle.cx_codec.specs.declared.fault.BytesFault.{BytesFault}
use Rattle.cx_codec.specs.Fault.{bytes_met}
use Rattle.cx_codec.specs.Fields.{word_at}
use Rattle.cx_codec.specs.Place.{Place, Reader, done, read_on}
use Rattle.cx_codec.specs.Reads.{Standing, Reads}
use Rattle.cx_codec.proofs.Composing.{fails, goes, gives}
use Rattle.cx_codec.proofs.Midway.{Midway, begin, step, end}
use Rattle.cx_slicefmt.specs.declared.fault.SliceFault.{SliceFault}
use Rattle.cx_slicefmt.specs.Fault.{slice_met}
use Rattle.cx_slicefmt.specs.Reading.{masked_at, present_at, word_by}

-- ---- a word where a bit says so

some_word : (p : Place) → word_by 1 p ≡ read_on (word_at p) (λ w. done (Some w))
some_word p = refl

by_bit : (bit : ℕ) → bit ≢ 0 → (p : Place) → word_by bit p ≡ read_on (word_at p) (λ w. done (Some w))
by_bit zero other p = absurd (other refl)
by_bit (suc n) other p = refl

pub word_given : {old new : Standing} {w : ℕ} (bit : ℕ) → bit ≢ 0 → Reads bytes_met (λ (w : ℕ). w) word_at old new (Ok w)
    → Reads slice_met (λ (word : Option ℕ). word) (word_by bit) old new (Ok (Some w))
word_given bit other first = goes {reader = word_by bit} (λ at w p. done (Some w) p) (by_bit bit other) first
    (gives first.follows.told (λ p. refl))

pub word_missing : {old new : Standing} {e : BytesFault} {e' : SliceFault} (bit : ℕ) → bit ≢ 0
    → slice_met e' ≡ bytes_met e → Reads {X = ℕ} bytes_met (λ (w : ℕ). w) word_at old new (Err e)
    → Reads {X = Option ℕ} slice_met (λ (word : Option ℕ). word) (word_by bit) old new (Err e')
word_missing bit other same first = fails {reader = word_by bit} (λ at w p. done (Some w) p) (by_bit bit other) same first

-- ---- the loop

-- what is left to read where the first i words stand
unfoldable pub words_from : List (Option ℕ) → ℕ → ℕ → Reader (List (Option ℕ))
words_from words i mask p = read_on (present_at (32 - i) mask p) (λ rest. done (take i words ++ rest))

read_done : {A : Type 0} (r : Result (A × Place) ℕ) → r ≡ read_on r (λ x. done x)
read_done (Ok x) = refl
read_done (Err o) = refl

pub assoc : {A B C : Type 0} (r : Result (A × Place) ℕ) (f : A → Reader B) (g : B → Reader C)
    → read_on (read_on r f) g ≡ read_on r (λ x p. read_on (f x p) g)
assoc (Ok x) f g = refl
assoc (Err o) f g = refl

pub items_begin : {old mid : Standing} {mask : ℕ} (words : List (Option ℕ))
    → Reads bytes_met (λ (w : ℕ). w) word_at old mid (Ok mask) → IsSome old.left
    → Midway masked_at old (words_from words 0 mask) mid
unfolding masked_at words_from
items_begin {old} {mid} {mask} words first told =
    step {rest = masked_at} (λ at m. present_at 32 m) (begin old told (λ p. refl)) (λ p. refl)
    (λ q. read_done (present_at 32 mask q)) first

abbrev next_words : List (Option ℕ) → ℕ → ℕ → ℕ → Option ℕ → Reader (List (Option ℕ))
next_words words i mask at item p = read_on (present_at (31 - i) (mask / 2) p) (λ rest. done (take i words ++ (item ∷ rest)))

one_item : (words : List (Option ℕ)) (i mask : ℕ) → i < 32 → (p : Place)
    → words_from words i mask p ≡ read_on (word_by (mask % 2) p) (next_words words i mask p.at)
unfolding words_from
one_item words i mask few p = let left : 32 - i ≡ suc (31 - i) = omega arith in
    rw left (assoc (word_by (mask % 2) p) (λ item q. read_on (present_at (31 - i) (mask / 2) q) (λ rest. done (item ∷ rest)))
    (λ rest. done (take i words ++ rest))
    ∙ ap (λ (f : Option ℕ → Reader (List (Option ℕ))). read_on (word_by (mask % 2) p) f)
    (λ k item q. assoc (present_at (31 - i) (mask / 2) q) (λ rest. done (item ∷ rest))
    (λ rest. done (take i words ++ rest)) k))

put_item : (at : ℕ) (words : List (Option ℕ)) (i mask : ℕ) (item : Option ℕ) → i < 32 → length words ≡ 32 → (q : Place)
    → next_words words i mask at item q ≡ words_from (set words i item) (i + 1) (mask / 2) q
unfolding words_from
put_item at words i mask item few size q =
    let left : 32 - (i + 1) ≡ 31 - i = omega arith in
    rw (left, take_more_set words i item (omega (arith, size)))
    (ap (λ (f : List (Option ℕ) → Reader (List (Option ℕ))). read_on (present_at (31 - i) (mask / 2) q) f)
    (λ k rest p. done (sym (append_assoc (take i words) (item ∷ []) rest) k) p))

pub item_next : {whole : Reader (List (Option ℕ))} {old mid new : Standing} {item : Option ℕ}
    (words : List (Option ℕ)) (i mask : ℕ) → Midway whole old (words_from words i mask) mid → i < 32 → length words ≡ 32
    → Reads slice_met (λ (word : Option ℕ). word) (word_by (mask % 2)) mid new (Ok item)
    → Midway whole old (words_from (set words i item) (i + 1) (mask / 2)) new
item_next {mid = mid} {item = item} words i mask so_far few size call =
    step (next_words words i mask) so_far (one_item words i mask few) (put_item mid.hand.at words i mask item few size) call

pub item_fails : {whole : Reader (List (Option ℕ))} {old mid new : Standing} {e e' : SliceFault}
    (words : List (Option ℕ)) (i mask : ℕ) → Midway whole old (words_from words i mask) mid → i < 32 → slice_met e' ≡ slice_met e
    → Reads {X = Option ℕ} slice_met (λ (word : Option ℕ). word) (word_by (mask % 2)) mid new (Err e)
    → Reads {X = List (Option ℕ)} slice_met (λ (words : List (Option ℕ)). words) whole old new (Err e')
item_fails words i mask so_far few same call =
    end so_far (fails (next_words words i mask) (one_item words i mask few) same call)

pub items_end : {whole : Reader (List (Option ℕ))} {old mid : Standing} (words : List (Option ℕ))
    (i mask : ℕ) → Midway whole old (words_from words i mask) mid → i ≡ 32 → length words ≡ 32
    → Reads slice_met (λ (words : List (Option ℕ)). words) whole old mid (Ok words)
unfolding words_from
items_end words i mask so_far all size =
    end so_far (gives so_far.follows.told (λ p. rw (all, take_all 32 words (omega (arith, size)), append-nil words) refl))
