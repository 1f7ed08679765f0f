-- An observation tells all that its step took.
use Rattle.std.proofs.Common.{◌≡◌, ℕ, ◌%◌, ◌^◌, ◌<◌, ◌==◌, ◌&&◌, Bool, true, false, List, [], ◌∷◌}
use Rattle.std.proofs.Common.{◌++◌, length, slice_index, slice_set, Option, None, Some, is_some, Result, Ok, Err}
use Rattle.std.proofs.Common.{if◌then◌else◌, refl, sym, ap, ap₂, subst, ◌∙◌, eq-eqb, eqb-true, length-set}
use Rattle.std.proofs.lemmas.Bool.{and_from, and_parts}
use Rattle.std.specs.Option.{option_or}
use Rattle.cx_decode.specs.Decoding.{decoded}
use Rattle.cx_decode.specs.declared.ins.Ins.{Ins}
use Rattle.cx_exec.specs.Asking.{ask_of}
use Rattle.cx_exec.specs.Effect.{done_of, effect_of}
use Rattle.cx_exec.specs.Values.{registers_with}
use Rattle.cx_exec.specs.declared.effect.Effect.{Effect}
use Rattle.cx_exec.specs.declared.effect.Misaligned.{Misaligned}
use Rattle.cx_ram.specs.LittleEndian.{loaded, low_bytes}
use Rattle.cx_slices.specs.Bytes.{Byte, Map, Shows, byte_found}
use Rattle.cx_slices.specs.Observed.{IsFaithful, IsPossible, IsTotal}
use Rattle.cx_slices.proofs.Bytes.{BytesRise-sorted, byte_found-sorted}
use Rattle.cx_slices.proofs.Small.{none_is_some}
use Rattle.cx_observe.specs.Asked.{got_of}
use Rattle.cx_observe.specs.Effects.{next_words, program_words, words_after, words_behind}
use Rattle.cx_observe.specs.Possible.{Possible, are_words, is_word, is_word_or_none}
use Rattle.cx_observe.specs.Seeing.{bytes_on, bytes_shown, seen_by, sights}
use Rattle.cx_observe.specs.Stepping.{bytes_given, carrying_out, step_of, ◌>>=◌}
use Rattle.cx_observe.specs.User.{user}
use Rattle.cx_observe.specs.declared.obs.Obs.{Obs}
use Rattle.cx_observe.proofs.Given.{AreGiven, Bound, IsSpelled, are_bytes-low_bytes, bind_some, bytes_given-are}
use Rattle.cx_observe.proofs.Given.{bytes_given-from, four_spell, length-low_bytes, loaded-low_bytes}
use Rattle.cx_observe.proofs.Sights.{Shows-agree, Shows-append, Shows-behind, Shows-front, Shows-from_sorted}
use Rattle.cx_observe.proofs.Sights.{Shows-sorted, Shows-through}
use Rattle.cx_observe.proofs.Stepping.{Took, carrying_out-goes, carrying_out-took}

-- ---- what a step took

-- The observation tells the words, the value and the bytes of its step, and with 32 words it is possible.
pub record TookAll (words : List ℕ) (map : Map) (value : Option ℕ) (o : Obs) : Type 0 where
  pub words_are : words ≡ program_words o.pc o.x
  pub value_is : value ≡ o.value
  pub shows : Shows map (sights o)
  pub possible : length words ≡ 32 → Possible o

in_range : (pc : ℕ) (xs : List ℕ) (value : Option ℕ) → (are_words (pc ∷ xs) && (is_word_or_none value && (pc % 4 == 0))) ≡ true
    → (is_word pc ≡ true) × (are_words xs ≡ true) × (is_word_or_none value ≡ true) × (pc % 4 ≡ 0)
in_range pc xs value test =
    let first : (are_words (pc ∷ xs) ≡ true) × ((is_word_or_none value && (pc % 4 == 0)) ≡ true)
    = and_parts (are_words (pc ∷ xs)) (is_word_or_none value && (pc % 4 == 0)) test in
    let words : (is_word pc ≡ true) × (are_words xs ≡ true) = and_parts (is_word pc) (are_words xs) first.0 in
    let others : (is_word_or_none value ≡ true) × ((pc % 4 == 0) ≡ true)
    = and_parts (is_word_or_none value) (pc % 4 == 0) first.1 in
    (words.0, words.1, others.0, eqb-true (pc % 4) 0 others.1)

shown : (map : Map) (o : Obs) (pc : ℕ) (bs : List ℕ) → bytes_on o.pc (low_bytes 4 o.word) ≡ bytes_on pc bs
    → Shows map (bytes_on pc bs) → Shows map (bytes_shown o.read) → Shows map (sights o)
unfolding sights
shown map o pc bs fetch first second = Shows-append map (bytes_on o.pc (low_bytes 4 o.word)) (bytes_shown o.read)
    (subst (Shows map) (sym fetch) first) second

took_all : (pc : ℕ) (xs : List ℕ) (map : Map) (value : Option ℕ) (bs : List ℕ) (o : Obs)
    → (are_words (pc ∷ xs) && (is_word_or_none value && (pc % 4 == 0))) ≡ true → AreGiven map pc 4 bs
    → Took pc (0 ∷ xs) map value (loaded bs 0 4) o → TookAll (pc ∷ xs) map value o
took_all pc xs map value bs o test given took =
    let range : (is_word pc ≡ true) × (are_words xs ≡ true) × (is_word_or_none value ≡ true) × (pc % 4 ≡ 0)
    = in_range pc xs value test in
    let spelled : IsSpelled bs = four_spell bs given.size given.are in
    let fetch : bytes_on o.pc (low_bytes 4 o.word) ≡ bytes_on pc bs
    = ap₂ (λ a w. bytes_on a (low_bytes 4 w)) took.pc_is took.word_is ∙ ap (bytes_on pc) spelled.back in
    let shows : Shows map (sights o) = shown map o pc bs fetch given.shows took.shows in
    record {
      words_are = rw (took.pc_is, took.x_is) refl;
      value_is = sym took.value_is;
      shows = shows;
      possible = λ size. record {
        pc = ap is_word took.pc_is ∙ range.0;
        count = ap length took.x_is ∙ size;
        zero = ap (λ (x : List ℕ). slice_index x 0) took.x_is;
        words = ap are_words took.x_is ∙ range.1;
        word = subst (λ (w : ℕ). w < 2 ^ 32) (sym took.word_is) spelled.fits;
        value = ap is_word_or_none took.value_is ∙ range.2;
        aligned = ap (λ (a : ℕ). a % 4) took.pc_is ∙ range.3;
        agree = Shows-agree map (sights o) shows;
        does = took.does;
      };
    }

took_by : (pc : ℕ) (xs : List ℕ) (map : Map) (value : Option ℕ) (o : Obs) (t : Bool)
    → (are_words (pc ∷ xs) && (is_word_or_none value && (pc % 4 == 0))) ≡ t
    → (if t then bytes_given map pc 4 >>= (λ bytes. carrying_out pc (0 ∷ xs) map value (loaded bytes 0 4)) else None)
    ≡ Some o → TookAll (pc ∷ xs) map value o
took_by pc xs map value o true test went =
    let got : Bound (bytes_given map pc 4) (λ bytes. carrying_out pc (0 ∷ xs) map value (loaded bytes 0 4)) o
    = bind_some (bytes_given map pc 4) (λ bytes. carrying_out pc (0 ∷ xs) map value (loaded bytes 0 4)) o went in
    took_all pc xs map value got.value o test (bytes_given-are map pc 4 got.value got.is)
    (carrying_out-took pc (0 ∷ xs) map value (loaded got.value 0 4) o got.goes)
took_by pc xs map value o false test went = none_is_some o went

pub step_of-took : (words : List ℕ) (map : Map) (value : Option ℕ) (o : Obs) → step_of words map value ≡ Some o
    → TookAll words map value o
unfolding step_of
step_of-took [] map value o went = none_is_some o went
step_of-took (pc ∷ xs) map value o went = took_by pc xs map value o
    (are_words (pc ∷ xs) && (is_word_or_none value && (pc % 4 == 0))) refl went

-- ---- a possible step goes

fetch_given : (map : Map) (pc word : ℕ) → Shows map (bytes_on pc (low_bytes 4 word))
    → bytes_given map pc 4 ≡ Some (low_bytes 4 word)
fetch_given map pc word shows = ap (bytes_given map pc) (sym (length-low_bytes 4 word))
    ∙ bytes_given-from map pc (low_bytes 4 word) shows (are_bytes-low_bytes 4 word)

step_goes : (map : Map) (o : Obs) (x : List ℕ) → o.x ≡ x → length x ≡ 32 → slice_index x 0 ≡ 0 → are_words x ≡ true
    → Possible o → Shows map (bytes_on o.pc (low_bytes 4 o.word)) → Shows map (bytes_shown o.read)
    → step_of (program_words o.pc x) map o.value ≡ Some o
unfolding step_of
step_goes map o [] is size x0 words possible first second = absurd (cc)
step_goes map o (z ∷ xs) is size x0 words possible first second =
    let parts : (is_word z ≡ true) × (are_words xs ≡ true) = and_parts (is_word z) (are_words xs) words in
    let test : (are_words (o.pc ∷ xs) && (is_word_or_none o.value && (o.pc % 4 == 0))) ≡ true
    = and_from (are_words (o.pc ∷ xs)) (is_word_or_none o.value && (o.pc % 4 == 0))
    (and_from (is_word o.pc) (are_words xs) possible.pc parts.1)
    (and_from (is_word_or_none o.value) (o.pc % 4 == 0) possible.value (eq-eqb (o.pc % 4) 0 possible.aligned)) in
    let regs : 0 ∷ xs ≡ o.x = ap (λ (n : ℕ). n ∷ xs) (sym x0) ∙ sym is in
    ap (λ t. if t then bytes_given map o.pc 4 >>= (λ bytes. carrying_out o.pc (0 ∷ xs) map o.value (loaded bytes 0 4))
    else None) test
    ∙ (ap (λ b. b >>= (λ bytes. carrying_out o.pc (0 ∷ xs) map o.value (loaded bytes 0 4)))
    (fetch_given map o.pc o.word first)
    ∙ (ap₂ (λ x w. carrying_out o.pc x map o.value w) regs (loaded-low_bytes o.word possible.word)
    ∙ carrying_out-goes map o possible.does second))

pub step_of-goes : (map : Map) (o : Obs) → Possible o → Shows map (sights o)
    → step_of (program_words o.pc o.x) map o.value ≡ Some o
unfolding sights
step_of-goes map o possible shows = step_goes map o o.x refl possible.count possible.zero possible.words possible
    (Shows-front map (bytes_on o.pc (low_bytes 4 o.word)) (bytes_shown o.read) shows)
    (Shows-behind map (bytes_on o.pc (low_bytes 4 o.word)) (bytes_shown o.read) shows)

-- ---- how many words it leaves

pub length-program_words : (pc : ℕ) (x : List ℕ) → length (program_words pc x) ≡ length x
length-program_words pc [] = refl
length-program_words pc (x ∷ xs) = refl

length-registers_with : (x : List ℕ) (rd value : ℕ) → length (registers_with x rd value) ≡ length x
length-registers_with x rd value = by_test (rd == 0)
  where
    by_test : (t : Bool) → length (if t then x else slice_set x rd value) ≡ length x
    by_test true = refl
    by_test false = length-set x rd value

length-words_after : (o : Obs) (effect : Result Effect Misaligned) → length (words_after o (done_of o.x effect))
    ≡ length o.x
length-words_after o (Ok e) = length-program_words e.pc (registers_with o.x e.rd e.value)
    ∙ length-registers_with o.x e.rd e.value
length-words_after o (Err m) = length-program_words o.pc o.x

length-words_behind : (o : Obs) (row : Option Ins) → length (words_behind o row) ≡ length o.x
length-words_behind o None = length-program_words o.pc o.x
length-words_behind o (Some i) = length-words_after o
    (effect_of i o.pc o.x (got_of (ask_of i o.pc o.x) o.read o.value))

pub length-next_words : (o : Obs) → length (next_words o) ≡ length o.x
unfolding next_words
length-next_words o = length-words_behind o (decoded o.word)

-- ---- the law

pub byte_found-append : (es fs : List Byte) (a : ℕ) → byte_found (es ++ fs) a ≡ option_or (byte_found es a) (byte_found fs a)
byte_found-append [] fs a = refl
byte_found-append (e ∷ es) fs a = by_test (e.0 == a) (byte_found-append es fs a)
  where
    by_test : (t : Bool) → byte_found (es ++ fs) a ≡ option_or (byte_found es a) (byte_found fs a)
        → (if t then Some e.1 else byte_found (es ++ fs) a)
        ≡ option_or (if t then Some e.1 else byte_found es a) (byte_found fs a)
    by_test true rest = refl
    by_test false rest = rest

some_behind : (first second : Option ℕ) → is_some second ≡ true → is_some (option_or first second) ≡ true
some_behind None second there = there
some_behind (Some x) second there = refl

pub user_is_faithful : IsFaithful user
user_is_faithful = record {
  words = λ words map given o size went. (step_of-took words map given o went).words_are;
  given = λ words map given o went. (step_of-took words map given o went).value_is;
  seen = λ words map given o went. Shows-sorted map (sights o) (step_of-took words map given o went).shows;
  absent = λ words map given o went. refl;
  local = λ words map other given o size went shows misses.
      let took : TookAll words map given o = step_of-took words map given o went in
      ap₂ (λ ws v. step_of ws other v) took.words_are took.value_is
      ∙ step_of-goes other o (took.possible size)
      (Shows-from_sorted other (sights o) (took.possible size).agree shows);
  next = λ o possible. length-next_words o ∙ (sym (length-program_words o.pc o.x) ∙ possible.count);
  rises = λ o. BytesRise-sorted (sights o);
  leaves = λ o a there. ap is_some (byte_found-append (bytes_shown o.write) (seen_by o) a)
      ∙ some_behind (byte_found (bytes_shown o.write) a) (byte_found (seen_by o) a) there;
}

pub user_is_total : IsTotal user
user_is_total = record { none = λ o. refl }

pub possible_by_itself : (o : Obs) → Possible o → IsPossible user o
possible_by_itself o possible = record {
  count = length-program_words o.pc o.x ∙ possible.count;
  goes = step_of-goes (byte_found (seen_by o)) o possible
      (Shows-through (byte_found (sights o)) (byte_found (seen_by o)) (sights o)
      (λ a b found. byte_found-sorted (sights o) a ∙ found) possible.agree);
}

pub possible_again : (o : Obs) → IsPossible user o → Possible o
possible_again o possible =
    (step_of-took (program_words o.pc o.x) (byte_found (seen_by o)) o.value o possible.goes).possible possible.count
