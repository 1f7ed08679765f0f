-- A step goes by the word that was fetched.
use Rattle.std.proofs.Common.{◌≡◌, ℕ, suc, ◌%◌, ◌^◌, ◌<◌, ◌==◌, ◌&&◌, Bool, true, List, [], ◌∷◌, length, get_or}
use Rattle.std.proofs.Common.{slice_set, Option, None, Some, IfSome, if◌then◌else◌, refl, sym, ap, ap₂, ◌∙◌, arith}
use Rattle.std.proofs.Common.{eq-eqb, lt-ltb, w32}
use Rattle.std.proofs.lemmas.Bool.{and_from}
use Rattle.std.specs.Int.{from_le_bytes}
use Rattle.std.specs.Prelude.{slice_index_or}
use Rattle.std.specs.Option.{option_map}
use Rattle.cx_hart.specs.Touches.{padded}
use Rattle.cx_ram.specs.LittleEndian.{loaded}
use Rattle.cx_slices.specs.Bytes.{Map}
use Rattle.cx_observe.specs.Possible.{Possible, are_words, is_word, is_word_or_none}
use Rattle.cx_observe.specs.Stepping.{bytes_given, carrying_out, step_of, ◌>>=◌}
use Rattle.cx_observe.specs.Seeing.{seen_with}
use Rattle.cx_observe.specs.declared.obs.Obs.{Obs}
use Rattle.cx_observe.specs.declared.obs.Seen.{Seen}
use Rattle.cx_observe.proofs.Faithful.{step_of-took}
use Rattle.cx_observe.proofs.Given.{bytes_given-are}
use Rattle.cx_program.proofs.Numbers.{of_all}

all_words : (ws : List ℕ) → ((k : ℕ) → get_or ws k 0 < 2 ^ 32) → are_words ws ≡ true
all_words [] fit = refl
all_words (w ∷ ws) fit = and_from (is_word w) (are_words ws) (lt-ltb w (2 ^ 32) (fit 0)) (all_words ws (λ k. fit (suc k)))

given_fits : (value : Option ℕ) → IfSome value (λ v. v < 2 ^ 32) → is_word_or_none value ≡ true
given_fits None fits = refl
given_fits (Some v) fits = lt-ltb v (2 ^ 32) fits

pub fetched : (words : List ℕ) (map : Map) (given : Option ℕ) (bytes x : List ℕ) (word : ℕ)
    (stepped : Option Obs) → length words ≡ 32 → ((k : ℕ) → get_or words k 0 < 2 ^ 32) → IfSome given (λ v. v < 2 ^ 32)
    → slice_index_or words 0 0 % 4 ≡ 0 → Some bytes ≡ bytes_given map (slice_index_or words 0 0) 4 → length bytes ≡ 4
    → x ≡ slice_set words 0 0 → word ≡ from_le_bytes w32 bytes
    → stepped ≡ carrying_out (slice_index_or words 0 0) x map given word
    → stepped ≡ step_of words map given
unfolding step_of
fetched [] map given bytes x word stepped size fit fits aligned got four regs is went = absurd (omega (arith, size))
fetched (pc ∷ xs) map given bytes x word stepped size fit fits aligned got four regs is went =
    let test : (are_words (pc ∷ xs) && (is_word_or_none given && (pc % 4 == 0))) ≡ true
    = and_from (are_words (pc ∷ xs)) (is_word_or_none given && (pc % 4 == 0)) (all_words (pc ∷ xs) fit)
    (and_from (is_word_or_none given) (pc % 4 == 0) (given_fits given fits) (eq-eqb (pc % 4) 0 aligned)) in
    went ∙ (ap₂ (λ r w. carrying_out pc r map given w) regs (is ∙ of_all bytes 4 four (omega arith))
    ∙ (ap (λ b. b >>= (λ bs. carrying_out pc (0 ∷ xs) map given (loaded bs 0 4))) got
    ∙ sym (ap (λ (t : Bool). if t then bytes_given map pc 4
    >>= (λ bs. carrying_out pc (0 ∷ xs) map given (loaded bs 0 4)) else None) test)))

-- What is read has as many bytes as were asked for.
pub seen_sized : (map : Map) (va len : ℕ) (four : List ℕ) → Some four ≡ option_map (padded 4) (bytes_given map va len)
    → Some (record { va = va; len = len; bytes = four }) ≡ option_map (seen_with va) (bytes_given map va len)
seen_sized map va len four is = by_given (bytes_given map va len) refl is
  where
    by_given : (given : Option (List ℕ)) → bytes_given map va len ≡ given → Some four ≡ option_map (padded 4) given
        → ◌≡◌ {A = Option Seen} (Some (record { va = va; len = len; bytes = four })) (option_map (seen_with va) given)
    by_given None got is = absurd (cc)
    by_given (Some bs) got is =
        let same : four ≡ padded 4 bs = cc in
        let size : length bs ≡ len = (bytes_given-are map va len bs got).size in
        ap₂ (λ (n : ℕ) (b : List ℕ). Some (record { va = va; len = n; bytes = b })) (sym size) same

-- What a step shows is possible.
pub is_possible : (words : List ℕ) (map : Map) (given : Option ℕ) (stepped : Option Obs) → length words ≡ 32
    → stepped ≡ step_of words map given → IfSome stepped Possible
is_possible words map given None size is = tt
is_possible words map given (Some o) size is = (step_of-took words map given o (sym is)).possible size
