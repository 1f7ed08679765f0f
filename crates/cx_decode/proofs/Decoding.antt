-- What is a row's instruction wherever it is there, and isn't there only where no row matches, is what the table gives.
use Rattle.std.proofs.Common.{◌≡◌, ℕ, Bool, true, false, cond, List, [], ◌∷◌, Option, Some, None, IfSome, IfNone, refl}
use Rattle.std.proofs.Common.{eqb-true, eq-eqb}
use Rattle.std.specs.List.{find}
use Rattle.std.specs.Option.{option_map}
use Rattle.cx_decode.specs.Decoding.{all_ops, decoded, is_word_of_row}
use Rattle.cx_decode.specs.Operands.{IsWordOf, ins_of}
use Rattle.cx_decode.specs.Table.{Matches, MatchesNone}
use Rattle.cx_decode.specs.declared.ins.Ins.{Ins}
use Rattle.cx_decode.specs.declared.op.Op.{Op}
use Rattle.cx_decode.proofs.Table.{Each, each, found_of_row}

-- ---- the first row that passes a test

first_passes : (test : Op → Bool) (op : Op) (passes : Bool) (rest : Option Op) → test op ≡ passes
    → IfSome rest (λ o. test o ≡ true) → IfSome (cond passes (Some op) rest) (λ o. test o ≡ true)
first_passes test op true rest is others = is
first_passes test op false rest is others = others

find_passes : (test : Op → Bool) (ops : List Op) → IfSome (find test ops) (λ op. test op ≡ true)
find_passes test [] = tt
find_passes test (op ∷ ops) = first_passes test op (test op) (find test ops) refl (find_passes test ops)

first_fails : (test : Op → Bool) (op : Op) (passes : Bool) (rest : Option Op) → test op ≡ passes
    → cond passes (Some op) rest ≡ None → (test op ≡ false) × (rest ≡ None)
first_fails test op true rest is none = absurd cc
first_fails test op false rest is none = (is, none)

find_fails : (test : Op → Bool) (ops : List Op) → find test ops ≡ None → Each (λ op. test op ≡ false) ops
find_fails test [] none = tt
find_fails test (op ∷ ops) none =
    let parts = first_fails test op (test op) (find test ops) refl none in (parts.0, find_fails test ops parts.1)

-- ---- the instruction of a word

matches_of_test : (word : ℕ) (op : Op) → is_word_of_row word op ≡ true → Matches word op
matches_of_test word op passes = eqb-true _ _ passes

fails_here : (result : Option Ins) (word : ℕ) → ((op : Op) → is_word_of_row word op ≡ false)
    → IfSome result (IsWordOf word) → result ≡ None
fails_here None word fails found = refl
fails_here (Some i) word fails found =
    let passes : is_word_of_row word i.op ≡ true = eq-eqb _ _ found.0 in
    let fail : is_word_of_row word i.op ≡ false = fails i.op in
    absurd cc

of_row : (result : Option Ins) (word : ℕ) (row : Option Op) → find (is_word_of_row word) all_ops ≡ row
    → IfSome row (λ op. is_word_of_row word op ≡ true) → IfSome result (IsWordOf word)
    → IfNone result (MatchesNone word) → result ≡ option_map (λ op. ins_of op word) row
of_row result word None is passes found none =
    fails_here result word (each (λ op. is_word_of_row word op ≡ false) (find_fails (is_word_of_row word) all_ops is))
    found
of_row result word (Some op) is passes found none =
    found_of_row result word op found none (matches_of_test word op passes)

pub decoded_found : (result : Option Ins) (word : ℕ) → IfSome result (IsWordOf word) → IfNone result (MatchesNone word)
    → result ≡ decoded word
unfolding decoded
decoded_found result word found none = of_row result word (find (is_word_of_row word) all_ops) refl
    (find_passes (is_word_of_row word) all_ops) found none
