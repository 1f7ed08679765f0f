-- How the queries go on behind the first of them.
use Rattle.std.proofs.Common.{◌≡◌, ℕ, zero, suc, ◌+◌, ◌<◌, ◌≤◌, List, [], ◌∷◌, length, get_or, take, drop, map, take_all, ◌-◌}
use Rattle.std.proofs.Common.{Option, None, Some, refl, arith, unwrap_or, ap, slice_get, ◌∙◌}
use Rattle.std.specs.Option.{option_map}
use Rattle.cx_words.specs.Queries.{in_front, queries_behind, queries_of, step_query}
use Rattle.cx_words.specs.declared.question.Query.{Query}

pub behind_step : (kind step : List ℕ) (rest : List (List ℕ)) (query : Query) → step_query kind step ≡ Some query
    → queries_of (kind ∷ step ∷ rest) ≡ in_front query (queries_of rest)
unfolding queries_of
behind_step kind step [] query e = rw e refl
behind_step kind step (b ∷ rest) query e = rw e refl

pub one_word_alone : (kind : List ℕ) → queries_of (kind ∷ []) ≡ None
unfolding queries_of
one_word_alone kind = refl

-- ---- the same of words that have these texts

pub after_step : {X : Type 0} (text : X → List ℕ) (words : List X) (kind step : X) (query : Query) → 2 ≤ length words
    → kind ≡ get_or words 0 kind → step ≡ get_or words 1 step → step_query (text kind) (text step) ≡ Some query
    → queries_of (map text words) ≡ in_front query (queries_of (map text (take (length words - 2) (drop 2 words))))
after_step text [] kind step query many k s e = absurd (omega arith)
after_step text (a ∷ []) kind step query many k s e = absurd (omega arith)
after_step text (a ∷ b ∷ rest) kind step query many k s e =
    let same : take (length (a ∷ b ∷ rest) - 2) rest ≡ rest = take_all (length (a ∷ b ∷ rest) - 2) rest (omega arith) in
    let tested : step_query (text a) (text b) ≡ Some query = rw (← k, ← s) e in
    rw same (behind_step (text a) (text b) (map text rest) query tested)

pub none_of_one : {X : Type 0} (text : X → List ℕ) (words : List X) → 0 < length words → length words < 2
    → queries_of (map text words) ≡ None
none_of_one text [] some few = absurd (omega arith)
none_of_one text (a ∷ []) some few = one_word_alone (text a)
none_of_one text (a ∷ b ∷ rest) some few = absurd (omega arith)

-- ---- one more

pub count_more : (query : Query) (rest : Option (List Query)) (n : ℕ)
    → option_map (λ m. n + m) (option_map length (in_front query rest))
    ≡ option_map (λ m. n + 1 + m) (option_map length rest)
count_more query None n = refl
count_more query (Some queries) n = ap Some (omega arith)

nothing_left : (queries : List Query) (i : ℕ) → [] ≡ drop i queries → i < length queries → ⊥
nothing_left [] i e few = absurd (omega arith)
nothing_left (x ∷ xs) zero e few = cc
nothing_left (x ∷ xs) (suc i) e few = nothing_left xs i e (omega arith)

behind_first : (query : Query) (more queries : List Query) (i : ℕ) → query ∷ more ≡ drop i queries → i < length queries
    → more ≡ drop (suc i) queries
behind_first query more [] i e few = absurd (omega arith)
behind_first query more (x ∷ xs) zero e few = cc
behind_first query more (x ∷ xs) (suc i) e few = behind_first query more xs i e (omega arith)

pub drop_more : (query : Query) (rest : Option (List Query)) (queries : List Query) (i : ℕ)
    → unwrap_or (in_front query rest) [] ≡ drop i queries → i < length queries
    → unwrap_or rest [] ≡ drop (i + 1) queries
drop_more query None queries i is below = absurd (nothing_left queries i is below)
drop_more query (Some more) queries i is below =
    let next : suc i ≡ i + 1 = omega arith in
    behind_first query more queries i is below ∙ ap (λ (n : ℕ). drop n queries) next

-- ---- one by one

some_left : (queries : List Query) (i : ℕ) → i < length queries → 0 < length (drop i queries)
some_left [] i few = absurd (omega arith)
some_left (x ∷ xs) zero few = omega arith
some_left (x ∷ xs) (suc i) few = some_left xs i (omega arith)

first_left : (query : Query) (more queries : List Query) (i : ℕ) → query ∷ more ≡ drop i queries → i < length queries
    → slice_get queries i ≡ Some query
first_left query more [] i e few = absurd (omega arith)
first_left query more (x ∷ xs) zero e few = cc
first_left query more (x ∷ xs) (suc i) e few = first_left query more xs i e (omega arith)

pub query_left : (rest : Option (List Query)) (queries : List Query) (i : ℕ)
    → unwrap_or rest [] ≡ drop i queries → i < length queries → 0 < length (unwrap_or rest [])
query_left rest queries i is below = rw is (some_left queries i below)

pub query_at : (query : Query) (rest : Option (List Query)) (queries : List Query) (i : ℕ)
    → unwrap_or (in_front query rest) [] ≡ drop i queries → i < length queries → slice_get queries i ≡ Some query
query_at query None queries i is below = absurd (nothing_left queries i is below)
query_at query (Some more) queries i is below = first_left query more queries i is below

-- the arguments of a command
pub behind_name : {X : Type 0} (text : X → List ℕ) (words : List X) → 1 ≤ length words
    → queries_behind (map text words)
    ≡ unwrap_or (queries_of (map text (take (length words - 1) (drop 1 words)))) []
behind_name text [] some = absurd (omega arith)
behind_name text (a ∷ rest) some =
    let same : take (length (a ∷ rest) - 1) rest ≡ rest = take_all (length (a ∷ rest) - 1) rest (omega arith) in
    rw same refl

pub ruleset one_by_one = (drop_more, query_left, query_at)
