-- The queries of `inspect`: `state N`, `trap N`, `writer PA N` and `reader PA N`, with a step N and a place PA.
use Rattle.std.specs.Prelude.{ℕ, if◌then◌else◌, List, [], ◌∷◌, length, Option, None, Some, codes, unwrap_or}
use Rattle.std.specs.Option.{option_map, option_zip}
use Rattle.std.specs.Str.{bytes_eq}
use Rattle.cx_words.specs.Arguments.{word_number}
use Rattle.cx_words.specs.Number.{number}
use Rattle.cx_words.specs.declared.question.Query.{Query}
use Rattle.cx_words.specs.declared.question.Query.TheVariants.{State, Writer, Reader, Trap}

-- A query of a step alone.
abbrev pub step_query : List ℕ → List ℕ → Option Query
step_query kind step =
    if bytes_eq kind (codes "state") then option_map State (number step) else
    if bytes_eq kind (codes "trap") then option_map Trap (number step) else None

-- A query of a place and a step.
abbrev pub place_query : List ℕ → List ℕ → List ℕ → Option Query
place_query kind place step =
    if bytes_eq kind (codes "writer") then
    option_map (λ p. Writer p.0 p.1) (option_zip (word_number place) (number step)) else
    if bytes_eq kind (codes "reader") then
    option_map (λ p. Reader p.0 p.1) (option_zip (word_number place) (number step)) else None

-- a query, in front of those behind it
abbrev pub in_front : Query → Option (List Query) → Option (List Query)
in_front query rest = option_map (λ queries. query ∷ queries) rest

-- a query of two words where they are one, and else one of three
abbrev pub either : Option Query → Option (List Query) → Option Query → Option (List Query) → Option (List Query)
either (Some query) behind_two of_three behind_three = in_front query behind_two
either None behind_two (Some query) behind_three = in_front query behind_three
either None behind_two None behind_three = None

-- The queries that the words are, where all of them are queries.
unfoldable pub queries_of : List (List ℕ) → Option (List Query)
queries_of [] = Some []
queries_of (kind ∷ []) = None
queries_of (kind ∷ step ∷ []) = either (step_query kind step) (Some []) None None
queries_of (kind ∷ a ∷ b ∷ rest) =
    either (step_query kind a) (queries_of (b ∷ rest)) (place_query kind a b) (queries_of rest)

-- How many they are.
unfoldable pub query_count : List (List ℕ) → Option ℕ
query_count words = option_map length (queries_of words)

-- The queries behind the name of a command; none where not all of the words are queries.
abbrev pub queries_behind : List (List ℕ) → List Query
queries_behind [] = []
queries_behind (name ∷ arguments) = unwrap_or (queries_of arguments) []
