-- The words of `inspect` tell how many queries they are.
use Rattle.std.proofs.Common.{◌≡◌, ℕ, nat_lt, Bool, true, false, if◌then◌else◌, List, [], ◌∷◌, length, Option, None}
use Rattle.std.proofs.Common.{Some, codes, refl, subst, unwrap_or}
use Rattle.std.specs.Bool.{then_some}
use Rattle.std.specs.Option.{option_and_then, option_map, option_zip}
use Rattle.std.specs.Str.{bytes_eq}
use Rattle.cx_words.specs.Arguments.{one_word, step_count, two_numbers}
use Rattle.cx_words.specs.Number.{number}
use Rattle.cx_words.specs.Parse.{alone, inspect_of, parse, record_of, trace_of}
use Rattle.cx_words.specs.Queries.{queries_behind, queries_of, query_count}
use Rattle.cx_words.specs.declared.command.Command.{Command}
use Rattle.cx_words.specs.declared.command.Command.TheVariants as word
use Rattle.cx_words.specs.declared.question.Query.{Query}

abbrev pub HasQueries : List Query → Option Command → Type 0
HasQueries queries (Some (word.Inspect count)) = count ≡ length queries
HasQueries queries _ = Unit {0}

either : (queries : List Query) (test : Bool) (one other : Option Command) → HasQueries queries one
    → HasQueries queries other → HasQueries queries (if test then one else other)
either queries true one other first second = first
either queries false one other first second = second

mapped : {A : Type 0} (queries : List Query) (f : A → Command) (o : Option A)
    → ((a : A) → HasQueries queries (Some (f a))) → HasQueries queries (option_map f o)
mapped queries f None are = tt
mapped queries f (Some a) are = are a

by_itself : (queries : List Query) (command : Command) (words : List (List ℕ)) → HasQueries queries (Some command)
    → HasQueries queries (alone command words)
unfolding alone
by_itself queries command [] is = is
by_itself queries command (word ∷ more) is = tt

records : (queries : List Query) (words : List (List ℕ)) → HasQueries queries (record_of words)
unfolding record_of
records queries [] = tt
records queries (steps ∷ []) = mapped queries word.Record (step_count steps) (λ n. tt)
records queries (steps ∷ seed ∷ []) =
    mapped queries (λ p. word.RecordSeed p.0 p.1) (option_zip (step_count steps) (number seed)) (λ p. tt)
records queries (steps ∷ seed ∷ other ∷ more) = tt

traces : (queries : List Query) (words : List (List ℕ)) → HasQueries queries (trace_of words)
unfolding trace_of
traces queries [] = tt
traces queries (what ∷ more) =
    either queries (bytes_eq what (codes "all")) _ _ (by_itself queries word.TraceAll more tt)
    (either queries (bytes_eq what (codes "window")) _ _
    (mapped queries (λ p. word.TraceWindow p.0 p.1) (two_numbers more) (λ p. tt))
    (either queries (bytes_eq what (codes "root")) _ _ (mapped queries word.TraceRoot (one_word more) (λ r. tt)) tt))

inspects : (words : List (List ℕ)) → HasQueries (unwrap_or (queries_of words) []) (inspect_of words)
unfolding inspect_of query_count
inspects words = by (queries_of words)
  where
    one : (queries : List Query) (some : Bool)
        → HasQueries queries (then_some some (word.Inspect (length queries)))
    one queries true = refl
    one queries false = tt

    by : (o : Option (List Query)) → HasQueries (unwrap_or o [])
        (option_and_then (λ count. then_some (nat_lt 0 count) (word.Inspect count)) (option_map length o))
    by None = tt
    by (Some queries) = one queries (nat_lt 0 (length queries))

counted : (words : List (List ℕ)) → HasQueries (queries_behind words) (parse words)
counted [] = tt
counted (name ∷ more) =
    let queries = unwrap_or (queries_of more) [] in
    either queries (bytes_eq name (codes "window")) _ _
    (mapped queries (λ p. word.Window p.0 p.1) (two_numbers more) (λ p. tt))
    (either queries (bytes_eq name (codes "process")) _ _ (mapped queries word.Process (one_word more) (λ r. tt))
    (either queries (bytes_eq name (codes "calls")) _ _ (mapped queries word.Calls (one_word more) (λ r. tt))
    (either queries (bytes_eq name (codes "relog")) _ _ (by_itself queries word.Relog more tt)
    (either queries (bytes_eq name (codes "replay")) _ _ (by_itself queries word.Replay more tt)
    (either queries (bytes_eq name (codes "trace")) _ _ (traces queries more)
    (either queries (bytes_eq name (codes "record")) _ _ (records queries more)
    (either queries (bytes_eq name (codes "roots")) _ _ (by_itself queries word.Roots more tt)
    (either queries (bytes_eq name (codes "inspect")) _ _ (inspects more)
    (either queries (bytes_eq name (codes "salvage")) _ _ (by_itself queries word.Salvage more tt)
    (either queries (bytes_eq name (codes "make")) _ _ (mapped queries word.Make (one_word more) (λ n. tt))
    (either queries (bytes_eq name (codes "demo")) _ _ (mapped queries word.Demo (one_word more) (λ n. tt))
    (either queries (bytes_eq name (codes "upgrade")) _ _ (by_itself queries word.Upgrade more tt) tt))))))))))))

-- the words of a command that was read
pub queries_are_counted : (words : List (List ℕ)) (count : ℕ) → parse words ≡ Some (word.Inspect count)
    → count ≡ length (queries_behind words)
queries_are_counted words count is = subst (HasQueries (queries_behind words)) is (counted words)
