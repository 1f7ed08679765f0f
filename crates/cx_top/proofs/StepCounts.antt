-- The words of `record` tell 1 to 2^27 steps.
use Rattle.std.proofs.Common.{◌≡◌, ℕ, ◌^◌, ◌<◌, ◌≤◌, ◌&&◌, nat_le, nat_lt, Bool, true, false, if◌then◌else◌, List, []}
use Rattle.std.proofs.Common.{◌∷◌, Option}
use Rattle.std.proofs.Common.{None, Some, codes, refl, subst, arith}
use Rattle.std.proofs.lemmas.Bool.{leb-true}
use Rattle.std.specs.Bool.{then_some}
use Rattle.std.specs.Option.{option_and_then, option_map, option_zip}
use Rattle.std.specs.Str.{bytes_eq}
use Rattle.cx_words.specs.Arguments.{one_word, step_count, two_numbers}
use Rattle.cx_words.specs.Number.{number}
use Rattle.cx_words.specs.Parse.{alone, inspect_of, parse, record_of, trace_of}
use Rattle.cx_words.specs.Queries.{query_count}
use Rattle.cx_words.specs.declared.command.Command.{Command}
use Rattle.cx_words.specs.declared.command.Command.TheVariants as word

abbrev IsCount : ℕ → Type 0
IsCount n = (0 < n) × (n ≤ 2 ^ 27)

abbrev pub HasCount : Option Command → Type 0
HasCount (Some (word.Record steps)) = IsCount steps
HasCount (Some (word.RecordSeed steps seed)) = IsCount steps
HasCount _ = Unit {0}

abbrev IfCount : Option ℕ → Type 0
IfCount None = Unit {0}
IfCount (Some n) = IsCount n

counts : (text : List ℕ) → IfCount (step_count text)
unfolding step_count
counts text = by (number text)
  where
    both : (n : ℕ) (a b : Bool) → nat_le 1 n ≡ a → nat_le n (2 ^ 27) ≡ b → IfCount (then_some (a && b) n)
    both n true true low high =
        let above = leb-true 1 n low in
        (omega (arith, above), leb-true n (2 ^ 27) high)
    both n true false low high = tt
    both n false b low high = tt

    by : (o : Option ℕ) → IfCount (option_and_then (λ n. then_some (nat_le 1 n && nat_le n (2 ^ 27)) n) o)
    by None = tt
    by (Some n) = both n (nat_le 1 n) (nat_le n (2 ^ 27)) refl refl

record_counts : (words : List (List ℕ)) → HasCount (record_of words)
unfolding record_of
record_counts [] = tt
record_counts (steps ∷ []) = by (step_count steps) (counts steps)
  where
    by : (o : Option ℕ) → IfCount o → HasCount (option_map word.Record o)
    by None are = tt
    by (Some n) are = are
record_counts (steps ∷ seed ∷ []) = by (step_count steps) (number seed) (counts steps)
  where
    by : (o s : Option ℕ) → IfCount o → HasCount (option_map (λ p. word.RecordSeed p.0 p.1) (option_zip o s))
    by None s are = tt
    by (Some n) None are = tt
    by (Some n) (Some m) are = are
record_counts (steps ∷ seed ∷ other ∷ more) = tt

either : (test : Bool) (one other : Option Command) → HasCount one → HasCount other
    → HasCount (if test then one else other)
either true one other first second = first
either false one other first second = second

mapped : {A : Type 0} (f : A → Command) (o : Option A) → ((a : A) → HasCount (Some (f a))) → HasCount (option_map f o)
mapped f None are = tt
mapped f (Some a) are = are a

by_itself : (command : Command) (words : List (List ℕ)) → HasCount (Some command) → HasCount (alone command words)
unfolding alone
by_itself command [] is = is
by_itself command (word ∷ more) is = tt

traces : (words : List (List ℕ)) → HasCount (trace_of words)
unfolding trace_of
traces [] = tt
traces (what ∷ more) =
    either (bytes_eq what (codes "all")) _ _ (by_itself word.TraceAll more tt)
    (either (bytes_eq what (codes "window")) _ _ (mapped (λ p. word.TraceWindow p.0 p.1) (two_numbers more) (λ p. tt))
    (either (bytes_eq what (codes "root")) _ _ (mapped word.TraceRoot (one_word more) (λ r. tt)) tt))

inspects : (words : List (List ℕ)) → HasCount (inspect_of words)
unfolding inspect_of
inspects words = by (query_count words)
  where
    one : (some : Bool) (n : ℕ) → HasCount (then_some some (word.Inspect n))
    one true n = tt
    one false n = tt

    by : (o : Option ℕ) → HasCount (option_and_then (λ count. then_some (nat_lt 0 count) (word.Inspect count)) o)
    by None = tt
    by (Some n) = one (nat_lt 0 n) n

pub steps_are_counted : (words : List (List ℕ)) → HasCount (parse words)
steps_are_counted [] = tt
steps_are_counted (name ∷ more) =
    either (bytes_eq name (codes "window")) _ _ (mapped (λ p. word.Window p.0 p.1) (two_numbers more) (λ p. tt))
    (either (bytes_eq name (codes "process")) _ _ (mapped word.Process (one_word more) (λ r. tt))
    (either (bytes_eq name (codes "calls")) _ _ (mapped word.Calls (one_word more) (λ r. tt))
    (either (bytes_eq name (codes "relog")) _ _ (by_itself word.Relog more tt)
    (either (bytes_eq name (codes "replay")) _ _ (by_itself word.Replay more tt)
    (either (bytes_eq name (codes "trace")) _ _ (traces more)
    (either (bytes_eq name (codes "record")) _ _ (record_counts more)
    (either (bytes_eq name (codes "roots")) _ _ (by_itself word.Roots more tt)
    (either (bytes_eq name (codes "inspect")) _ _ (inspects more)
    (either (bytes_eq name (codes "salvage")) _ _ (by_itself word.Salvage more tt)
    (either (bytes_eq name (codes "make")) _ _ (mapped word.Make (one_word more) (λ n. tt))
    (either (bytes_eq name (codes "demo")) _ _ (mapped word.Demo (one_word more) (λ n. tt))
    (either (bytes_eq name (codes "upgrade")) _ _ (by_itself word.Upgrade more tt) tt))))))))))))

pub count_of : (words : List (List ℕ)) (command : Option Command) → parse words ≡ command → HasCount command
count_of words command is = subst HasCount is (steps_are_counted words)
