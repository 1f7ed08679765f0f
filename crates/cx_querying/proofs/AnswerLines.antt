-- The lines of the answers, one query after another.
use Rattle.std.proofs.Common.{◌≡◌, ℕ, suc, ◌+◌, ◌<◌, ◌≤◌, List, [], ◌∷◌, ◌++◌, take, drop, length, get_or, Option, true}
use Rattle.std.proofs.Common.{Result, Ok, Err, arith, refl, ap, sym, subst, ◌∙◌, append_assoc, ◌&&◌, Bool, false, zero}
use Rattle.std.proofs.Math.Seq.{take-suc}
use Rattle.std.proofs.lemmas.List.{append-nil, take_all, take-append-drop}
use Rattle.std.proofs.lemmas.List.Concat.{flat_map-append}
use Rattle.std.specs.List.{flat_map, list_all}
use Rattle.cx_answer.specs.AnswerOf.{answer_of}
use Rattle.cx_answer.specs.Lines.{answer_line, answer_lines}
use Rattle.cx_codec.specs.Blocks.{HasFront, StandsFor}
use Rattle.cx_codec.specs.Puts.{Finishes, Putting}
use Rattle.cx_codec.specs.declared.fault.OutFault.{OutFault}
use Rattle.cx_codec.specs.declared.fault.OutFault.TheVariants.{WriteFault}
use Rattle.cx_codec.proofs.Blocks.{finish_front, front_longer}
use Rattle.cx_log.specs.Recording.{Recording}
use Rattle.cx_words.specs.declared.question.Query.{Query}
use Rattle.cx_commands.specs.Streaming.{FinishesOn, Told}
use Rattle.cx_commands.proofs.Doings.{no_front}

-- one query more
one_more : {X : Type 0} (xs : List X) (i : ℕ) (d : X) → i < length xs
    → take (i + 1) xs ≡ take i xs ++ get_or xs i d ∷ []
one_more {X} xs i d below =
    let next : i + 1 ≡ suc i = omega arith in
    ap (λ (n : ℕ). take n xs) next ∙ take-suc xs i d below

pub no_lines : (R : Recording) → answer_lines R [] ≡ []
unfolding answer_lines
no_lines R = refl

-- the line of the answer to a query
abbrev line_of : Recording → Query → List ℕ
line_of R query = answer_line query (answer_of R query)

-- the line for the query at a place, behind those before it
one_more_line : (R : Recording) (queries : List Query) (i : ℕ) (d : Query) → i < length queries
    → answer_lines R (take (i + 1) queries) ≡ answer_lines R (take i queries) ++ line_of R (get_or queries i d)
unfolding answer_lines
one_more_line R queries i d below =
    ap (flat_map (line_of R)) (one_more queries i d below)
    ∙ flat_map-append (line_of R) (take i queries) (get_or queries i d ∷ [])
    ∙ ap (λ (t : List ℕ). flat_map (line_of R) (take i queries) ++ t) (append-nil (line_of R (get_or queries i d)))

-- all of them are those up to a place and those behind it
lines_cut : (R : Recording) (queries : List Query) (i : ℕ)
    → answer_lines R queries ≡ answer_lines R (take i queries) ++ answer_lines R (drop i queries)
unfolding answer_lines
lines_cut R queries i = ap (flat_map (line_of R)) (sym (take-append-drop i queries))
    ∙ flat_map-append (line_of R) (take i queries) (drop i queries)

pub all_lines : (R : Recording) (queries : List Query) (i : ℕ) → length queries ≤ i
    → answer_lines R (take i queries) ≡ answer_lines R queries
all_lines R queries i all = ap (answer_lines R) (take_all i queries all)

-- ---- put behind what was put before

-- what waits is a front of what was put, where memory is refused
pub front_waits : (base : Option (List ℕ)) (put waiting more : List ℕ) (held : Option (List ℕ))
    → StandsFor base put waiting held → HasFront base (put ++ more) held
front_waits base put waiting more held stands =
    front_longer base held put more (finish_front base held held put waiting stands (no_front held waiting))

one_behind : (R : Recording) (queries : List Query) (i : ℕ) (d : Query) (put : List ℕ) → i < length queries
    → (put ++ answer_lines R (take i queries)) ++ line_of R (get_or queries i d)
    ≡ put ++ answer_lines R (take (i + 1) queries)
one_behind R queries i d put below =
    append_assoc put (answer_lines R (take i queries)) (line_of R (get_or queries i d))
    ∙ ap (λ (t : List ℕ). put ++ t) (sym (one_more_line R queries i d below))

pub line_told : (R : Recording) (queries : List Query) (i : ℕ) (d : Query) (base : Option (List ℕ))
    (put waiting : List ℕ) (held : Option (List ℕ)) (Keeps : Type 0) → i < length queries
    → Told base ((put ++ answer_lines R (take i queries)) ++ line_of R (get_or queries i d)) waiting held Keeps
    → Told base (put ++ answer_lines R (take (i + 1) queries)) waiting held Keeps
line_told R queries i d base put waiting held Keeps below told =
    subst (λ (t : List ℕ). Told base t waiting held Keeps) (one_behind R queries i d put below) told

pub line_refused : (R : Recording) (queries : List Query) (i : ℕ) (d : Query) (base : Option (List ℕ))
    (put : List ℕ) (held : Option (List ℕ)) → i < length queries
    → HasFront base ((put ++ answer_lines R (take i queries)) ++ line_of R (get_or queries i d)) held
    → HasFront base (put ++ answer_lines R queries) held
line_refused R queries i d base put held below front =
    let before = put ++ answer_lines R (take (i + 1) queries) in
    let behind = answer_lines R (drop (i + 1) queries) in
    let all : before ++ behind ≡ put ++ answer_lines R queries =
    append_assoc put (answer_lines R (take (i + 1) queries)) behind
    ∙ ap (λ (t : List ℕ). put ++ t) (sym (lines_cut R queries (i + 1))) in
    subst (λ (t : List ℕ). HasFront base t held) all
    (front_longer base held before behind
    (subst (λ (t : List ℕ). HasFront base t held) (one_behind R queries i d put below) front))

-- ---- the end of the output

pub lines_finish : {result : Result (Unit {0}) OutFault} (base held : Option (List ℕ)) (text : List ℕ) (mid : Putting)
    (faults : ℕ) → StandsFor base text mid.output.bytes mid.held → Finishes WriteFault [] mid held faults result
    → FinishesOn base text held result
lines_finish {result} base held text mid faults stands finishes = by_result result finishes
  where
    by_result : (r : Result (Unit {0}) OutFault) → Finishes WriteFault [] mid held faults r
        → FinishesOn base text held r
    by_result (Ok u) f = rw (append-nil text) at (f.written base text stands)
    by_result (Err e) f = rw (append-nil text) at (f.refused base text stands)

-- ---- whether all are there

both : (a b : Bool) → (a && b) ≡ true → (a ≡ true) × (b ≡ true)
both true true is = (refl, refl)
both true false is = cc
both false b is = cc

pub one_of_all : {X : Type 0} (test : X → Bool) (xs : List X) (i : ℕ) (d : X) → list_all test xs ≡ true
    → i < length xs → test (get_or xs i d) ≡ true
one_of_all test [] i d all below = absurd (omega arith)
one_of_all test (y ∷ ys) zero d all below = (both (test y) (list_all test ys) all).0
one_of_all test (y ∷ ys) (suc i) d all below =
    one_of_all test ys i d (both (test y) (list_all test ys) all).1 (omega arith)
