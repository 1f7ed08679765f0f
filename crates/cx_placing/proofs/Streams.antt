-- A run alone from a slice by calls goes on by one step.
use Rattle.std.proofs.Common.{◌≡◌, ℕ, suc, ◌+◌, ◌<◌, ◌≤◌, Bool, true, false, List, [], ◌∷◌, ◌++◌, length, Option, None}
use Rattle.std.proofs.Common.{Some, Result, Ok, Err, option_to_list, if◌then◌else◌, refl, ap, ◌∙◌, arith}
use Rattle.cx_slices.specs.Alone.{and_on}
use Rattle.cx_slices.specs.Observed.{Watch}
use Rattle.cx_slices.proofs.Small.{same_suc}
use Rattle.cx_placing.specs.Called.{CallStanding, standing_behind, step_called}
use Rattle.cx_placing.specs.CallsAlone.{
  all_or_broken_from,
  ends_on,
  ends_settled,
  go_on_called,
  is_settled,
  ran_called,
  run_called,
  standing_at,
  with_first,
}
use Rattle.cx_placing.specs.Placing.{Placed}

only_one : {O : Type 0} (stepped : Option O) → and_on (λ o. []) stepped ≡ option_to_list stepped
only_one None = refl
only_one (Some o) = refl

push_by : {O G : Type 0} (m : Watch O G) (called : O → Option ℕ) (s : CallStanding) (q : Placed G)
    (ps : List (Placed G)) (p : Placed G) (stepped : Option O)
    → ((o : O) → length (ran_called m called (standing_behind m s o q.call) ps) ≡ length ps
    → ran_called m called (standing_behind m s o q.call) (ps ++ p ∷ [])
    ≡ ran_called m called (standing_behind m s o q.call) ps
    ++ option_to_list (step_called m called (standing_at m (standing_behind m s o q.call) ps
    (ran_called m called (standing_behind m s o q.call) ps)) p))
    → length (and_on (λ o. ran_called m called (standing_behind m s o q.call) ps) stepped) ≡ suc (length ps)
    → and_on (λ o. ran_called m called (standing_behind m s o q.call) (ps ++ p ∷ [])) stepped
    ≡ and_on (λ o. ran_called m called (standing_behind m s o q.call) ps) stepped
    ++ option_to_list (step_called m called (standing_at m s (q ∷ ps)
    (and_on (λ o. ran_called m called (standing_behind m s o q.call) ps) stepped)) p)
push_by m called s q ps p None rest size = cc
push_by m called s q ps p (Some o) rest size = ap (λ os. o ∷ os)
    (rest o (same_suc (length (ran_called m called (standing_behind m s o q.call) ps)) (length ps) size))

pub ran_called-push : {O G : Type 0} (m : Watch O G) (called : O → Option ℕ) (s : CallStanding) (ps : List (Placed G))
    (p : Placed G) → length (ran_called m called s ps) ≡ length ps → ran_called m called s (ps ++ p ∷ [])
    ≡ ran_called m called s ps
    ++ option_to_list (step_called m called (standing_at m s ps (ran_called m called s ps)) p)
ran_called-push m called s [] p size = only_one (step_called m called s p)
ran_called-push m called s (q ∷ ps) p size = push_by m called s q ps p (step_called m called s q)
    (λ o. ran_called-push m called (standing_behind m s o q.call) ps p) size

stopped_by : {O : Type 0} (front whole : O → List O) (n : ℕ) (stepped : Option O)
    → ((o : O) → length (front o) < n → whole o ≡ front o) → length (and_on front stepped) < suc n
    → and_on whole stepped ≡ and_on front stepped
stopped_by front whole n None rest less = refl
stopped_by front whole n (Some o) rest less = ap (λ os. o ∷ os) (rest o (omega arith))

pub ran_called-stopped : {O G : Type 0} (m : Watch O G) (called : O → Option ℕ) (s : CallStanding)
    (ps qs : List (Placed G)) → length (ran_called m called s ps) < length ps
    → ran_called m called s (ps ++ qs) ≡ ran_called m called s ps
ran_called-stopped m called s [] qs less = absurd (omega arith)
ran_called-stopped m called s (p ∷ ps) qs less =
    stopped_by (λ o. ran_called m called (standing_behind m s o p.call) ps)
    (λ o. ran_called m called (standing_behind m s o p.call) (ps ++ qs)) (length ps) (step_called m called s p)
    (λ o. ran_called-stopped m called (standing_behind m s o p.call) ps qs) less

at_most_on : {O : Type 0} (rest : O → List O) (n : ℕ) (stepped : Option O) → ((o : O) → length (rest o) ≤ n)
    → length (and_on rest stepped) ≤ suc n
at_most_on rest n None most = omega arith
at_most_on rest n (Some o) most = let less : length (rest o) ≤ n = most o in omega arith

pub ran_called-length : {O G : Type 0} (m : Watch O G) (called : O → Option ℕ) (s : CallStanding)
    (ps : List (Placed G)) → length (ran_called m called s ps) ≤ length ps
ran_called-length m called s [] = omega arith
ran_called-length m called s (p ∷ ps) =
    at_most_on (λ o. ran_called m called (standing_behind m s o p.call) ps) (length ps) (step_called m called s p)
    (λ o. ran_called-length m called (standing_behind m s o p.call) ps)

pub standing_at-push : {O G : Type 0} (m : Watch O G) (s : CallStanding) (ps : List (Placed G)) (os : List O)
    (p : Placed G) (o : O) → length os ≡ length ps
    → standing_at m s (ps ++ p ∷ []) (os ++ o ∷ []) ≡ standing_behind m (standing_at m s ps os) o p.call
standing_at-push m s [] [] p o size = refl
standing_at-push m s [] (q ∷ os) p o size = cc
standing_at-push m s (q ∷ ps) [] p o size = cc
standing_at-push m s (q ∷ ps) (r ∷ os) p o size =
    standing_at-push m (standing_behind m s r q.call) ps os p o (same_suc (length os) (length ps) size)

-- ---- the end

whole_by : {O G : Type 0} (m : Watch O G) (called : O → Option ℕ) (s : CallStanding) (p : Placed G)
    (ps : List (Placed G)) (stepped : Option O)
    → ((o : O) → length (ran_called m called (standing_behind m s o p.call) ps) ≡ length ps
    → ends_settled m called (standing_behind m s o p.call) ps
    ≡ is_settled (standing_at m (standing_behind m s o p.call) ps
    (ran_called m called (standing_behind m s o p.call) ps)))
    → length (and_on (λ o. ran_called m called (standing_behind m s o p.call) ps) stepped) ≡ suc (length ps)
    → ends_on (λ o. ends_settled m called (standing_behind m s o p.call) ps) stepped
    ≡ is_settled (standing_at m s (p ∷ ps)
    (and_on (λ o. ran_called m called (standing_behind m s o p.call) ps) stepped))
whole_by m called s p ps None rest size = cc
whole_by m called s p ps (Some o) rest size =
    rest o (same_suc (length (ran_called m called (standing_behind m s o p.call) ps)) (length ps) size)

pub ends_settled-whole : {O G : Type 0} (m : Watch O G) (called : O → Option ℕ) (s : CallStanding)
    (ps : List (Placed G)) → length (ran_called m called s ps) ≡ length ps
    → ends_settled m called s ps ≡ is_settled (standing_at m s ps (ran_called m called s ps))
ends_settled-whole m called s [] size = refl
ends_settled-whole m called s (p ∷ ps) size = whole_by m called s p ps (step_called m called s p)
    (λ o. ends_settled-whole m called (standing_behind m s o p.call) ps) size

unsettled_by : {O : Type 0} (rest : O → List O) (ends : O → Bool) (n : ℕ) (stepped : Option O)
    → ((o : O) → length (rest o) < n → ends o ≡ false) → length (and_on rest stepped) < suc n
    → ends_on ends stepped ≡ false
unsettled_by rest ends n None less size = refl
unsettled_by rest ends n (Some o) less size = less o (omega arith)

pub ends_settled-stopped : {O G : Type 0} (m : Watch O G) (called : O → Option ℕ) (s : CallStanding)
    (ps : List (Placed G)) → length (ran_called m called s ps) < length ps → ends_settled m called s ps ≡ false
ends_settled-stopped m called s [] less = absurd (omega arith)
ends_settled-stopped m called s (p ∷ ps) less =
    unsettled_by (λ o. ran_called m called (standing_behind m s o p.call) ps)
    (λ o. ends_settled m called (standing_behind m s o p.call) ps) (length ps) (step_called m called s p)
    (λ o. ends_settled-stopped m called (standing_behind m s o p.call) ps) less

-- ---- all or broken

one_before : {O : Type 0} (k : ℕ) (o : O) (ends : Bool) (os : List O)
    → with_first o (all_or_broken_from (suc k) ends os) ≡ all_or_broken_from k ends (o ∷ os)
one_before k o true os = refl
one_before {O = O} k o false os = ap {B = Result (List O) ℕ} Err (one_up k (length os))
  where
    one_up : (k n : ℕ) → suc k + n ≡ k + suc n
    one_up k n = omega arith

at_once : {O : Type 0} (k : ℕ) (stepped : Option O) (run : O → Result (List O) ℕ) (ends : O → Bool)
    (ran : O → List O) → ((o : O) → run o ≡ all_or_broken_from (suc k) (ends o) (ran o))
    → go_on_called k run stepped ≡ all_or_broken_from k (ends_on ends stepped) (and_on ran stepped)
at_once {O = O} k None run ends ran rest = ap {B = Result (List O) ℕ} Err (nothing_more k)
  where
    nothing_more : (k : ℕ) → k ≡ k + 0
    nothing_more k = omega arith
at_once k (Some o) run ends ran rest = ap (with_first o) (rest o) ∙ one_before k o (ends o) (ran o)

none_left : {O : Type 0} (k : ℕ) (ends : Bool)
    → ◌≡◌ {A = Result (List O) ℕ} (if ends then Ok [] else Err k) (all_or_broken_from k ends [])
none_left k true = refl
none_left {O = O} k false = ap {B = Result (List O) ℕ} Err (nothing_more k)
  where
    nothing_more : (k : ℕ) → k ≡ k + 0
    nothing_more k = omega arith

pub run_called-is : {O G : Type 0} (m : Watch O G) (called : O → Option ℕ) (k : ℕ) (s : CallStanding)
    (ps : List (Placed G)) → run_called m called k s ps
    ≡ all_or_broken_from k (ends_settled m called s ps) (ran_called m called s ps)
run_called-is m called k s [] = none_left k (is_settled s)
run_called-is m called k s (p ∷ ps) = at_once k (step_called m called s p)
    (λ o. run_called m called (suc k) (standing_behind m s o p.call) ps)
    (λ o. ends_settled m called (standing_behind m s o p.call) ps)
    (λ o. ran_called m called (standing_behind m s o p.call) ps)
    (λ o. run_called-is m called (suc k) (standing_behind m s o p.call) ps)
