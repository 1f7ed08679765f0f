-- The records of steps can be spelled.
use Rattle.std.proofs.Common.{◌≡◌, ℕ, suc, ◌+◌, ◌^◌, ◌<◌, ◌≤◌, ◌&&◌, ◌||◌, ltb, leb, eqb, cond, arith, refl, inl, inr, ⊎_elim, ◌⊎◌}
use Rattle.std.proofs.Common.{List, [], ◌∷◌, ◌++◌, length, Bool, true, false, Option, None, Some, IfSome, append_assoc, eq-eqb}
use Rattle.std.proofs.lemmas.Bool.{lt-ltb, le-leb, and_from}
use Rattle.std.specs.List.{AllByRecursion}
use Rattle.cx_slicefmt.specs.Rules.{Head, IsHead, head_in, is_empty}
use Rattle.cx_placing.specs.Placing.{Call, Placed}
use Rattle.cx_placing.specs.Records.{Async, Calls, Record, Value, What, async_records, call_records, records_from, value_records}
use Rattle.cx_callfmt.specs.Rules.{AreRecords, Behind, IsWhat, behind_start, calls, may_come, rank}
use Rattle.cx_callfmt.specs.Steps.{CallFits, PlacedFits}

-- Before the step at an index, with a least rank that may stand there.
Before : ℕ → ℕ → Behind → Type 0
Before k least behind = (behind.index < k) ⊎ ((behind.index ≡ k) × (behind.least ≤ least))

comes_at : (k least place : ℕ) (behind : Behind) → k < 2 ^ 48 → least ≤ place → Before k least behind
    → may_come behind place k ≡ true
unfolding Before
comes_at k least place behind below low before =
    and_from (ltb k (2 ^ 48)) (ltb behind.index k || (eqb behind.index k && leb behind.least place))
    (lt-ltb k (2 ^ 48) below)
    (⊎_elim (λ (less : behind.index < k). rw (lt-ltb behind.index k less) refl)
    (λ (at : (behind.index ≡ k) × (behind.least ≤ least)).
    either (ltb behind.index k) (eqb behind.index k && leb behind.least place)
    (and_from (eqb behind.index k) (leb behind.least place) (eq-eqb behind.index k at.0)
    (le-leb behind.least place (omega (arith, at.1, low))))) before)
  where
    either : (s t : Bool) → t ≡ true → (s || t) ≡ true
    either true t is = refl
    either false t is = is

later : (k m n : ℕ) (behind : Behind) → m ≤ n → Before k m behind → Before k n behind
unfolding Before
later k m n behind low before = ⊎_elim (λ (less : behind.index < k). inl less)
    (λ (at : (behind.index ≡ k) × (behind.least ≤ m)). inr (at.0, omega (arith, at.1, low))) before

-- so that a record of the step is first, and those behind it follow
put : (k place count : ℕ) (behind : Behind) (what : What) (rs : List Record) → k < 2 ^ 48 → rank what ≡ place
    → IsWhat what → Before k place behind
    → ((b : Behind) → Before k (suc place) b → AreRecords b rs count)
    → AreRecords behind (record { index = k; what = what } ∷ rs) count
unfolding Before
put k place count behind what rs below is fits before rest = (
  record {
    comes = comes_at k place (rank what) behind below (omega (arith, is)) before;
    what = fits;
  },
  rest (record { index = k; least = suc (rank what) }) (inr (refl, omega (arith, is))),
)

async_put : (k count : ℕ) (behind : Behind) (head : Head) (rs : List Record) → k < 2 ^ 48 → IsHead calls head
    → Before k 0 behind → ((b : Behind) → Before k 1 b → AreRecords b rs count)
    → AreRecords behind (async_records k head ++ rs) count
async_put k count behind head rs below fits before rest = by_test (is_empty head) refl
  where
    by_test : (t : Bool) → is_empty head ≡ t
        → AreRecords behind (cond {A = List Record} t [] (record { index = k; what = Async head } ∷ []) ++ rs) count
    by_test true none = rest behind (later k 0 1 behind (omega arith) before)
    by_test false some = put k 0 count behind (Async head) rs below refl (fits, some) before rest

value_put : (k count : ℕ) (behind : Behind) (given : Option ℕ) (rs : List Record) → k < 2 ^ 48
    → IfSome given (λ word. word < 2 ^ 32) → Before k 1 behind
    → ((b : Behind) → Before k 2 b → AreRecords b rs count)
    → AreRecords behind (value_records k given ++ rs) count
value_put k count behind None rs below fits before rest = rest behind (later k 1 2 behind (omega arith) before)
value_put k count behind (Some word) rs below fits before rest =
    put k 1 count behind (Value word) rs below refl fits before rest

call_put : (k count : ℕ) (behind : Behind) (call : Option Call) (rs : List Record) → k < 2 ^ 48
    → IfSome call CallFits → Before k 2 behind → ((b : Behind) → Before k 3 b → AreRecords b rs count)
    → AreRecords behind (call_records k call ++ rs) count
call_put k count behind None rs below fits before rest = rest behind (later k 2 3 behind (omega arith) before)
call_put k count behind (Some call) rs below fits before rest =
    put k 2 count behind (Calls call.number call.head) rs below refl (fits.number, fits.head) before rest

behind_step : (k : ℕ) (behind : Behind) → Before k 3 behind → behind.index < suc k
unfolding Before
behind_step k behind before = ⊎_elim (λ (less : behind.index < k). omega (arith, less))
    (λ (at : (behind.index ≡ k) × (behind.least ≤ 3)). omega (arith, at.0)) before

before_it : (k : ℕ) (behind : Behind) → behind.index < k → Before k 0 behind
unfolding Before
before_it k behind less = inl less

at_start : Before 0 0 behind_start
unfolding Before
at_start = inr (refl, omega arith)

one_step : (k count : ℕ) (p : Placed ℕ) (rs : List Record) (behind : Behind) → k < 2 ^ 48 → PlacedFits p
    → Before k 0 behind → ((b : Behind) → b.index < suc k → AreRecords b rs count)
    → AreRecords behind ((async_records k (head_in p.items) ++ (value_records k p.items.given ++ call_records k p.call)) ++ rs)
    count
one_step k count p rs behind below fits before rest =
    let values : List Record = value_records k p.items.given in
    let calls : List Record = call_records k p.call in
    rw (append_assoc (async_records k (head_in p.items)) (values ++ calls) rs, append_assoc values calls rs)
    (async_put k count behind (head_in p.items) (values ++ (calls ++ rs)) below fits.head before
    (λ b first. value_put k count b p.items.given (calls ++ rs) below fits.given first
    (λ c second. call_put k count c p.call rs below fits.call second
    (λ d third. rest d (behind_step k d third)))))

-- steps behind the first
steps_on : (k count : ℕ) (ps : List (Placed ℕ)) (behind : Behind) → k + length ps ≡ count → count ≤ 2 ^ 48
    → AllByRecursion PlacedFits ps → behind.index < k → AreRecords behind (records_from k ps) count
steps_on k count [] behind all most fits less = record { above = omega (arith, all, less); most = most }
steps_on k count (p ∷ ps) behind all most fits less =
    one_step k count p (records_from (suc k) ps) behind (omega (arith, all, most)) fits.0 (before_it k behind less)
    (λ b later. steps_on (suc k) count ps b (omega (arith, all)) most fits.1 later)

pub steps_spelled : (ps : List (Placed ℕ)) → 1 ≤ length ps → length ps ≤ 2 ^ 48 → AllByRecursion PlacedFits ps
    → AreRecords behind_start (records_from 0 ps) (length ps)
steps_spelled [] some most fits = absurd (omega (arith, some))
steps_spelled (p ∷ ps) some most fits =
    one_step 0 (suc (length ps)) p (records_from 1 ps) behind_start (omega arith) fits.0 at_start
    (λ b later. steps_on 1 (suc (length ps)) ps b (omega arith) most fits.1 later)
