-- The steps of a call slice are what its records tell.
use Rattle.std.proofs.Common.{◌≡◌, ℕ, zero, suc, ◌+◌, ◌≤◌, ◌<◌, ◌==◌, Bool, true, false, List, [], ◌∷◌, ◌++◌}
use Rattle.std.proofs.Common.{length, replicate, is_none, Option, None, Some, if◌then◌else◌, eq-eqb, ne_eqb}
use Rattle.std.proofs.Common.{refl, sym, ap, ◌∙◌, arith}
use Rattle.std.proofs.lemmas.Bool.{and_parts}
use Rattle.std.specs.List.{list_all}
use Rattle.cx_placing.specs.Placing.{Call, Placed}
use Rattle.cx_placing.specs.Records.{
  Async,
  Calls,
  Record,
  Value,
  What,
  async_records,
  call_records,
  records_from,
  step_records,
  value_records,
}
use Rattle.cx_slicefmt.specs.Rules.{Head, head_in, is_empty}
use Rattle.cx_slices.specs.Bytes.{Byte}
use Rattle.cx_slices.specs.Items.{Items, is_nil}
use Rattle.cx_call_alone.specs.Placed.{
  AreWide,
  RecordsBelow,
  RecordsFrom,
  nothing_placed,
  placed_between,
  placed_of,
  placed_with,
  told,
}

-- ---- records of an index, of others, and of several

pub with_here : (k : ℕ) (p : Placed ℕ) (r : Record) (rs : List Record) → r.index ≡ k
    → placed_with k p (r ∷ rs) ≡ placed_with k (told p r.what) rs
with_here k p r rs is = rw (eq-eqb r.index k is) refl

with_other : (k : ℕ) (p : Placed ℕ) (r : Record) (rs : List Record) → (r.index ≡ k → ⊥)
    → placed_with k p (r ∷ rs) ≡ placed_with k p rs
with_other k p r rs other = rw (ne_eqb r.index k other) refl

apart : (i k : ℕ) → i < k → i ≡ k → ⊥
apart i k less is = omega (arith, less, is)

beyond : (i k : ℕ) → suc k ≤ i → i ≡ k → ⊥
beyond i k less is = omega (arith, less, is)

pub with_past : (k : ℕ) (p : Placed ℕ) (past rs : List Record) → RecordsBelow k past
    → placed_with k p (past ++ rs) ≡ placed_with k p rs
with_past k p [] rs below = refl
with_past k p (r ∷ past) rs below = with_other k p r (past ++ rs) (apart r.index k below.0) ∙ with_past k p past rs below.1

pub with_later : (k : ℕ) (p : Placed ℕ) (rs : List Record) → RecordsFrom (suc k) rs → placed_with k p rs ≡ p
with_later k p [] later = refl
with_later k p (r ∷ rs) later = with_other k p r rs (beyond r.index k later.0) ∙ with_later k p rs later.1

pub with_both : (k : ℕ) (p : Placed ℕ) (rs qs : List Record)
    → placed_with k p (rs ++ qs) ≡ placed_with k (placed_with k p rs) qs
with_both k p [] qs = refl
with_both k p (r ∷ rs) qs = with_both k (if r.index == k then told p r.what else p) rs qs

pub from_less : (k n : ℕ) (rs : List Record) → k ≤ n → RecordsFrom n rs → RecordsFrom k rs
from_less k n [] less from = tt
from_less k n (r ∷ rs) less from = (omega (arith, less, from.0), from_less k n rs less from.1)

from_both : (k : ℕ) (rs qs : List Record) → RecordsFrom k rs → RecordsFrom k qs → RecordsFrom k (rs ++ qs)
from_both k [] qs first second = second
from_both k (r ∷ rs) qs first second = (first.0, from_both k rs qs first.1 second)

below_both : (k : ℕ) (rs qs : List Record) → RecordsBelow k rs → RecordsBelow k qs → RecordsBelow k (rs ++ qs)
below_both k [] qs first second = second
below_both k (r ∷ rs) qs first second = (first.0, below_both k rs qs first.1 second)

pub below_more : (k n : ℕ) (rs : List Record) → k ≤ n → RecordsBelow k rs → RecordsBelow n rs
below_more k n [] less below = tt
below_more k n (r ∷ rs) less below = (omega (arith, less, below.0), below_more k n rs less below.1)

-- ---- the records of a step

-- They stand at its index.
abbrev pub AtIndex : ℕ → List Record → Type 0
AtIndex k rs = RecordsFrom k rs × RecordsBelow (suc k) rs

one_at : (k : ℕ) (what : What) → AtIndex k (record { index = k; what = what } ∷ [])
one_at k what = ((omega arith, tt), (omega arith, tt))

both_at : (k : ℕ) (rs qs : List Record) → AtIndex k rs → AtIndex k qs → AtIndex k (rs ++ qs)
both_at k rs qs first second = (from_both k rs qs first.0 second.0, below_both (suc k) rs qs first.1 second.1)

async_at : (k : ℕ) (head : Head) → AtIndex k (async_records k head)
async_at k head = by_test (is_empty head)
  where
    by_test : (t : Bool) → AtIndex k (if t then [] else record { index = k; what = Async head } ∷ [])
    by_test true = (tt, tt)
    by_test false = one_at k (Async head)

value_at : (k : ℕ) (given : Option ℕ) → AtIndex k (value_records k given)
value_at k None = (tt, tt)
value_at k (Some word) = one_at k (Value word)

call_at : (k : ℕ) (call : Option Call) → AtIndex k (call_records k call)
call_at k None = (tt, tt)
call_at k (Some call) = one_at k (Calls call.number call.head)

step_at : (k : ℕ) (p : Placed ℕ) → AtIndex k (step_records k p)
step_at k p = both_at k (async_records k (head_in p.items)) (value_records k p.items.given ++ call_records k p.call)
    (async_at k (head_in p.items))
    (both_at k (value_records k p.items.given) (call_records k p.call) (value_at k p.items.given) (call_at k p.call))

no_words : (words : List (Option ℕ)) → list_all is_none words ≡ true → replicate (length words) None ≡ words
no_words [] none = refl
no_words (Some w ∷ words) none = cc
no_words (None ∷ words) none = ap (λ l. None ∷ l) (no_words words none)

no_bytes : (bytes : List Byte) → is_nil bytes ≡ true → [] ≡ bytes
no_bytes [] none = refl
no_bytes (e ∷ bytes) none = cc

with_head : Head → Placed ℕ
with_head head = record { items = record { words = head.words; bytes = head.bytes; given = None }; call = None }

async_back : (count k : ℕ) (head : Head) → length head.words ≡ count
    → placed_with k (nothing_placed count) (async_records k head) ≡ with_head head
unfolding with_head
async_back count k head wide = by_test (is_empty head) refl
  where
    by_test : (t : Bool) → is_empty head ≡ t
        → placed_with k (nothing_placed count) (if t then [] else record { index = k; what = Async head } ∷ [])
        ≡ with_head head
    by_test true is =
        let parts : (list_all is_none head.words ≡ true) × (is_nil head.bytes ≡ true)
        = and_parts (list_all is_none head.words) (is_nil head.bytes) is in
        let words : replicate count None ≡ head.words
        = ap (λ (n : ℕ). replicate n None) (sym wide) ∙ no_words head.words parts.0 in
        ap (λ (ws : List (Option ℕ)). record {
          items = record { words = ws; bytes = []; given = None };
          call = None;
        }) words
        ∙ ap (λ (bs : List Byte). record {
          items = record { words = head.words; bytes = bs; given = None };
          call = None;
        }) (no_bytes head.bytes parts.1)
    by_test false is = with_here k (nothing_placed count) (record { index = k; what = Async head }) [] refl

value_back : (k : ℕ) (head : Head) (given : Option ℕ) → placed_with k (with_head head) (value_records k given)
    ≡ record { items = record { words = head.words; bytes = head.bytes; given = given }; call = None }
unfolding with_head
value_back k head None = refl
value_back k head (Some word) = with_here k (with_head head) (record { index = k; what = Value word }) [] refl

call_back : (k : ℕ) (i : Items ℕ) (call : Option Call)
    → placed_with k (record { items = i; call = None }) (call_records k call) ≡ record { items = i; call = call }
call_back k i None = refl
call_back k i (Some call) = with_here k (record { items = i; call = None })
    (record { index = k; what = Calls call.number call.head }) [] refl

pub step_back : (count k : ℕ) (p : Placed ℕ) → length p.items.words ≡ count
    → placed_of count k (step_records k p) ≡ p
step_back count k p wide =
    with_both k (nothing_placed count) (async_records k (head_in p.items))
    (value_records k p.items.given ++ call_records k p.call)
    ∙ (ap (λ (q : Placed ℕ). placed_with k q (value_records k p.items.given ++ call_records k p.call))
    (async_back count k (head_in p.items) wide)
    ∙ (with_both k (with_head (head_in p.items)) (value_records k p.items.given) (call_records k p.call)
    ∙ (ap (λ (q : Placed ℕ). placed_with k q (call_records k p.call))
    (value_back k (head_in p.items) p.items.given) ∙ call_back k p.items p.call)))

-- ---- all steps

pub records_later : (k : ℕ) (ps : List (Placed ℕ)) → RecordsFrom k (records_from k ps)
records_later k [] = tt
records_later k (p ∷ ps) = from_both k (step_records k p) (records_from (suc k) ps) (step_at k p).0
    (from_less k (suc k) (records_from (suc k) ps) (omega arith) (records_later (suc k) ps))

pub between_past : (count k n : ℕ) (past rs : List Record) → RecordsBelow k past
    → placed_between count k n (past ++ rs) ≡ placed_between count k n rs
between_past count k zero past rs below = refl
between_past count k (suc n) past rs below =
    ap (λ (p : Placed ℕ). p ∷ placed_between count (suc k) n (past ++ rs))
    (with_past k (nothing_placed count) past rs below)
    ∙ ap (λ ps. placed_of count k rs ∷ ps)
    (between_past count (suc k) n past rs (below_more k (suc k) past (omega arith) below))

-- Steps below an index don't see records from it on.
pub between_front : (count k n least : ℕ) (rs later : List Record) → k + n ≤ least → RecordsFrom least later
    → placed_between count k n (rs ++ later) ≡ placed_between count k n rs
between_front count k zero least rs later below from = refl
between_front count k (suc n) least rs later below from =
    ap (λ (p : Placed ℕ). p ∷ placed_between count (suc k) n (rs ++ later))
    (with_both k (nothing_placed count) rs later
    ∙ with_later k (placed_of count k rs) later (from_less (suc k) least later (omega (arith, below)) from))
    ∙ ap (λ ps. placed_of count k rs ∷ ps)
    (between_front count (suc k) n least rs later (omega (arith, below)) from)

pub placed_back : (count k : ℕ) (ps : List (Placed ℕ)) → AreWide count ps
    → placed_between count k (length ps) (records_from k ps) ≡ ps
placed_back count k [] wide = refl
placed_back count k (p ∷ ps) wide =
    let here : placed_of count k (step_records k p ++ records_from (suc k) ps) ≡ p
    = with_both k (nothing_placed count) (step_records k p) (records_from (suc k) ps)
    ∙ (with_later k (placed_of count k (step_records k p)) (records_from (suc k) ps) (records_later (suc k) ps)
    ∙ step_back count k p wide.0) in
    ap (λ (q : Placed ℕ). q ∷ placed_between count (suc k) (length ps) (step_records k p ++ records_from (suc k) ps)) here
    ∙ ap (λ qs. p ∷ qs) (between_past count (suc k) (length ps) (step_records k p) (records_from (suc k) ps)
    (step_at k p).1 ∙ placed_back count (suc k) ps wide.1)

pub between_push : (count k n j : ℕ) (rs : List Record) → j ≡ k + n
    → placed_between count k (suc n) rs ≡ placed_between count k n rs ++ placed_of count j rs ∷ []
between_push count k zero j rs is = ap (λ (i : ℕ). placed_of count i rs ∷ []) (here k j is)
  where
    here : (k j : ℕ) → j ≡ k + 0 → k ≡ j
    here k j is = omega (arith, is)
between_push count k (suc n) j rs is = ap (λ ps. placed_of count k rs ∷ ps)
    (between_push count (suc k) n j rs (there k n j is))
  where
    there : (k n j : ℕ) → j ≡ k + suc n → j ≡ suc k + n
    there k n j is = omega (arith, is)

pub length-between : (count k n : ℕ) (rs : List Record) → length (placed_between count k n rs) ≡ n
length-between count k zero rs = refl
length-between count k (suc n) rs = ap suc (length-between count (suc k) n rs)

-- ---- the steps of a longer stretch begin with those of a shorter

pub record BeginsWith (more few : List (Placed ℕ)) : Type 0 where
  pub rest : List (Placed ℕ)
  pub parts : more ≡ few ++ rest

pub between_more : (count k n total : ℕ) (rs : List Record) → n ≤ total
    → BeginsWith (placed_between count k total rs) (placed_between count k n rs)
between_more count k zero total rs less = record { rest = placed_between count k total rs; parts = refl }
between_more count k (suc n) zero rs less = absurd (omega (arith, less))
between_more count k (suc n) (suc total) rs less =
    let begins : BeginsWith (placed_between count (suc k) total rs) (placed_between count (suc k) n rs)
    = between_more count (suc k) n total rs (omega (arith, less)) in
    record { rest = begins.rest; parts = ap (λ ps. placed_of count k rs ∷ ps) begins.parts }
