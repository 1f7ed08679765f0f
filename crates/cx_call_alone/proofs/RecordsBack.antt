-- Records in order are those of the steps that they tell.
use Rattle.std.proofs.Common.{◌≡◌, ℕ, zero, suc, ◌+◌, ◌≤◌, ◌<◌, ◌^◌, ◌==◌, nat_lt, nat_le, ◌&&◌, ◌||◌, Bool, true, false}
use Rattle.std.proofs.Common.{◌⊎◌, inl, inr, ⊎_elim, List, [], ◌∷◌, ◌++◌, length, replicate, append_assoc, eqb-true}
use Rattle.std.proofs.Common.{Option, None, Some, IfSome, refl, sym, ap, subst, ◌∙◌, arith}
use Rattle.std.proofs.lemmas.Bool.{and_parts, cases_lt, leb-true, ltb-true}
use Rattle.cx_callfmt.specs.Rules.{AreRecords, Behind, IsWhat, behind_record, behind_start, may_come, rank}
use Rattle.cx_callfmt.proofs.Entries.{comes}
use Rattle.cx_placing.specs.CallsAlone.{ArePlaced, IsHanded}
use Rattle.cx_placing.specs.Placing.{Call, Placed, no_head}
use Rattle.cx_placing.specs.Records.{
  Async,
  Calls,
  Record,
  Value,
  What,
  async_records,
  call_records,
  records_from,
  step_records,
  value_records,
}
use Rattle.cx_slicefmt.specs.Rules.{Head, is_empty}
use Rattle.cx_call_alone.specs.Placed.{AreWide, placed_between}
use Rattle.cx_call_alone.proofs.Placed.{placed_back}

-- ---- records in order

-- A record stands at an index, with a rank or above, or at a later one.
abbrev StandsFrom : ℕ → ℕ → ℕ → What → Type 0
StandsFrom k least index what = (k < index) ⊎ ((index ≡ k) × (least ≤ rank what))

-- They stand in order from there, below an end, and each can be spelled.
abbrev InOrder : ℕ → ℕ → ℕ → List Record → Type 0
InOrder k least end [] = Unit {0}
InOrder k least end (r ∷ rs) =
    StandsFrom k least r.index r.what × (r.index < end) × IsWhat r.what × InOrder r.index (suc (rank r.what)) end rs

pub end_above : (behind : Behind) (rs : List Record) (count : ℕ) → AreRecords behind rs count
    → (behind.index < count) × (count ≤ 2 ^ 48)
end_above behind [] count are = (are.above, are.most)
end_above behind (r ∷ rs) count are =
    let later = end_above (behind_record r) rs count are.1 in
    let first = comes behind (rank r.what) r.index are.0.comes in
    (omega (arith, later.0, first.from), later.1)

stands_from : (behind : Behind) (what : What) (index : ℕ) → may_come behind (rank what) index ≡ true
    → StandsFrom behind.index behind.least index what
stands_from behind what index is =
    by_order (nat_lt behind.index index) (behind.index == index) (nat_le behind.least (rank what)) refl refl refl
    (and_parts (nat_lt index (2 ^ 48)) _ is).1
  where
    by_order : (s t u : Bool) → nat_lt behind.index index ≡ s → (behind.index == index) ≡ t
        → nat_le behind.least (rank what) ≡ u → (s || (t && u)) ≡ true
        → StandsFrom behind.index behind.least index what
    by_order true t u less same low is = inl (ltb-true behind.index index less)
    by_order false true true less same low is =
        inr (sym (eqb-true behind.index index same), leb-true behind.least (rank what) low)
    by_order false true false less same low is = cc
    by_order false false u less same low is = cc

in_order : (behind : Behind) (rs : List Record) (count : ℕ) → AreRecords behind rs count
    → InOrder behind.index behind.least count rs
in_order behind [] count are = tt
in_order behind (r ∷ rs) count are = (
  stands_from behind r.what r.index are.0.comes,
  (end_above (behind_record r) rs count are.1).0,
  are.0.what,
  in_order (behind_record r) rs count are.1,
)

-- ---- the records of a step, one by one

record HasAsync (k end : ℕ) (rs : List Record) : Type 0 where
  head : Head
  is : IsHanded 32 head
  rest : List Record
  parts : rs ≡ async_records k head ++ rest
  order : InOrder k 1 end rest

no_async : (k end : ℕ) (rs : List Record) → InOrder k 1 end rs → HasAsync k end rs
no_async k end rs order = record {
  head = no_head 32;
  is = record { words = refl; bytes = tt };
  rest = rs;
  parts = refl;
  order = order;
}

async_is : (k : ℕ) (head : Head) (rs : List Record) (t : Bool) → is_empty head ≡ t → t ≡ false
    → record { index = k; what = Async head } ∷ rs ≡ async_records k head ++ rs
async_is k head rs true is some = cc
async_is k head rs false is some = rw is refl

async_at_it : (k end : ℕ) (what : What) (rs : List Record) → k < end → IsWhat what
    → InOrder k (suc (rank what)) end rs → HasAsync k end (record { index = k; what = what } ∷ rs)
async_at_it k end (Async head) rs below fits order = record {
  head = head;
  is = record { words = fits.0.count; bytes = fits.0.rises };
  rest = rs;
  parts = async_is k head rs (is_empty head) refl fits.1;
  order = order;
}
async_at_it k end (Value word) rs below fits order =
    no_async k end (record { index = k; what = Value word } ∷ rs) (inr (refl, omega arith), below, fits, order)
async_at_it k end (Calls number head) rs below fits order =
    no_async k end (record { index = k; what = Calls number head } ∷ rs) (inr (refl, omega arith), below, fits, order)

async_first : (k end : ℕ) (rs : List Record) → InOrder k 0 end rs → HasAsync k end rs
async_first k end [] order = no_async k end [] tt
async_first k end (r ∷ rs) order =
    ⊎_elim (λ (later : k < r.index). no_async k end (r ∷ rs) (inl later, order.1, order.2, order.3))
    (λ (at : (r.index ≡ k) × (0 ≤ rank r.what)). by_index k end r.index r.what rs at.0 order.1 order.2 order.3)
    order.0
  where
    by_index : (k end index : ℕ) (what : What) (rs : List Record) → index ≡ k → index < end → IsWhat what
        → InOrder index (suc (rank what)) end rs → HasAsync k end (record { index = index; what = what } ∷ rs)
    by_index k end index what rs is below fits order =
        subst (λ (j : ℕ). HasAsync j end (record { index = index; what = what } ∷ rs)) is
        (async_at_it index end what rs below fits order)

record HasValue (k end : ℕ) (rs : List Record) : Type 0 where
  given : Option ℕ
  rest : List Record
  parts : rs ≡ value_records k given ++ rest
  order : InOrder k 2 end rest

no_value : (k end : ℕ) (rs : List Record) → InOrder k 2 end rs → HasValue k end rs
no_value k end rs order = record { given = None; rest = rs; parts = refl; order = order }

value_at_it : (k end : ℕ) (what : What) (rs : List Record) → k < end → 1 ≤ rank what → IsWhat what
    → InOrder k (suc (rank what)) end rs → HasValue k end (record { index = k; what = what } ∷ rs)
value_at_it k end (Async head) rs below low fits order = absurd (omega (arith, low))
value_at_it k end (Value word) rs below low fits order =
    record { given = Some word; rest = rs; parts = refl; order = order }
value_at_it k end (Calls number head) rs below low fits order =
    no_value k end (record { index = k; what = Calls number head } ∷ rs) (inr (refl, omega arith), below, fits, order)

value_first : (k end : ℕ) (rs : List Record) → InOrder k 1 end rs → HasValue k end rs
value_first k end [] order = no_value k end [] tt
value_first k end (r ∷ rs) order =
    ⊎_elim (λ (later : k < r.index). no_value k end (r ∷ rs) (inl later, order.1, order.2, order.3))
    (λ (at : (r.index ≡ k) × (1 ≤ rank r.what)).
    by_index k end r.index r.what rs at.0 order.1 at.1 order.2 order.3) order.0
  where
    by_index : (k end index : ℕ) (what : What) (rs : List Record) → index ≡ k → index < end → 1 ≤ rank what
        → IsWhat what → InOrder index (suc (rank what)) end rs
        → HasValue k end (record { index = index; what = what } ∷ rs)
    by_index k end index what rs is below low fits order =
        subst (λ (j : ℕ). HasValue j end (record { index = index; what = what } ∷ rs)) is
        (value_at_it index end what rs below low fits order)

record HasCall (k end : ℕ) (rs : List Record) : Type 0 where
  call : Option Call
  is : IfSome call (λ call. IsHanded 32 call.head)
  rest : List Record
  parts : rs ≡ call_records k call ++ rest
  order : InOrder k 3 end rest

call_at_it : (k end : ℕ) (what : What) (rs : List Record) → 2 ≤ rank what → IsWhat what
    → InOrder k (suc (rank what)) end rs → HasCall k end (record { index = k; what = what } ∷ rs)
call_at_it k end (Async head) rs low fits order = absurd (omega (arith, low))
call_at_it k end (Value word) rs low fits order = absurd (omega (arith, low))
call_at_it k end (Calls number head) rs low fits order = record {
  call = Some (record { number = number; head = head });
  is = record { words = fits.1.count; bytes = fits.1.rises };
  rest = rs;
  parts = refl;
  order = order;
}

call_first : (k end : ℕ) (rs : List Record) → InOrder k 2 end rs → HasCall k end rs
call_first k end [] order = record { call = None; is = tt; rest = []; parts = refl; order = tt }
call_first k end (r ∷ rs) order =
    ⊎_elim (λ (later : k < r.index). record {
      call = None;
      is = tt;
      rest = r ∷ rs;
      parts = refl;
      order = (inl later, order.1, order.2, order.3);
    })
    (λ (at : (r.index ≡ k) × (2 ≤ rank r.what)). by_index k end r.index r.what rs at.0 at.1 order.2 order.3) order.0
  where
    by_index : (k end index : ℕ) (what : What) (rs : List Record) → index ≡ k → 2 ≤ rank what → IsWhat what
        → InOrder index (suc (rank what)) end rs → HasCall k end (record { index = index; what = what } ∷ rs)
    by_index k end index what rs is low fits order =
        subst (λ (j : ℕ). HasCall j end (record { index = index; what = what } ∷ rs)) is
        (call_at_it index end what rs low fits order)

-- ---- and all of a step

record HasStep (k end : ℕ) (rs : List Record) : Type 0 where
  step : Placed ℕ
  placed : ArePlaced 32 (step ∷ [])
  rest : List Record
  parts : rs ≡ step_records k step ++ rest
  order : InOrder (suc k) 0 end rest

highest : (what : What) → rank what ≤ 2
highest (Async head) = omega arith
highest (Value word) = omega arith
highest (Calls number head) = omega arith

next_order : (k end : ℕ) (rs : List Record) → InOrder k 3 end rs → InOrder (suc k) 0 end rs
next_order k end [] order = tt
next_order k end (r ∷ rs) order = (stands r.index r.what order.0, order.1, order.2, order.3)
  where
    stands : (index : ℕ) (what : What) → StandsFrom k 3 index what → StandsFrom (suc k) 0 index what
    stands index what from = ⊎_elim (λ (later : k < index).
        ⊎_elim (λ (above : suc k < index). inl above)
        (λ (most : index ≤ suc k). inr (omega (arith, later, most), omega arith)) (cases_lt (suc k) index))
        (λ (at : (index ≡ k) × (3 ≤ rank what)). absurd (omega (arith, at.1, highest what))) from

step_first : (k end : ℕ) (rs : List Record) → InOrder k 0 end rs → HasStep k end rs
step_first k end rs order =
    let a = async_first k end rs order in
    let v = value_first k end a.rest a.order in
    let c = call_first k end v.rest v.order in
    let first : List Record = async_records k a.head in
    let second : List Record = value_records k v.given in
    let third : List Record = call_records k c.call in
    record {
      step = record {
        items = record { words = a.head.words; bytes = a.head.bytes; given = v.given };
        call = c.call;
      };
      placed = (record { words = a.is.words; bytes = a.is.bytes }, c.is, tt);
      rest = c.rest;
      parts = a.parts ∙ ap (λ (xs : List Record). first ++ xs)
          (v.parts ∙ ap (λ (xs : List Record). second ++ xs) c.parts ∙ sym (append_assoc second third c.rest))
          ∙ sym (append_assoc first (second ++ third) c.rest);
      order = next_order k end c.rest c.order;
    }

-- ---- all steps

-- These are their steps.
record AreSteps (k n : ℕ) (rs : List Record) : Type 0 where
  steps : List (Placed ℕ)
  size : length steps ≡ n
  records : records_from k steps ≡ rs
  placed : ArePlaced 32 steps

none_left : (k : ℕ) (rs : List Record) → InOrder k 0 k rs → [] ≡ rs
none_left k [] order = refl
none_left k (r ∷ rs) order =
    ⊎_elim (λ (later : k < r.index). absurd (omega (arith, later, order.1)))
    (λ (at : (r.index ≡ k) × (0 ≤ rank r.what)). absurd (omega (arith, at.0, order.1))) order.0

steps_in : (k n end : ℕ) (rs : List Record) → k + n ≡ end → InOrder k 0 end rs → AreSteps k n rs
steps_in k zero end rs size order =
    let here : InOrder k 0 k rs = subst (λ (j : ℕ). InOrder k 0 j rs) (omega (arith, size)) order in
    record { steps = []; size = refl; records = none_left k rs here; placed = tt }
steps_in k (suc n) end rs size order =
    let first = step_first k end rs order in
    let later = steps_in (suc k) n end first.rest (omega (arith, size)) first.order in
    record {
      steps = first.step ∷ later.steps;
      size = ap suc later.size;
      records = ap (λ (xs : List Record). step_records k first.step ++ xs) later.records ∙ sym first.parts;
      placed = (first.placed.0, first.placed.1, later.placed);
    }

pub are_wide : (ps : List (Placed ℕ)) → ArePlaced 32 ps → AreWide 32 ps
are_wide [] placed = tt
are_wide (p ∷ ps) placed = (placed.0.words, are_wide ps placed.2)

-- The steps that records tell can be handed to a run, and have these records.
pub record TellSteps (rs : List Record) (count : ℕ) : Type 0 where
  pub placed : ArePlaced 32 (placed_between 32 0 count rs)
  pub records : records_from 0 (placed_between 32 0 count rs) ≡ rs

pub records_back : (rs : List Record) (count : ℕ) → AreRecords behind_start rs count → TellSteps rs count
records_back rs count are =
    let all = steps_in 0 count count rs (omega arith) (in_order behind_start rs count are) in
    let same : all.steps ≡ placed_between 32 0 count rs =
    sym (placed_back 32 0 all.steps (are_wide all.steps all.placed))
    ∙ ap (λ (n : ℕ). placed_between 32 0 n (records_from 0 all.steps)) all.size
    ∙ ap (placed_between 32 0 count) all.records in
    record {
      placed = subst (λ (ps : List (Placed ℕ)). ArePlaced 32 ps) same all.placed;
      records = ap (records_from 0) (sym same) ∙ all.records;
    }
