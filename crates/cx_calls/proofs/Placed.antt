-- Where the records that were put end, and those that are kept.
use Rattle.std.proofs.Common.{◌≡◌, ℕ, suc, ◌≤◌, ◌<◌, ◌^◌, ◌==◌, nat_le, nat_lt, ◌&&◌, ◌||◌, Bool, true, false}
use Rattle.std.proofs.Common.{◌⊎◌, inl, inr, List, [], ◌∷◌, ◌++◌, Option, None, Some, if◌then◌else◌, refl, sym, ap, ◌∙◌}
use Rattle.std.proofs.Common.{arith, lt-ltb, le-leb, eq-eqb}
use Rattle.std.proofs.lemmas.Bool.{and_from, or_right}
use Rattle.cx_callfmt.proofs.Texts.{behind_index, behind_more}
use Rattle.cx_callfmt.specs.Rules.{Behind, behind_start, may_come}
use Rattle.cx_callfmt.specs.Text.{last_index}
use Rattle.cx_callfmt.specs.Writing.{behind_records}
use Rattle.cx_placing.proofs.Gathering.{PutBefore}
use Rattle.cx_placing.specs.Gathering.{
  Gathered,
  behind_now,
  gathered_by,
  gathered_none,
  gathered_of,
  gathered_on,
  let_go,
  missed_now,
  words_now,
}
use Rattle.cx_placing.specs.Placing.{placed_at}
use Rattle.cx_placing.specs.Records.{Async, CallFront, Calls, Record, item_records, value_records}
use Rattle.cx_slicefmt.specs.Rules.{head_in, is_empty}
use Rattle.cx_slices.specs.Bytes.{Byte, sorted}
use Rattle.cx_slices.specs.Items.{Items}
use Rattle.cx_slices.specs.Observed.{Watch}
use Rattle.cx_calls.specs.Gathers.{behind_last}
use Rattle.cx_calls.specs.Slicing.{MayPut}

-- A record of this rank at this index may come behind it, whatever the widest index is.
abbrev pub IsBelow : Behind → ℕ → ℕ → Type 0
IsBelow b place index = (b.index < index) ⊎ ((b.index ≡ index) × (b.least ≤ place))

pub comes : (b : Behind) (place index : ℕ) → index < 2 ^ 48 → IsBelow b place index → may_come b place index ≡ true
comes b place index most (inl less) =
    and_from (nat_lt index (2 ^ 48)) (nat_lt b.index index || (b.index == index && nat_le b.least place))
    (lt-ltb index (2 ^ 48) most)
    (ap (λ t. t || (b.index == index && nat_le b.least place)) (lt-ltb b.index index less))
comes b place index most (inr is) =
    and_from (nat_lt index (2 ^ 48)) (nat_lt b.index index || (b.index == index && nat_le b.least place))
    (lt-ltb index (2 ^ 48) most)
    (or_right (nat_lt b.index index) (b.index == index && nat_le b.least place)
    (and_from (b.index == index) (nat_le b.least place) (eq-eqb b.index index is.0) (le-leb b.least place is.1)))

-- Before the first step nothing stands, and later the last record is of an earlier one.
abbrev pub IsNext : Behind → ℕ → Type 0
IsNext b count = (b.index < count) ⊎ ((count ≡ 0) × (b ≡ behind_start))

pub below_next : (b : Behind) (count : ℕ) → IsNext b count → IsBelow b 0 count
below_next b count (inl less) = inl less
below_next b count (inr is) = rw (is.1, is.0) (inr (refl, omega arith))

-- The items of a step come before its call.
items_below : (b : Behind) (k : ℕ) (i : Items ℕ) → IsNext b k → IsBelow (behind_records b (item_records k i)) 2 k
items_below b k i next = by_items (is_empty (head_in i)) i.given next
  where
    by_items : (none : Bool) (given : Option ℕ) → IsNext b k
        → IsBelow (behind_records b
        ((if none then [] else record { index = k; what = Async (head_in i) } ∷ []) ++ value_records k given)) 2 k
    by_items true None (inl less) = inl less
    by_items true None (inr is) = rw (is.1, is.0) (inr (refl, omega arith))
    by_items true (Some word) next = inr (refl, omega arith)
    by_items false None next = inr (refl, omega arith)
    by_items false (Some word) next = inr (refl, omega arith)

still_next : (b : Behind) (k : ℕ) → IsBelow b 2 k → b.index < suc k
still_next b k (inl less) = omega (arith, less)
still_next b k (inr is) = omega (arith, is.0)

-- The last call may stand behind what was put.
abbrev pub LastStands : ℕ → Option (ℕ × ℕ) → Behind → Type 0
LastStands count None b = b ≡ behind_start
LastStands count (Some call) b = (call.0 < count) × IsBelow b 2 call.0

later : (count : ℕ) (last : Option (ℕ × ℕ)) (b : Behind) → LastStands count last b → LastStands (suc count) last b
later count None b stands = stands
later count (Some call) b stands = (omega (arith, stands.0), stands.1)

pub may_put : (count : ℕ) (last : Option (ℕ × ℕ)) (b : Behind) → LastStands count last b → count ≤ 2 ^ 48
    → MayPut last b
may_put count None b stands most = stands
may_put count (Some call) b stands most = comes b 2 call.0 (omega (arith, stands.0, most)) stands.1

pub record IsPlaced (g : Gathered) : Type 0 where
  pub before : PutBefore g.last g.put
  pub next : IsNext (behind_records (behind_last g.last) g.behind) g.count
  pub last : LastStands g.count g.last (behind_records behind_start g.put.records)

-- Behind the last call, or the start, the records go on from it.
pub put_behind : (put : CallFront) (last : Option (ℕ × ℕ)) (words : List (Option ℕ)) (missed : List Byte)
    (behind : List Record) → PutBefore last put
    → behind_records behind_start (let_go put last words missed behind).records
    ≡ behind_records (behind_last last) behind
put_behind put None words missed behind before = rw before refl
put_behind put (Some call) words missed behind before =
    behind_more behind_start
    (put.records ++ record {
      index = call.0;
      what = Calls call.1 (record { words = words; bytes = sorted missed });
    } ∷ []) behind
    ∙ ap (λ (b : Behind). behind_records b behind) (behind_more behind_start put.records (record {
      index = call.0;
      what = Calls call.1 (record { words = words; bytes = sorted missed });
    } ∷ []))

behind_step : {O : Type 0} (m : Watch O ℕ) (g : Gathered) (o : O) → IsPlaced g
    → IsBelow (behind_records (behind_last g.last) (behind_now m g o)) 2 g.count
behind_step m g o placed =
    rw (behind_more (behind_last g.last) g.behind (item_records g.count (placed_at m g.known g.touched g.first o)))
    (items_below (behind_records (behind_last g.last) g.behind) g.count (placed_at m g.known g.touched g.first o)
    placed.next)

placed_by : {O : Type 0} (m : Watch O ℕ) (g : Gathered) (o : O) (call : Option ℕ) → IsPlaced g
    → IsPlaced (gathered_by m g o call)
placed_by m g o None placed = record {
  before = placed.before;
  next = inl (still_next (behind_records (behind_last g.last) (behind_now m g o)) g.count
      (behind_step m g o placed));
  last = later g.count g.last (behind_records behind_start g.put.records) placed.last;
}
placed_by m g o (Some number) placed = record {
  before = tt;
  next = inl (omega arith);
  last = (
    omega arith,
    rw (put_behind g.put g.last (words_now m g o) (missed_now m g o) (behind_now m g o) placed.before)
        (behind_step m g o placed),
  );
}

placed_on : {O : Type 0} (m : Watch O ℕ) (called : O → Option ℕ) (g : Gathered) (os : List O) → IsPlaced g
    → IsPlaced (gathered_on m called g os)
placed_on m called g [] placed = placed
placed_on m called g (o ∷ os) placed =
    placed_on m called (gathered_by m g o (called o)) os (placed_by m g o (called o) placed)

pub placed_of : {O : Type 0} (m : Watch O ℕ) (called : O → Option ℕ) (os : List O)
    → IsPlaced (gathered_of m called os)
placed_of m called os = placed_on m called (gathered_none m) os
    (record { before = refl; next = inr (refl, refl); last = refl })

-- The last index of what was put and of what is let go.
pub last_let_go : (put : CallFront) (last : Option (ℕ × ℕ)) (words : List (Option ℕ)) (missed : List Byte)
    (behind : List Record) → PutBefore last put
    → last_index 0 (let_go put last words missed behind).records ≡ last_index (behind_last last).index behind
last_let_go put last words missed behind before =
    sym (behind_index behind_start (let_go put last words missed behind).records)
    ∙ (ap (λ (b : Behind). b.index) (put_behind put last words missed behind before)
    ∙ behind_index (behind_last last) behind)
