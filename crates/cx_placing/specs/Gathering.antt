-- A slice by calls as it is gathered, observation by observation. What is handed over at a call is known only at the
-- next one, and stands before all that comes between: so what comes behind the last call is kept.
use Rattle.std.specs.Prelude.{◌≡◌, ℕ, suc, Bool, true, false, List, [], ◌∷◌, ◌++◌, replicate, Option, None, Some}
use Rattle.std.specs.Prelude.{if◌then◌else◌}
use Rattle.cx_slicefmt.specs.Rules.{Head}
use Rattle.cx_slices.specs.Bytes.{Byte, byte_found, missing, sorted}
use Rattle.cx_slices.specs.Items.{Known, after, start}
use Rattle.cx_slices.specs.Observed.{Watch}
use Rattle.cx_slices.specs.Words.{changes}
use Rattle.cx_placing.specs.Placing.{calls_of, placed_at}
use Rattle.cx_placing.specs.Records.{
  CallFront,
  Calls,
  Record,
  item_records,
  nothing_put,
  up_to_last_call,
  whole_front,
}
use Rattle.cx_placing.specs.Touched.{Touched, first_touched, touching, untouched}

-- What was put; the index and the number of the last call, or none for the start; whether no step stands behind it; its
-- words and its bytes so far, these in the order in which they were missed; the records behind it; how many
-- observations there were, what is known behind them, and what they accessed since the last call.
pub record Gathered : Type 0 where
  pub put : CallFront
  pub last : Option (ℕ × ℕ)
  pub first : Bool
  pub words : List (Option ℕ)
  pub missed : List Byte
  pub behind : List Record
  pub count : ℕ
  pub known : Known
  pub touched : Touched

-- before the first observation
abbrev pub gathered_none : {O : Type 0} → Watch O ℕ → Gathered
gathered_none m = record {
  put = nothing_put;
  last = None;
  first = true;
  words = replicate m.count None;
  missed = [];
  behind = [];
  count = 0;
  known = start m;
  touched = untouched;
}

-- ---- what is put at a call: the last call or the start, with what it is handed, and the records behind it

abbrev pub with_head : CallFront → Option (ℕ × ℕ) → Head → CallFront
with_head put None head = record { start = Some head; records = put.records }
with_head put (Some call) head =
    record { start = put.start; records = put.records ++ record { index = call.0; what = Calls call.1 head } ∷ [] }

abbrev pub with_records : CallFront → List Record → CallFront
with_records put records = record { start = put.start; records = put.records ++ records }

abbrev pub let_go : CallFront → Option (ℕ × ℕ) → List (Option ℕ) → List Byte → List Record → CallFront
let_go put last words missed behind =
    with_records (with_head put last (record { words = words; bytes = sorted missed })) behind

-- with all that was gathered
abbrev pub all_gathered : Gathered → CallFront
all_gathered g = let_go g.put g.last g.words g.missed g.behind

-- ---- one more observation

abbrev pub words_now : {O : Type 0} → Watch O ℕ → Gathered → O → List (Option ℕ)
words_now m g o = if g.first then changes g.known.words (m.words o) else g.words

abbrev pub missed_now : {O : Type 0} → Watch O ℕ → Gathered → O → List Byte
missed_now m g o = g.missed ++ first_touched g.touched (missing g.known.map (m.seen o))

abbrev pub behind_now : {O : Type 0} → Watch O ℕ → Gathered → O → List Record
behind_now m g o = g.behind ++ item_records g.count (placed_at m g.known g.touched g.first o)

-- what was put behind a step: at a call all that was gathered before it, and with it
abbrev pub put_now : {O : Type 0} → Watch O ℕ → Gathered → O → Option ℕ → CallFront
put_now m g o None = g.put
put_now m g o (Some number) = let_go g.put g.last (words_now m g o) (missed_now m g o) (behind_now m g o)

abbrev pub gathered_by : {O : Type 0} → Watch O ℕ → Gathered → O → Option ℕ → Gathered
gathered_by m g o None = record {
  put = g.put;
  last = g.last;
  first = false;
  words = words_now m g o;
  missed = missed_now m g o;
  behind = behind_now m g o;
  count = suc g.count;
  known = after m g.known o;
  touched = touching m o g.touched;
}
gathered_by m g o (Some number) = record {
  put = put_now m g o (Some number);
  last = Some (g.count, number);
  first = true;
  words = replicate m.count None;
  missed = [];
  behind = [];
  count = suc g.count;
  known = after m g.known o;
  touched = untouched;
}

abbrev pub gathered_on : {O : Type 0} → Watch O ℕ → (O → Option ℕ) → Gathered → List O → Gathered
gathered_on m called g [] = g
gathered_on m called g (o ∷ os) = gathered_on m called (gathered_by m g o (called o)) os

-- behind these observations
abbrev pub gathered_of : {O : Type 0} → Watch O ℕ → (O → Option ℕ) → List O → Gathered
gathered_of m called os = gathered_on m called (gathered_none m) os

-- ---- what can be put

-- what stands in the slice of a run before its last call
unfoldable pub call_put : {O : Type 0} → Watch O ℕ → (O → Option ℕ) → List O → CallFront
call_put m called os = up_to_last_call (whole_front (calls_of m called os))

-- ---- bytes that are gathered

-- No two of them are at one address.
abbrev pub AreApart : List Byte → Type 0
AreApart [] = Unit {0}
AreApart (e ∷ es) = (byte_found es e.0 ≡ None) × AreApart es
