-- Items by calls. A call of the environment is handed what its program needs behind it: the words that it changed, and
-- the bytes that are first accessed later. The start is handed what is needed up to the first call. All other items
-- stay at their steps.
use Rattle.std.specs.Prelude.{ℕ, Bool, true, List, [], ◌∷◌, ◌++◌, replicate, Option, None, Some, is_some, option_map}
use Rattle.std.specs.Prelude.{if◌then◌else◌}
use Rattle.cx_slicefmt.specs.Rules.{Head}
use Rattle.cx_slices.specs.Bytes.{Byte, missing, sorted}
use Rattle.cx_slices.specs.Items.{Items, Known, after, start}
use Rattle.cx_slices.specs.Observed.{Watch}
use Rattle.cx_slices.specs.Words.{changes}
use Rattle.cx_placing.specs.Touched.{Touched, first_touched, touched_again, touching, untouched}

-- a call with its number, and what it is handed
pub record Call : Type 0 where
  pub number : ℕ
  pub head : Head

-- the items of a step, and the call that it is
pub record Placed (G : Type 0) : Type 0 where
  pub items : Items G
  pub call : Option Call

-- what the start is handed, and the steps
pub record CallSlice (G : Type 0) : Type 0 where
  pub head : Head
  pub steps : List (Placed G)

-- ---- what is handed over

abbrev pub up_to_call : Option ℕ → List Byte → List Byte
up_to_call None rest = rest
up_to_call (Some number) rest = []

-- The bytes that are missing at an address's first access, up to the next call and with it. A step that is a call has a
-- number.
abbrev pub first_missing : {O G : Type 0} → Watch O G → (O → Option ℕ) → Known → Touched → List O → List Byte
first_missing m called w touched [] = []
first_missing m called w touched (o ∷ os) =
    first_touched touched (missing w.map (m.seen o))
    ++ up_to_call (called o) (first_missing m called (after m w o) (touching m o touched) os)

abbrev pub no_head : ℕ → Head
no_head count = record { words = replicate count None; bytes = [] }

-- what is handed over in front of these steps, which is nothing where there are none
abbrev pub head_of : {O G : Type 0} → Watch O G → (O → Option ℕ) → Known → List O → Head
head_of m called w [] = no_head m.count
head_of m called w (o ∷ os) = record {
  words = changes w.words (m.words o);
  bytes = sorted (first_missing m called w untouched (o ∷ os));
}

-- ---- what stays at its step

-- Behind a head the words are its own.
abbrev pub words_placed : ℕ → Bool → List (Option ℕ) → List (Option ℕ)
words_placed count first words = if first then replicate count None else words

abbrev pub placed_at : {O G : Type 0} → Watch O G → Known → Touched → Bool → O → Items G
placed_at m w touched first o = record {
  words = words_placed m.count first (changes w.words (m.words o));
  bytes = touched_again touched (missing w.map (m.seen o));
  given = m.given o;
}

abbrev pub touched_behind : {O G : Type 0} → Watch O G → Option ℕ → O → Touched → Touched
touched_behind m None o touched = touching m o touched
touched_behind m (Some number) o touched = untouched

abbrev pub call_with : Head → ℕ → Call
call_with head number = record { number = number; head = head }

abbrev pub placed_from : {O G : Type 0} → Watch O G → (O → Option ℕ) → Known → Touched → Bool → List O
    → List (Placed G)
placed_from m called w touched first [] = []
placed_from m called w touched first (o ∷ os) =
    record {
      items = placed_at m w touched first o;
      call = option_map (call_with (head_of m called (after m w o) os)) (called o);
    }
    ∷ placed_from m called (after m w o) (touched_behind m (called o) o touched) (is_some (called o)) os

-- the slice of a run by its calls
abbrev pub calls_of : {O G : Type 0} → Watch O G → (O → Option ℕ) → List O → CallSlice G
calls_of m called os = record {
  head = head_of m called (start m) os;
  steps = placed_from m called (start m) untouched true os;
}
