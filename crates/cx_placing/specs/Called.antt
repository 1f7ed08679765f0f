-- One step of a program that runs alone from the items of its calls.
use Rattle.std.specs.Prelude.{ℕ, ◌==◌, ◌&&◌, ◌||◌, Bool, true, false, not, List, filter, Option, None, Some}
use Rattle.std.specs.Prelude.{is_none, is_some, option_and_then, if◌then◌else◌}
use Rattle.std.specs.List.{list_all}
use Rattle.cx_slicefmt.specs.Rules.{Head}
use Rattle.cx_slices.specs.Bytes.{Byte, all_there, byte_found, none_stands, with_bytes}
use Rattle.cx_slices.specs.Items.{Items, Known, after, is_nil}
use Rattle.cx_slices.specs.Observed.{Watch}
use Rattle.cx_slices.specs.Words.{all_change, changed}
use Rattle.cx_placing.specs.Placing.{Call, Placed}
use Rattle.cx_placing.specs.Touched.{Touched, accesses, touching, untouched}

-- What stands before a step, with the bytes of the last head in place: the words of that head, where the step is the
-- first behind it; whether its bytes were new; those of them that weren't accessed yet; and the addresses that were.
pub record CallStanding : Type 0 where
  pub known : Known
  pub words : Option (List (Option ℕ))
  pub are_new : Bool
  pub owed : List Byte
  pub touched : Touched

-- what stands once a head is handed over
abbrev pub handed : Head → Known → CallStanding
handed head w = record {
  known = record { words = w.words; map = with_bytes head.bytes w.map };
  words = Some head.words;
  are_new = none_stands w.map head.bytes;
  owed = head.bytes;
  touched = untouched;
}

-- ---- what may stand at a step

-- no word is new
abbrev pub none_new : List (Option ℕ) → Bool
none_new words = list_all is_none words

-- Behind a head the words are its own.
abbrev pub words_with : Option (List (Option ℕ)) → List (Option ℕ) → List (Option ℕ)
words_with None words = words
words_with (Some its_own) words = its_own

abbrev pub are_placed : Option (List (Option ℕ)) → List (Option ℕ) → Bool
are_placed None words = true
are_placed (Some its_own) words = none_new words

-- The words are new, and stand with the head where the step is the first behind it, whose bytes are new too.
abbrev pub words_stand : {G : Type 0} → CallStanding → Items G → Bool
words_stand s i =
    s.are_new && (are_placed s.words i.words && all_change s.known.words (words_with s.words i.words))

-- The bytes are new, and the last head couldn't have had them.
abbrev pub bytes_stand : {G : Type 0} → CallStanding → Items G → Bool
bytes_stand s i = none_stands s.known.map i.bytes && list_all (λ e. s.touched e.0) i.bytes

abbrev pub may_stand : {G : Type 0} → CallStanding → Items G → Bool
may_stand s i = words_stand s i && bytes_stand s i

-- ---- what the step has to meet

-- The bytes of the head that the step accesses are bytes that it sees.
abbrev pub all_met : {O G : Type 0} → Watch O G → O → List Byte → Bool
all_met m o owed = list_all (λ e. not (accesses m o e.0) || is_some (byte_found (m.seen o) e.0)) owed

abbrev pub still_owed : {O G : Type 0} → Watch O G → O → List Byte → List Byte
still_owed m o owed = filter (λ e. not (accesses m o e.0)) owed

-- A call has its number, and behind it nothing is owed.
abbrev pub is_call : Option ℕ → Option Call → List Byte → Bool
is_call None None owed = true
is_call None (Some call) owed = false
is_call (Some number) None owed = false
is_call (Some number) (Some call) owed = (number == call.number) && is_nil owed

abbrev pub if_met : {O G : Type 0} → Watch O G → (O → Option ℕ) → CallStanding → Placed G → O → Option O
if_met m called s p o =
    if all_there (m.seen o) p.items.bytes
    && (all_met m o s.owed && is_call (called o) p.call (still_owed m o s.owed)) then Some o else None

-- one step with what is placed there, none where it breaks a rule
abbrev pub step_called : {O G : Type 0} → Watch O G → (O → Option ℕ) → CallStanding → Placed G → Option O
step_called m called s p =
    if may_stand s p.items then
    option_and_then (if_met m called s p)
    (m.step (changed s.known.words (words_with s.words p.items.words)) (with_bytes p.items.bytes s.known.map)
    p.items.given)
    else None

-- ---- what stands behind it

abbrev pub standing_behind : {O G : Type 0} → Watch O G → CallStanding → O → Option Call → CallStanding
standing_behind m s o None = record {
  known = after m s.known o;
  words = None;
  are_new = true;
  owed = still_owed m o s.owed;
  touched = touching m o s.touched;
}
standing_behind m s o (Some call) = handed call.head (after m s.known o)
