-- What code holds of a program that runs alone from the items of its calls, and how a step changes it.
use Rattle.std.specs.Prelude.{◌≡◌, ℕ, ◌&&◌, Bool, true, false, not, List, [], None, Some}
use Rattle.std.specs.Prelude.{Result, Ok, Err}
use Rattle.cx_alone.specs.declared.fault.Stop.{Stop}
use Rattle.cx_alone.specs.declared.fault.Stop.TheVariants as stop
use Rattle.cx_marks.specs.Marked.{is_marked}
use Rattle.cx_marks.specs.declared.marks.Marks.{Marks}
use Rattle.cx_observe.specs.User.{user}
use Rattle.cx_observe.specs.declared.obs.Obs.{Obs}
use Rattle.cx_placing.specs.Called.{CallStanding, may_stand, standing_behind, step_called, words_with}
use Rattle.cx_placing.specs.Placing.{Placed}
use Rattle.cx_program.specs.Knowing.{known_by}
use Rattle.cx_shadow.specs.Cells.{byte_of}
use Rattle.cx_slicefmt.specs.Rules.{Head}
use Rattle.cx_slices.specs.Bytes.{Byte, with_bytes}
use Rattle.cx_slices.specs.Items.{Items, Known}
use Rattle.cx_slices.specs.Words.{changed}
use Rattle.cx_calls.specs.Calling.{called}
use Rattle.cx_call_alone.specs.Owed.{Owes}
use Rattle.cx_call_alone.specs.declared.called.Called.{Called}
use Rattle.cx_call_alone.specs.declared.items.HeadItems.{HeadItems}

-- what is handed over, as code holds it
abbrev pub head_held : HeadItems → Head
head_held h = record { words = h.words; bytes = h.bytes.items }

-- The addresses of the last head that no step accessed since.
abbrev pub owed_marks : Marks → Marks → ℕ → Bool
owed_marks head touched a = is_marked head a && not (is_marked touched a)

-- what stands, where these bytes are owed
abbrev pub standing_by : Called → List Byte → CallStanding
standing_by c owed = record {
  known = known_by c.standing;
  words = c.words;
  are_new = c.are_new;
  owed = owed;
  touched = is_marked c.touched;
}

-- Code stands as this does.
pub record IsStanding (s : CallStanding) (c : Called) : Type 0 where
  pub is : s ≡ standing_by c s.owed
  pub owes : Owes (owed_marks c.head c.touched) c.owes s.owed

-- what is known once items were handed, behind a head with its words
abbrev pub known_with : Called → Items ℕ → Known
known_with c i = record {
  words = changed c.standing.words (words_with c.words i.words);
  map = with_bytes i.bytes (byte_of c.standing.shadow);
}

-- All but what is known stays.
pub record Keeps (c new : Called) : Type 0 where
  pub words : new.words ≡ c.words
  pub are_new : new.are_new ≡ c.are_new
  pub head : new.head ≡ c.head
  pub touched : new.touched ≡ c.touched
  pub owes : new.owes ≡ c.owes

-- Items are put, or may not stand here.
abbrev pub IsPut : Called → Items ℕ → Called → Result (Unit {0}) Stop → Type 0
IsPut c i new (Ok u) = (may_stand (standing_by c []) i ≡ true) × (known_by new.standing ≡ known_with c i) × Keeps c new
IsPut c i new (Err stop.Broken) = may_stand (standing_by c []) i ≡ false
IsPut c i new (Err stop.NoMemory) = Unit {0}

-- a step with what is placed there
abbrev pub StepsTo : CallStanding → Placed ℕ → Called → Result Obs Stop → Type 0
StepsTo s p new (Ok o) = (step_called user called s p ≡ Some o) × IsStanding (standing_behind user s o p.call) new
StepsTo s p new (Err stop.Broken) = step_called user called s p ≡ None
StepsTo s p new (Err stop.NoMemory) = Unit {0}
