-- What one step alone makes of what stands.
use Rattle.std.specs.Prelude.{◌≡◌, ℕ, ◌==◌, ◌&&◌, Bool, true, false, Option, None, Some, option_map}
use Rattle.cx_alone.specs.Steps.{left_behind}
use Rattle.cx_observe.specs.declared.obs.Obs.{Obs}
use Rattle.cx_placing.specs.Called.{handed}
use Rattle.cx_placing.specs.Placing.{Call, Placed}
use Rattle.cx_program.specs.Knowing.{known_by}
use Rattle.cx_slices.specs.Bytes.{BytesRise}
use Rattle.cx_call_alone.specs.Standing.{IsStanding, head_held}
use Rattle.cx_call_alone.specs.declared.called.Called.{Called}
use Rattle.cx_call_alone.specs.declared.items.CallItems.{CallItems}
use Rattle.cx_call_alone.specs.declared.items.HeadItems.{HeadItems}

abbrev pub call_held : CallItems → Call
call_held c = record { number = c.number; head = head_held c.head }

-- what is placed at a step, as code holds it
abbrev pub placed_held : HeadItems → Option ℕ → Option CallItems → Placed ℕ
placed_held items given call =
    record { items = record { words = items.words; bytes = items.bytes.items; given = given }; call = option_map call_held call }

abbrev pub number_of : CallItems → ℕ
number_of c = c.number

-- A call has its number, and behind it nothing is owed.
abbrev pub is_call_by : Option ℕ → Option ℕ → Bool → Bool
is_call_by None None settled = true
is_call_by None (Some number) settled = false
is_call_by (Some number) None settled = false
is_call_by (Some number) (Some its_own) settled = (number == its_own) && settled

-- The bytes of a call rise.
abbrev pub RisesIn : Option CallItems → Type 0
RisesIn None = Unit {0}
RisesIn (Some c) = BytesRise 0 c.head.bytes.items

-- what a step left, and nothing but that
pub record LeftBy (o : Obs) (c new : Called) : Type 0 where
  pub known : known_by new.standing ≡ left_behind (known_by c.standing) o
  pub words : new.words ≡ None
  pub are_new : new.are_new ≡ true
  pub head : new.head ≡ c.head
  pub touched : new.touched ≡ c.touched
  pub owes : new.owes ≡ c.owes

-- The same, with what is handed over behind a call.
abbrev pub GoesBehind : Obs → Option CallItems → Called → Called → Type 0
GoesBehind o None c new = LeftBy o c new
GoesBehind o (Some call) c new =
    BytesRise 0 call.head.bytes.items → IsStanding (handed (head_held call.head) (left_behind (known_by c.standing) o)) new
