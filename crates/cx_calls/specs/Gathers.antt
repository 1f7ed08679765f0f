-- What a gatherer stands for.
use Rattle.std.specs.Prelude.{◌≡◌, ℕ, Option, None, Some, true, List, is_some}
use Rattle.cx_callfmt.specs.Rules.{Behind, behind_start}
use Rattle.cx_callfmt.specs.Text.{records_text}
use Rattle.cx_callfmt.specs.Writing.{behind_records}
use Rattle.cx_marks.specs.Marked.{is_marked}
use Rattle.cx_placing.specs.Gathering.{Gathered}
use Rattle.cx_placing.specs.Touched.{Touched}
use Rattle.cx_program.specs.Knowing.{known_by}
use Rattle.cx_slices.specs.Bytes.{Byte, byte_found}
use Rattle.cx_calls.specs.declared.gatherer.Gatherer.{Gatherer}

-- where the next record may stand behind the last call, or behind the start
abbrev pub behind_last : Option (ℕ × ℕ) → Behind
behind_last None = behind_start
behind_last (Some call) = record { index = call.0; least = 3 }

-- It has what is gathered, and the text of the records behind the last call.
pub record IsGathered (g : Gathered) (e : Gatherer) : Type 0 where
  pub last : e.last ≡ g.last
  pub first : e.first ≡ g.first
  pub words : e.words ≡ g.words
  pub missed : e.missed.items ≡ g.missed
  pub text : e.behind.text ≡ records_text (behind_last g.last).index g.behind
  pub next : e.behind.behind ≡ behind_records (behind_last g.last) g.behind
  pub count : e.count ≡ g.count
  pub known : known_by e.standing ≡ g.known
  pub touched : is_marked e.touched ≡ g.touched

-- Nothing has changed, but for room.
pub record IsSame (old new : Gatherer) : Type 0 where
  pub last : new.last ≡ old.last
  pub first : new.first ≡ old.first
  pub words : new.words ≡ old.words
  pub missed : new.missed.items ≡ old.missed.items
  pub behind : new.behind ≡ old.behind
  pub count : new.count ≡ old.count
  pub known : known_by new.standing ≡ known_by old.standing
  pub touched : is_marked new.touched ≡ is_marked old.touched

-- Each address that has a byte is marked.
abbrev pub AllMarked : Touched → List Byte → Type 0
AllMarked touched es = (a : ℕ) → is_some (byte_found es a) ≡ true → touched a ≡ true
