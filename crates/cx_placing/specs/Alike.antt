-- Two ways to hand items to a run, by its calls and step by step, that leave it the same.
use Rattle.std.specs.Prelude.{◌≡◌, ℕ, true, List, [], ◌∷◌, is_some}
use Rattle.cx_slices.specs.Bytes.{byte_found, with_bytes}
use Rattle.cx_slices.specs.Items.{Known, after, items_at}
use Rattle.cx_slices.specs.Observed.{Watch}
use Rattle.cx_slices.specs.Words.{changed}
use Rattle.cx_placing.specs.Called.{CallStanding, standing_behind, words_with}
use Rattle.cx_placing.specs.Placing.{Placed}

-- With what is placed at a step its words are those that its own items leave, and so is each byte that it sees; and it
-- is given the same.
pub record AreAlike {O G : Type 0} (m : Watch O G) (s : CallStanding) (w : Known) (p : Placed G) (o : O) : Type 0 where
  pub words : changed s.known.words (words_with s.words p.items.words) ≡ changed w.words (items_at m w o).words
  pub bytes : (a : ℕ) → is_some (byte_found (m.seen o) a) ≡ true
      → with_bytes p.items.bytes s.known.map a ≡ with_bytes (items_at m w o).bytes w.map a
  pub given : p.items.given ≡ (items_at m w o).given

-- There is something placed for each step, and they are alike at each.
abbrev pub GoAlike : {O G : Type 0} → Watch O G → CallStanding → Known → List (Placed G) → List O → Type 0
GoAlike m s w [] [] = Unit {0}
GoAlike m s w [] (o ∷ os) = ⊥
GoAlike m s w (p ∷ ps) [] = ⊥
GoAlike m s w (p ∷ ps) (o ∷ os) =
    AreAlike m s w p o × GoAlike m (standing_behind m s o p.call) (after m w o) ps os
