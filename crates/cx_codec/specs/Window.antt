-- A buffer of 4,096 bytes, and what is moved from it.
use Rattle.std.specs.Prelude.{◌≡◌, ℕ, ◌-◌, ◌<◌, ◌≤◌, List, length, take, drop, min, Result, Ok, Err}
use Rattle.cx_io.specs.declared.outside.Failed.{Failed}
use Rattle.cx_codec.specs.Place.{Place, room, advance}
use Rattle.cx_codec.specs.Reads.{Begins, Standing, Follows, MayBe, place_in}

-- from one index up to another
abbrev pub items_between : List ℕ → ℕ → ℕ → List ℕ
items_between block start end = take (end - start) (drop start block)

pub record IsInside (block : List ℕ) (start end : ℕ) : Type 0 where
  pub ordered : start ≤ end
  pub inside : end ≤ length block
  pub whole : length block ≡ 4096

-- More was read from the source, of which nothing was taken.
pub record Refills (old new : Standing) : Type 0 where
  pub follows : Follows old new
  pub stays : (input : List ℕ) → Begins new.given input → place_in new input ≡ place_in old input

-- how many of so many bytes can be taken before the limit
abbrev pub reach_of : ℕ → Place → ℕ
reach_of n p = min (p.limit - p.at) n

-- The first n bytes of a place stand at the front of into, and after is the place behind them.
pub record Moves (into : List ℕ) (n : ℕ) (p after : Place) : Type 0 where
  pub enough : n ≤ room p
  pub front : take n into ≡ take n p.ahead
  pub now : after ≡ advance n p

-- As many bytes are moved as into holds; fewer only where the limit or the input's end is behind them, or where the
-- source failed before they were all there.
abbrev pub CopiesIn : List ℕ → Place → Place → Type 0 → Type 0 → Result ℕ Failed → Type 0
CopiesIn into p after may cut (Ok n) = Moves into n p after × (n < length into → may → room p ≡ n)
CopiesIn into p after may cut (Err failed) = cut → (length p.ahead < reach_of (length into) p)

pub record Copies (into : List ℕ) (old new : Standing) (result : Result ℕ Failed) : Type 0 where
  pub follows : Follows old new
  pub copies : (input : List ℕ) → Begins new.given input
      → CopiesIn into (place_in old input) (place_in new input) (MayBe new input) (input ≡ new.given) result

-- the same of bytes that are all at hand
abbrev pub CopiesHeld : List ℕ → Place → Place → Result ℕ Failed → Type 0
CopiesHeld into p after (Ok n) = (n ≡ reach_of (length into) p) × Moves into n p after
CopiesHeld into p after (Err failed) = ⊥
