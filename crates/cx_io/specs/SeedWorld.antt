-- The answers of a world that one number determines.
use Rattle.std.specs.Prelude.{
  ℕ,
  zero,
  suc,
  ◌+◌,
  ◌-◌,
  ◌^◌,
  ◌%◌,
  ◌==◌,
  nat_lt,
  if◌then◌else◌,
  List,
  [],
  ◌∷◌,
  ◌++◌,
  Option,
  None,
  Some,
}
use Rattle.cx_io.specs.declared.outside.Outside.{Outside}

-- The seed, and the number of the next answer.
pub record Seeded : Type 0 where
  pub seed : ℕ
  pub calls : ℕ

-- Answer number n of the seed s, from 0: the clock goes on by one to three ticks at each turn, the same at all turns;
-- a console byte may arrive at one turn in 61, and the block device may complete at one in 37.
abbrev pub seeded_answer : ℕ → ℕ → Outside
seeded_answer s n = record { ticks = 1 + s % 3; console = (n + s) % 61 == 0; block = (n + s) % 37 == 0 }

-- The first n answers of the seed s.
unfoldable pub first_answers : ℕ → ℕ → List Outside
first_answers s zero = []
first_answers s (suc n) = first_answers s n ++ seeded_answer s n ∷ []

-- The answers that are told: all that were given, until their count has no number of 64 bits left.
abbrev pub told_answers : Seeded → Option (List Outside)
told_answers w = (if nat_lt w.calls (2 ^ 64 - 1) then Some (first_answers w.seed w.calls) else None)
