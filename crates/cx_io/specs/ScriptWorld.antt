-- The answers of a world that has a list of them.
use Rattle.std.specs.Prelude.{
  ℕ,
  zero,
  suc,
  ◌-◌,
  ◌^◌,
  nat_lt,
  if◌then◌else◌,
  false,
  List,
  [],
  ◌∷◌,
  ◌++◌,
  get_or,
  Option,
  None,
  Some,
}
use Rattle.cx_io.specs.Plan.{Plan, after_call, fails_next, one_more}
use Rattle.cx_io.specs.declared.outside.Outside.{Outside}

-- The list, how many answers were given, and which calls fail.
pub record Scripted : Type 0 where
  pub script : List Outside
  pub given : ℕ
  pub plan : Plan

-- nothing comes from the outside
abbrev pub quiet : Outside
quiet = record { ticks = 0; console = false; block = false }

-- Answer number n of a list, from 0: the list's own, and behind its last one nothing.
abbrev pub scripted_answer : List Outside → ℕ → Outside
scripted_answer script n = get_or script n quiet

-- the first n answers of a list
unfoldable pub first_scripted : List Outside → ℕ → List Outside
first_scripted script zero = []
first_scripted script (suc n) = first_scripted script n ++ scripted_answer script n ∷ []

-- The answers that are told: all that were given, until their count has no number of 64 bits left.
abbrev pub told_script : Scripted → Option (List Outside)
told_script w = (if nat_lt w.given (2 ^ 64 - 1) then Some (first_scripted w.script w.given) else None)

-- the world after a call, which gives an answer where it doesn't fail
abbrev pub after_turn : Scripted → Scripted
after_turn w = record w {
  given = (if fails_next w.plan then w.given else one_more w.given);
  plan = after_call w.plan;
}
