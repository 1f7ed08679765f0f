-- A program in user mode as a run that is watched.
use Rattle.std.specs.Prelude.{ℕ, []}
use Rattle.cx_slices.specs.Observed.{Watch}
use Rattle.cx_observe.specs.Effects.{next_words, program_words}
use Rattle.cx_observe.specs.Seeing.{left_by, seen_by}
use Rattle.cx_observe.specs.Stepping.{step_of}
use Rattle.cx_observe.specs.declared.obs.Obs.{Obs}

-- Its words are pc and 31 registers, its addresses virtual ones, and what it is given are results of SC and counters.
abbrev pub user : Watch Obs ℕ
user = record {
  count = 32;
  words = λ o. program_words o.pc o.x;
  seen = seen_by;
  absent = λ o. [];
  given = λ o. o.value;
  next = next_words;
  left = left_by;
  step = step_of;
}
