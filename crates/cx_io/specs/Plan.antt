-- Which calls of something in memory fail: its calls are numbered from 0, and a list names those that are to fail.
use Rattle.std.specs.Prelude.{ℕ, ◌+◌, ◌-◌, ◌^◌, ◌==◌, if◌then◌else◌, min, Bool, List}
use Rattle.std.specs.List.{list_any}

-- The numbers of the calls that fail, the number of the next call, and how many calls have failed.
pub record Plan : Type 0 where
  pub fails : List ℕ
  pub calls : ℕ
  pub faults : ℕ

-- One more, up to the greatest number of 64 bits, where a count stays.
abbrev pub one_more : ℕ → ℕ
one_more n = min (n + 1) (2 ^ 64 - 1)

-- Whether the next call fails: its number is listed.
abbrev pub fails_next : Plan → Bool
fails_next p = list_any (λ k. k == p.calls) p.fails

-- The plan after one call, which is a fault more where it failed.
abbrev pub after_call : Plan → Plan
after_call p = record p { calls = one_more p.calls; faults = (if fails_next p then one_more p.faults else p.faults) }

-- The plan of something new: no call yet, and no fault.
abbrev pub planned : List ℕ → Plan
planned fails = record { fails = fails; calls = 0; faults = 0 }
