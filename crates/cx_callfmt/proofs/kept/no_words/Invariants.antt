use Rattle.std.proofs.Common.{◌≡◌, take, true, is_none}
use Rattle.std.specs.List.{list_all}
use Rattle.cx_callfmt.proofs.kept.no_words.Given as goal

pub record Passing (l : goal.Live-loop-word) : Type 0 where
  pub none : list_all is_none (take l.word-index l.words) ≡ true

abbrev pub invariant-loop-word : goal.invariant-loop-word
invariant-loop-word l = Passing l
