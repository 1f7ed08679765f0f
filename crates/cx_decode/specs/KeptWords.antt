-- What a table of decoded words holds.
use Rattle.std.specs.Prelude.{◌≡◌, IfSome}
use Rattle.cx_decode.specs.Decoding.{decoded}
use Rattle.cx_decode.specs.Groups.{group_of, instruction_of}
use Rattle.cx_decode.specs.WellFormed.{WellFormed}
use Rattle.cx_decode.specs.declared.kept.KeptWord.{KeptWord}

-- An entry is what decoding gives for its word, with the group of the row.
pub record IsKept (kept : KeptWord) : Type 0 where
  pub word : instruction_of kept.known ≡ decoded kept.word
  pub group : IfSome kept.known (λ k. k.group ≡ group_of k.ins.op)
  pub formed : IfSome kept.known (λ k. WellFormed k.ins)
