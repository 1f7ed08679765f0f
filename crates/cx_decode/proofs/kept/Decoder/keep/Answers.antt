use Rattle.std.proofs.lemmas.List.Elements.{All-set}
use Rattle.cx_decode.specs.KeptWords.{IsKept}
use Rattle.cx_decode.proofs.kept.Decoder.keep.Goals as goal

pub invariant_of-self : goal.invariant_of-self
invariant_of-self c = (
  c.self.invariant.0,
  All-set IsKept _ _ _ (record {
    word = c.look_up-known.ensures.word;
    group = c.look_up-known.ensures.group;
    formed = c.look_up-known.ensures.formed;
  }) c.self.invariant.1,
)
