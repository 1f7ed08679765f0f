-- What a source gave from one call to the next.
use Rattle.std.proofs.Common.{List, [], ℕ, Option, IsSome, refl, sym, ◌∙◌}
use Rattle.std.proofs.lemmas.List.{append-nil}
use Rattle.cx_codec.proofs.Following.{begins_on}
use Rattle.cx_replay.specs.Records.{GaveMore}

pub gave_on : {left mid now : Option (List ℕ)} {given before after : List ℕ} → GaveMore left given mid before
    → GaveMore mid before now after
    → GaveMore left given now after
gave_on first then = record {
  told = then.told;
  same = then.same ∙ first.same;
  grows =
      begins_on first.grows then.grows;
}

pub gave_none : (left : Option (List ℕ)) (given : List ℕ) → IsSome left → GaveMore left given left given
gave_none left given told = record {
  told = told;
  same = refl;
  grows =
      record { rest = []; parts = sym (append-nil given) };
}
