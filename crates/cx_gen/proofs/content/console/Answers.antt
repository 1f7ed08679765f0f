use Rattle.std.proofs.Common.{◌∙◌, ℕ, [], ◌∷◌, List, ◌++◌, ap, sym}
use Rattle.cx_gen.specs.Made.{letter}
use Rattle.cx_gen.proofs.Drawn.{none_drawn, one_more_drawn}
use Rattle.cx_gen.proofs.content.console.Goals as goal

pub loop-index-init : goal.loop-index-init
loop-index-init c = record { made = c.new-console.ensures.items ∙ none_drawn (letter c.args.n) }

pub loop-index-preserved : goal.loop-index-preserved
loop-index-preserved c = record {
  made = c.in_ok-push.ensures
      ∙ (ap (λ (bytes : List ℕ). bytes ++ letter c.args.n c.loop-index.index ∷ []) c.loop-index.invariant.made
      ∙ sym (one_more_drawn (letter c.args.n) c.loop-index.index));
}
