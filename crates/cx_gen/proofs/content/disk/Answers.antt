use Rattle.std.proofs.Common.{◌∙◌, ℕ, [], ◌∷◌, List, ◌++◌, ap, sym}
use Rattle.cx_gen.specs.Made.{disk_byte}
use Rattle.cx_gen.proofs.Drawn.{none_drawn, one_more_drawn}
use Rattle.cx_gen.proofs.content.disk.Goals as goal

pub loop-index-init : goal.loop-index-init
loop-index-init c = record { made = c.new-disk.ensures.items ∙ none_drawn (disk_byte c.args.n) }

pub loop-index-preserved : goal.loop-index-preserved
loop-index-preserved c = record {
  made = c.in_ok-push.ensures
      ∙ (ap (λ (bytes : List ℕ). bytes ++ disk_byte c.args.n c.loop-index.index ∷ []) c.loop-index.invariant.made
      ∙ sym (one_more_drawn (disk_byte c.args.n) c.loop-index.index));
}
