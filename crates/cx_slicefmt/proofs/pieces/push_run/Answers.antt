use Rattle.std.proofs.Common.{arith, sym, ◌∙◌, rules}
use Rattle.std.proofs.lemmas.List.{append-nil}
use Rattle.cx_slicefmt.proofs.RunLoop.{pair_put}
use Rattle.cx_slicefmt.proofs.pieces.push_run.Goals as goal

pub loop-index-init : goal.loop-index-init
loop-index-init c = record { items = sym (append-nil _); len = omega arith }

pub loop-index-preserved : goal.loop-index-preserved
loop-index-preserved c =
    record {
      items = c.push.ensures.items ∙ pair_put _ _ c.args.run.now.va c.args.run.now.bytes c.loop-index.index (search rules)
          c.loop-index.invariant.items;
      len = omega (arith, c.push.ensures.len, c.loop-index.invariant.len);
    }
