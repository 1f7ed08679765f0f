use Rattle.std.proofs.Common.{◌≡◌, bit_and, subst}
use borrow.Author.Tests.{eqb-true}
use Rattle.cx_walk.proofs.Flags.{leaf_flags}
use Rattle.cx_walk.proofs.quickly.opens.Goals as goal

pub returns : goal.returns
returns c is =
    leaf_flags c.args.state.now c.args.kind c.args.entry c.requires
    (subst (λ n. bit_and c.args.entry n ≡ n) c.flags-flags.ensures (eqb-true _ _ is))
