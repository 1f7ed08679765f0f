use Rattle.std.proofs.Common.{◌≡◌, List, Ok, sym, subst}
use Rattle.cx_observe.specs.User.{user}
use Rattle.cx_observe.specs.declared.obs.Obs.{Obs}
use Rattle.cx_slices.specs.Groups.{alone_of}
use Rattle.cx_slices.proofs.Settled.{alone_is_good, good_goes_alone}
use Rattle.cx_alone.proofs.laws.slices_are_judged_by_their_steps.Goals as goal

pub returns : goal.returns
returns c = λ whole os gave. (
  λ none. (
    (good_goes_alone user whole none).0,
    subst (λ (ps : List Obs). alone_of user whole.groups whole.upto ≡ Ok ps) gave (good_goes_alone user whole none).1,
  ),
  λ goes. alone_is_good user whole (
    goes.0,
    subst (λ (ps : List Obs). alone_of user whole.groups whole.upto ≡ Ok ps) (sym gave) goes.1,
  ),
)
