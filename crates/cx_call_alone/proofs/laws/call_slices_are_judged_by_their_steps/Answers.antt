use Rattle.cx_calls.specs.Calling.{called}
use Rattle.cx_observe.specs.User.{user}
use Rattle.cx_call_alone.proofs.Judged.{alone_is_good, good_goes_alone}
use Rattle.cx_call_alone.proofs.laws.call_slices_are_judged_by_their_steps.Goals as goal

pub returns : goal.returns
returns c = λ whole os gave ended. (
  λ none. good_goes_alone user called whole os gave ended none,
  λ goes. alone_is_good user called whole os goes,
)
