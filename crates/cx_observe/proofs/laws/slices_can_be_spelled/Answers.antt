use Rattle.cx_observe.proofs.Fitting.{few_items, first_group, slice_fits}
use Rattle.cx_observe.proofs.laws.slices_can_be_spelled.Goals as goal

pub returns-clause-first : goal.returns-clause-first
returns-clause-first c = first_group

pub returns-clause-fit : goal.returns-clause-fit
returns-clause-fit c = slice_fits

pub returns-clause-few : goal.returns-clause-few
returns-clause-few c = few_items
