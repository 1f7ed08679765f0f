use Rattle.cx_slices.proofs.Streams.{groups_of-fit}
use Rattle.cx_slices.proofs.laws.groups_fit_where_observations_do.Goals as goal

pub returns : goal.returns
returns g c = groups_of-fit
