use Rattle.std.proofs.Common.{[]}
use Rattle.cx_process.specs.Stands.{HasTaken, output_of}
use Rattle.cx_slicefmt.specs.Text.{slice_magic}
use Rattle.cx_commands.specs.Process.{slice_begun}
use Rattle.cx_tellers.proofs.FedTold.{starts_by}
use Rattle.cx_tellers.proofs.SliceTold.{begun_is}
use Rattle.cx_tellers.proofs.slicing.SlicerObservationTeller.start.Goals as goal

pub returns-clause-starts : goal.returns-clause-starts
returns-clause-starts g c =
    starts_by (slice_begun []) slice_magic output_of (HasTaken []) _ _ _ _ c.new.result begun_is c.new.ensures.starts
    c.new.ensures.stands
