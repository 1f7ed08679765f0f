use Rattle.cx_observe.proofs.Programs.{program_goes, program_only, program_possible}
use Rattle.cx_observe.proofs.laws.slices_and_programs_are_one.Goals as goal

pub returns-clause-goes : goal.returns-clause-goes
returns-clause-goes c = program_goes

pub returns-clause-possible : goal.returns-clause-possible
returns-clause-possible c = program_possible

pub returns-clause-only : goal.returns-clause-only
returns-clause-only c = λ groups count os are went. (program_only groups count os are went).groups_are

pub returns-clause-count : goal.returns-clause-count
returns-clause-count c = λ groups count os are went. (program_only groups count os are went).count_is
