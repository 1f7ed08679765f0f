use Rattle.cx_walk.proofs.Listed.{places_inside, places_aligned, places_unused, places_most}
use Rattle.cx_walk.proofs.laws.places_are_in_memory.Goals as goal

pub returns-clause-inside : goal.returns-clause-inside
returns-clause-inside c = places_inside

pub returns-clause-aligned : goal.returns-clause-aligned
returns-clause-aligned c = places_aligned

pub returns-clause-unused : goal.returns-clause-unused
returns-clause-unused c = places_unused

pub returns-clause-most : goal.returns-clause-most
returns-clause-most c = places_most
