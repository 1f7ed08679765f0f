use Rattle.cx_hart.proofs.Found.{fetched_part}
use Rattle.cx_hart.proofs.fetch.fetched.Goals as goal

pub part_value-word-requires : goal.part_value-word-requires
part_value-word-requires g c = fetched_part c.args.here.now _ c.in_ok-place.place c.address_of.result c.here.view_is
    c.requires.aligned c.in_ok-place.ensures.place c.address_of.ensures
