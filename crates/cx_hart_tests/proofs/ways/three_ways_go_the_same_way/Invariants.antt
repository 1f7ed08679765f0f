use Rattle.cx_hart_tests.proofs.ways.three_ways_go_the_same_way.Given as goal

abbrev pub ghosts-take_steps : goal.ghosts-take_steps
ghosts-take_steps g a = record { name = a.blank.name; parts = a.blank.parts }
