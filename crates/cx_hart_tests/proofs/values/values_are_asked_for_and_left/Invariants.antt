use Rattle.cx_hart_tests.proofs.values.values_are_asked_for_and_left.Given as goal

abbrev pub ghosts-stays : goal.ghosts-stays
ghosts-stays g a = record { name = a.blank.name; parts = a.blank.parts }
