use Rattle.cx_hart_tests.proofs.machine.misaligned_loads_trap_unless_they_are_asked_for.Given as goal

abbrev pub ghosts-misaligned : goal.ghosts-misaligned
ghosts-misaligned g a = record { name = a.blank.name; parts = a.blank.parts }
