use Rattle.cx_live.proofs.turn.step_answered.Given as goal

abbrev pub ghosts-try_step : goal.ghosts-try_step
ghosts-try_step a = record { name = a.blank.name; parts = a.blank.parts }
