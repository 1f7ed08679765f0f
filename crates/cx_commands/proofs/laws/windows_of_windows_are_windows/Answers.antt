use Rattle.cx_commands.specs.Window.{windowed}
use Rattle.cx_commands.proofs.Nested.{done_as, window_alike}
use Rattle.cx_commands.proofs.laws.windows_of_windows_are_windows.Goals as goal

pub returns-clause-alike : goal.returns-clause-alike
returns-clause-alike c = window_alike

pub returns-clause-calls : goal.returns-clause-calls
returns-clause-calls c = λ a b e d bytes text given input left held now answer are are_text good written from some to
    whole. done_as (windowed e d) text bytes _ _ held now answer
    (window_alike a b e d bytes text are are_text good written from some to) whole
