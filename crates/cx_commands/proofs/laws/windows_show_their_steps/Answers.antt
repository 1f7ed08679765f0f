use Rattle.std.proofs.Common.{ap, ◌∙◌}
use Rattle.cx_commands.specs.Observed.{observed_of}
use Rattle.cx_commands.proofs.Answering.{good_is_written}
use Rattle.cx_commands.proofs.WindowsShow.{window_shows}
use Rattle.cx_commands.proofs.laws.windows_show_their_steps.Goals as goal

pub returns : goal.returns
returns c = λ a b bytes are good. (
  (good_is_written a b bytes are good).0,
  (
    (good_is_written a b bytes are good).1.0,
    λ root. ap (observed_of root) (good_is_written a b bytes are good).1.1
        ∙ window_shows a b bytes root (good_is_written a b bytes are good).0 (good_is_written a b bytes are good).1.0,
  ),
)
