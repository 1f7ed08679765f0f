-- The recording of a live run, and what it means that it is one.
use Rattle.std.specs.Prelude.{◌≡◌, ℕ, ◌<◌, ◌≤◌, true, false, List, length, Some}
use Rattle.cx_codec.specs.Reads.{Begins}
use Rattle.cx_io.specs.declared.outside.Outside.{Outside}
use Rattle.cx_hart.specs.HartStep.{hart_step}
use Rattle.cx_log.specs.Recording.{Recording}
use Rattle.cx_log.specs.Text.{recording_text}
use Rattle.cx_run.specs.Driven.{taped}
use Rattle.cx_run.specs.Run.{Accepts, run_of}
use Rattle.cx_run.specs.SoFar.{text_so_far}
use Rattle.cx_live.specs.Image.{Image}
use Rattle.cx_live.specs.Run.{LiveRun, live_at_reset, live_run}

-- It begins with the machine at reset, and has what was due to each step.
abbrev pub recording_of : Image → LiveRun → Recording
recording_of image run = taped image.version image.split image.pages (live_at_reset image).machine run.dues

abbrev pub whole_text : Image → LiveRun → List ℕ
whole_text image run = recording_text (recording_of image run)

-- the text of a run that may go on, of which no End was put
abbrev pub cut_text : Image → LiveRun → List ℕ
cut_text image run = text_so_far image.version image.split image.pages (live_at_reset image).machine run.dues

-- The recording is accepted, and its run is the live run.
pub record IsRecorded (image : Image) (run : LiveRun) : Type 0 where
  pub accepted : Accepts (hart_step image.split) (recording_of image run)
  pub run_is : run_of (hart_step image.split) (recording_of image run) (length run.dues)
      ≡ Some (record { machine = run.live.machine; records = run.records })

-- A run over these answers, one for each of its steps, that may go on.
pub record GoesOn (image : Image) (outs : List Outside) (run : LiveRun) : Type 0 where
  pub is : live_run image outs ≡ Some run
  pub each : length run.dues ≡ length outs
  pub on : run.live.devices.off ≡ false

-- A run of at most so many steps over these answers, one for each of its steps. It has fewer only where its last step
-- turned the machine off.
pub record Runs (image : Image) (steps : ℕ) (outs : List Outside) (run : LiveRun) : Type 0 where
  pub is : live_run image outs ≡ Some run
  pub each : length run.dues ≡ length outs
  pub most : length outs ≤ steps
  pub early : length outs < steps → run.live.devices.off ≡ true

-- What was put of a run that is cut off begins the text of a run that is recorded.
pub record IsCut (image : Image) (run : LiveRun) : Type 0 where
  pub more : LiveRun
  pub recorded : IsRecorded image more
  pub begins : Begins (cut_text image run) (whole_text image more)
