-- Whole runs of the live machine.
use Rattle.std.specs.Prelude.{Bool, if◌then◌else◌, List, [], ◌∷◌, ◌++◌, replicate, Option, None, Some}
use Rattle.cx_io.specs.declared.outside.Outside.{Outside}
use Rattle.cx_block.specs.Block.{block_at_reset}
use Rattle.cx_csr.specs.Words.{state_of}
use Rattle.cx_csr.specs.declared.modes.TheConstants.{MACHINE}
use Rattle.cx_csr.specs.declared.state.State.{State}
use Rattle.cx_devices.specs.Devices.{at_reset}
use Rattle.cx_hart.specs.declared.record.StepRec.{StepRec}
use Rattle.cx_machine.specs.Due.{Due}
use Rattle.cx_map.specs.declared.TheConstants.{RAM_START}
use Rattle.cx_live.specs.Image.{Image}
use Rattle.cx_live.specs.Live.{Live}
use Rattle.cx_live.specs.Turn.{Turned, live_turn}

-- Machine mode at the first place of RAM (Privileged 1.12, 3.4); all else is 0.
abbrev pub reset_state : State
reset_state = state_of ((RAM_START ∷ replicate 31 0) ++ (MACHINE ∷ replicate 25 0))

abbrev pub live_at_reset : Image → Live
live_at_reset image = record {
  machine = record { state = reset_state; memory = image.memory };
  devices = at_reset;
  block = block_at_reset image.disk;
  console = image.console;
}

-- where a live run stands, with what was due to each of its steps and their records
pub record LiveRun : Type 0 where
  pub live : Live
  pub dues : List Due
  pub records : List StepRec

abbrev pub at_first : Live → LiveRun
at_first l = record { live = l; dues = []; records = [] }

abbrev pub with_one : LiveRun → Turned → LiveRun
with_one run t = record { live = t.live; dues = run.dues ++ t.due ∷ []; records = run.records ++ t.rec ∷ [] }

abbrev pub with_turn : LiveRun → Option Turned → Option LiveRun
with_turn run None = None
with_turn run (Some t) = Some (with_one run t)

-- No turn comes behind the one that turned the machine off.
abbrev pub next_turn : Bool → Outside → Option LiveRun → Option LiveRun
next_turn split o None = None
next_turn split o (Some run) = if run.live.devices.off then Some run else with_turn run (live_turn split o run.live)

abbrev pub turns : Bool → Option LiveRun → List Outside → Option LiveRun
turns split run [] = run
turns split run (o ∷ outs) = turns split (next_turn split o run) outs

-- the run of an image over these answers of the outside
abbrev pub live_run : Image → List Outside → Option LiveRun
live_run image outs = turns image.split (Some (at_first (live_at_reset image))) outs
