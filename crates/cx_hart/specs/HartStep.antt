-- The hart's step as a step function, of which laws, runs and windows speak.
use Rattle.std.specs.Prelude.{Bool, Option, None, Some}
use Rattle.cx_machine.specs.Step.{Step, Stepped}
use Rattle.cx_hart.specs.Step.{NeedsValue, Outcome, Stepped as Carried, ValueLeft, step}
use Rattle.cx_hart.specs.declared.record.StepRec.{StepRec}

-- A step that asks for a value and gets none, or gets one that it doesn't ask for, isn't carried out.
abbrev pub carried_out : Outcome → Option (Stepped StepRec)
carried_out (NeedsValue what) = None
carried_out ValueLeft = None
carried_out (Carried after rec) = Some (record { machine = after; rec = rec })

-- Split says whether misaligned loads and stores are carried out.
unfoldable pub hart_step : Bool → Step StepRec
hart_step split m due = carried_out (step split due m)
