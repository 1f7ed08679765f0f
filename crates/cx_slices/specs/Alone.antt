-- A run that goes alone, from the items that it is handed and nothing else.
use Rattle.std.specs.Prelude.{◌&&◌, Bool, List, [], ◌∷◌, Option, None, Some, option_and_then, if◌then◌else◌}
use Rattle.cx_slices.specs.Bytes.{Byte, all_there, none_stands, with_bytes}
use Rattle.cx_slices.specs.Items.{Items, Known, after}
use Rattle.cx_slices.specs.Observed.{Watch}
use Rattle.cx_slices.specs.Words.{all_change, changed}

-- No item is what stands.
abbrev pub all_new : {G : Type 0} → Known → Items G → Bool
all_new w i = all_change w.words i.words && none_stands w.map i.bytes

-- The step sees each byte that it was handed.
abbrev pub if_seen : {O G : Type 0} → Watch O G → List Byte → O → Option O
if_seen m bytes o = if all_there (m.seen o) bytes then Some o else None

-- one step with its items, none where it breaks a rule
abbrev pub step_alone : {O G : Type 0} → Watch O G → Known → Items G → Option O
step_alone m w i =
    if all_new w i then
    option_and_then (if_seen m i.bytes) (m.step (changed w.words i.words) (with_bytes i.bytes w.map) i.given)
    else None

-- this observation, and those behind it
abbrev pub and_on : {O : Type 0} → (O → List O) → Option O → List O
and_on rest None = []
and_on rest (Some o) = o ∷ rest o

-- The observations that the run goes through, up to the first step that breaks a rule.
abbrev pub run_alone : {O G : Type 0} → Watch O G → Known → List (Items G) → List O
run_alone m w [] = []
run_alone m w (i ∷ is) = and_on (λ o. run_alone m (after m w o) is) (step_alone m w i)
