-- What is due to a step, and what a step alone makes of it.
use Rattle.std.specs.Prelude.{◌≡◌, ℕ, ◌==◌, true, false, List, [], ◌∷◌, Option, None, Some, Result, Ok, Err}
use Rattle.std.specs.Prelude.{option_and_then, if◌then◌else◌}
use Rattle.cx_observe.specs.Seeing.{bytes_shown}
use Rattle.cx_observe.specs.Effects.{next_words}
use Rattle.cx_observe.specs.Stepping.{step_of}
use Rattle.cx_observe.specs.User.{user}
use Rattle.cx_observe.specs.declared.obs.Obs.{Obs}
use Rattle.cx_slicefmt.specs.Engine.{items_in}
use Rattle.cx_slices.specs.Alone.{all_new, if_seen, step_alone}
use Rattle.cx_slices.specs.Bytes.{Byte, with_bytes}
use Rattle.cx_slices.specs.Groups.{Group}
use Rattle.cx_slices.specs.Items.{Items, Known, after, no_items}
use Rattle.cx_slices.specs.Words.{changed}
use Rattle.cx_alone.specs.declared.ahead.Due.{Due}
use Rattle.cx_alone.specs.declared.ahead.Due.TheVariants as due
use Rattle.cx_alone.specs.declared.fault.Stop.{Stop}
use Rattle.cx_alone.specs.declared.fault.Stop.TheVariants as stop

-- the items of a step among groups
abbrev pub item_at : {G : Type 0} → ℕ → ℕ → List (Group G) → Items G
item_at count k [] = no_items count
item_at count k (g ∷ gs) = if g.index == k then g.items else item_at count k gs

-- what is handed to the next step, where there is one
abbrev pub handed : Due → Option (Items ℕ)
handed (due.Items items) = Some (items_in items)
handed due.Nothing = Some (no_items 32)
handed due.End = None

-- what is known once items were handed
abbrev pub with_items : Known → Items ℕ → Known
with_items w i = record { words = changed w.words i.words; map = with_bytes i.bytes w.map }

-- what is known behind an observation, where the bytes that it saw were known before
abbrev pub left_behind : Known → Obs → Known
left_behind w o = record { words = next_words o; map = with_bytes (bytes_shown o.write) w.map }

-- Items are handed, or one of them stands already.
abbrev pub IsHanded : Known → Items ℕ → Known → Result (Unit {0}) Stop → Type 0
IsHanded w i now (Ok u) = (all_new w i ≡ true) × (now ≡ with_items w i)
IsHanded w i now (Err stop.Broken) = all_new w i ≡ false
IsHanded w i now (Err stop.NoMemory) = Unit {0}

-- A step is taken with what is known, and sees each of these bytes.
abbrev pub IsCarried : Known → List Byte → Option ℕ → Known → Result Obs Stop → Type 0
IsCarried w bytes given now (Ok o) =
    (option_and_then (if_seen user bytes) (step_of w.words w.map given) ≡ Some o) × (now ≡ left_behind w o)
IsCarried w bytes given now (Err stop.Broken) =
    option_and_then (if_seen user bytes) (step_of w.words w.map given) ≡ None
IsCarried w bytes given now (Err stop.NoMemory) = Unit {0}

-- a step alone
abbrev pub IsTaken : Known → Items ℕ → Known → Result Obs Stop → Type 0
IsTaken w i now (Ok o) = (step_alone user w i ≡ Some o) × (now ≡ after user w o)
IsTaken w i now (Err stop.Broken) = step_alone user w i ≡ None
IsTaken w i now (Err stop.NoMemory) = Unit {0}

-- One with what is due to it; at the end there is none.
abbrev pub GoesBy : Known → Option (Items ℕ) → Known → Result (Option Obs) Stop → Type 0
GoesBy w None now (Ok None) = now ≡ w
GoesBy w (Some i) now (Ok (Some o)) = IsTaken w i now (Ok o)
GoesBy w (Some i) now (Err fault) = IsTaken w i now (Err fault)
GoesBy w i now result = ⊥
