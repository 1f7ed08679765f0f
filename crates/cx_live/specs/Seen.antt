-- What contracts see of a live machine in memory, and of what a turn of it answers.
use Rattle.std.specs.Prelude.{ℕ, Bool, List, [], ◌∷◌, Option, None, Some}
use Rattle.cx_machine.specs.Due.{Due}
use Rattle.cx_machine.specs.Transfers.{Transfer}
use Rattle.cx_live.specs.Live.{Live}
use Rattle.cx_live.specs.declared.live.Turn.{Turn}
use Rattle.cx_live.specs.declared.turn.Happened.{Happened}

-- the live machine; whether its hart carries out misaligned loads and stores; how many pages can get a frame of their
-- own without taking memory; the bytes that the last turn's transfer wrote to RAM, none where it had none
pub record Seen : Type 0 where
  pub live : Live
  pub split : Bool
  pub spare : ℕ
  pub moved : List ℕ

-- the transfer to a place, where there was one, of these bytes
abbrev pub transfers_of : Option ℕ → List ℕ → List Transfer
transfers_of None moved = []
transfers_of (Some place) moved = record { place = place; bytes = moved } ∷ []

-- what was due to the step, as a turn answers it
abbrev pub due_of : Happened → List ℕ → Due
due_of t moved = record { transfers = transfers_of t.dma moved; lines = t.lines; value = t.value }

-- what a turn answers, without the record of its step
abbrev pub happened : Turn → Happened
happened t = record { dma = t.dma; lines = t.lines; value = t.value; off = t.off }
